-- How a meter grows without its product being made, and what the tests of a spending come to.
use Rattle.std.specs.Prelude.{◌≡◌, Bool, true, false, cond, ℕ, ◌+◌, ◌-◌, ◌*◌, ◌/◌, ◌<◌, ◌≤◌, min, ltb}
use Rattle.std.proofs.Common.{sym, ◌∙◌, ap, subst, le_of_lt, add-zero, mul-zero, pos_of_ne-zero, le-div_iff_mul-le, div-lt_iff_lt-mul, le_refl, arith}
use Rattle.std.proofs.Math.Nat.{min-eq_left, min-eq_right}
use Rattle.laws.specs.Chain.{hit_lt, pass_lt}
use Rattle.spend.specs.declared.Counts.{Counts}
use Rattle.spend.specs.Meter.{cost}
use Rattle.spend.specs.Spend.{Spent, spent, paid_of, counted_of}
use Rattle.spend.specs.Counting.{counts}

module _ (full old elapsed gain : ℕ) where
  -- nothing is gained
  pub no_gain : old < full → gain ≡ 0 → (old ≡ min full (old + elapsed * gain)) × (old ≤ full)
  no_gain h e =
      let z : elapsed * gain ≡ 0 = ap (λ (k : ℕ). elapsed * k) e ∙ mul-zero elapsed in
      (sym (ap (λ (k : ℕ). min full (old + k)) z ∙ ap (λ (k : ℕ). min full k) (add-zero old) ∙ min-eq_right (le_of_lt h)), le_of_lt h)

  -- more steps than the room that is left has
  pub filled : (gain ≡ 0 → ⊥) → (full - old) / gain < elapsed → (full ≡ min full (old + elapsed * gain)) × (full ≤ full)
  filled g h =
      let m : full - old < elapsed * gain = (div-lt_iff_lt-mul (pos_of_ne-zero g)).0 h in
      (sym (min-eq_left (omega arith)), le_refl full)

  -- the steps end within the room
  pub within : old < full → (gain ≡ 0 → ⊥) → elapsed ≤ (full - old) / gain → old + elapsed * gain ≤ full
  within l g h =
      let m : elapsed * gain ≤ full - old = (le-div_iff_mul-le (pos_of_ne-zero g)).0 h in
      omega arith

  pub partly : old + elapsed * gain ≤ full → (old + elapsed * gain ≡ min full (old + elapsed * gain)) × (old + elapsed * gain ≤ full)
  partly h = (sym (min-eq_right h), h)

-- a credit r that a call handed over is short
pub short : (r k now units octets : ℕ) (rest : Spent) → r ≡ k → r < cost octets → spent 9 r now units ≡ cond (ltb k (cost octets)) (spent 9 k now units) rest
short r k now units octets rest e h =
    subst (λ (x : ℕ). spent 9 r now units ≡ cond (ltb x (cost octets)) (spent 9 x now units) rest) e (hit_lt r (cost octets) (spent 9 r now units) rest h)

-- or not
pub enough : (r k now units octets ports : ℕ) (s : Spent) → r ≡ k → cost octets ≤ r → s ≡ paid_of (r - cost octets) now units octets ports
    → s ≡ cond (ltb k (cost octets)) (spent 9 k now units) (paid_of (k - cost octets) now units octets ports)
enough r k now units octets ports s e h p =
    subst (λ (x : ℕ). s ≡ cond (ltb x (cost octets)) (spent 9 x now units) (paid_of (x - cost octets) now units octets ports)) e
    (pass_lt r (cost octets) s (spent 9 r now units) (paid_of (r - cost octets) now units octets ports) h p)

-- a frame that is dropped, and one that is not, by a flag that was tested
pub is_dropped : (n : Counts) (octets : ℕ) (t : Bool) → t ≡ true
    → counts (n.frames + 1) (n.drops + 1) (n.octets + octets) (n.dropped + octets) ≡ counted_of n octets t
unfolding counted_of
is_dropped n octets t e = ap (λ (b : Bool). counted_of n octets b) (sym e)

pub not_dropped : (n : Counts) (octets : ℕ) (t : Bool) → t ≡ false → counts (n.frames + 1) n.drops (n.octets + octets) n.dropped ≡ counted_of n octets t
unfolding counted_of
not_dropped n octets t e =
    ap (λ (d : ℕ). counts (n.frames + 1) d (n.octets + octets) n.dropped) (sym (add-zero n.drops))
    ∙ ap (λ (x : ℕ). counts (n.frames + 1) (n.drops + 0) (n.octets + octets) x) (sym (add-zero n.dropped))
    ∙ ap (λ (b : Bool). counted_of n octets b) (sym e)
