-- What a spending and a count leave in their cells.
use Rattle.std.specs.Prelude.{◌≡◌, Bool, true, false, cond, ℕ, ◌+◌, ◌-◌, ◌*◌, ◌≤◌, ltb, eqb}
use Rattle.std.proofs.Common.{sym, subst, le_refl, le_trans, arith}
use Rattle.std.proofs.Math.Nat.{min-le_left}
use Rattle.ledger.specs.Stands.{Counted}
use Rattle.spend.specs.declared.Meter.{Meter}
use Rattle.spend.specs.declared.Counts.{Counts}
use Rattle.spend.specs.Meter.{cost}
use Rattle.spend.specs.Spend.{spent, units_of, paid_of, credit_at, spent_of, counted_of}
use Rattle.spend.specs.Proved.{stays_spent}

less : (a b : ℕ) → a - b ≤ a
less a b = omega arith

paid_units : (credit now units octets ports : ℕ) → (paid_of credit now units octets ports).units ≤ units
unfolding paid_of
paid_units credit now units octets ports = ten (eqb ports 0)
  where
    eleven : (t : Bool) → (cond t (spent 11 credit now units) (spent 0 credit now (units - units_of octets))).units ≤ units
    eleven true = le_refl units
    eleven false = less units (units_of octets)

    ten : (t : Bool)
        → (cond t (spent 10 credit now units) (cond (ltb units (units_of octets)) (spent 11 credit now units) (spent 0 credit now (units - units_of octets)))).units
        ≤ units
    ten true = le_refl units
    ten false = eleven (ltb units (units_of octets))

-- no verdict makes units
pub spent_units : (m : Meter) (now units octets ports : ℕ) → (spent_of m now units octets ports).units ≤ units
unfolding spent_of
spent_units m now units octets ports = nine (ltb (credit_at m now) (cost octets))
  where
    nine : (t : Bool) → (cond t (spent 9 (credit_at m now) now units) (paid_of (credit_at m now - cost octets) now units octets ports)).units ≤ units
    nine true = le_refl units
    nine false = paid_units (credit_at m now - cost octets) now units octets ports

-- no verdict fills a meter past full
pub spent_credit : (m : Meter) (now units octets ports : ℕ) → (spent_of m now units octets ports).credit ≤ m.smax * 8000000
unfolding spent_of
spent_credit m now units octets ports = nine (ltb (credit_at m now) (cost octets))
  where
    full : credit_at m now ≤ m.smax * 8000000
    full = min-le_left (m.smax * 8000000) (m.credit + (now - m.since) * m.rate * 15625)

    nine : (t : Bool)
        → (cond t (spent 9 (credit_at m now) now units) (paid_of (credit_at m now - cost octets) now units octets ports)).credit ≤ m.smax * 8000000
    nine true = full
    nine false =
        subst (λ (k : ℕ). k ≤ m.smax * 8000000) (sym (stays_spent (credit_at m now - cost octets) now units octets ports))
        (le_trans (less (credit_at m now) (cost octets)) full)

-- one frame more, dropped or not, is counted in range
pub one_more : (n : Counts) (octets : ℕ) (dropped : Bool) → Counted n.frames n.drops n.octets n.dropped → 4 ≤ octets → octets ≤ 4100
    → Counted (counted_of n octets dropped).frames (counted_of n octets dropped).drops (counted_of n octets dropped).octets (counted_of n octets dropped).dropped
unfolding counted_of
one_more n octets true c l h =
    record {
      fewer = omega arith;
      least = omega arith;
      most = omega arith;
      dropped_least = omega arith;
      dropped_most = omega arith;
      within = omega arith;
    }
one_more n octets false c l h =
    record {
      fewer = omega arith;
      least = omega arith;
      most = omega arith;
      dropped_least = omega arith;
      dropped_most = omega arith;
      within = omega arith;
    }

-- the same counts under other names
pub counted_as : (f d o x f' d' o' x' : ℕ) → f' ≡ f → d' ≡ d → o' ≡ o → x' ≡ x → Counted f d o x → Counted f' d' o' x'
counted_as f d o x f' d' o' x' p q r s c =
    subst (λ (k : ℕ). Counted k d' o' x') (sym p)
    (subst (λ (k : ℕ). Counted f k o' x') (sym q) (subst (λ (k : ℕ). Counted f d k x') (sym r) (subst (λ (k : ℕ). Counted f d o k) (sym s) c)))
