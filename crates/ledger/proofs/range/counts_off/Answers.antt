-- `ledger::range::counts_off`: the clauses in their order; without frames, whether there is another count.
use Rattle.std.proofs.Common.{◌≡◌, ℕ, Bool, not, ne_eqb, true, false, cond, ltb, sym, refl, ap, ◌∙◌, zero-le, pos_of_ne-zero, le-ltb}
use Rattle.laws.specs.Chain.{hit_lt}
use Rattle.ledger.specs.Range.{octets_off, counts_off}
use Rattle.ledger.proofs.range.counts_off.Goals as goal

-- of no frames any octets are too many
none_have : (octets : ℕ) → octets_off 0 octets ≡ ltb 0 octets
unfolding octets_off
none_have octets = ap (λ (t : Bool). cond t true (ltb 0 octets)) (le-ltb octets 0 zero-le)

module _ (frames drops octets dropped : ℕ) (f : frames ≡ 0) where
  at_none : counts_off frames drops octets dropped ≡ cond (ltb 0 drops) true (cond (ltb 0 octets) true (cond (octets_off drops dropped) true (ltb octets dropped)))
  at_none =
      ap (λ (x : ℕ). counts_off x drops octets dropped) f
      ∙ ap (λ (t : Bool). cond (ltb 0 drops) true (cond t true (cond (octets_off drops dropped) true (ltb octets dropped)))) (none_have octets)

  with_drops : (drops ≡ 0 → ⊥) → true ≡ counts_off frames drops octets dropped
  with_drops h = hit_lt 0 drops true _ (pos_of_ne-zero h) ∙ sym at_none

  module _ (d : drops ≡ 0) where
    no_drops : counts_off frames drops octets dropped ≡ cond (ltb 0 octets) true (cond (ltb 0 dropped) true (ltb octets dropped))
    no_drops =
        at_none
        ∙ ap (λ (x : ℕ). cond (ltb 0 x) true (cond (ltb 0 octets) true (cond (octets_off x dropped) true (ltb octets dropped)))) d
        ∙ ap (λ (t : Bool). cond (ltb 0 octets) true (cond t true (ltb octets dropped))) (none_have dropped)

    with_octets : (octets ≡ 0 → ⊥) → true ≡ counts_off frames drops octets dropped
    with_octets h = hit_lt 0 octets true _ (pos_of_ne-zero h) ∙ sym no_drops

    no_octets : octets ≡ 0 → ltb 0 dropped ≡ counts_off frames drops octets dropped
    no_octets o = sym (no_drops ∙ ap (λ (x : ℕ). cond (ltb 0 x) true (cond (ltb 0 dropped) true (ltb x dropped))) o ∙ both (ltb 0 dropped))
      where
        both : (t : Bool) → cond t true t ≡ t
        both true = refl
        both false = refl

pub returns-then-octets-ne0 : goal.returns-then-octets-ne0
returns-then-octets-ne0 c = ap not (ne_eqb c.args.octets 0 c.if-octets-ne0.true)
    ∙ with_octets c.args.frames c.args.drops c.args.octets c.args.dropped c.if-frames-eq0.true c.if-drops-ne0.false c.if-octets-ne0.true

pub returns-else-octets-ne0 : goal.returns-else-octets-ne0
returns-else-octets-ne0 c = no_octets c.args.frames c.args.drops c.args.octets c.args.dropped c.if-frames-eq0.true c.if-drops-ne0.false c.if-octets-ne0.false
