-- What a release that is not refused has, and its promise.
use Rattle.std.specs.Prelude.{◌≡◌, refl, Bool, true, false, cond, List, ℕ, ltb, leb, eqb, Ok, Err}
use Rattle.std.proofs.Common.{sym, ◌∙◌, ap, arith, ltb-false, leb-false, eqb-true}
use Rattle.std.proofs.lemmas.Bool.{eqb-false}
use Rattle.laws.specs.Chain.{at_zero, not_zero, zero_first, zero_rest}
use Rattle.image.specs.Layout.{image_in}
use Rattle.fields.specs.Fields.{part_spc}
use Rattle.ledger.specs.Row.{units, cell}
use Rattle.ledger.specs.Range.{standing}
use Rattle.ledger.proofs.Laws.{part_spc_small, stands}
use Rattle.ledger.specs.Answers.{answer_of, said_of}
use Rattle.row.specs.Release.{unreleased, release_refusal, given_to, released, Released, HasRoom, Releasable}

pub releasable : (buffer g : List ℕ) (partition : ℕ) → release_refusal buffer g partition ≡ 0 → Releasable buffer g partition
unfolding release_refusal
releasable buffer g partition e = by (eqb (standing buffer g) 0) refl e
  where
    rest : standing buffer g ≡ 0 → unreleased (image_in buffer) g partition ≡ 0 → Releasable buffer g partition
    rest s q =
        let h = ltb-false 7 partition (zero_first (ltb 7 partition) 35 _ q) in
        let out =
        leb-false (part_spc (image_in buffer) partition) (cell g units partition)
        (zero_first (leb (part_spc (image_in buffer) partition) (cell g units partition)) 36 _ (zero_rest (ltb 7 partition) 35 _ q))
        in
        let small = part_spc_small (image_in buffer) partition in
        record { stands = stands buffer g s; has = record { inside = omega arith; small = omega arith }; out = out }

    by : (t : Bool) → t ≡ eqb (standing buffer g) 0 → cond t (unreleased (image_in buffer) g partition) (standing buffer g) ≡ 0
        → Releasable buffer g partition
    by true h q = rest (eqb-true (standing buffer g) 0 (sym h)) q
    by false h q = absurd (eqb-false (standing buffer g) 0 (sym h) q)

-- by a number n that the refusals come to
pub has_room : (buffer g : List ℕ) (partition n : ℕ) → n ≡ release_refusal buffer g partition → n ≡ 0 → HasRoom g partition
has_room buffer g partition n e z = (releasable buffer g partition (sym e ∙ z)).has

pub not_released : (buffer g : List ℕ) (partition n : ℕ) → n ≡ release_refusal buffer g partition → (n ≡ 0 → ⊥) → Released buffer g partition (Err n) g
unfolding released
not_released buffer g partition n e z =
    let a : Err n ≡ answer_of (release_refusal buffer g partition) = not_zero _ _ _ _ _ e z (ap Err e) in
    record { answer = a; said = ap said_of a; row = not_zero _ _ _ _ _ e z refl }

pub is_released : (buffer g : List ℕ) (partition n : ℕ) (after : List ℕ) → n ≡ release_refusal buffer g partition → n ≡ 0 → after ≡ given_to g partition
    → Released buffer g partition (Ok tt) after
unfolding released
is_released buffer g partition n after e z h =
    let a : (Ok tt) ≡ answer_of (release_refusal buffer g partition) = at_zero _ _ _ _ _ e z refl in
    record { answer = a; said = ap said_of a; row = at_zero _ _ _ _ _ e z h }
