-- Demand 1, of frames, releases and ledgers: what a refused call leaves, here and at the entries for C and Rust.
use Rattle.std.specs.Prelude.{◌≡◌, true, List, ℕ, length, Ok, Err}
use Rattle.std.proofs.Math.Path.{refl, sym}
use Rattle.std.proofs.Common.{◌∙◌, ap, arith}
use Rattle.laws.specs.Chain.{at_zero, not_zero}
use Rattle.image.specs.Layout.{image_in}
use Rattle.ledger.specs.Answers.{Answer, answer_of, number_of}
use Rattle.ledger.specs.AnswersLaws.{numbered}
use Rattle.ledger.specs.Range.{out_of_range, unloaded}
use Rattle.row.specs.Fresh.{fresh_of, no_ledger, freshened, Freshened}
use Rattle.row.specs.FreshLaws.{refused_everywhere}
use Rattle.row.specs.Release.{release_refusal, given_to, released, Released}
use Rattle.settle.specs.declared.Verdict.{Verdict}
use Rattle.settle.specs.declared.Verdict.TheVariants.{Refused}
use Rattle.settle.specs.Settle.{Judged, judged}
use Rattle.judge.specs.Refusal.{refusal_of}
use Rattle.places.specs.Places.{laid_over}
use Rattle.places.specs.PlacesLaws.{laid_none}
use Rattle.judge.specs.declared.Judgement.{Judgement}
use Rattle.judge.specs.Judge.{judge_of, Called, by_itself, call_of, Judges}
use Rattle.judge.specs.Cases.{by_cases}
use Rattle.judge.proofs.Proved.{own_verdict, refused_call}
use Rattle.flat_answers.specs.Answers.{flat_verdict}
use Rattle.flat_frames.specs.declared.FlatJudged.{FlatJudged}
use Rattle.flat_frames.specs.Frames.{FreshensFlat, JudgesFlat, ReleasesFlat}

-- ---- a frame
module _ (buffer g : List ℕ) (port time : ℕ) (frame : List ℕ) where
  refuses : (flat_verdict (judge_of buffer g port time frame).verdict).kind ≡ 0 → refusal_of buffer g port time frame ≡ 0 → ⊥
  refuses =
      by_cases buffer g port time frame (λ (j : Judged). (flat_verdict j.verdict).kind ≡ 0 → refusal_of buffer g port time frame ≡ 0 → ⊥) (λ z e. z)
      (λ a n q e. absurd (omega arith)) (λ a w q f z e. absurd (omega arith)) (λ a w q f z e. absurd (omega arith))

  -- a verdict of kind 0 is the refusal, with no replica and the row as it was
  pub as_it_was : (flat_verdict (call_of buffer g port time frame).verdict).kind ≡ 0
      → call_of buffer g port time frame ≡ by_itself (judged (Refused (refusal_of buffer g port time frame)) g)
  as_it_was e =
      refused_call buffer g port time frame (refuses (ap (λ (v : Verdict). (flat_verdict v).kind) (sym (own_verdict buffer g port time frame)) ∙ e))

  -- the number that a refused frame is told is what refuses it
  pub refused_by_lem : (n : ℕ) → (call_of buffer g port time frame).verdict ≡ Refused n → refusal_of buffer g port time frame ≡ n
  refused_by_lem n e =
      ap (λ (v : Verdict). (flat_verdict v).number)
      (sym (ap (λ (c : Called). c.verdict) (as_it_was (ap (λ (v : Verdict). (flat_verdict v).kind) e))) ∙ e)

  -- "a refused frame changes nothing": it has no replica, and the row and the lent places are as found
  pub refused_frame_keeps_all : (places : List ℕ) (n : ℕ) (r : Judgement) (after told : List ℕ) → Judges buffer g port time frame places r after told
      → r.verdict ≡ Refused n
      → (r.replicas ≡ 0) × (after ≡ g) × (told ≡ places)
  refused_frame_keeps_all places n r after told p e =
      let q = as_it_was (ap (λ (v : Verdict). (flat_verdict v).kind) (ap (λ (j : Judgement). j.verdict) (sym p.answer) ∙ e)) in (
        ap (λ (j : Judgement). j.replicas) p.answer ∙ ap (λ (c : Called). length c.replicas) q,
        p.row ∙ ap (λ (c : Called). c.row) q,
        p.laid ∙ ap (λ (c : Called). laid_over c.replicas places) q ∙ sym (laid_none places),
      )

  -- and at the entry for C and Rust
  pub refused_frame_keeps_all_lent : (places : List ℕ) (r : FlatJudged) (after told : List ℕ) → JudgesFlat buffer g port time frame places r after told
      → r.verdict.kind ≡ 0
      → (r.replicas ≡ 0) × (after ≡ g) × (told ≡ places)
  refused_frame_keeps_all_lent places r after told p e =
      let q = as_it_was (ap (λ (j : FlatJudged). j.verdict.kind) (sym p.answer) ∙ e) in (
        ap (λ (j : FlatJudged). j.replicas) p.answer ∙ ap (λ (c : Called). length c.replicas) q,
        p.row ∙ ap (λ (c : Called). c.row) q,
        p.laid ∙ ap (λ (c : Called). laid_over c.replicas places) q ∙ sym (laid_none places),
      )

-- ---- a refusal's number
-- an answer that is a refusal is its number's
pub refused_number : (m n : ℕ) → answer_of m ≡ Err n → m ≡ n
refused_number m n e = sym (numbered m) ∙ ap number_of e

-- which is not 0
refused_not_done : (m n : ℕ) → answer_of m ≡ Err n → m ≡ 0 → ⊥
refused_not_done m n e z =
    let d : (Ok tt) ≡ answer_of m = at_zero m m (Ok tt) (Ok tt) (Err m) refl z refl in
    let f : ◌≡◌ {A = ℕ} 0 1 = cc in
    omega arith

-- ---- a release
module _ (buffer g : List ℕ) (partition : ℕ) where
  given_nothing : (release_refusal buffer g partition ≡ 0 → ⊥) → released buffer g partition ≡ g
  unfolding released
  given_nothing h = sym (not_zero (release_refusal buffer g partition) (release_refusal buffer g partition) g (given_to g partition) g refl h refl)

  -- a refused release gives nothing back
  pub refused_release_keeps_the_row : (n : ℕ) (r : Answer) (after : List ℕ) → Released buffer g partition r after → r ≡ Err n → after ≡ g
  refused_release_keeps_the_row n r after p e = p.row ∙ given_nothing (refused_not_done (release_refusal buffer g partition) n (sym p.answer ∙ e))

  -- and at the entry for C and Rust
  pub refused_release_keeps_the_lent_ledger : (r : ℕ) (after : List ℕ) → ReleasesFlat buffer g partition r after → (r ≡ 0 → ⊥) → after ≡ g
  refused_release_keeps_the_lent_ledger r after p h = p.row ∙ given_nothing (λ z. h (p.number ∙ z))

-- ---- a fresh ledger
module _ (buffer : List ℕ) where
  -- no ledger: 39 refuses it under every image
  none : (after : List ℕ) → after ≡ freshened buffer → (unloaded buffer ≡ 0 → ⊥) → (after ≡ no_ledger) × ((image : List ℕ) → out_of_range image after ≡ true)
  none after row h =
      let e = row ∙ sym (not_zero (unloaded buffer) (unloaded buffer) no_ledger (fresh_of (image_in buffer)) no_ledger refl h refl) in
      (e, λ image. ap (out_of_range image) e ∙ refused_everywhere image)

  -- a refused fresh ledger is none, never what stood in the row
  pub refused_ledger_is_none : (n : ℕ) (r : Answer) (after : List ℕ) → Freshened buffer r after → r ≡ Err n
      → (after ≡ no_ledger) × ((image : List ℕ) → out_of_range image after ≡ true)
  refused_ledger_is_none n r after p e = none after p.row (refused_not_done (unloaded buffer) n (sym p.answer ∙ e))

  -- and at the entry for C and Rust
  pub refused_lent_ledger_is_none : (r : ℕ) (after : List ℕ) → FreshensFlat buffer r after → (r ≡ 0 → ⊥)
      → (after ≡ no_ledger) × ((image : List ℕ) → out_of_range image after ≡ true)
  refused_lent_ledger_is_none r after p h = none after p.row (λ z. h (p.number ∙ z))
