-- The first of the page that applies is the verdict: the tests' number is the page's, and a judgement's verdict is that number's.
use Rattle.std.specs.Prelude.{◌≡◌, refl, Bool, true, false, cond, List, ℕ, ltb, leb, eqb, length}
use Rattle.std.proofs.Math.Path.{sym, ap}
use Rattle.std.proofs.Common.{◌∙◌, eqb-true, eq-eqb, ne_eqb}
use Rattle.std.proofs.lemmas.Bool.{eqb-false}
use Rattle.image.specs.Layout.{image_in}
use Rattle.image.specs.Loaded.{too_short, not_loaded}
use Rattle.fields.specs.Fields.{ingress}
use Rattle.lookup.specs.Vlan.{vlan_at}
use Rattle.broken.specs.Broken.{no_vlan}
use Rattle.ledger.specs.Row.{frames, last, cell}
use Rattle.ledger.specs.Range.{out_of_range}
use Rattle.frame.specs.Bytes.{octets_of}
use Rattle.plan.specs.Enter.{Entered}
use Rattle.plan.specs.Enter as entered
use Rattle.plan.specs.declared.Course.{Course}
use Rattle.plan.specs.Plan.{Planned, plan_of}
use Rattle.settle.specs.declared.Verdict.{Verdict}
use Rattle.settle.specs.declared.Verdict.TheVariants.{Refused, Drop, Sent}
use Rattle.settle.specs.Settle.{settled_of, Judged, judged, carried_out}
use Rattle.settle.specs.After.{spent_at, row_after}
use Rattle.judge.specs.Refusal.{mistimed, refusal_of}
use Rattle.judge.specs.declared.Judgement.{Judgement}
use Rattle.judge.specs.Judge.{by_entry, plan_for, noted_of, judge_of, Judges}
use Rattle.judge.specs.Cases.{by_cases}
use Rattle.judge.proofs.Proved.{refused_unchanged, own_verdict}
use Rattle.flat_answers.specs.declared.FlatVerdict.{FlatVerdict}
use Rattle.flat_answers.specs.Answers.{flat_verdict}
use Rattle.flat_frames.specs.declared.FlatJudged.{FlatJudged}
use Rattle.flat_frames.specs.Frames.{JudgesFlat}
use Rattle.exactly.specs.First.{First, Exactly}
use Rattle.exactly.specs.Decides.{first_of}
use Rattle.exactly.specs.FirstLaws.{same_first, first_is, exactly}
use Rattle.exactly.specs.Steps.{vlan_of, priority_of, sending_for, frame_page, verdict_by, number_in}
use Rattle.exactly.specs.Replicas.{replica_verdict_by}
use Rattle.exactly.specs.StepTests.{not_policed, too_long, meter_short, no_port, no_unit, untagged_dropped, not_member, enforced, step_tests}
use Rattle.exactly.specs.ReplicasLaws.{onward_is}
use Rattle.exactly.specs.StepsLaws.{decided, refusal_is, enter_is}

module _ (buffer g : List ℕ) (port time : ℕ) (frame : List ℕ) where
  abbrev image : List ℕ
  image = image_in buffer

  abbrev vlan : ℕ
  vlan = vlan_of image port frame

  abbrev priority : ℕ
  priority = priority_of image port frame

  -- the number that the tests come to
  abbrev number : ℕ
  number = first_of (frame_page buffer g port time frame) (step_tests buffer g port time frame) 0

  abbrev by : ℕ → Verdict
  by = verdict_by buffer port frame

  -- what a plan comes to
  abbrev said : Planned → Verdict
  said p = (carried_out g time (octets_of frame) p).verdict

  -- where nothing refuses the frame, its plan is carried out and its verdict noted
  pub judged_is : refusal_of buffer g port time frame ≡ 0
      → judge_of buffer g port time frame ≡ noted_of port time (octets_of frame) (carried_out g time (octets_of frame) (plan_for image port frame))
  unfolding settled_of
  judged_is z =
      by_cases buffer g port time frame (λ (j : Judged). j ≡ of (plan_for image port frame))
      (λ ne. absurd (ne z))
      (λ a n e. sym (ap of e))
      (λ a w e f ne. sym (ap of e ∙ ap (λ (t : Bool). late w t) (ne_eqb _ 0 ne)))
      (λ a w e f d. sym (ap of e ∙ ap (λ (t : Bool). late w t) (eq-eqb _ 0 d)))
    where
      of : Planned → Judged
      of p = noted_of port time (octets_of frame) (carried_out g time (octets_of frame) p)

      late : Course → Bool → Judged
      late w t =
          noted_of port time (octets_of frame)
          (judged (cond t (Sent w.sending) (Drop (spent_at g w time (octets_of frame)).drop)) (row_after g w time (octets_of frame)))

  -- 7 to 11 of a frame are as a replica's
  onward_by : (s t x y z : Bool)
      → replica_verdict_by image port frame vlan priority (cond s 7 (cond t 8 (cond x 9 (cond y 10 (cond z 11 0)))))
      ≡ by (cond s 7 (cond t 8 (cond x 9 (cond y 10 (cond z 11 0)))))
  onward_by true t x y z = refl
  onward_by false true x y z = refl
  onward_by false false true y z = refl
  onward_by false false false true z = refl
  onward_by false false false false true = refl
  onward_by false false false false false = refl

  entry_said : (a b c d e f : Bool) (n : ℕ) → said (plan_of image port frame vlan (vlan_at image vlan) priority) ≡ by n
      → said
      (by_entry image port frame
      (cond a (entered.Dropped 1)
      (cond b (entered.Dropped 2)
      (cond c (entered.Dropped 3)
      (cond d (entered.Dropped 4) (cond e (entered.Dropped 5) (cond f (entered.Dropped 6) (entered.In vlan (vlan_at image vlan) priority))))))))
      ≡ by (cond a 1 (cond b 2 (cond c 3 (cond d 4 (cond e 5 (cond f 6 n))))))
  entry_said true b c d e f n h = refl
  entry_said false true c d e f n h = refl
  entry_said false false true d e f n h = refl
  entry_said false false false true e f n h = refl
  entry_said false false false false true f n h = refl
  entry_said false false false false false true n h = refl
  entry_said false false false false false false n h = h

  plan_said : said (plan_for image port frame)
      ≡ by
      (cond (ltb (octets_of frame) 64) 1
      (cond (eqb (ingress image port) 0) 2
      (cond (untagged_dropped image port frame) 3
      (cond (no_vlan image vlan) 4
      (cond (not_member image port frame) 5
      (cond (enforced image port frame) 6
      (cond (not_policed image port frame priority) 7
      (cond (too_long image port frame priority) 8
      (cond (meter_short image port frame g time priority) 9 (cond (no_port image port frame vlan) 10 (cond (no_unit image port frame g priority) 11 0)))))))))))
  unfolding plan_for
  plan_said =
      ap (λ (q : Entered). said (by_entry image port frame q)) (enter_is image port frame)
      ∙ entry_said (ltb (octets_of frame) 64) (eqb (ingress image port) 0) (untagged_dropped image port frame) (no_vlan image vlan) (not_member image port frame)
      (enforced image port frame) _
      (onward_is image g port time frame vlan priority
      ∙ onward_by (not_policed image port frame priority) (too_long image port frame priority) (meter_short image port frame g time priority)
      (no_port image port frame vlan) (no_unit image port frame g priority))

  -- the seven refusals, then n
  abbrev refusals : Bool → Bool → Bool → Bool → Bool → Bool → Bool → ℕ → ℕ
  refusals a b c d e f s n = cond a 31 (cond b 30 (cond c 39 (cond d 33 (cond e 34 (cond f 35 (cond s 38 n))))))

  -- a judgement that is v where nothing refuses it, and refused where something does
  by_refusal : (a b c d e f s : Bool) (n : ℕ) (v : Verdict) → (refusals a b c d e f s 0 ≡ 0 → v ≡ by n)
      → ((refusals a b c d e f s 0 ≡ 0 → ⊥) → v ≡ Refused (refusals a b c d e f s 0))
      → v ≡ by (refusals a b c d e f s n)
  by_refusal true b c d e f s n v p q = q (eqb-false 31 0 refl)
  by_refusal false true c d e f s n v p q = q (eqb-false 30 0 refl)
  by_refusal false false true d e f s n v p q = q (eqb-false 39 0 refl)
  by_refusal false false false true e f s n v p q = q (eqb-false 33 0 refl)
  by_refusal false false false false true f s n v p q = q (eqb-false 34 0 refl)
  by_refusal false false false false false true s n v p q = q (eqb-false 35 0 refl)
  by_refusal false false false false false false true n v p q = q (eqb-false 38 0 refl)
  by_refusal false false false false false false false n v p q = p refl

  verdict_is : (judge_of buffer g port time frame).verdict ≡ by number
  verdict_is =
      by_refusal (too_short buffer) (not_loaded image) (out_of_range image g) (ltb 4 port) (mistimed (cell g last 0) time) (ltb 4096 (length frame))
      (leb 4294967295 (cell g frames port)) _ (judge_of buffer g port time frame).verdict
      (λ z. ap (λ (j : Judged). j.verdict) (judged_is (refusal_is buffer g port time frame ∙ z)) ∙ plan_said)
      (λ ne. ap (λ (j : Judged). j.verdict) (refused_unchanged buffer g port time frame (λ z. ne (sym (refusal_is buffer g port time frame) ∙ z)))
      ∙ ap Refused (refusal_is buffer g port time frame))

  first_is_number : First (frame_page buffer g port time frame) number
  first_is_number = first_is (frame_page buffer g port time frame) (step_tests buffer g port time frame) (decided buffer g port time frame)

-- ---- the theorem

pub number_back : (buffer : List ℕ) (port : ℕ) (frame : List ℕ) (n : ℕ) → number_in (verdict_by buffer port frame n) ≡ n
number_back buffer port frame n = go (eqb n 0) (ltb n 30) refl
  where
    go : (z s : Bool) → eqb n 0 ≡ z → number_in (cond z (Sent (sending_for (image_in buffer) port frame)) (cond s (Drop n) (Refused n))) ≡ n
    go true s e = sym (eqb-true n 0 e)
    go false true e = refl
    go false false e = refl

-- "The first drop that applies is the verdict", and before it the first refusal: for every verdict that the promise of a frame permits
pub first_that_applies : (buffer g : List ℕ) (port time : ℕ) (frame places : List ℕ) (r : Judgement) (after told : List ℕ)
    → Judges buffer g port time frame places r after told
    → Exactly Verdict (First (frame_page buffer g port time frame)) (verdict_by buffer port frame) r.verdict
first_that_applies buffer g port time frame places r after told p =
    exactly Verdict (First (frame_page buffer g port time frame)) (verdict_by buffer port frame) number_in r.verdict _ (number_back buffer port frame)
    (same_first (frame_page buffer g port time frame)) (first_is_number buffer g port time frame)
    (ap (λ (j : Judgement). j.verdict) p.answer ∙ own_verdict buffer g port time frame ∙ verdict_is buffer g port time frame)

-- the same of the numbers that C and Rust get
pub first_that_applies_flat : (buffer g : List ℕ) (port time : ℕ) (frame places : List ℕ) (r : FlatJudged) (after told : List ℕ)
    → JudgesFlat buffer g port time frame places r after told
    → Exactly FlatVerdict (First (frame_page buffer g port time frame)) (λ n. flat_verdict (verdict_by buffer port frame n)) r.verdict
first_that_applies_flat buffer g port time frame places r after told p =
    exactly FlatVerdict (First (frame_page buffer g port time frame)) (λ n. flat_verdict (verdict_by buffer port frame n)) (λ v. v.number) r.verdict _
    (λ n. number_kept (verdict_by buffer port frame n) ∙ number_back buffer port frame n)
    (same_first (frame_page buffer g port time frame)) (first_is_number buffer g port time frame)
    (ap (λ (j : FlatJudged). j.verdict) p.answer ∙ ap flat_verdict (own_verdict buffer g port time frame ∙ verdict_is buffer g port time frame))
  where
    number_kept : (v : Verdict) → (flat_verdict v).number ≡ number_in v
    number_kept (Refused n) = refl
    number_kept (Drop n) = refl
    number_kept (Sent s) = refl
