-- A frame that gets past drop 6 is not refused and is let in by steps 1 to 6, and another is judged by itself; what the calls of both say and leave.
use Rattle.std.specs.Prelude.{◌≡◌, ◌⊎◌, Bool, true, false, cond, not, List, ℕ, ltb, leb, eqb}
use Rattle.std.proofs.Math.Path.{refl}
use Rattle.std.proofs.Common.{sym, ◌∙◌, ap, subst, inl, inr, ⊎_elim, true≢false}
use Rattle.std.proofs.lemmas.Bool.{false≢true, eqb-false}
use Rattle.std.proofs.Math.ListN.{length}
use Rattle.image.specs.Layout.{image_in}
use Rattle.image.specs.Loaded.{too_short, not_loaded}
use Rattle.fields.specs.Fields.{ingress}
use Rattle.lookup.specs.Vlan.{vlan_at}
use Rattle.broken.specs.Broken.{no_vlan}
use Rattle.ledger.specs.Row.{frames, last, cell}
use Rattle.ledger.specs.Range.{out_of_range}
use Rattle.frame.specs.Bytes.{octets_of}
use Rattle.plan.specs.Enter.{Entered, enter_of}
use Rattle.plan.specs.Enter as entered
use Rattle.settle.specs.Settle.{Judged, carried_out}
use Rattle.settle.specs.Note.{is_drop}
use Rattle.places.specs.Places.{laid_over}
use Rattle.places.specs.PlacesLaws.{laid_none}
use Rattle.replica.specs.Replica.{Replicas, replicas_in}
use Rattle.replica.proofs.ReplicaLaws.{all_of}
use Rattle.judge.specs.Refusal.{mistimed, refusal_of}
use Rattle.judge.specs.declared.Judgement.{Judgement}
use Rattle.judge.specs.Judge.{by_entry, plan_for, judge_of, Called, by_itself, call_of, Judges}
use Rattle.judge.specs.Laws.{is_judged, one_judgement}
use Rattle.judge.proofs.Proved.{refused_unchanged, refused_call, no_match}
use Rattle.exactly.specs.First.{NoneBefore}
use Rattle.exactly.specs.Decides.{Decides, before}
use Rattle.exactly.specs.DecidesLaws.{or_not}
use Rattle.exactly.specs.FirstLaws.{none_before}
use Rattle.exactly.specs.Steps.{vlan_of, priority_of, frame_page}
use Rattle.exactly.specs.StepTests.{untagged_dropped, not_member, enforced, refused_by, step_tests}
use Rattle.exactly.specs.StepsLaws.{decided, refusal_is, enter_is}
use Rattle.exactly.specs.StepsProved.{judged_is}

module _ (vlan place priority : ℕ) where
  -- by whether no clause before 7 holds, the refusal's number and what steps 1 to 6 answer
  abbrev Gate : Bool → ℕ → Entered → Type 0
  Gate t n q =
      (t ≡ true → (n ≡ 0) × (q ≡ entered.In vlan place priority))
      × ((t ≡ true → ⊥) → (n ≡ 0 → ⊥) ⊎ ((m : ℕ) × (q ≡ entered.Dropped m)))

  refuses : (n : ℕ) (q : Entered) → (n ≡ 0 → ⊥) → Gate false n q
  refuses n q z = (λ e. absurd (false≢true e), λ ne. inl z)

  drops : (n : ℕ) → Gate false 0 (entered.Dropped n)
  drops n = (λ e. absurd (false≢true e), λ ne. inr (n, refl))

  gate : (a b c d e f s h i j k l m : Bool)
      → Gate
      (not
      (cond a true
      (cond b true
      (cond c true
      (cond d true
      (cond e true
      (cond f true (cond s true (cond h true (cond i true (cond j true (cond k true (cond l true (cond m true false))))))))))))))
      (cond a 31 (cond b 30 (cond c 39 (cond d 33 (cond e 34 (cond f 35 (cond s 38 0)))))))
      (cond h (entered.Dropped 1)
      (cond i (entered.Dropped 2)
      (cond j (entered.Dropped 3)
      (cond k (entered.Dropped 4) (cond l (entered.Dropped 5) (cond m (entered.Dropped 6) (entered.In vlan place priority)))))))
  gate true b c d e f s h i j k l m = refuses 31 _ (eqb-false 31 0 refl)
  gate false true c d e f s h i j k l m = refuses 30 _ (eqb-false 30 0 refl)
  gate false false true d e f s h i j k l m = refuses 39 _ (eqb-false 39 0 refl)
  gate false false false true e f s h i j k l m = refuses 33 _ (eqb-false 33 0 refl)
  gate false false false false true f s h i j k l m = refuses 34 _ (eqb-false 34 0 refl)
  gate false false false false false true s h i j k l m = refuses 35 _ (eqb-false 35 0 refl)
  gate false false false false false false true h i j k l m = refuses 38 _ (eqb-false 38 0 refl)
  gate false false false false false false false true i j k l m = drops 1
  gate false false false false false false false false true j k l m = drops 2
  gate false false false false false false false false false true k l m = drops 3
  gate false false false false false false false false false false true l m = drops 4
  gate false false false false false false false false false false false true m = drops 5
  gate false false false false false false false false false false false false true = drops 6
  gate false false false false false false false false false false false false false = (λ e. (refl, refl), λ ne. absurd (ne refl))

-- a frame is let in
abbrev is_in : Entered → Bool
is_in (entered.Dropped n) = false
is_in (entered.In vlan place priority) = true

module _ (buffer g : List ℕ) (port time : ℕ) (frame : List ℕ) where
  abbrev image : List ℕ
  image = image_in buffer

  abbrev vlan : ℕ
  vlan = vlan_of image port frame

  abbrev priority : ℕ
  priority = priority_of image port frame

  abbrev own : List ℕ
  own = (judge_of buffer g port time frame).row

  abbrev Past : Type 0
  Past = NoneBefore 7 (frame_page buffer g port time frame)

  -- the test of it
  abbrev clear : Bool
  clear = not (before 7 (frame_page buffer g port time frame) (step_tests buffer g port time frame))

  is_clear : Decides clear Past
  is_clear = none_before (frame_page buffer g port time frame) (step_tests buffer g port time frame) 7 (decided buffer g port time frame)

  pub past_or_not : Past ⊎ (Past → ⊥)
  past_or_not = or_not clear is_clear

  gate_is : Gate vlan (vlan_at image vlan) priority clear (refusal_of buffer g port time frame) (enter_of image port frame)
  gate_is =
      subst (λ (n : ℕ). Gate vlan (vlan_at image vlan) priority clear n (enter_of image port frame)) (sym (refusal_is buffer g port time frame))
      (subst (λ (q : Entered). Gate vlan (vlan_at image vlan) priority clear (refused_by buffer g port time frame 0) q) (sym (enter_is image port frame))
      (gate vlan (vlan_at image vlan) priority (too_short buffer) (not_loaded image) (out_of_range image g) (ltb 4 port) (mistimed (cell g last 0) time)
      (ltb 4096 (length frame)) (leb 4294967295 (cell g frames port)) (ltb (octets_of frame) 64) (eqb (ingress image port) 0)
      (untagged_dropped image port frame) (no_vlan image vlan) (not_member image port frame) (enforced image port frame)))

  -- a frame that gets past drop 6 is not refused and is let in on its VLAN and with its priority
  pub let_in : Past → (refusal_of buffer g port time frame ≡ 0) × (enter_of image port frame ≡ entered.In vlan (vlan_at image vlan) priority)
  let_in past = gate_is.0 (is_clear.1 past)

  -- another is judged by itself
  pub kept_out : (Past → ⊥) → call_of buffer g port time frame ≡ by_itself (judge_of buffer g port time frame)
  kept_out stopped = ⊎_elim refused dropped (gate_is.1 (λ e. stopped (is_clear.0 e)))
    where
      refused : (refusal_of buffer g port time frame ≡ 0 → ⊥) → call_of buffer g port time frame ≡ by_itself (judge_of buffer g port time frame)
      refused z = refused_call buffer g port time frame z ∙ sym (ap by_itself (refused_unchanged buffer g port time frame z))

      dropped : (m : ℕ) × (enter_of image port frame ≡ entered.Dropped m) → call_of buffer g port time frame ≡ by_itself (judge_of buffer g port time frame)
      dropped d = no_match buffer g port time frame (λ v p q e. absurd (true≢false (ap is_in (sym e ∙ d.1))))

  abbrev all : Replicas
  all = replicas_in image own port time frame vlan priority

  -- what the call of a frame that gets past drop 6 says and leaves
  pub called_past : Past → (places : List ℕ) (r : Judgement) (after told : List ℕ) → Judges buffer g port time frame places r after told
      → (r.replicas ≡ length all.verdicts) × (after ≡ all.row) × (told ≡ laid_over all.verdicts places)
  unfolding plan_for
  called_past past places r after told p =
      let z = (let_in past).0 in
      let e = (let_in past).1 in
      let j = carried_out g time (octets_of frame) (by_entry image port frame (enter_of image port frame)) in
      let same =
      one_judgement buffer g port time frame places r (record { verdict = j.verdict; replicas = length all.verdicts }) after all.row told
      (laid_over all.verdicts places) p
      (is_judged buffer g port time frame places (refusal_of buffer g port time frame) (enter_of image port frame) j.verdict j.row own (is_drop j.verdict) (length all.verdicts) all.row
      (laid_over all.verdicts places) refl z refl (record { verdict = refl; row = refl }) refl
      (ap (λ (k : Judged). k.row) (judged_is buffer g port time frame z))
      (all_of image own port time frame (enter_of image port frame) vlan (vlan_at image vlan) priority places (length all.verdicts) all.row
      (laid_over all.verdicts places) e (record { many = refl; left = refl; laid = refl }))) in
      (ap (λ (k : Judgement). k.replicas) same.0, same.1, same.2)

  -- and that of a frame judged by itself
  pub called_alone : call_of buffer g port time frame ≡ by_itself (judge_of buffer g port time frame) → (places : List ℕ) (r : Judgement) (after told : List ℕ)
      → Judges buffer g port time frame places r after told
      → (r.replicas ≡ 0) × (after ≡ own) × (told ≡ places)
  called_alone alone places r after told p = (
    ap (λ (k : Judgement). k.replicas) p.answer ∙ ap (λ (k : Called). length k.replicas) alone,
    p.row ∙ ap (λ (k : Called). k.row) alone,
    p.laid ∙ ap (λ (k : Called). laid_over k.replicas places) alone ∙ sym (laid_none places),
  )
