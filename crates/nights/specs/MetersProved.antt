-- "A call changes only the SHARINDX entry's credit and time, and only from step 9 on": over every outcome that the entries permit.
use Rattle.std.specs.Prelude.{◌≡◌, Bool, cond, List, ℕ, ◌+◌, ◌-◌, ◌<◌, ltb, length, get_or, set}
use Rattle.std.proofs.Math.Path.{refl}
use Rattle.std.proofs.Common.{sym, ◌∙◌, ap, subst, true≢false, lit≤}
use Rattle.std.proofs.Math.Bool.{true, false}
use Rattle.std.proofs.Math.Dec.{eqb}
use Rattle.std.proofs.Math.ListN.{length-set}
use borrow.Author.Tests.{lt-ltb, le-ltb, eqb-true}
use Rattle.image.specs.Layout.{image_in}
use Rattle.image.specs.Sound.{Sound}
use Rattle.fields.specs.Fields.{sharindx}
use Rattle.ledger.specs.Answers.{Answer}
use Rattle.ledger.specs.Row.{units, credit, since, many, cell_count, cell}
use Rattle.ledger.proofs.Laws.{cells, other_place}
use Rattle.row.specs.Release.{release_refusal, given_to, released, Released}
use Rattle.row.specs.ReleaseLaws.{releasable}
use Rattle.spend.specs.declared.Meter.{Meter}
use Rattle.spend.specs.Meter.{cost}
use Rattle.spend.specs.Spend.{spent, units_of, paid_of, credit_at, spent_of}
use Rattle.spend.specs.Proved.{now_stored}
use Rattle.frame.specs.Bytes.{octets_of, destination_of}
use Rattle.plan.specs.declared.Course.{Course}
use Rattle.plan.specs.Plan.{Dropped, Goes}
use Rattle.plan.specs.Enter.{Entered, enter_of}
use Rattle.plan.specs.Enter as entered
use Rattle.plan.specs.Police.{policer_of}
use Rattle.plan.specs.Sane.{Sane}
use Rattle.settle.specs.declared.Verdict.{Verdict}
use Rattle.settle.specs.declared.Verdict.TheVariants.{Refused, Drop, Sent}
use Rattle.settle.specs.Settle.{meter_of, held_at, Judged}
use Rattle.settle.specs.Note.{noted}
use Rattle.settle.specs.Noted.{credit_kept, since_kept}
use Rattle.replica.specs.Replica.{replica_plan}
use Rattle.judge.specs.declared.Judgement.{Judgement}
use Rattle.judge.specs.Refusal.{refusal_of}
use Rattle.judge.specs.Judge.{plan_for, judge_of, call_of, Judges}
use Rattle.judge.specs.Admitted.{Admitted}
use Rattle.settle.specs.RunsLaws.{runs}
use Rattle.settle.specs.After.{row_after}
use Rattle.judge.specs.Laws.{admitted}
use Rattle.judge.specs.Cases.{by_cases, call_keeps}
use Rattle.judge.proofs.Proved.{own_verdict}
use Rattle.flat_answers.specs.Answers.{flat_verdict}
use Rattle.flat_frames.specs.declared.FlatJudged.{FlatJudged}
use Rattle.flat_frames.specs.Frames.{JudgesFlat, ReleasesFlat}
use Rattle.nights.specs.Policer.{Polices}
use Rattle.nights.specs.PolicerLaws.{plan_drops, goes_by, replica_by, dropped_alike}
use Rattle.nights.specs.Meters.{from_nine, from_nine_flat, Unmoved, OwnMeter, Metered}

-- a frame is let in with one priority
one_priority : {u v a b p q : ℕ} → entered.In u a p ≡ entered.In v b q → p ≡ q
one_priority e = ap priority_in e
  where
    priority_in : Entered → ℕ
    priority_in (entered.Dropped n) = 0
    priority_in (entered.In vlan place priority) = priority

-- ---- steps 9 to 11 drop with 9, 10 or 11
late_drop : (m : Meter) (now units octets ports : ℕ) → ((spent_of m now units octets ports).drop ≡ 0 → ⊥) → 8 < (spent_of m now units octets ports).drop
unfolding spent_of paid_of
late_drop m now units octets ports = by (ltb (credit_at m now) (cost octets)) (eqb ports 0) (ltb units (units_of octets))
  where
    by : (s t u : Bool)
        → ((cond s (spent 9 (credit_at m now) now units)
        (cond t (spent 10 (credit_at m now - cost octets) now units)
        (cond u (spent 11 (credit_at m now - cost octets) now units) (spent 0 (credit_at m now - cost octets) now (units - units_of octets))))).drop
        ≡ 0
        → ⊥)
        → 8
        < (cond s (spent 9 (credit_at m now) now units)
        (cond t (spent 10 (credit_at m now - cost octets) now units)
        (cond u (spent 11 (credit_at m now - cost octets) now units) (spent 0 (credit_at m now - cost octets) now (units - units_of octets))))).drop
    by true t u h = lit≤ tt
    by false true u h = lit≤ tt
    by false false true h = lit≤ tt
    by false false false h = absurd (h refl)

-- ---- a course, spent on a row
module _ (buffer g : List ℕ) (time l : ℕ) (w : Course) (s : Sound buffer) (f : Sane (image_in buffer) w) where
  inside : w.meter < many credit
  inside = (runs buffer w s f).meter

  other_meter : (j : ℕ) → j < many credit → (w.meter ≡ j → ⊥) → Unmoved g (row_after g w time l) j
  other_meter j h ne =
      let there : (x : List ℕ) (b v : ℕ) → get_or (set x (b + w.meter) v) (b + j) 0 ≡ get_or x (b + j) 0 = λ x b v. other_place x b w.meter j v ne in
      let p : w.partition < many units = f.partition in
      let m = inside in
      (simp (cells, there), simp (cells, there))

  own_now : length g ≡ cell_count → cell (row_after g w time l) since w.meter ≡ time
  own_now all = let m = inside in simp (cells, all) (now_stored (meter_of w (held_at g w)) time (cell g units w.partition) l w.sending.ports)

-- ---- a frame
module _ (buffer g : List ℕ) (port time : ℕ) (bytes : List ℕ) (all : length g ≡ cell_count) where
  abbrev image : List ℕ
  image = image_in buffer

  abbrev l : ℕ
  l = octets_of bytes

  -- the row once a course was spent and noted
  own : Admitted buffer g port time bytes → (w : Course) → plan_for image port bytes ≡ Goes w → Sane image w → (drop : Bool)
      → OwnMeter image g port time bytes (noted (row_after g w time l) port time l drop)
  own a w e f drop =
      let q = goes_by image port bytes w e in
      let z = row_after g w time l in
      record {
        k = q.0;
        polices = q.1;
        others =
            λ j h ne.
            let u = other_meter buffer g time l w a.image f j h (λ s. ne (sym s ∙ q.2)) in
            (credit_kept z port time l drop a.inside j h ∙ u.0, since_kept z port time l drop a.inside j h ∙ u.1);
        now =
            subst (λ (j : ℕ). cell (noted z port time l drop) since j ≡ time) q.2
            (since_kept z port time l drop a.inside w.meter (inside buffer g time l w a.image f) ∙ own_now buffer g time l w a.image f all);
      }

  -- a frame that is let in and dropped before step 9 is dropped by its plan
  record Stopped (j : Judged) : Type 0 where
    meters : Metered image g port time bytes (from_nine j.verdict) j.row
    long : length j.row ≡ cell_count
    early : refusal_of buffer g port time bytes ≡ 0 → from_nine j.verdict ≡ false → (n : ℕ) × (plan_for image port bytes ≡ Dropped n)

  moved : Stopped (judge_of buffer g port time bytes)
  unfolding noted
  moved =
      by_cases buffer g port time bytes Stopped
      (λ z. record { meters = record { before = λ e j h. (refl, refl); own = λ e. absurd (true≢false (sym e)) }; long = all; early = λ r. absurd (z r) })
      (λ a n e.
      record {
        meters =
            record {
              before = λ q j h. (credit_kept g port time l true a.inside j h, since_kept g port time l true a.inside j h);
              own = λ q. absurd (true≢false (sym q ∙ le-ltb 8 n (plan_drops image port bytes n e)));
            };
        long = simp length-set all;
        early = λ r q. (n, e);
      })
      (λ a w e f z.
      let late = lt-ltb 8 _ (late_drop (meter_of w (held_at g w)) time (cell g units w.partition) l w.sending.ports z) in
      record {
        meters = record { before = λ q. absurd (true≢false (sym late ∙ q)); own = λ q. own a w e f true };
        long = simp length-set all;
        early = λ r q. absurd (true≢false (sym late ∙ q));
      })
      (λ a w e f z.
      record {
        meters = record { before = λ q. absurd (true≢false q); own = λ q. own a w e f false };
        long = simp length-set all;
        early = λ r q. absurd (true≢false q);
      })

  -- each replica moves the frame's own meter, or none
  module _ (e : refusal_of buffer g port time bytes ≡ 0) (vlan place priority : ℕ) (i : enter_of image port bytes ≡ entered.In vlan place priority) (x : List ℕ) (v : ℕ) (w : Course)
      (q : replica_plan image port bytes v priority ≡ Goes w) (f : Sane image w) (long : length x ≡ cell_count) where
    same_k : (k : ℕ) → Polices image port bytes k → w.meter ≡ sharindx image k
    same_k k p =
        (replica_by image port bytes v priority w q).0
        ∙ ap (sharindx image) (ap (λ (y : ℕ). policer_of port y (destination_of bytes)) (one_priority (sym i ∙ p.entered)) ∙ sym p.is)

    replica_moved : Metered image g port time bytes (from_nine (judge_of buffer g port time bytes).verdict) x
        → Metered image g port time bytes (from_nine (judge_of buffer g port time bytes).verdict) (row_after x w time l)
    replica_moved m =
        let s = (admitted buffer g port time bytes e).image in
        record {
          before = λ n. let d = moved.early e n in absurd (dropped_alike image port bytes vlan place priority v d.0 w i d.1 q);
          own =
              λ n.
              let o = m.own n in
              record {
                k = o.k;
                polices = o.polices;
                others =
                    λ j h ne.
                    let u = other_meter buffer x time l w s f j h (λ y. ne (sym y ∙ same_k o.k o.polices)) in
                    (u.0 ∙ (o.others j h ne).0, u.1 ∙ (o.others j h ne).1);
                now = subst (λ (j : ℕ). cell (row_after x w time l) since j ≡ time) (same_k o.k o.polices) (own_now buffer x time l w s f long);
              };
        }

  called_moved : Metered image g port time bytes (from_nine (judge_of buffer g port time bytes).verdict) (call_of buffer g port time bytes).row
  called_moved =
      (call_keeps buffer g port time bytes (λ vs x. (length x ≡ cell_count) × Metered image g port time bytes (from_nine (judge_of buffer g port time bytes).verdict) x)
      (moved.long, moved.meters)
      (λ e vlan place priority i.
      record {
        early = λ vs x v n q k. k;
        dropped = λ vs x v w q f z k. (simp length-set k.0, replica_moved e vlan place priority i x v w q f k.0 k.1);
        sent = λ vs x v w q f z k. (simp length-set k.0, replica_moved e vlan place priority i x v w q f k.0 k.1);
      })
      ).1

  -- "A call changes only the SHARINDX entry's credit and time, and only from step 9 on", its replicas included
  pub only_the_own_meter : (places : List ℕ) (r : Judgement) (after told : List ℕ) → Judges buffer g port time bytes places r after told
      → Metered (image_in buffer) g port time bytes (from_nine r.verdict) after
  only_the_own_meter places r after told p =
      subst (λ (v : Verdict). Metered image g port time bytes (from_nine v) after)
      (sym (ap (λ (j : Judgement). j.verdict) p.answer ∙ own_verdict buffer g port time bytes))
      (subst (Metered image g port time bytes (from_nine (judge_of buffer g port time bytes).verdict)) (sym p.row) called_moved)

  -- and at the entry for C and Rust
  pub only_the_own_meter_flat : (places : List ℕ) (r : FlatJudged) (after told : List ℕ) → JudgesFlat buffer g port time bytes places r after told
      → Metered (image_in buffer) g port time bytes (from_nine_flat r.verdict) after
  only_the_own_meter_flat places r after told p =
      subst (λ (t : Bool). Metered image g port time bytes t after)
      (sym (ap (λ (j : FlatJudged). from_nine_flat j.verdict) p.answer ∙ same (call_of buffer g port time bytes).verdict ∙ ap from_nine (own_verdict buffer g port time bytes)))
      (subst (Metered image g port time bytes (from_nine (judge_of buffer g port time bytes).verdict)) (sym p.row) called_moved)
    where
      same : (v : Verdict) → from_nine_flat (flat_verdict v) ≡ from_nine v
      same (Refused n) = refl
      same (Drop n) = refl
      same (Sent s) = refl

-- ---- a release
module _ (buffer g : List ℕ) (partition j : ℕ) (h : j < many credit) where
  released_meters : Unmoved g (released buffer g partition) j
  unfolding released
  released_meters = go (eqb (release_refusal buffer g partition) 0) refl
    where
      go : (t : Bool) → eqb (release_refusal buffer g partition) 0 ≡ t → Unmoved g (cond t (given_to g partition) g) j
      go true e = let inside = (releasable buffer g partition (eqb-true _ 0 e)).has.inside in (simp cells, simp cells)
      go false e = (refl, refl)

  -- a release moves no meter
  pub release_moves_no_meter : (r : Answer) (after : List ℕ) → Released buffer g partition r after → Unmoved g after j
  release_moves_no_meter r after p = subst (λ (x : List ℕ). Unmoved g x j) (sym p.row) released_meters

  -- and at the entry for C and Rust
  pub release_moves_no_meter_flat : (r : ℕ) (after : List ℕ) → ReleasesFlat buffer g partition r after → Unmoved g after j
  release_moves_no_meter_flat r after p = subst (λ (x : List ℕ). Unmoved g x j) (sym p.row) released_meters
