-- Demand 2, of units: over any permitted run from a fresh ledger, a partition's units left are its configured space less those out.
use Rattle.std.specs.Prelude.{◌≡◌, refl, Bool, true, false, cond, List, [], ◌∷◌, ◌++◌, map, ℕ, ◌+◌, ◌-◌, ◌<◌, ◌≤◌, ltb, eqb, Ok, Err}
use Rattle.std.proofs.Common.{sym, ◌∙◌, ap, subst, ⊎_elim, add-zero, zero-add, add_assoc, arith, get_or-set_same, eq-eqb, ne_eqb, eqb-true, ltb-false}
use Rattle.std.proofs.Math.ListN.{length, length-set}
use Rattle.image.specs.Layout.{image_in}
use Rattle.image.specs.Sound.{Sound}
use Rattle.fields.specs.Fields.{part_spc, partition}
use Rattle.ledger.specs.Answers.{Answer, answer_of}
use Rattle.ledger.specs.Range.{unloaded}
use Rattle.ledger.specs.Row.{units, many, cell_count, cell, put}
use Rattle.ledger.proofs.Laws.{cells, other_place}
use Rattle.row.specs.Fresh.{fresh_of, Freshened}
use Rattle.row.specs.Release.{release_refusal, given_to, released}
use Rattle.row.specs.ReleaseLaws.{releasable}
use Rattle.spend.specs.declared.Meter.{Meter}
use Rattle.spend.specs.Spend.{Spent, spent, units_of, paid_of, credit_at, spent_of}
use Rattle.spend.specs.Meter.{cost}
use Rattle.frame.specs.Bytes.{octets_of}
use Rattle.plan.specs.declared.Course.{Course}
use Rattle.plan.specs.Plan.{Goes}
use Rattle.plan.specs.Enter as entered
use Rattle.plan.specs.Enter.{enter_of}
use Rattle.plan.specs.Sane.{Sane}
use Rattle.settle.specs.declared.Verdict.{Verdict}
use Rattle.settle.specs.declared.Verdict.TheVariants.{Drop, Sent}
use Rattle.settle.specs.Settle.{meter_of, held_at, Judged}
use Rattle.settle.specs.Note.{noted}
use Rattle.settle.specs.Noted.{units_kept}
use Rattle.tile.specs.Tiles.{Asked}
use Rattle.places.specs.Places.{ten_of}
use Rattle.replica.specs.Replica.{replica_plan}
use Rattle.judge.specs.Judge.{plan_for, judge_of, Called, call_of}
use Rattle.judge.specs.Laws.{admitted}
use Rattle.settle.specs.RunsLaws.{runs}
use Rattle.settle.specs.After.{spent_at, row_after}
use Rattle.judge.specs.Cases.{by_cases, call_keeps}
use Rattle.judge.proofs.Proved.{own_verdict}
use Rattle.kept.specs.Lists.{same_or_not}
use Rattle.kept.specs.Fresh.{fresh_units}
use Rattle.kept.specs.Kept.{Kept}
use Rattle.kept.specs.KeptLaws.{fresh_kept}
use Rattle.kept.specs.History.{Event, frame, release, step, after}
use Rattle.flat_answers.specs.declared.FlatVerdict.{FlatVerdict}
use Rattle.flat_frames.specs.Frames.{FreshensFlat}
use Rattle.nights.specs.Nights.{Heard, Said, defined_answer, Run, RunOf, RunFlat, AsDefined}
use Rattle.nights.specs.NightLaws.{as_defined, as_defined_flat, not_refused, fresh_run_is}
use Rattle.nights.specs.Sums.{Kind, kind_of, kind_flat, kind_ten, kinds_of}
use Rattle.nights.specs.SumLaws.{same_kind, ten_kinds, balanced}
use Rattle.nights.specs.PolicerLaws.{goes_by, replica_by}
use Rattle.nights.specs.Units.{done_of, done_flat, unit_of, taken_by, taken_by_all, takes, gives, taken, returned}

-- ---- steps 9 to 11: a unit less exactly where nothing drops the frame
spent_balance : (m : Meter) (now units octets ports : ℕ)
    → (spent_of m now units octets ports).units + cond (eqb (spent_of m now units octets ports).drop 0) 1 0 ≡ units
unfolding spent_of paid_of
spent_balance m now units octets ports = nine (ltb (credit_at m now) (cost octets))
  where
    Balanced : Spent → Type 0
    Balanced s = s.units + cond (eqb s.drop 0) 1 0 ≡ units

    back : (u : ℕ) → 1 ≤ u → u - 1 + 1 ≡ u
    back u h = omega arith

    eleven : (c : ℕ) (t : Bool) → ltb units 1 ≡ t → Balanced (cond t (spent 11 c now units) (spent 0 c now (units - units_of octets)))
    eleven c true e = add-zero units
    eleven c false e = back units (ltb-false units 1 e)

    ten : (c : ℕ) (t : Bool)
        → Balanced (cond t (spent 10 c now units) (cond (ltb units (units_of octets)) (spent 11 c now units) (spent 0 c now (units - units_of octets))))
    ten c true = add-zero units
    ten c false = eleven c (ltb units 1) refl

    nine : (t : Bool) → Balanced (cond t (spent 9 (credit_at m now) now units) (paid_of (credit_at m now - cost octets) now units octets ports))
    nine true = add-zero units
    nine false = ten (credit_at m now - cost octets) (eqb ports 0)

-- ---- one partition's units are changed by d, up or down, and every other's stay
module _ (g : List ℕ) (part v : ℕ) (all : length g ≡ cell_count) (inside : part < many units) where
  changed : (P : ℕ → ℕ → ℕ → Type 0) (j : ℕ) → P v (cell g units part) 1 → ((x : ℕ) → P x x 0) → P (cell (put g units part v) units j) (cell g units j) (cond (eqb j part) 1 0)
  changed P j own other = ⊎_elim (λ e. subst Cell e here) (λ ne. there ne) (same_or_not part j)
    where
      Cell : ℕ → Type 0
      Cell i = P (cell (put g units part v) units i) (cell g units i) (cond (eqb i part) 1 0)

      here : Cell part
      here = rw (eq-eqb part part refl, get_or-set_same g (0 + part) v 0 (omega (arith, all))) own

      there : (part ≡ j → ⊥) → Cell j
      there ne = rw (ne_eqb j part (λ q. ne (sym q)), other_place g 0 part j v ne) (other (cell g units j))

-- ---- a course, spent on a row
module _ (buffer g : List ℕ) (time l j : ℕ) (w : Course) (s : Sound buffer) (f : Sane (image_in buffer) w) (all : length g ≡ cell_count) (h : j < many units) where
  balance : (spent_at g w time l).units + cond (eqb (spent_at g w time l).drop 0) 1 0 ≡ cell g units w.partition
  balance = spent_balance (meter_of w (held_at g w)) time (cell g units w.partition) l w.sending.ports

  -- the meter's two cells put aside
  bare : cell (row_after g w time l) units j ≡ cell (put g units w.partition (spent_at g w time l).units) units j
  bare = let r = runs buffer w s f in let m = r.meter in simp cells

  drops_none : ((spent_at g w time l).drop ≡ 0 → ⊥) → cell (row_after g w time l) units j ≡ cell g units j
  drops_none z =
      bare
      ∙ changed g w.partition (spent_at g w time l).units all f.partition (λ x y n. x ≡ y) j
      (sym (add-zero (spent_at g w time l).units) ∙ ap (λ (t : Bool). (spent_at g w time l).units + cond t 1 0) (sym (ne_eqb _ 0 z)) ∙ balance) (λ x. refl)

  sends_one : (spent_at g w time l).drop ≡ 0 → cell (row_after g w time l) units j + cond (eqb j w.partition) 1 0 ≡ cell g units j
  sends_one z =
      ap (λ (x : ℕ). x + cond (eqb j w.partition) 1 0) bare
      ∙ changed g w.partition (spent_at g w time l).units all f.partition (λ x y n. x + n ≡ y) j
      (ap (λ (t : Bool). (spent_at g w time l).units + cond t 1 0) (sym (eq-eqb _ 0 z)) ∙ balance) (λ x. add-zero x)

-- ---- a frame
module _ (buffer g : List ℕ) (port time : ℕ) (bytes : List ℕ) (j : ℕ) (all : length g ≡ cell_count) (h : j < many units) where
  abbrev l : ℕ
  l = octets_of bytes

  own_units : cell (judge_of buffer g port time bytes).row units j + taken_by (image_in buffer) j port bytes (kind_of (judge_of buffer g port time bytes).verdict) ≡ cell g units j
  own_units =
      by_cases buffer g port time bytes (λ (r : Judged). cell r.row units j + taken_by (image_in buffer) j port bytes (kind_of r.verdict) ≡ cell g units j)
      (λ z. add-zero (cell g units j))
      (λ a n e. add-zero _ ∙ units_kept g port time l true a.inside j h)
      (λ a w e f z.
      add-zero _
      ∙ units_kept (row_after g w time l) port time l true a.inside j h
      ∙ drops_none buffer g time l j w a.image f all h z)
      (λ a w e f z.
      ap (λ (x : ℕ). cell (noted (row_after g w time l) port time l false) units j + x) (own w e)
      ∙ ap (λ (x : ℕ). x + cond (eqb j w.partition) 1 0) (units_kept (row_after g w time l) port time l false a.inside j h)
      ∙ sends_one buffer g time l j w a.image f all h z)
    where
      -- the course's partition is PARTITION of the frame's own policing entry
      own : (w : Course) → plan_for (image_in buffer) port bytes ≡ Goes w → unit_of (image_in buffer) j port bytes (enter_of (image_in buffer) port bytes) ≡ cond (eqb j w.partition) 1 0
      own w e =
          let q = goes_by (image_in buffer) port bytes w e in
          ap (unit_of (image_in buffer) j port bytes) q.1.entered
          ∙ ap (λ (x : ℕ). cond (eqb j x) 1 0) (ap (partition (image_in buffer)) (sym q.1.is) ∙ sym q.3)

  abbrev spent_by : List Verdict → ℕ
  spent_by vs = taken_by_all (image_in buffer) j port bytes (map kind_of vs)

  spent_snoc : (vs : List Verdict) (v : Verdict) → spent_by (vs ++ (v ∷ [])) ≡ spent_by vs + taken_by (image_in buffer) j port bytes (kind_of v)
  spent_snoc [] v = add-zero _ ∙ sym (zero-add _)
  spent_snoc (u ∷ vs) v = ap (λ (x : ℕ). taken_by (image_in buffer) j port bytes (kind_of u) + x) (spent_snoc vs v) ∙ sym (add_assoc _ _ _)

  own_length : length (judge_of buffer g port time bytes).row ≡ cell_count
  unfolding noted
  own_length =
      by_cases buffer g port time bytes (λ (r : Judged). length r.row ≡ cell_count) (λ z. all) (λ a n e. simp length-set all) (λ a w e f z. simp length-set all)
      (λ a w e f z. simp length-set all)

  -- each replica takes what it is sent with
  replicas_units : (length (call_of buffer g port time bytes).row ≡ cell_count)
      × (cell (call_of buffer g port time bytes).row units j + spent_by (call_of buffer g port time bytes).replicas ≡ cell (judge_of buffer g port time bytes).row units j)
  replicas_units =
      call_keeps buffer g port time bytes
      (λ vs x. (length x ≡ cell_count) × (cell x units j + spent_by vs ≡ cell (judge_of buffer g port time bytes).row units j))
      (own_length, add-zero _)
      (λ e vlan place priority i.
      let s = (admitted buffer g port time bytes e).image in
      record {
        early = λ vs x v n q k. (k.0, ap (λ (y : ℕ). cell x units j + y) (spent_snoc vs (Drop n) ∙ add-zero _) ∙ k.1);
        dropped =
            λ vs x v w q f z k. (
              simp length-set k.0,
              ap (λ (y : ℕ). cell (row_after x w time l) units j + y) (spent_snoc vs (Drop (spent_at x w time l).drop) ∙ add-zero _)
                  ∙ ap (λ (y : ℕ). y + spent_by vs) (drops_none buffer x time l j w s f k.0 h z)
                  ∙ k.1,
            );
        sent =
            λ vs x v w q f z k. (
              simp length-set k.0,
              ap (λ (y : ℕ). cell (row_after x w time l) units j + y)
                  (spent_snoc vs (Sent w.sending) ∙ ap (λ (y : ℕ). spent_by vs + y) (entry vlan place priority v i w q))
                  ∙ moved (cell (row_after x w time l) units j) (spent_by vs) _ _ (sends_one buffer x time l j w s f k.0 h z)
                  ∙ k.1,
            );
      })
    where
      moved : (x y u v : ℕ) → x + u ≡ v → x + (y + u) ≡ v + y
      moved x y u v e = omega arith

      entry : (vlan place priority v : ℕ) → enter_of (image_in buffer) port bytes ≡ entered.In vlan place priority → (w : Course)
          → replica_plan (image_in buffer) port bytes v priority ≡ Goes w
          → unit_of (image_in buffer) j port bytes (enter_of (image_in buffer) port bytes) ≡ cond (eqb j w.partition) 1 0
      entry vlan place priority v i w q =
          ap (unit_of (image_in buffer) j port bytes) i
          ∙ ap (λ (x : ℕ). cond (eqb j x) 1 0) (sym (replica_by (image_in buffer) port bytes v priority w q).1)

  frame_units : cell (call_of buffer g port time bytes).row units j
      + taken_by_all (image_in buffer) j port bytes (kind_of (call_of buffer g port time bytes).verdict ∷ map kind_of (call_of buffer g port time bytes).replicas)
      ≡ cell g units j
  frame_units =
      ap (λ (v : Verdict). cell (call_of buffer g port time bytes).row units j + (taken_by (image_in buffer) j port bytes (kind_of v) + spent_by (call_of buffer g port time bytes).replicas))
      (own_verdict buffer g port time bytes)
      ∙ join _ _ _ _ _ replicas_units.1 own_units
    where
      join : (x t r m u : ℕ) → x + r ≡ m → m + t ≡ u → x + (t + r) ≡ u
      join x t r m u a b = omega arith

-- ---- a release
release_units : (buffer g : List ℕ) (part j : ℕ) → length g ≡ cell_count
    → cell (released buffer g part) units j ≡ cell g units j + cond (eqb (release_refusal buffer g part) 0) (cond (eqb j part) 1 0) 0
unfolding released
release_units buffer g part j all = go (eqb (release_refusal buffer g part) 0) refl
  where
    go : (t : Bool) → eqb (release_refusal buffer g part) 0 ≡ t → cell (cond t (given_to g part) g) units j ≡ cell g units j + cond t (cond (eqb j part) 1 0) 0
    go true e =
        changed g part (cell g units part + 1) all (releasable buffer g part (eqb-true (release_refusal buffer g part) 0 e)).has.inside (λ x y n. x ≡ y + n) j refl (λ x. sym (add-zero x))
    go false e = sym (add-zero (cell g units j))

-- ---- over what entries permit
module _ {Verdicts Answers Tiles : Type 0} {as_verdict : Called → Verdicts} {as_answer : ℕ → Answers} {as_tile : Asked → Tiles} {buffer : List ℕ}
    {Fresh : Answers → List ℕ → Type 0} {Judge : List ℕ → ℕ → ℕ → List ℕ → Verdicts → List ℕ → Type 0} {Release : List ℕ → ℕ → Answers → List ℕ → Type 0}
    {Tile : List ℕ → ℕ → Tiles → Type 0} (says : AsDefined as_verdict as_answer as_tile buffer Fresh Judge Release Tile) (kinds : Verdicts → List Kind)
    (same : (c : Called) → kinds (as_verdict c) ≡ kind_of c.verdict ∷ map kind_of c.replicas) (done : Answers → Bool) (zero_done : (n : ℕ) → done (as_answer n) ≡ eqb n 0) (j : ℕ) (inside : j < many units) where
  units_one : (g : List ℕ) (e : Event) → Kept (image_in buffer) g
      → cell (step buffer g e) units j + takes kinds (image_in buffer) j e (defined_answer as_verdict as_answer buffer g e)
      ≡ cell g units j + gives done j e (defined_answer as_verdict as_answer buffer g e)
  units_one g (frame port time bytes) k =
      ap (λ (x : List Kind). cell (call_of buffer g port time bytes).row units j + taken_by_all (image_in buffer) j port bytes x) (same (call_of buffer g port time bytes))
      ∙ frame_units buffer g port time bytes j k.all inside
      ∙ sym (add-zero _)
  units_one g (release part) k =
      add-zero _ ∙ release_units buffer g part j k.all
      ∙ ap (λ (t : Bool). cell g units j + cond t (cond (eqb j part) 1 0) 0) (sym (zero_done (release_refusal buffer g part)))

  run_balanced : {es : List Event} {first : Answers} {g z : List ℕ} {said : List (Said Verdicts Answers)} → unloaded buffer ≡ 0 → Fresh first g → Run Judge Release g es said z
      → cell z units j + taken kinds (image_in buffer) j es said ≡ part_spc (image_in buffer) j + returned done j es said
  run_balanced {es} {first} {g} {z} {said} given f r =
      let i = fresh_run_is says given f r in
      let fresh = fresh_of (image_in buffer) in
      ap (λ (x : List ℕ). cell x units j + taken kinds (image_in buffer) j es said) i.1
      ∙ ap (λ (s : List (Said Verdicts Answers)). cell (after buffer fresh es) units j + taken kinds (image_in buffer) j es s) i.0
      ∙ balanced as_verdict as_answer buffer (λ x. cell x units j) (takes kinds (image_in buffer) j) (gives done j) units_one fresh es (fresh_kept (image_in buffer))
      ∙ ap (λ (s : List (Said Verdicts Answers)). cell fresh units j + returned done j es s) (sym i.0)
      ∙ ap (λ (x : ℕ). x + returned done j es said) (fresh_units (image_in buffer) j inside)

-- over any permitted run from a fresh ledger, the units left and those taken are PART_SPC and those given back: what is left is the space less what is out
pub units_left_are_the_space_less_those_out : (buffer : List ℕ) (es : List Event) (g : List ℕ) (said : List (Said (Heard Verdict) Answer)) (z : List ℕ) → Freshened buffer (Ok tt) g
    → RunOf buffer g es said z
    → (j : ℕ)
    → j < many units
    → cell z units j + taken (kinds_of kind_of) (image_in buffer) j es said ≡ part_spc (image_in buffer) j + returned done_of j es said
units_left_are_the_space_less_those_out buffer es g said z fresh run j h =
    run_balanced (as_defined buffer) (kinds_of kind_of) (λ c. ap (λ (ks : List Kind). kind_of c.verdict ∷ ks) (ten_kinds c.replicas)) done_of zero_done j h (not_refused buffer g fresh) fresh run
  where
    zero_done : (n : ℕ) → done_of (answer_of n) ≡ eqb n 0
    zero_done n = by (eqb n 0)
      where
        by : (t : Bool) → done_of (cond t (Ok tt) (Err n)) ≡ t
        by true = refl
        by false = refl

-- and at the entries for C and Rust
pub units_left_are_the_space_less_those_out_flat : (buffer : List ℕ) (es : List Event) (g : List ℕ) (said : List (Said (Heard FlatVerdict) ℕ)) (z : List ℕ) → FreshensFlat buffer 0 g
    → RunFlat buffer g es said z
    → (j : ℕ)
    → j < many units
    → cell z units j + taken (kinds_of kind_flat) (image_in buffer) j es said ≡ part_spc (image_in buffer) j + returned done_flat j es said
units_left_are_the_space_less_those_out_flat buffer es g said z fresh run j h =
    run_balanced (as_defined_flat buffer) (kinds_of kind_flat)
    (λ c. ap (λ (k : Kind). k ∷ map kind_ten (map ten_of c.replicas)) (same_kind c.verdict) ∙ ap (λ (ks : List Kind). kind_of c.verdict ∷ ks) (ten_kinds c.replicas)) done_flat (λ n. refl) j h (sym fresh.number) fresh run
