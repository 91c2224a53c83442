-- What replicas have, as entry after entry is passed.
use Rattle.std.specs.Prelude.{◌≡◌, Bool, Option, Some, None, ok_or, Result, Ok, Err, List, [], ◌∷◌, ℕ, suc, ◌+◌, ◌*◌, ◌<◌, ◌≤◌, length}
use Rattle.std.proofs.Math.Path.{refl, sym}
use Rattle.std.proofs.Common.{◌∙◌, ap, subst, zero-le, add-one, arith, length-append}
use Rattle.std.proofs.Math.Bool.{true, false}
use Rattle.std.specs.Result.{result_ok}
use Rattle.laws.specs.Chain.{hit, pass}
use Rattle.image.specs.Layout.{image_in, count_of}
use Rattle.image.specs.Sound.{Sound}
use Rattle.image.specs.declared.tables.Table.TheVariants.{Retagging}
use Rattle.fields.specs.Fields.{vlan_egr}
use Rattle.frame.specs.Bytes.{octets_of, destination_of}
use Rattle.drops.specs.declared.Dropped.{Dropped}
use Rattle.drops.specs.declared.Dropped.TheVariants.{NoVlan}
use Rattle.drops.specs.Numbers.{number_of, number_in}
use Rattle.plan.specs.declared.enter.Entrant.{Entrant}
use Rattle.plan.specs.Answered.{entered_in}
use Rattle.plan.specs.declared.Arrival.{Arrival}
use Rattle.plan.specs.Arrival.{arrival_of}
use Rattle.plan.specs.Enter.{Entered}
use Rattle.plan.specs.Enter as entered
use Rattle.plan.specs.Steps.{placed_of}
use Rattle.plan.specs.Plan as planned
use Rattle.plan.specs.Plan.{by_policer, plan_of}
use Rattle.plan.specs.Police.{Policed, policed_of}
use Rattle.plan.specs.Sane.{Follows}
use Rattle.plan.proofs.Laws.{follows}
use Rattle.settle.specs.declared.Verdict.{Verdict}
use Rattle.settle.specs.declared.Verdict.TheVariants.{Drop}
use Rattle.settle.specs.Laws.{carries_as, drop_carries}
use Rattle.settle.specs.Settle.{Judged, carried_out, Carries}
use Rattle.places.specs.Places.{put_in}
use Rattle.places.specs.PlacesLaws.{laid_none, laid_more}
use Rattle.replica.specs.Replicating.{Replicating}
use Rattle.replica.specs.Replica.{names, by_policed, planned_by, by_placed, replica_plan, Replicas, replica_on, joined, replicas_to, replicas_in, replicas_of, replicas_for, Replicates}

-- ---- a replica's plan

pub replica_follows : (image : List ℕ) (port : ℕ) (frame : List ℕ) (vlan priority : ℕ) → Follows image (replica_plan image port frame vlan priority)
unfolding replica_plan
replica_follows image port frame vlan priority = go (placed_of image vlan)
  where
    go : (p : Option ℕ) → Follows image (by_placed image port frame vlan priority p)
    go None = tt
    go (Some place) = follows image port frame vlan place priority

-- it is the one by what 7 and 8 answer of the frame
planned_is : (image : List ℕ) (port : ℕ) (frame : List ℕ) (vlan priority : ℕ)
    → planned_by image port (destination_of frame) vlan priority (policed_of image port priority (destination_of frame) (octets_of frame)) ≡ replica_plan image port frame vlan priority
unfolding planned_by replica_plan plan_of
planned_is image port frame vlan priority = go (placed_of image vlan)
  where
    go : (p : Option ℕ)
        → by_policed image port (destination_of frame) vlan priority (policed_of image port priority (destination_of frame) (octets_of frame)) p
        ≡ by_placed image port frame vlan priority p
    go None = refl
    go (Some place) = refl

-- by a place p that a call handed over
pub is_absent : (image g : List ℕ) (port time octets destination vlan priority : ℕ) (q : Policed) (p : Option ℕ) (d : Dropped) → p ≡ placed_of image vlan → p ≡ None
    → Err d ≡ ok_or p NoVlan
    → Carries g time octets (planned_by image port destination vlan priority q) (Drop (number_of d)) g
unfolding planned_by
is_absent image g port time octets destination vlan priority q p d e h o =
    subst (λ (n : ℕ). Carries g time octets (planned_by image port destination vlan priority q) (Drop n) g)
    (sym (ap number_in (o ∙ ap (λ (x : Option ℕ). ok_or x NoVlan) h)))
    (carries_as g time octets _ (planned.Dropped 4) (Drop 4) g (ap (by_policed image port destination vlan priority q) (sym e ∙ h)) (drop_carries g time octets 4))

-- and, where it is one of 07's, by what 7 and 8 answered
pub is_placed : (image g : List ℕ) (port time octets destination vlan priority : ℕ) (q k : Policed) (p : Option ℕ) (place : ℕ) (r : Verdict) (after : List ℕ)
    → p ≡ placed_of image vlan
    → p ≡ Some place
    → q ≡ k
    → Carries g time octets (by_policer image port destination vlan place priority k) r after
    → Carries g time octets (planned_by image port destination vlan priority q) r after
unfolding planned_by
is_placed image g port time octets destination vlan priority q k p place r after e h w =
    carries_as g time octets _ (by_policer image port destination vlan place priority k) r after
    (ap (by_policed image port destination vlan priority q) (sym e ∙ h) ∙ ap (by_policer image port destination vlan place priority) w)

-- of how the frame came, and of what 7 and 8 answered of it; v is the verdict that r was turned into
pub carries_replica : (image g : List ℕ) (port time : ℕ) (frame : List ℕ) (vlan priority : ℕ) (a : Arrival) (q : Policed) (v r : Verdict) (after : List ℕ)
    → v ≡ r
    → a ≡ arrival_of port time frame
    → q ≡ policed_of image a.port priority a.destination a.octets
    → Carries g a.time a.octets (planned_by image a.port a.destination vlan priority q) r after
    → Carries g time (octets_of frame) (replica_plan image port frame vlan priority) v after
carries_replica image g port time frame vlan priority a q v r after is e p c =
    let police = subst (λ (x : Arrival). q ≡ policed_of image x.port priority x.destination x.octets) e p in
    carries_as g time (octets_of frame) _ _ v after (sym (ap (planned_by image port (destination_of frame) vlan priority) police ∙ planned_is image port frame vlan priority))
    (subst (λ (x : Arrival). Carries g x.time x.octets (planned_by image x.port x.destination vlan priority q) v after) e
    (subst (λ (x : Verdict). Carries g a.time a.octets (planned_by image a.port a.destination vlan priority q) x after) (sym is) c))

-- ---- entry after entry

module _ (image g : List ℕ) (port time : ℕ) (frame : List ℕ) (vlan priority : ℕ) where
  -- an entry that names the frame's VLAN and port yields one more
  pub to_more : (n : ℕ) → names image port vlan n ≡ true
      → replicas_to image g port time frame vlan priority (suc n)
      ≡ joined image g port time frame vlan priority (replicas_to image g port time frame vlan priority n)
      (replica_on image g port time frame vlan priority (replicas_to image g port time frame vlan priority n).row (vlan_egr image n))
  unfolding replicas_to
  to_more n e = sym (hit true (names image port vlan n) _ _ (sym e) refl)

  -- another yields nothing
  pub to_same : (n : ℕ) → names image port vlan n ≡ false → replicas_to image g port time frame vlan priority (suc n) ≡ replicas_to image g port time frame vlan priority n
  unfolding replicas_to
  to_same n e = sym (pass false (names image port vlan n) _ _ _ (sym e) refl refl)

-- there is a place for each: 12 has at most 32 entries
pub few_entries : (buffer : List ℕ) (entries : ℕ) → Sound buffer → entries ≡ count_of (image_in buffer) Retagging → entries ≤ 32
few_entries buffer entries s e = subst (λ (k : ℕ). k ≤ 32) (sym e) (s.within.within Retagging)

pub place_left : (before places entries n i : ℕ) → n ≤ i → i < entries → entries ≤ 32 → places ≡ before → 320 ≤ before → 10 * n + 10 ≤ places
place_left before places entries n i f h most same room = omega arith

-- ---- the loop over the entries: nothing yet, one more, an entry that names another, and all

module _ {image g : List ℕ} {port time : ℕ} {frame : List ℕ} {vlan priority : ℕ} {before : List ℕ} where
  pub replicating_none : (entries : ℕ) → Replicating image g port time frame vlan priority before g before entries 0 0
  unfolding replicas_to
  replicating_none entries =
      record { within = zero-le; few = zero-le; same = refl; so_far = record { many = refl; left = refl; laid = laid_none before } }

  pub replicating_more : (row places next after x y : List ℕ) (entries n i m j egress : ℕ) (v : Verdict) (named : Bool)
      → Replicating image g port time frame vlan priority before row places entries n i
      → i < entries
      → entries ≤ 32
      → 320 ≤ length before
      → named ≡ names image port vlan i
      → named ≡ true
      → egress ≡ vlan_egr image i
      → Carries row time (octets_of frame) (replica_plan image port frame egress priority) v next
      → after ≡ put_in places n v
      → length after ≡ length places
      → x ≡ next
      → y ≡ after
      → m ≡ n + 1
      → j ≡ i + 1
      → Replicating image g port time frame vlan priority before x y entries m j
  replicating_more row places next after x y entries n i m j egress v named r h most room q t e c put same x-is y-is m-is j-is =
      subst (λ (k : List ℕ). Replicating image g port time frame vlan priority before k y entries m j) (sym x-is)
      (subst (λ (k : List ℕ). Replicating image g port time frame vlan priority before next k entries m j) (sym y-is)
      record {
        within = omega (arith, j-is, h);
        few = let f = r.few in omega (arith, m-is, j-is, f);
        same = same ∙ r.same;
        so_far =
            subst (λ (k : ℕ). Replicates (replicas_to image g port time frame vlan priority k) before m next after) (sym (j-is ∙ add-one i))
            (subst (λ (x : Replicas). Replicates x before m next after) (sym (to_more image g port time frame vlan priority i (sym q ∙ t)))
            record {
              many = let l = length-append (replicas_to image g port time frame vlan priority i).verdicts (own.verdict ∷ []) in let k = r.so_far.many in omega (arith, m-is, l, k);
              left = c.row ∙ ap (λ (k : Judged). k.row) is;
              laid =
                  laid_more (replicas_to image g port time frame vlan priority i).verdicts before places after n own.verdict r.so_far.laid r.so_far.many
                  (let f = r.few in omega (arith, h, most, room, f))
                  (put ∙ ap (put_in places n) (c.verdict ∙ ap (λ (k : Judged). k.verdict) is));
            });
      })
    where
      own : Judged
      own = replica_on image g port time frame vlan priority (replicas_to image g port time frame vlan priority i).row (vlan_egr image i)

      is : carried_out row time (octets_of frame) (replica_plan image port frame egress priority) ≡ own
      is =
          ap (λ (x : List ℕ). carried_out x time (octets_of frame) (replica_plan image port frame egress priority)) r.so_far.left
          ∙ ap (λ (x : ℕ). carried_out (replicas_to image g port time frame vlan priority i).row time (octets_of frame) (replica_plan image port frame x priority)) e

  pub replicating_same : (row places next after : List ℕ) (entries n i m j : ℕ) (named : Bool)
      → Replicating image g port time frame vlan priority before row places entries n i
      → i < entries
      → named ≡ names image port vlan i
      → named ≡ false
      → next ≡ row
      → after ≡ places
      → m ≡ n
      → j ≡ i + 1
      → Replicating image g port time frame vlan priority before next after entries m j
  replicating_same row places next after entries n i m j named r h e t q p m-is j-is =
      record {
        within = omega (arith, j-is, h);
        few = let f = r.few in omega (arith, m-is, j-is, f);
        same = ap length p ∙ r.same;
        so_far =
            subst (λ (k : ℕ). Replicates (replicas_to image g port time frame vlan priority k) before m next after) (sym (j-is ∙ add-one i))
            (subst (λ (x : Replicas). Replicates x before m next after) (sym (to_same image g port time frame vlan priority i (sym e ∙ t)))
            record { many = m-is ∙ r.so_far.many; left = q ∙ r.so_far.left; laid = p ∙ r.so_far.laid });
      }

  pub replicating_end : (row places : List ℕ) (entries n i : ℕ) → Replicating image g port time frame vlan priority before row places entries n i
      → entries ≤ i
      → entries ≡ count_of image Retagging
      → Replicates (replicas_in image g port time frame vlan priority) before n row places
  replicating_end row places entries n i r h e =
      subst (λ (k : ℕ). Replicates (replicas_to image g port time frame vlan priority k) before n row places) (let w = r.within in omega (arith, w, h, e)) r.so_far

-- no entry at all
pub replicating_no : (image g : List ℕ) (port time : ℕ) (frame : List ℕ) (vlan priority : ℕ) (before : List ℕ) (entries : ℕ) → entries ≡ count_of image Retagging → entries ≡ 0
    → Replicates (replicas_in image g port time frame vlan priority) before 0 g before
replicating_no image g port time frame vlan priority before entries e z = replicating_end g before 0 0 0 (replicating_none 0) zero-le (sym z ∙ e)

-- ---- by what steps 1 to 6 answered

-- the code's answer to them, with its drop left out
pub for_entered : (image g : List ℕ) (port time : ℕ) (frame : List ℕ) (e : Result Entrant Dropped)
    → replicas_for image g port time frame (result_ok e) ≡ replicas_of image g port time frame (entered_in e)
for_entered image g port time frame (Ok x) = refl
for_entered image g port time frame (Err d) = refl

pub none_of : (image g : List ℕ) (port time : ℕ) (frame : List ℕ) (q : Entered) (n : ℕ) (before : List ℕ) → q ≡ entered.Dropped n
    → Replicates (replicas_of image g port time frame q) before 0 g before
none_of image g port time frame q n before e =
    subst (λ (x : Entered). Replicates (replicas_of image g port time frame x) before 0 g before) (sym e) record { many = refl; left = refl; laid = laid_none before }

pub all_of : (image g : List ℕ) (port time : ℕ) (frame : List ℕ) (q : Entered) (vlan place priority : ℕ) (before : List ℕ) (n : ℕ) (row after : List ℕ)
    → q ≡ entered.In vlan place priority
    → Replicates (replicas_in image g port time frame vlan priority) before n row after
    → Replicates (replicas_of image g port time frame q) before n row after
all_of image g port time frame q vlan place priority before n row after e r =
    subst (λ (x : Entered). Replicates (replicas_of image g port time frame x) before n row after) (sym e) r
