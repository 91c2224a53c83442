-- That a frame which steps 1 to 6 let in has it.
use Rattle.std.specs.Prelude.{◌≡◌, refl, Bool, true, false, cond, Option, Some, None, ok_or, Ok, Err, List, ℕ, ◌<◌, ◌≤◌, eqb, length}
use Rattle.std.proofs.Common.{sym, ◌∙◌, ap, subst, arith}
use Rattle.std.proofs.lemmas.Bool.{eqb-false}
use Rattle.laws.specs.Chain.{at_zero, not_zero}
use Rattle.laws.specs.ScanLaws.{first_within}
use Rattle.image.specs.Layout.{count_of}
use Rattle.image.specs.declared.tables.Table.TheVariants.{VlanLookup}
use Rattle.fields.specs.Fields.{vlanid}
use Rattle.lookup.specs.Vlan.{vlan_at}
use Rattle.drops.specs.declared.Dropped.{Dropped}
use Rattle.drops.specs.declared.Dropped.TheVariants.{NoVlan}
use Rattle.drops.specs.Numbers.{number_in}
use Rattle.frame.specs.declared.Received.{Received}
use Rattle.frame.specs.Bytes.{source_of}
use Rattle.frame.specs.Intake as intake
use Rattle.frame.specs.Intake.{Intake, intake_of}
use Rattle.frame.specs.Answered.{intake_in}
use Rattle.frame.specs.Whole.{Whole}
use Rattle.frame.specs.Laws.{whole}
use Rattle.plan.specs.Steps.{placed_of, kept_out}
use Rattle.plan.specs.Enter as entered
use Rattle.plan.specs.Enter.{Entered, by_place, by_intake, enter_of}
use Rattle.plan.specs.Answered.{entered_in}
use Rattle.plan.specs.LetIn.{Inside, Through}

pub inside : (image : List ℕ) (vlan : ℕ) → Inside image (placed_of image vlan)
unfolding placed_of
inside image vlan = by (eqb (vlan_at image vlan) (count_of image VlanLookup)) refl
  where
    less : (a n : ℕ) → a ≤ n → (a ≡ n → ⊥) → a < n
    less a n h e = omega arith

    by : (t : Bool) → t ≡ eqb (vlan_at image vlan) (count_of image VlanLookup) → Inside image (cond t None (Some (vlan_at image vlan)))
    by true e = tt
    by false e = less _ _ (first_within (count_of image VlanLookup) (λ i. eqb (vlanid image i) vlan)) (eqb-false _ _ (sym e))

-- a place q that was matched, and a number n that 5 and 6 come to with the source that was read: it drops the frame, or does not
module _ (image : List ℕ) (port : ℕ) (frame : List ℕ) (vlan priority : ℕ) (tagged : Bool) (q : Option ℕ) (place source n : ℕ) where
  pub is_kept_out : q ≡ Some place → source ≡ source_of frame → n ≡ kept_out image port vlan tagged source place → (n ≡ 0 → ⊥)
      → entered.Dropped n ≡ by_place image port frame vlan priority tagged q
  is_kept_out e h k z = rw e (let is = k ∙ ap (λ (x : ℕ). kept_out image port vlan tagged x place) h in not_zero n _ _ _ _ is z (ap entered.Dropped is))

  pub is_let_in : q ≡ Some place → source ≡ source_of frame → n ≡ kept_out image port vlan tagged source place → n ≡ 0
      → entered.In vlan place priority ≡ by_place image port frame vlan priority tagged q
  is_let_in e h k z = rw e (at_zero n _ _ _ _ (k ∙ ap (λ (x : ℕ). kept_out image port vlan tagged x place) h) z refl)

-- a frame r that was taken in, and the answer q of 4 to it: it drops the frame, or its place is one of 07's
module _ (image : List ℕ) (port : ℕ) (frame : List ℕ) (r : Received) (q : Option ℕ) (taken : intake_in (Ok r) ≡ intake_of image port frame) (found : q ≡ placed_of image r.vlan) where
  by_its_place : by_place image port frame r.vlan r.priority r.tagged q ≡ enter_of image port frame
  unfolding enter_of
  by_its_place = ap (by_place image port frame r.vlan r.priority r.tagged) found ∙ ap (by_intake image port frame) taken

  pub is_absent : (d : Dropped) → Err d ≡ ok_or q NoVlan → q ≡ None → entered_in (Err d) ≡ enter_of image port frame
  is_absent d o e =
      ap entered.Dropped (ap number_in (o ∙ ap (λ (x : Option ℕ). ok_or x NoVlan) e)) ∙ ap (by_place image port frame r.vlan r.priority r.tagged) (sym e) ∙ by_its_place

  pub is_there : (place : ℕ) → q ≡ Some place → (60 ≤ length frame) × (place < count_of image VlanLookup)
  is_there place e = ((subst (Whole frame) (sym taken) (whole image port frame)).0, subst (Inside image) (sym found ∙ e) (inside image r.vlan))

  -- a number n that 5 and 6 come to with the source that was read: it drops the frame, or does not
  module _ (place source n : ℕ) (at : q ≡ Some place) (source_is : source ≡ source_of frame) (n_is : n ≡ kept_out image port r.vlan r.tagged source place) where
    number_is : n ≡ kept_out image port r.vlan r.tagged (source_of frame) place
    number_is = n_is ∙ ap (λ (x : ℕ). kept_out image port r.vlan r.tagged x place) source_is

    pub kept_out_is : (n ≡ 0 → ⊥) → entered.Dropped n ≡ enter_of image port frame
    kept_out_is z = not_zero n _ _ _ _ number_is z (ap entered.Dropped number_is) ∙ ap (by_place image port frame r.vlan r.priority r.tagged) (sym at) ∙ by_its_place

    pub let_in_is : n ≡ 0 → entered.In r.vlan place r.priority ≡ enter_of image port frame
    let_in_is z = at_zero n _ _ _ _ number_is z refl ∙ ap (by_place image port frame r.vlan r.priority r.tagged) (sym at) ∙ by_its_place

pub through : (image : List ℕ) (port : ℕ) (frame : List ℕ) → Through image frame (enter_of image port frame)
unfolding enter_of
through image port frame = by_intake_lem (intake_of image port frame) (whole image port frame)
  where
    known : (vlan priority place : ℕ) (out : ℕ) → 60 ≤ length frame → priority < 8 → place < count_of image VlanLookup → (t : Bool)
        → Through image frame (cond t (entered.In vlan place priority) (entered.Dropped out))
    known vlan priority place out long narrow h true = record { long = long; there = h; narrow = narrow }
    known vlan priority place out long narrow h false = tt

    by_place_lem : (vlan priority : ℕ) (tagged : Bool) → 60 ≤ length frame → priority < 8 → (q : Option ℕ) → Inside image q
        → Through image frame (by_place image port frame vlan priority tagged q)
    by_place_lem vlan priority tagged long narrow None h = tt
    by_place_lem vlan priority tagged long narrow (Some place) h =
        known vlan priority place (kept_out image port vlan tagged (source_of frame) place) long narrow h (eqb (kept_out image port vlan tagged (source_of frame) place) 0)

    by_intake_lem : (q : Intake) → Whole frame q → Through image frame (by_intake image port frame q)
    by_intake_lem (intake.Dropped n) h = tt
    by_intake_lem (intake.Taken vlan priority tagged) h = by_place_lem vlan priority tagged h.0 h.1 (placed_of image vlan) (inside image vlan)
