use Rattle.std.proofs.Common.{◌≡◌, refl, false, List, ℕ, ◌+◌, ◌-◌, ◌%◌, ◌<◌, ◌≤◌, Option, Some, None, sym, subst, zero-le, mod-lt, pow_pos, arith}
use Rattle.laws.specs.Scan.{some_below, least}
use Rattle.image.specs.Layout.{image_in}
use Rattle.fields.specs.Fields.{index}
use Rattle.lookup.specs.Found.{found}
use Rattle.lookup.specs.FoundLaws.{none_found, some_found}
use Rattle.lookup.specs.Groups.{from}
use Rattle.addresses.specs.Address.{like_address, matches}
use Rattle.addresses.specs.Leading.{Leading, Kept}
use Rattle.addresses.specs.LeadingLaws.{none_match}
use Rattle.addresses.specs.LeastLaws.{leads_none, leads_up_to}
use Rattle.addresses.specs.declared.Best.{Best}
use Rattle.addresses.proofs.destination.Goals as goal

-- the entries that are passed over do not match
further : (image : List ℕ) (vlan mac i r : ℕ) (best : Best) → i ≤ r → Kept image vlan mac i best
    → some_below (r - i) (from i (like_address image (mac % 268435456))) ≡ false
    → Kept image vlan mac r best
further image vlan mac i r best l h none = leads_up_to i r l (λ j. mod-lt _ (pow_pos 10)) h (none_match image vlan mac (mac % 268435456) i (r - i) refl none)

pub loop-group-init : goal.loop-group-init
loop-group-init c = (zero-le, leads_none _ _ _ _)

pub best_from_group-best-requires-clause-so_far : goal.best_from_group-best-requires-clause-so_far
best_from_group-best-requires-clause-so_far c = let s = c.new-search.result in
    let g = c.in-Some in
    further (image_in s.image.now) s.vlan s.mac c.loop-group.passed g.group.start c.loop-group.best g.ensures.0 c.loop-group.invariant.1 g.ensures.3

pub loop-group-preserved : goal.loop-group-preserved
loop-group-preserved c = let s = c.new-search.result in
    let g = c.in-Some in
    let whole : g.group.start + (g.group.end - g.group.start) ≡ g.group.end = omega (arith, g.ensures.1) in (
      g.ensures.2,
      subst (λ (n : ℕ). Kept (image_in s.image.now) s.vlan s.mac n c.best_from_group-best.result) whole c.best_from_group-best.ensures,
    )

-- what is left behind the groups is passed over too
pub held-requires : goal.held-requires
held-requires c = let s = c.new-search.result in
    let l = c.loop-group in
    further (image_in s.image.now) s.vlan s.mac l.passed s.len l.best l.invariant.0 l.invariant.1 c.in_default.ensures

-- what the search holds at its end is what it answers
module _ (image : List ℕ) (vlan mac n : ℕ) (best : Option Best) (h : Leading image vlan mac n best) where
  without : best ≡ None → None ≡ found n (least n (matches image vlan mac) (index image))
  without q = none_found n _ (subst (Leading image vlan mac n) q h)

  with : (b : Best) → best ≡ Some b → Some b.entry ≡ found n (least n (matches image vlan mac) (index image))
  with b q = let w = subst (Leading image vlan mac n) q h in some_found n _ b.entry (sym w.0) w.1

pub returns-in_err-best-clause-place : goal.returns-in_err-best-clause-place
returns-in_err-best-clause-place c = let t = c.new-search.ensures in
    let s = c.new-search.result in
    let answer = without (image_in s.image.now) s.vlan s.mac s.len c.held.result c.held.ensures c.in_err-best.was in
    cc (t.0, t.1, t.2, t.3, answer, c.from_residual.ensures)

pub returns-clause-place : goal.returns-clause-place
returns-clause-place c = let t = c.new-search.ensures in
    let s = c.new-search.result in
    let answer = with (image_in s.image.now) s.vlan s.mac s.len c.held.result c.held.ensures c.in_ok-best.best c.in_ok-best.was in
    cc (t.0, t.1, t.2, t.3, answer)
