use Rattle.std.proofs.Common.{◌≡◌, false, ℕ, Bool, ◌-◌, sym, ◌∙◌, ap, le_refl, arith}
use Rattle.laws.specs.Scan.{some_below}
use Rattle.laws.specs.ScanLaws.{some_none}
use Rattle.image.specs.Layout.{image_in}
use Rattle.lookup.specs.Groups.{from, like}
use Rattle.lookup.specs.GroupsLaws.{none_further, not_none}
use Rattle.lookup.proofs.groups.passed.Goals as goal

none_here : (p : ℕ → Bool) (i : ℕ) → some_below (i - i) (from i p) ≡ false
none_here p i = ap (λ (k : ℕ). some_below k (from i p)) nothing ∙ some_none (from i p)
  where
    nothing : i - i ≡ 0
    nothing = omega arith

pub loop-start-init : goal.loop-start-init
loop-start-init g c = (le_refl c.args.i, c.requires.count.1, none_here (like (g.C.Column.number (image_in c.args.image.now)) c.args.key) c.args.i)

pub loop-start-preserved : goal.loop-start-preserved
loop-start-preserved g c = let l = c.loop-start in (
  omega arith,
  omega arith,
  none_further (like (g.C.Column.number (image_in c.args.image.now)) c.args.key) c.args.i l.start 16 l.invariant.0 l.invariant.2 (not_none _ (sym c.none_has.ensures ∙ c.if-none_has.true)),
)
