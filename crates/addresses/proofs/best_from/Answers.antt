use Rattle.std.proofs.Common.{◌≡◌, ℕ, ◌+◌, sym, subst, add-zero, le_antisymm, arith}
use Rattle.image.specs.Layout.{image_in}
use Rattle.addresses.specs.Leading.{Kept}
use Rattle.addresses.proofs.best_from.Goals as goal

-- one entry more
next : (i k : ℕ) → i + k + 1 ≡ i + (k + 1)
next i k = omega arith

pub loop-k-init : goal.loop-k-init
loop-k-init c = let s = c.args.search.now in
    subst (λ (n : ℕ). Kept (image_in s.image.now) s.vlan s.mac n c.args.best) (sym (add-zero c.args.i)) c.requires.so_far

pub loop-k-preserved : goal.loop-k-preserved
loop-k-preserved c = let s = c.args.search.now in
    subst (λ (n : ℕ). Kept (image_in s.image.now) s.vlan s.mac n c.better-best.result) (next c.args.i c.loop-k.k) c.better-best.ensures

pub returns : goal.returns
returns c = let s = c.args.search.now in
    subst (λ (k : ℕ). Kept (image_in s.image.now) s.vlan s.mac (c.args.i + k) c.loop-k.best) (le_antisymm c.loop-k.auto.k-end c.loop-k-test.false) c.loop-k.invariant
