-- What pins the definitions: 39's bounds on octets at their edges, and that a buffer's rest has no part in what refuses a call.
use Rattle.std.specs.Prelude.{◌≡◌, ℕ, Bool, true, false, cond, List, ◌==◌, refl}
use Rattle.std.proofs.Common.{◌∙◌}
use Rattle.std.proofs.Math.Path.{ap}
use Rattle.image.specs.Layout.{image_in}
use Rattle.image.specs.Loaded.{too_short, not_loaded}
use Rattle.ledger.specs.Range.{octets_off, counts_off, out_of_range, unloaded, standing}

-- octets of one frame: from 4 to 4,100, both included
pub octets_3 : octets_off 1 3 ≡ true
unfolding octets_off
octets_3 = refl

pub octets_4 : octets_off 1 4 ≡ false
unfolding octets_off
octets_4 = refl

pub octets_4100 : octets_off 1 4100 ≡ false
unfolding octets_off
octets_4100 = refl

pub octets_4101 : octets_off 1 4101 ≡ true
unfolding octets_off
octets_4101 = refl

-- more drops than frames, and dropped octets above octets
pub drops_over : counts_off 1 2 100 100 ≡ true
drops_over = refl

pub dropped_over : counts_off 2 1 100 101 ≡ true
unfolding octets_off
dropped_over = refl

-- ---- a buffer's rest has no part in it: two buffers that are both long enough, or both too short, with one image, get one outcome
module _ (a b : List ℕ) (long : too_short a ≡ too_short b) (image : image_in a ≡ image_in b) where
  same_unloaded : unloaded a ≡ unloaded b
  unfolding unloaded
  same_unloaded =
      ap (λ (t : Bool). cond t 31 (cond (not_loaded (image_in a)) 30 0)) long ∙ ap (λ (i : List ℕ). cond (too_short b) 31 (cond (not_loaded i) 30 0)) image

  pub same_standing : (g : List ℕ) → standing a g ≡ standing b g
  unfolding standing
  same_standing g =
      ap (λ (n : ℕ). cond (n == 0) (cond (out_of_range (image_in a) g) 39 0) n) same_unloaded
      ∙ ap (λ (i : List ℕ). cond (unloaded b == 0) (cond (out_of_range i g) 39 0) (unloaded b)) image
