-- `image::word`: a word of the image is the buffer's.
use Rattle.std.proofs.Common.{rules, sym}
use Rattle.image.specs.LayoutLaws.{get_d_in}
use Rattle.image.proofs.word.Goals as goal

pub returns : goal.returns
returns c = (sym (get_d_in _ _ (search rules)), search rules)
