-- `image::parameters::part_spc`: ten bits, whichever j.
use Rattle.std.proofs.Common.{subst, ℕ, ◌^◌, ◌<◌, arith}
use Rattle.fields.proofs.parameters.part_spc.Goals as goal

pub returns : goal.returns
returns c = (c.field.ensures.0, subst (λ (k : ℕ). c.field.result < 2 ^ k) {y = 10} (omega arith) c.field.ensures.1)
