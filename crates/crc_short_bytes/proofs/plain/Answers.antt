-- `crc_short_bytes::plain` meets its contract: the two halves are what the two runs of the plain loop give.
use Rattle.std.proofs.Common.{ap₂, ◌∙◌, ℕ, ◌+◌, ◌*◌, ◌^◌}
use Rattle.crc_short_bytes.specs.TwiceLaws.{twice_of}
use Rattle.crc_short_bytes.proofs.plain.Goals as goal

pub returns : goal.returns
returns c = ap₂ (λ (h z : ℕ). h * 2 ^ 32 + z) c.from.ensures c.from-2.ensures ∙ twice_of _ _ _ c.bits_out-late.ensures c.bits_out-z.ensures
