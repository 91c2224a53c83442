-- `crc::word_in` meets its contract: four bytes that go in are thirty-two bits that leave.
use Rattle.std.proofs.Common.{sym, ◌∙◌, rules}
use Rattle.crc.proofs.Laws.{word_in_bits}
use Rattle.crc.proofs.word_in.Goals as goal

pub returns : goal.returns
returns c = c.bits_out.ensures ∙ sym (word_in_bits c.args.r c.args.w (search rules))
