-- `crc_long::Long::others` meets its contract: each word by the table of its place.
use Rattle.std.proofs.Common.{ap₂, bit_xor}
use Rattle.crc.specs.Four.{rest}
use Rattle.crc_long.proofs.Long.others.Goals as goal

pub returns : goal.returns
unfolding rest
returns c = let t = c.args.self.now.are_tables in
    ap₂ bit_xor (ap₂ bit_xor (c.look.ensures 2 t.two) (c.look-2.ensures 1 t.three)) (c.look-3.ensures 0 t.four)
