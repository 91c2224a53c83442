-- `crc_table::Tables::new` meets its contract: one test for each table, computed over the whole of it.
use Rattle.std.proofs.Common.{refl}
use Rattle.crc.specs.Crc.{bit, bits_out}
use Rattle.crc_table.specs.TestLaws.{is_table}
use Rattle.crc_table.proofs.Tables.new.Goals as goal

pub returns : goal.returns
unfolding bit bits_out
returns c = record { first = is_table 3 _ tt refl; second = is_table 2 _ tt refl; third = is_table 1 _ tt refl; last = is_table 0 _ tt refl }
