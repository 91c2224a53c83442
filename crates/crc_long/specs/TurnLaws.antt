-- A word looked up in its table leaves what the definition leaves.
use Rattle.std.specs.Prelude.{◌≡◌, List, ℕ, ◌+◌, ◌*◌, ◌/◌, ◌%◌, ◌^◌, ◌<◌, get_or}
use Rattle.std.proofs.Common.{sym, ap₂, ◌∙◌, arith, zero-add}
use Rattle.std.specs.Int.Bits.{bit_xor}
use Rattle.crc.specs.Crc.{bits_out}
use Rattle.crc.proofs.Laws.{bits_out_bytes}
use Rattle.crc_table.specs.Table.{entry, IsTable}
use Rattle.crc_long.specs.Turn.{looked}

-- an entry of row j
row : (n : ℕ) (l : List ℕ) → IsTable n l → (j b : ℕ) → j < 4 → b < 256 → get_or l (256 * j + b) 0 ≡ bits_out (32 * n + 8 * (j + 1)) b
unfolding entry
row n l t j b g h = t.at (256 * j + b) (omega arith) ∙ ap₂ bits_out (omega arith) (omega arith)

pub looked_bits : (n : ℕ) (l : List ℕ) (w : ℕ) → IsTable n l → w < 2 ^ 32 → looked l w ≡ bits_out (32 * n + 32) w
unfolding looked
looked_bits n l w t h =
    ap₂ bit_xor
    (ap₂ bit_xor
    (ap₂ bit_xor (row n l t 3 (w % 256) (omega arith) (omega arith)) (row n l t 2 (w / 256 % 256) (omega arith) (omega arith)))
    (row n l t 1 (w / 65536 % 256) (omega arith) (omega arith)))
    (rw zero-add at (row n l t 0 (w / 16777216) (omega arith) (omega arith)))
    ∙ sym (bits_out_bytes (32 * n) w h)
