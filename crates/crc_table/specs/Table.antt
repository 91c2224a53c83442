-- The tables of CRC-32 by four words a turn: one for each place of a word in the turn, known by the words that follow it there.
use Rattle.std.specs.Prelude.{◌≡◌, List, ℕ, ◌+◌, ◌*◌, ◌/◌, ◌%◌, ◌<◌, get_or}
use Rattle.crc.specs.Crc.{bits_out}

-- entry 256 j + b, in the table of a word that n words follow: what the byte b leaves of itself in the register,
-- j bytes of its own word and n words after it
unfoldable pub entry : ℕ → ℕ → ℕ
entry n i = bits_out (32 * n + 8 * (i / 256 + 1)) (i % 256)

-- the list is the table of a word that n words follow
pub record IsTable (n : ℕ) (l : List ℕ) : Type 0 where
  pub at : (i : ℕ) → i < 1024 → get_or l i 0 ≡ entry n i
