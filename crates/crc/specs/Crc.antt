-- CRC-32 as IEEE 802.3 (clause 3.2.9) defines it, bit by bit, over bytes and over 32-bit words with the low byte first (document 01, the checksums of a stream).
-- A register is a number below 2^32 whose lowest bit is the next to leave: the standard's polynomial stands reflected.
use Rattle.std.specs.Prelude.{List, [], ◌∷◌, ℕ, zero, suc, ◌*◌, ◌/◌, ◌%◌}
use Rattle.std.specs.Int.Bits.{bit_xor}

-- one bit leaves the register: a one takes the polynomial x^32 + x^26 + x^23 + .. + x + 1 (04C11DB7, reflected) off the rest
unfoldable pub bit : ℕ → ℕ
bit r = bit_xor (r % 2 * 0xEDB8_8320) (r / 2)

-- k bits leave the register
unfoldable pub bits_out : ℕ → ℕ → ℕ
bits_out zero r = r
bits_out (suc k) r = bits_out k (bit r)

-- a byte goes in: its bits meet the register's lowest eight, which leave, the low bit first
unfoldable pub byte_in : ℕ → ℕ → ℕ
byte_in r b = bits_out 8 (bit_xor r b)

-- bytes go in, one after the other
unfoldable pub bytes_in : ℕ → List ℕ → ℕ
bytes_in r [] = r
bytes_in r (b ∷ bs) = bytes_in (byte_in r b) bs

-- the four bytes of a word, the low byte first
unfoldable pub bytes_of : ℕ → List ℕ
bytes_of w = w % 256 ∷ w / 256 % 256 ∷ w / 65536 % 256 ∷ w / 16777216 % 256 ∷ []

-- a word goes in
unfoldable pub word_in : ℕ → ℕ → ℕ
word_in r w = bytes_in r (bytes_of w)

-- words go in, one after the other
unfoldable pub words_in : ℕ → List ℕ → ℕ
words_in r [] = r
words_in r (w ∷ ws) = words_in (word_in r w) ws

-- the register before the first byte: all ones
abbrev pub start : ℕ
start = 0xFFFF_FFFF

-- the checksum that a register stands for: its complement
unfoldable pub finished : ℕ → ℕ
finished r = bit_xor r 0xFFFF_FFFF

-- the checksum of words
unfoldable pub checksum : List ℕ → ℕ
checksum ws = finished (words_in start ws)
