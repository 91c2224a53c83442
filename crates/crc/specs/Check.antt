-- Values of CRC-32 that others publish, computed from the definition: they hold its polynomial, its start, its end and its order of bytes and bits.
use Rattle.std.specs.Prelude.{◌≡◌, refl, [], ◌∷◌}
use Rattle.crc.specs.Crc.{bit, bits_out, byte_in, bytes_in, bytes_of, word_in, words_in, start, finished, checksum}

-- the check value of CRC-32: of the nine bytes of ASCII 123456789
pub check_value : finished (bytes_in start (0x31 ∷ 0x32 ∷ 0x33 ∷ 0x34 ∷ 0x35 ∷ 0x36 ∷ 0x37 ∷ 0x38 ∷ 0x39 ∷ [])) ≡ 0xCBF4_3926
unfolding bit bits_out byte_in bytes_in finished
check_value = refl

-- ASCII 12345678 as two words: the first byte of each stands lowest
pub check_words : checksum (0x3433_3231 ∷ 0x3837_3635 ∷ []) ≡ 0x9AE0_DAAF
unfolding bit bits_out byte_in bytes_in bytes_of word_in words_in finished checksum
check_words = refl
