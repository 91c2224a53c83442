-- What a stream is refused with for what it is as a whole, by its number (document 01, "Numbers for a refused load").
use Rattle.std.specs.Prelude.{ℕ}
use Rattle.stream.specs.declared.Fault.{Fault}
use Rattle.stream.specs.declared.Fault.TheVariants.{WrongDevice, HeaderSum, DataSum, StreamSum, PartialWord, CutShort}

-- 1 "word 0 differs"; 2 "header checksum wrong"; 7 "data checksum wrong"; 8 "global checksum wrong"; 9 "byte input not a multiple of 4 long";
-- 10 "words end before the end block is complete"
abbrev pub fault_number : Fault → ℕ
fault_number WrongDevice = 1
fault_number HeaderSum = 2
fault_number DataSum = 7
fault_number StreamSum = 8
fault_number PartialWord = 9
fault_number CutShort = 10
