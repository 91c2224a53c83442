-- What refuses a call with a ledger, and the number that document 01 gives it.
use Rattle.std.specs.Prelude.{ℕ, Result, Ok, Err}
use Rattle.ledger.specs.declared.refusal.Refusal.{Refusal}
use Rattle.ledger.specs.declared.refusal.Refusal.TheVariants.{ImageNotLoaded, BufferTooShort, NoSuchPort, Mistimed, FrameTooLong, NoSuchPartition, NothingOut, TooManyFrames, LedgerOutOfRange}

abbrev pub number_of : Refusal → ℕ
number_of ImageNotLoaded = 30
number_of BufferTooShort = 31
number_of NoSuchPort = 33
number_of Mistimed = 34
number_of FrameTooLong = 35
number_of NoSuchPartition = 36
number_of NothingOut = 37
number_of TooManyFrames = 38
number_of LedgerOutOfRange = 39

-- 0 where nothing refuses
abbrev pub refused_by : {T : Type 0} → Result T Refusal → ℕ
refused_by (Ok done) = 0
refused_by (Err refusal) = number_of refusal
