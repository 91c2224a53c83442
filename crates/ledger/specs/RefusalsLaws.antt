-- Laws of a refusal's number: it is not 0, and a call hands it on.
use Rattle.std.specs.Prelude.{◌≡◌, ℕ, Result, Ok, Err, IsErrAnd}
use Rattle.std.proofs.Common.{ap}
use Rattle.ledger.specs.declared.refusal.Refusal.{Refusal}
use Rattle.ledger.specs.declared.refusal.Refusal.TheVariants.{ImageNotLoaded, BufferTooShort, NoSuchPort, Mistimed, FrameTooLong, NoSuchPartition, NothingOut, TooManyFrames, LedgerOutOfRange}
use Rattle.ledger.specs.Refusals.{number_of, refused_by}

pub refused : (r : Refusal) → number_of r ≡ 0 → ⊥
refused ImageNotLoaded e = cc
refused BufferTooShort e = cc
refused NoSuchPort e = cc
refused Mistimed e = cc
refused FrameTooLong e = cc
refused NoSuchPartition e = cc
refused NothingOut e = cc
refused TooManyFrames e = cc
refused LedgerOutOfRange e = cc

-- a refusal that a call handed over is handed on
pub handed_on : {T : Type 0} (r : Result T Refusal) (e : Refusal) → IsErrAnd r (λ f. f ≡ e) → refused_by r ≡ number_of e
handed_on (Ok x) e h = absurd h
handed_on (Err f) e h = ap number_of h

-- and its number, where that is what is handed on
pub handed_as : {T : Type 0} (r : Result T ℕ) (n : ℕ) → IsErrAnd r (λ m. m ≡ n) → r ≡ Err n
handed_as (Ok x) n h = absurd h
handed_as (Err m) n h = ap Err h
