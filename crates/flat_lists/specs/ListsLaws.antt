-- What stands at a place, by the promise below it, and that the promise permits one answer.
use Rattle.std.specs.Prelude.{◌≡◌, List, ℕ}
use Rattle.std.proofs.Common.{sym, ◌∙◌, ap}
use Rattle.records.specs.declared.Record.{Record}
use Rattle.records.specs.List.{stands_at}
use Rattle.records.specs.Answer.{told}
use Rattle.flat_lists.specs.declared.FlatRecord.{FlatRecord}
use Rattle.flat_lists.specs.Lists.{flat_stands, RecordsFlat}

pub records : (list : List ℕ) (at : ℕ) (s : Record) (r : FlatRecord) → told s ≡ stands_at list at → r ≡ flat_stands (told s) → RecordsFlat list at r
records list at s r p e = record { stands = e ∙ ap flat_stands p }

-- the promise permits one answer
pub one_record : (list : List ℕ) (at : ℕ) (r s : FlatRecord) → RecordsFlat list at r → RecordsFlat list at s → r ≡ s
one_record list at r s p q = p.stands ∙ sym q.stands
