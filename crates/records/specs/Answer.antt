-- What the code's answers say, in the paper's numbers.
use Rattle.std.specs.Prelude.{◌≡◌, List, ℕ, Result, Ok, Err}
use Rattle.records.specs.List.{Opens, version, shut, Stands, frame, release, end, refused, stands_at}
use Rattle.records.specs.declared.Refusal.{Refusal}
use Rattle.records.specs.declared.Refusal.TheVariants.{Size, Mark, Version, Cut, Kind}
use Rattle.records.specs.declared.Record.{Record}
use Rattle.records.specs.declared.Record.TheVariants as answer

abbrev pub number_of : Refusal → ℕ
number_of Size = 54
number_of Mark = 50
number_of Version = 51
number_of Cut = 52
number_of Kind = 53

abbrev pub opens : Result ℕ Refusal → Opens
opens (Ok v) = version v
opens (Err why) = shut (number_of why)

abbrev pub told : Record → Stands
told (answer.Frame port time start count next) = frame port time start count next
told (answer.Release partition next) = release partition next
told answer.End = end
told (answer.Refused why) = refused (number_of why)

-- an answer to what stands at a place of a list: it says what the paper says, by the paper's numbers
abbrev pub Reads : List ℕ → ℕ → Record → Type 0
Reads list at r = told r ≡ stands_at list at
