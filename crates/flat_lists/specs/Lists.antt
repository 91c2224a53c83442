-- What stands at a place of a frame list, as numbers: the kind, the refusal's number, and the values; what a kind does not have is 0.
use Rattle.std.specs.Prelude.{◌≡◌, List, ℕ}
use Rattle.records.specs.List.{Stands, frame, release, end, refused, stands_at}
use Rattle.flat_lists.specs.declared.FlatRecord.{FlatRecord}

abbrev pub numbers : ℕ → ℕ → ℕ → ℕ → ℕ → ℕ → ℕ → ℕ → FlatRecord
numbers kind number time port partition start count next =
    record {
      kind = kind;
      number = number;
      time = time;
      port = port;
      partition = partition;
      start = start;
      count = count;
      next = next;
    }

abbrev pub flat_stands : Stands → FlatRecord
flat_stands (refused n) = numbers 0 n 0 0 0 0 0 0
flat_stands (frame port time start count next) = numbers 1 0 time port 0 start count next
flat_stands (release partition next) = numbers 2 0 0 0 partition 0 0 next
flat_stands end = numbers 3 0 0 0 0 0 0 0

-- what the entry answers of a place
pub record RecordsFlat (list : List ℕ) (at : ℕ) (r : FlatRecord) : Type 0 where
  pub stands : r ≡ flat_stands (stands_at list at)
