-- What stands at a place of a frame list (document 01, "The verdict program").
use Rattle.std.specs.Prelude.{cond, not, Option, Some, None, List, [], ◌∷◌, ℕ, ◌+◌, ◌-◌, ltb, leb, eqb, length, get_or, drop}
use Rattle.records.specs.Bytes.{number_at, differ}
use Rattle.records.specs.declared.Kind.{Kind}
use Rattle.records.specs.declared.Kind.TheVariants.{Frame, Release}

-- what a list opens with: the version of the records that follow, or the number of the refusal
pub data Opens : Type 0 where
  version : ℕ → Opens
  shut : ℕ → Opens

-- what stands at a place: a record with the place after it, the list's end, or the number of a refusal;
-- a frame's bytes are told by the place where they start and their count
pub data Stands : Type 0 where
  frame : (port time start count next : ℕ) → Stands
  release : (partition next : ℕ) → Stands
  end : Stands
  refused : ℕ → Stands

-- "the mark FRL"
abbrev pub mark : List ℕ
mark = 0x46 ∷ 0x52 ∷ 0x4C ∷ []

-- "a 16-bit version 1"
abbrev pub version_one : List ℕ
version_one = 0 ∷ 1 ∷ []

-- mark and version take 5 bytes: there the first record starts
abbrev pub first_place : ℕ
first_place = 5

-- "first of these: 54 over 16,384 bytes, 50 mark, 51 version, 52 (also an input below 5 bytes whose bytes so far agree)"
unfoldable pub opening_of : List ℕ → Opens
opening_of list =
    cond (ltb 16384 (length list)) (shut 54)
    (cond (differ list mark) (shut 50)
    (cond (differ (drop 3 list) version_one) (shut 51)
    (cond (ltb (length list) first_place) (shut 52)
    (version (number_at list 3 2)))))

-- which kinds a version has: the one place that chooses them
unfoldable pub kind_of : ℕ → ℕ → Option Kind
kind_of v byte = cond (not (eqb v 1)) None (cond (eqb byte 1) (Some Frame) (cond (eqb byte 2) (Some Release) None))

-- "Kind 1: port (1 byte), time (8), length (2), bytes", behind the kind byte at `at`; "52 cut record": its head is, or its bytes are
abbrev pub with_count : List ℕ → ℕ → ℕ → Stands
with_count list at count =
    cond (ltb (length list - at - 12) count) (refused 52)
    (frame (number_at list (at + 1) 1) (number_at list (at + 2) 8) (at + 12) count (at + 12 + count))

unfoldable pub frame_at : List ℕ → ℕ → Stands
frame_at list at = cond (ltb (length list - at) 12) (refused 52) (with_count list at (number_at list (at + 10) 2))

-- "Kind 2: partition (1)"
unfoldable pub release_at : List ℕ → ℕ → Stands
release_at list at = cond (ltb (length list - at) 2) (refused 52) (release (number_at list (at + 1) 1) (at + 2))

-- "53 unknown kind", also as the list's last byte
abbrev pub of_kind : Option Kind → List ℕ → ℕ → Stands
of_kind (Some Frame) list at = frame_at list at
of_kind (Some Release) list at = release_at list at
of_kind None list at = refused 53

-- "each record starts with its kind byte"; at the list's end and past it the list ends. A list that does not open has no record at any
-- place ("then no record is run"), and a place inside mark and version is read like any other.
abbrev pub under : Opens → List ℕ → ℕ → Stands
under (shut n) list at = refused n
under (version v) list at = cond (leb (length list) at) end (of_kind (kind_of v (get_or list at 0)) list at)

unfoldable pub stands_at : List ℕ → ℕ → Stands
stands_at list at = under (opening_of list) list at
