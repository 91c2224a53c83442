-- The marks of all VLANIDs of 07, which rules 21, 22 and 28 share.
use Rattle.std.specs.Prelude.{Bool, List, ℕ, map}
use Rattle.laws.specs.Scan.{Marks, Counting, flag}
use Rattle.image.specs.Layout.{count_of}
use Rattle.image.specs.declared.tables.Table.TheVariants.{VlanLookup}
use Rattle.fields.specs.Fields.{vlanid}

-- what one pass over 07 leaves: a mark for each of the 4,096 VLANIDs (12 bits), and a number that is 0 exactly where none was set already
abbrev pub Vlans : List ℕ → ℕ → List ℕ → Type 0
Vlans image again marks = Counting (λ i. vlanid image i) 4096 (count_of image VlanLookup) again marks

-- a mark is set exactly at each VLANID of 07
abbrev pub VlanMarks : List ℕ → List Bool → Type 0
VlanMarks image marks = Marks (count_of image VlanLookup) (vlanid image) (map flag marks)
