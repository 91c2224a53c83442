-- What pins the searches in 05: of two matches the one with the lower INDEX.
use Rattle.std.specs.Prelude.{◌≡◌, refl, true, List, ℕ, zero, suc}
use Rattle.laws.specs.Scan.{least}
use Rattle.image.specs.Layout.{count_of}
use Rattle.image.specs.declared.tables.Table.TheVariants.{AddressLookup}
use Rattle.fields.specs.Fields.{index}
use Rattle.addresses.specs.Address.{matches}
use Rattle.addresses.specs.Least.{Scanned}
use Rattle.addresses.specs.LeastLaws.{scanned}

-- no match has a lower INDEX than the one that is found, and none before it has its INDEX; or nothing matches
pub destination_lowest : (image : List ℕ) (vlan mac : ℕ) → Scanned (count_of image AddressLookup) (λ i. matches image vlan mac i) (λ i. index image i)
destination_lowest image vlan mac = scanned (count_of image AddressLookup) (λ i. matches image vlan mac i) (λ i. index image i)

-- computed: of three entries with these keys that all pass the second is the least, and of equals the first
abbrev keys : ℕ → ℕ
keys zero = 5
keys (suc zero) = 3
keys (suc (suc n)) = 3

pub lowest_of_three : least 3 (λ i. true) keys ≡ 1
unfolding least
lowest_of_three = refl
