-- K has no entry of 05 and of 0D, and not one zero entry.
use Rattle.std.specs.Prelude.{◌≡◌, refl, []}
use Rattle.image.specs.Layout.{list_of}
use Rattle.image.specs.declared.tables.Table.TheVariants.{AddressLookup, LookupParameters}
use Rattle.config_k.specs.Tables.{k_tables}

pub k_absent : (list_of k_tables AddressLookup ≡ []) × (list_of k_tables LookupParameters ≡ [])
unfolding k_tables
k_absent = (refl, refl)
