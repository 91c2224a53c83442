-- What an image that 30 does not refuse has: every count within its limit, and the entries that rule 20 asks for.
use Rattle.std.specs.Prelude.{◌≡◌, List, ℕ, ◌<◌, ◌≤◌, length}
use Rattle.image.specs.Rows.{most_of}
use Rattle.image.specs.Layout.{image_words, image_in, count_of, mark_of}
use Rattle.image.specs.declared.tables.Table.{Table}
use Rattle.image.specs.declared.tables.Table.TheVariants.{Policing, VlanLookup, Forwarding, MacConfiguration, ForwardingParameters}

-- every table's count is within its limit
abbrev pub Within : List ℕ → Type 0
Within image = (t : Table) → count_of image t ≤ most_of t

-- a buffer with an image whose counts are all within their limits
pub record Bounded (buffer : List ℕ) : Type 0 where
  pub whole : image_words ≤ length buffer
  pub within : Within (image_in buffer)

-- what rule 20 asks for is there
pub record Complete (image : List ℕ) : Type 0 where
  pub policing : 0 < count_of image Policing
  pub vlans : 0 < count_of image VlanLookup
  pub forwarding : count_of image Forwarding ≡ 13
  pub ports : count_of image MacConfiguration ≡ 5
  pub spaces : count_of image ForwardingParameters ≡ 1

-- a buffer with an image that 31 and 30 do not refuse
pub record Sound (buffer : List ℕ) : Type 0 where
  pub marked : mark_of (image_in buffer) ≡ 1
  pub within : Bounded buffer
  pub has : Complete (image_in buffer)
