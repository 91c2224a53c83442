-- A tile (document 01): "for each port, one of not-loaded, no-frames, or shares".
use Rattle.std.specs.Prelude.{◌≡◌, ℕ, Result, Ok, Err, cond, List, [], ◌∷◌, pos, ◌==◌, is_nan, nat_lt, to_bits, Float}
use Rattle.std.specs.Float.{binary64}
use Rattle.std.specs.Float.Ieee.{div, of_int}
use Rattle.laws.specs.Says.{Says, says}
use Rattle.image.specs.Layout.{image_in}
use Rattle.image.specs.Loaded.{too_short, not_loaded}
use Rattle.ledger.specs.Row.{frames, drops, octets, dropped, cell}
use Rattle.ledger.specs.Range.{out_of_range}
use Rattle.tile.specs.declared.shares.Tile.{Tile}
use Rattle.tile.specs.declared.shares.Tile.TheVariants.{NotLoaded, NoFrames, Shares}

-- a tile, or the number of what refuses the call
abbrev pub Asked : Type 0
Asked = Result Tile ℕ

-- "drops as f64 over frames as f64, one division": a count up to 2^53 is a float without loss, a larger one rounds to the nearest, as Rust's `as` does
unfoldable pub share_of : ℕ → ℕ → Float
share_of part of = div binary64 (of_int binary64 (pos part)) (of_int binary64 (pos of))

-- "a port with no frames shows no share"; "the octet share likewise, over sums of L"
abbrev pub tile_of : ℕ → ℕ → ℕ → ℕ → Tile
tile_of frames drops octets dropped = cond (frames == 0) NoFrames (Shares (share_of drops frames) (share_of dropped octets))

abbrev pub tile_at : List ℕ → ℕ → Tile
tile_at g port = tile_of (cell g frames port) (cell g drops port) (cell g octets port) (cell g dropped port)

-- "refuses 31, then 33; then not-loaded is the answer where 30 would be given; then 39. It changes nothing."
unfoldable pub asked_of : List ℕ → List ℕ → ℕ → Asked
asked_of buffer g port =
    cond (too_short buffer) (Err 31)
    (cond (nat_lt 4 port) (Err 33)
    (cond (not_loaded (image_in buffer)) (Ok NotLoaded) (cond (out_of_range (image_in buffer) g) (Err 39) (Ok (tile_at g port)))))

-- what an answer says in document 01's terms: a refusal's number, or which of the three a tile is, and the bits of its two shares where it shows them
abbrev pub said_by : Tile → Says
said_by NotLoaded = says 1 0 []
said_by NoFrames = says 2 0 []
said_by (Shares frames octets) = says 3 0 (to_bits binary64 frames ∷ to_bits binary64 octets ∷ [])

abbrev pub said_of : Asked → Says
said_of (Err n) = says 0 n []
said_of (Ok t) = said_by t

-- what a tile's call answers
pub record Tiled (buffer g : List ℕ) (port : ℕ) (r : Asked) : Type 0 where
  pub whole : r ≡ asked_of buffer g port
  pub said : said_of r ≡ said_of (asked_of buffer g port)

-- the bits of a share, and a NaN's usual pattern for what no share is
abbrev pub bits_of : Float → ℕ
bits_of x = cond (is_nan x) 0x7FF8000000000000 (to_bits binary64 x)
