-- A verdict and a tile as numbers: the kind, the refusal's or the drop's number, and the values; what a kind does not have is 0.
use Rattle.std.specs.Prelude.{ℕ, Ok, Err}
use Rattle.ports.specs.declared.Sending.{Sending}
use Rattle.settle.specs.declared.Verdict.{Verdict}
use Rattle.settle.specs.declared.Verdict.TheVariants.{Refused, Drop, Sent}
use Rattle.tile.specs.declared.shares.Tile.{Tile}
use Rattle.tile.specs.declared.shares.Tile.TheVariants.{NotLoaded, NoFrames, Shares}
use Rattle.tile.specs.Tiles.{Asked, bits_of}
use Rattle.flat_answers.specs.declared.FlatVerdict.{FlatVerdict}
use Rattle.flat_answers.specs.declared.FlatTile.{FlatTile}

-- ---- a verdict: its kind, its number, its values
abbrev pub unsent : ℕ → ℕ → FlatVerdict
unsent kind number =
    record {
      kind = kind;
      number = number;
      ports = 0;
      vlan = 0;
      priority = 0;
      tags = 0;
      queue0 = 0;
      queue1 = 0;
      queue2 = 0;
      queue3 = 0;
      queue4 = 0;
    }

abbrev pub sent : Sending → FlatVerdict
sent s =
    record {
      kind = 2;
      number = 0;
      ports = s.ports;
      vlan = s.vlan;
      priority = s.priority;
      tags = s.tags;
      queue0 = s.queue0;
      queue1 = s.queue1;
      queue2 = s.queue2;
      queue3 = s.queue3;
      queue4 = s.queue4;
    }

abbrev pub flat_verdict : Verdict → FlatVerdict
flat_verdict (Refused n) = unsent 0 n
flat_verdict (Drop n) = unsent 1 n
flat_verdict (Sent s) = sent s

-- ---- a tile: its kind, its number, the bits of its shares
abbrev pub shown : ℕ → ℕ → ℕ → ℕ → FlatTile
shown kind number share octets = record { kind = kind; number = number; share = share; octets = octets }

abbrev pub flat_shown : Tile → FlatTile
flat_shown NotLoaded = shown 1 0 0 0
flat_shown NoFrames = shown 2 0 0 0
flat_shown (Shares frames octets) = shown 3 0 (bits_of frames) (bits_of octets)

abbrev pub flat_tile : Asked → FlatTile
flat_tile (Err n) = shown 0 n 0 0
flat_tile (Ok t) = flat_shown t
