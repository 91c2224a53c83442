-- What a verdict notes in the row: its time, and its port's counts (document 01, "One frame, step by step").
use Rattle.std.specs.Prelude.{Bool, true, false, List, ℕ}
use Rattle.ledger.specs.Row.{frames, drops, octets, dropped, last, cell, put}
use Rattle.spend.specs.declared.Counts.{Counts}
use Rattle.spend.specs.Spend.{counted_of}
use Rattle.settle.specs.declared.Verdict.{Verdict}
use Rattle.settle.specs.declared.Verdict.TheVariants.{Refused, Drop, Sent}

abbrev pub is_drop : Verdict → Bool
is_drop (Refused n) = false
is_drop (Drop n) = true
is_drop (Sent s) = false

-- a port's counts in the row
abbrev pub counts_at : List ℕ → ℕ → Counts
counts_at g port = record { frames = cell g frames port; drops = cell g drops port; octets = cell g octets port; dropped = cell g dropped port }

abbrev pub with_counts : List ℕ → ℕ → ℕ → Counts → List ℕ
with_counts g port time n =
    put (put (put (put (put g frames port n.frames) drops port n.drops) octets port n.octets) dropped port n.dropped) last 0 time

-- "every verdict sets the last time and the tile"
unfoldable pub noted : List ℕ → ℕ → ℕ → ℕ → Bool → List ℕ
noted g port time l drop = with_counts g port time (counted_of (counts_at g port) l drop)
