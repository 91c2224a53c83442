-- A meter (document 01, drop 9), in millionths of a bit.
use Rattle.std.specs.Prelude.{ℕ, ◌+◌, ◌*◌, min}

-- "credit is the lesser of SMAX × 8,000,000 and old credit + elapsed µs × RATE × 15,625"
abbrev pub refilled : ℕ → ℕ → ℕ → ℕ → ℕ
refilled smax rate old elapsed = min (smax * 8000000) (old + elapsed * rate * 15625)

-- "it must reach L × 8,000,000, which is then spent"
abbrev pub cost : ℕ → ℕ
cost octets = octets * 8000000
