-- Two tests that agree.
use Rattle.std.specs.Prelude.{Bool, true, false, not}

-- that two tests agree, as a test
abbrev pub agree : Bool → Bool → Bool
agree true b = b
agree false b = not b
