-- What refuses a frame, in this order: 31, 30, 39, 33, 34, 35, 38 (document 01, "One frame, step by step").
use Rattle.std.specs.Prelude.{Bool, true, cond, List, ℕ, ltb, leb, eqb, length}
use Rattle.ledger.specs.Row.{frames, last, cell}
use Rattle.ledger.specs.Range.{latest, standing}

-- 34: "time before the last time or above 2^48 - 1"
abbrev pub mistimed : ℕ → ℕ → Bool
mistimed last time = cond (ltb time last) true (ltb latest time)

-- 33 "port above 4"; 34; 35 "over 4,096 bytes"; 38 "this port's frames at 2^32 - 1": at it or past it, so that every count fits
abbrev pub unjudged : List ℕ → ℕ → ℕ → List ℕ → ℕ
unjudged g port time frame =
    cond (ltb 4 port) 33
    (cond (mistimed (cell g last 0) time) 34 (cond (ltb 4096 (length frame)) 35 (cond (leb 4294967295 (cell g frames port)) 38 0)))

-- 0 where nothing refuses
unfoldable pub refusal_of : List ℕ → List ℕ → ℕ → ℕ → List ℕ → ℕ
refusal_of buffer g port time frame = cond (eqb (standing buffer g) 0) (unjudged g port time frame) (standing buffer g)
