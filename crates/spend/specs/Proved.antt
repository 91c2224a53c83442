-- Rows (h), (i) and (j) of document 01's proved table, and what a verdict keeps.
use Rattle.std.specs.Prelude.{◌≡◌, refl, Bool, true, false, cond, ℕ, ◌+◌, ◌-◌, ◌*◌, ltb, eqb}
use Rattle.std.proofs.Math.Nat.{min-le_left}
use Rattle.std.proofs.Common.{lt_of_le_of_lt, lit<, lt-ltb}
use Rattle.spend.specs.declared.Meter.{Meter}
use Rattle.spend.specs.Meter.{refilled, cost}
use Rattle.spend.specs.Spend.{spent, units_of, paid_of, credit_at, spent_of}

-- (h) credit 0, SMAX 64, RATE 64, L 64: short after 511 µs
pub row_h : ltb (refilled 64 64 0 511) (cost 64) ≡ true
row_h = refl

-- (i) passes after 512
pub row_i : ltb (refilled 64 64 0 512) (cost 64) ≡ false
row_i = refl

-- (j) SMAX 63 never passes L 64
pub row_j : (rate old elapsed : ℕ) → ltb (refilled 63 rate old elapsed) (cost 64) ≡ true
row_j rate old elapsed =
    lt-ltb (refilled 63 rate old elapsed) (cost 64) (lt_of_le_of_lt (min-le_left (63 * 8000000) (old + elapsed * rate * 15625)) (lit< tt))

-- the product passes 64 bits, where it would wrap to 61069; the meter is full
pub no_wrap : refilled 64 65535 0 80453531366811 ≡ 512000000
no_wrap = refl

-- "spent credit stays spent at drops 10 and 11", and where the frame is sent
pub stays_spent : (credit now units octets ports : ℕ) → (paid_of credit now units octets ports).credit ≡ credit
unfolding paid_of
stays_spent credit now units octets ports = ten (eqb ports 0)
  where
    eleven : (t : Bool) → (cond t (spent 11 credit now units) (spent 0 credit now (units - units_of octets))).credit ≡ credit
    eleven true = refl
    eleven false = refl

    ten : (t : Bool)
        → (cond t (spent 10 credit now units) (cond (ltb units (units_of octets)) (spent 11 credit now units) (spent 0 credit now (units - units_of octets)))).credit
        ≡ credit
    ten true = refl
    ten false = eleven (ltb units (units_of octets))

-- "short or not, .. now" is stored
pub now_stored : (m : Meter) (now units octets ports : ℕ) → (spent_of m now units octets ports).since ≡ now
unfolding spent_of paid_of
now_stored m now units octets ports = nine (ltb (credit_at m now) (cost octets))
  where
    eleven : (c : ℕ) (t : Bool) → (cond t (spent 11 c now units) (spent 0 c now (units - units_of octets))).since ≡ now
    eleven c true = refl
    eleven c false = refl

    ten : (c : ℕ) (t : Bool)
        → (cond t (spent 10 c now units) (cond (ltb units (units_of octets)) (spent 11 c now units) (spent 0 c now (units - units_of octets)))).since ≡ now
    ten c true = refl
    ten c false = eleven c (ltb units (units_of octets))

    nine : (t : Bool) → (cond t (spent 9 (credit_at m now) now units) (paid_of (credit_at m now - cost octets) now units octets ports)).since ≡ now
    nine true = refl
    nine false = ten (credit_at m now - cost octets) (eqb ports 0)

-- a sent frame takes one unit
pub takes_one : paid_of 7 0 5 64 2 ≡ spent 0 7 0 4
unfolding paid_of
takes_one = refl
