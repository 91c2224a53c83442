-- What is known of a share: with no drops it is +0, and it is never a NaN.
use Rattle.std.specs.Prelude.{◌≡◌, ℕ, zero, suc, ◌+◌, ◌*◌, ◌^◌, ◌<◌, ◌≤◌, Bool, true, false, cond, T, pos, ◌==◌, nat_lt, refl, Float}
use Rattle.std.proofs.Common.{sym, ◌∙◌, ap, subst, true≢false, zero-mul, mul-pos, arith, ltb→lt, lit<, ne_eqb}
use Rattle.std.specs.Float.{nan, inf, fin, Format, binary64}
use Rattle.std.specs.Float.Ieee.{prec, emax, low, up, down, unlike, round, units, odd, size, span, climb, div, of_int, ne, is_nan, to_bits}
use Rattle.std.specs.Int.Count.{count_trailing_zeros}
use Rattle.std.specs.Float.Ieee.Compare.{differs_from_itself, nan_differs}
use Rattle.std.specs.Float.Ieee.Fits.{up_pos, down_pos}
use Rattle.std.specs.Float.Ieee.Order.{round_mono}
use Rattle.std.specs.Float.Ieee.Scale.{round_same, finite}
use Rattle.std.specs.Float.Ieee.Positive.{positive, positive-finite, between}
use Rattle.ledger.specs.Stands.{Counted}
use Rattle.tile.specs.declared.shares.Tile.TheVariants.{NoFrames, Shares}
use Rattle.tile.specs.Tiles.{share_of, tile_of, bits_of}

-- a rounded fraction is no NaN
odd_real : (d : ℕ) (s : Bool) (q k l : ℕ) → is_nan (odd d s q k l) ≡ false
unfolding odd is_nan
odd_real d s zero k l = refl
odd_real d s (suc q) k l = refl

units_real : (f : Format) (s : Bool) (q k : ℕ) → is_nan (units f s q k) ≡ false
unfolding units is_nan
units_real f s q k = by (nat_lt (q * 2 ^ k) (2 ^ (low f + suc (emax f))))
  where
    by : (t : Bool) → is_nan (cond t (odd (suc (prec f)) s q k (low f)) (inf s)) ≡ false
    by true = odd_real (suc (prec f)) s q k (low f)
    by false = refl

round_real : (f : Format) (s : Bool) (a b : ℕ) → is_nan (round f s a b) ≡ false
unfolding round
round_real f s a b = units_real f s _ _

-- a count above 0 is a float above 0: it lies between those of 1 and 2^64
one_positive : T (positive (round binary64 false 1 1))
unfolding round units odd size span climb count_trailing_zeros
one_positive = tt

top_positive : T (positive (round binary64 false 18446744073709551616 1))
unfolding round units odd size span climb count_trailing_zeros
top_positive = tt

count_positive : (n : ℕ) → 0 < n → n < 18446744073709551616 → T (positive (of_int binary64 (pos n)))
unfolding of_int
count_positive n h l =
    between (round binary64 false 1 1) (round binary64 false n 1) (round binary64 false 18446744073709551616 1) one_positive top_positive
    (round_mono binary64 1 1 n 1 (lit< tt) (lit< tt) (omega arith))
    (round_mono binary64 n 1 18446744073709551616 1 (lit< tt) (lit< tt) (omega arith))

zero_is : of_int binary64 (pos 0) ≡ fin false 0 (pos 0)
unfolding of_int round units odd size span climb count_trailing_zeros
zero_is = refl

zero_rounds : round binary64 false 0 1 ≡ fin false 0 (pos 0)
unfolding round units odd size span climb count_trailing_zeros
zero_rounds = refl

zero_bits : bits_of (fin false 0 (pos 0)) ≡ 0
unfolding is_nan to_bits
zero_bits = refl

-- nothing over a number above 0 is +0
nothing_over : (y : Float) → T (positive y) → div binary64 (fin false 0 (pos 0)) y ≡ fin false 0 (pos 0)
unfolding div
nothing_over nan p = absurd p
nothing_over (inf s) p = absurd p
nothing_over (fin true n d) p = absurd p
nothing_over (fin false n d) p =
    let h : 0 < n = ltb→lt 0 n p in
    ap (λ (t : Bool). cond t (cond (0 == 0) nan (inf false)) (round binary64 false (0 * up (pos 0) * down d) (n * up d * down (pos 0)))) (ne_eqb n 0 (λ e. absurd (omega arith)))
    ∙ round_same binary64 false (0 * up (pos 0) * down d) (n * up d * down (pos 0)) 0 1 (mul-pos (mul-pos h (up_pos d)) (down_pos (pos 0))) (lit< tt) (nothing (up (pos 0)) (down d) (n * up d * down (pos 0)))
    ∙ zero_round
  where
    nothing : (a b c : ℕ) → 0 * a * b * 1 ≡ 0 * c
    nothing a b c = ap (λ (k : ℕ). k * b * 1) (zero-mul a) ∙ ap (λ (k : ℕ). k * 1) (zero-mul b) ∙ sym (zero-mul c)

    zero_round : round binary64 false 0 1 ≡ fin false 0 (pos 0)
    zero_round = zero_rounds

-- "with frames and no drops both are +0"
pub no_drops : (of : ℕ) → 0 < of → of < 18446744073709551616 → share_of 0 of ≡ fin false 0 (pos 0)
unfolding share_of
no_drops of h l = ap (λ (x : Float). div binary64 x (of_int binary64 (pos of))) zero_is ∙ nothing_over (of_int binary64 (pos of)) (count_positive of h l)

-- +0 has no bit set
pub no_drops_bits : (of : ℕ) → 0 < of → of < 18446744073709551616 → bits_of (share_of 0 of) ≡ 0
no_drops_bits of h l = ap bits_of (no_drops of h l) ∙ plain
  where
    plain : bits_of (fin false 0 (pos 0)) ≡ 0
    plain = zero_bits

-- a count over a count above 0
real_over : (x y : Float) → T (finite x) → T (positive y) → is_nan (div binary64 x y) ≡ false
unfolding div
real_over nan y f p = absurd f
real_over (inf s) y f p = absurd f
real_over (fin s m e) nan f p = absurd p
real_over (fin s m e) (inf t) f p = absurd p
real_over (fin s m e) (fin true n d) f p = absurd p
real_over (fin s m e) (fin false n d) f p =
    let h : 0 < n = ltb→lt 0 n p in
    ap (λ (t : Bool). is_nan (cond t (cond (m == 0) nan (inf (unlike s false))) (round binary64 (unlike s false) (m * up e * down d) (n * up d * down e)))) (ne_eqb n 0 (λ q. absurd (omega arith)))
    ∙ round_real binary64 (unlike s false) (m * up e * down d) (n * up d * down e)

count_finite : (n : ℕ) → n < 18446744073709551616 → T (finite (of_int binary64 (pos n)))
count_finite zero l = subst (λ (x : Float). T (finite x)) (sym zero_is) tt
count_finite (suc n) l = positive-finite (of_int binary64 (pos (suc n))) (count_positive (suc n) (omega arith) l)

-- a share is never a NaN
pub share_real : (part of : ℕ) → part < 18446744073709551616 → 0 < of → of < 18446744073709551616 → is_nan (share_of part of) ≡ false
unfolding share_of
share_real part of h p l = real_over (of_int binary64 (pos part)) (of_int binary64 (pos of)) (count_finite part h) (count_positive of p l)

-- ---- a float that was tested against itself
pub nan_of : (x : Float) → ne x x ≡ true → is_nan x ≡ true
unfolding is_nan
nan_of x e = ap is_nan (differs_from_itself x (subst T (sym e) tt))

pub real_of : (x : Float) → ne x x ≡ false → is_nan x ≡ false
unfolding is_nan
real_of nan e = absurd (true≢false (sym nan_differs ∙ e))
real_of (inf s) e = refl
real_of (fin s m e) h = refl

pub same_shares : (a b c d : Float) → a ≡ b → c ≡ d → Shares a c ≡ Shares b d
same_shares a b c d e h = ap (λ (x : Float). Shares x c) e ∙ ap (λ (x : Float). Shares b x) h

-- a port with no frames shows no share
pub no_share : (drops octets dropped : ℕ) → tile_of 0 drops octets dropped ≡ NoFrames
no_share drops octets dropped = refl

-- a port with frames and no drops, whose counts 39 does not refuse, shows two shares, and both are +0
pub perfect : (frames octets dropped : ℕ) → 0 < frames → frames < 18446744073709551616 → octets < 18446744073709551616
    → Counted frames 0 octets dropped
    → tile_of frames 0 octets dropped ≡ Shares (fin false 0 (pos 0)) (fin false 0 (pos 0))
perfect frames octets dropped h l m c =
    let some : 0 < octets = at_least c.least in
    let none : dropped ≡ 0 = at_most c.dropped_most in
    ap (λ (t : Bool). cond t NoFrames (Shares (share_of 0 frames) (share_of dropped octets))) (ne_eqb frames 0 (λ e. absurd (omega arith)))
    ∙ same_shares _ _ _ _ (no_drops frames h l) (ap (λ (k : ℕ). share_of k octets) none ∙ no_drops octets some m)
  where
    at_least : 4 * frames ≤ octets → 0 < octets
    at_least k = omega arith

    at_most : dropped ≤ 4100 * 0 → dropped ≡ 0
    at_most k = omega arith
