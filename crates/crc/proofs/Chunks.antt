-- A list in pieces of n, as `as_chunks` gives them: which piece stands where.
use Rattle.std.specs.Prelude.{◌≡◌, List, ℕ, zero, suc, ◌*◌, ◌<◌, get_or, take, drop}
use Rattle.std.proofs.Common.{ap, ◌∙◌, arith, not-suc-le-zero, le_of_suc-le-suc}
use Rattle.std.proofs.Math.Nat.{zero-mul, suc-mul}
use Rattle.std.proofs.lemmas.List.{drop-drop}
use Rattle.std.specs.Simd.{first_chunks}

pub chunk_at : {X : Type 0} (n m : ℕ) (xs : List X) (k : ℕ) (d : List X) → k < m → get_or (first_chunks n m xs) k d ≡ take n (drop (k * n) xs)
chunk_at n zero xs k d h = absurd (not-suc-le-zero h)
chunk_at n (suc m) xs zero d h = rw (zero-mul n)
chunk_at n (suc m) xs (suc k) d h =
    chunk_at n m (drop n xs) k d (le_of_suc-le-suc h)
    ∙ ap (take n) (drop-drop (k * n) n xs ∙ ap (λ (i : ℕ). drop i xs) (omega (arith, suc-mul k n)))
