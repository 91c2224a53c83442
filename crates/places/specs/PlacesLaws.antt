-- What the places hold as verdict after verdict is put in them, and what is read of them.
use Rattle.std.specs.Prelude.{◌≡◌, refl, List, [], ◌∷◌, ◌++◌, map, ℕ, suc, ◌+◌, ◌*◌, ◌≤◌, length, take, drop, set}
use Rattle.std.proofs.Common.{sym, ◌∙◌, ap, subst, append_assoc, add-zero, le_of_suc-le-suc, arith, length-append, length-drop, drop-drop}
use Rattle.std.proofs.Math.Seq.{append_snoc, set-append_seam, take-append_seam, drop-append_seam}
use Rattle.ports.specs.declared.Sending.{Sending}
use Rattle.settle.specs.declared.Verdict.{Verdict}
use Rattle.settle.specs.declared.Verdict.TheVariants.{Refused, Drop, Sent}
use Rattle.places.specs.Places.{head_of, ten, nowhere, ten_of, put_from, put_in, laid, laid_over, heard}

pub length_ten : (v : Verdict) → length (ten_of v) ≡ 10
length_ten (Refused n) = refl
length_ten (Drop n) = refl
length_ten (Sent s) = refl

pub length_laid : (vs : List Verdict) → length (laid vs) ≡ 10 * length vs
unfolding laid
length_laid [] = refl
length_laid (v ∷ vs) =
    let rest = length_laid vs in
    let one = length_ten v in
    length-append (ten_of v) (laid vs) ∙ (omega arith)

laid_snoc : (vs : List Verdict) (v : Verdict) → laid (vs ++ (v ∷ [])) ≡ laid vs ++ ten_of v
unfolding laid
laid_snoc [] v = append_nil (ten_of v)
  where
    append_nil : (xs : List ℕ) → xs ++ [] ≡ xs
    append_nil [] = refl
    append_nil (x ∷ xs) = ap (λ (r : List ℕ). x ∷ r) (append_nil xs)
laid_snoc (w ∷ vs) v = ap (λ (r : List ℕ). ten_of w ++ r) (laid_snoc vs v) ∙ sym (append_assoc (ten_of w) (laid vs) (ten_of v))

-- numbers put behind a front stand there, and what is behind them stays
pub put_behind : (front rest xs : List ℕ) (at i : ℕ) → at + i ≡ length front → length xs ≤ length rest
    → put_from (front ++ rest) at i xs ≡ front ++ (xs ++ drop (length xs) rest)
put_behind front rest [] at i e h = refl
put_behind front [] (x ∷ xs) at i e h = absurd (omega arith)
put_behind front (y ∷ rest) (x ∷ xs) at i e h =
    ap (λ (l : List ℕ). put_from l at (suc i) xs) (ap (λ (k : ℕ). set (front ++ y ∷ rest) k x) e ∙ set-append_seam front y rest x ∙ sym (append_snoc front x rest))
    ∙ put_behind (front ++ (x ∷ [])) rest xs at (suc i) (let l = length-append front (x ∷ []) in omega arith) (le_of_suc-le-suc h)
    ∙ append_snoc front x (xs ++ drop (length xs) rest)

-- the first number is put at the place itself
pub put_first : (l : List ℕ) (at x : ℕ) (xs : List ℕ) → put_from (set l at x) at 1 xs ≡ put_from l at 0 (x ∷ xs)
put_first l at x xs = ap (λ (k : ℕ). put_from (set l k x) at 1 xs) (sym (add-zero at))

-- a verdict by its case, and the numbers that were put
pub put_refused : (l after : List ℕ) (n : ℕ) (v : Verdict) (number head : ℕ) → v ≡ Refused number → head ≡ head_of 0 number → after ≡ put_from l (10 * n) 0 (ten head nowhere)
    → after ≡ put_in l n v
unfolding put_in
put_refused l after n v number head h k e = e ∙ ap (λ (x : ℕ). put_from l (10 * n) 0 (ten x nowhere)) k ∙ ap (λ (w : Verdict). put_from l (10 * n) 0 (ten_of w)) (sym h)

pub put_dropped : (l after : List ℕ) (n : ℕ) (v : Verdict) (number head : ℕ) → v ≡ Drop number → head ≡ head_of 1 number → after ≡ put_from l (10 * n) 0 (ten head nowhere)
    → after ≡ put_in l n v
unfolding put_in
put_dropped l after n v number head h k e = e ∙ ap (λ (x : ℕ). put_from l (10 * n) 0 (ten x nowhere)) k ∙ ap (λ (w : Verdict). put_from l (10 * n) 0 (ten_of w)) (sym h)

pub put_sent : (l after : List ℕ) (n : ℕ) (v : Verdict) (s : Sending) (head : ℕ) → v ≡ Sent s → head ≡ head_of 2 0 → after ≡ put_from l (10 * n) 0 (ten head s)
    → after ≡ put_in l n v
unfolding put_in
put_sent l after n v s head h k e = e ∙ ap (λ (x : ℕ). put_from l (10 * n) 0 (ten x s)) k ∙ ap (λ (w : Verdict). put_from l (10 * n) 0 (ten_of w)) (sym h)

-- nothing yet
pub laid_none : (before : List ℕ) → before ≡ laid_over [] before
unfolding laid_over laid
laid_none before = refl

-- one more, in the next place
pub laid_more : (vs : List Verdict) (before mid after : List ℕ) (n : ℕ) (v : Verdict) → mid ≡ laid_over vs before → n ≡ length vs
    → 10 * n + 10 ≤ length before
    → after ≡ put_in mid n v
    → after ≡ laid_over (vs ++ (v ∷ [])) before
unfolding laid_over put_in
laid_more vs before mid after n v m k h e =
    e
    ∙ ap (λ (l : List ℕ). put_from l (10 * n) 0 (ten_of v)) m
    ∙ put_behind (laid vs) (drop (10 * length vs) before) (ten_of v) (10 * n) 0 (let l = length_laid vs in omega arith) room
    ∙ sym (append_assoc (laid vs) (ten_of v) (drop (length (ten_of v)) (drop (10 * length vs) before)))
    ∙ ap (λ (l : List ℕ). l ++ drop (length (ten_of v)) (drop (10 * length vs) before)) (sym (laid_snoc vs v))
    ∙ ap (λ (l : List ℕ). laid (vs ++ (v ∷ [])) ++ l) (drop-drop (length (ten_of v)) (10 * length vs) before ∙ ap (λ (x : ℕ). drop x before) behind)
  where
    room : length (ten_of v) ≤ length (drop (10 * length vs) before)
    room = subst (λ (x : ℕ). length (ten_of v) ≤ x) (sym (length-drop (10 * length vs) before)) (let t = length_ten v in omega (arith, k, h))

    behind : 10 * length vs + length (ten_of v) ≡ 10 * length (vs ++ (v ∷ []))
    behind = let t = length_ten v in let u = length-append vs (v ∷ []) in omega arith

-- the first places are read as the verdicts that were laid
pub heard_laid : (vs : List Verdict) (rest : List ℕ) → heard (length vs) (laid vs ++ rest) ≡ map ten_of vs
unfolding heard laid
heard_laid [] rest = refl
heard_laid (v ∷ vs) rest =
    ap (λ (l : List ℕ). take 10 l ∷ heard (length vs) (drop 10 l)) (append_assoc (ten_of v) (laid vs) rest)
    ∙ ap (λ (k : ℕ). take k (ten_of v ++ (laid vs ++ rest)) ∷ heard (length vs) (drop k (ten_of v ++ (laid vs ++ rest)))) (sym (length_ten v))
    ∙ ap (λ (l : List ℕ). l ∷ heard (length vs) (drop (length (ten_of v)) (ten_of v ++ (laid vs ++ rest)))) (take-append_seam (ten_of v) (laid vs ++ rest))
    ∙ ap (λ (l : List ℕ). ten_of v ∷ heard (length vs) l) (drop-append_seam (ten_of v) (laid vs ++ rest))
    ∙ ap (λ (l : List (List ℕ)). ten_of v ∷ l) (heard_laid vs rest)

-- and so are n places that hold them over what stood there
pub heard_over : (vs : List Verdict) (places told : List ℕ) (n : ℕ) → n ≡ length vs → told ≡ laid_over vs places → heard n told ≡ map ten_of vs
unfolding laid_over
heard_over vs places told n k e =
    ap (λ (m : ℕ). heard m told) k ∙ ap (heard (length vs)) e ∙ heard_laid vs (drop (10 * length vs) places)
