-- Where a whole load begins and how it ends; and bytes, part by part.
use Rattle.std.proofs.Common.{◌≡◌, refl, sym, ◌∙◌, ap, ap₂, subst, Bool, true, false, List, [], ◌∷◌, ◌++◌, append_assoc, append-nil, ℕ, suc, ◌+◌, ◌*◌, ◌/◌, ◌%◌, ◌<◌, ◌≤◌, arith, lit<, add-zero, length, get_or, set, take, drop, length-drop, get_or-take, get_or-drop, take-suc-set}
use Rattle.std.proofs.lemmas.List.{drop-drop}
use Rattle.std.specs.Simd.{first_chunks}
use Rattle.crc.proofs.Chunks.{chunk_at}
use Rattle.image.specs.Layout.{cleared}
use Rattle.laws.specs.Chain.{hit, pass, hit_ne, pass_ne}
use Rattle.image.specs.Loaded.{too_short}
use Rattle.stream.specs.Machine.{Machine, at, run, fresh}
use Rattle.stream.specs.Paper.{Whole, as_found, loaded_words, words_of, loaded_bytes}
use Rattle.stream.specs.Bytes.{word_at}
use Rattle.stream.specs.BytesLaws.{words_from, words_none, words_split}
use Rattle.stream.specs.Ends.{settled_in, settled}
use Rattle.stream.specs.EndsLaws.{whole}
use Rattle.stream.specs.declared.Answer.{Answer}
use Rattle.stream.specs.declared.Phase.{Phase}
use Rattle.stream.specs.declared.Load.{Load}
use Rattle.stream.specs.Answers.{said_of}
use Rattle.stream.specs.Leaves.{Ends}
use Rattle.stream.specs.Runs.{run_append}

-- ---- a whole load of words
-- 31 for a whole load
pub words_31 : (buffer ws : List ℕ) (short : Bool) → short ≡ too_short buffer → short ≡ true → as_found 31 buffer ≡ loaded_words buffer ws
unfolding loaded_words
words_31 buffer ws short e h = hit short _ _ _ e h

pub words_on : (buffer ws : List ℕ) (short : Bool) → short ≡ too_short buffer → short ≡ false → settled (run (at fresh (cleared buffer)) ws) ≡ loaded_words buffer ws
unfolding loaded_words
words_on buffer ws short e h = whole buffer ws ∙ pass short _ _ _ _ e h refl

pub ends_as : {v w : Whole} {r : Answer} {after : List ℕ} → v ≡ w → Ends v r after → Ends w r after
ends_as e h = record { told = h.told ∙ ap (λ (x : Whole). x.answer) e; said = h.said ∙ ap (λ (x : Whole). said_of x.answer) e; kept = h.kept ∙ ap (λ (x : Whole). x.buffer) e }

-- a fresh load over the cleared buffer
pub started : (l : Load) (b buffer : List ℕ) → l ≡ fresh → b ≡ cleared buffer → at l b ≡ at fresh (cleared buffer)
started l b buffer e q = ap (λ (x : Load). at x b) e ∙ ap (λ (x : List ℕ). at fresh x) q

-- ---- a whole load of bytes
-- a piece of four bytes is the word at its place
word_here : (bytes : List ℕ) (i : ℕ) → word_at (take 4 (drop i bytes)) 0 ≡ word_at bytes i
word_here bytes i =
    let in_four = λ (k : ℕ) (h : k < 4). get_or-take 4 (drop i bytes) k 0 h in
    rw (in_four 0 (lit< tt), in_four 1 (lit< tt), in_four 2 (lit< tt), in_four 3 (lit< tt)) (simp (get_or-drop, add-zero) (omega arith))

-- and the k-th of the pieces is the word behind k others
pub word_in : (bytes : List ℕ) (fours : List (List ℕ)) (k n : ℕ) → fours ≡ first_chunks 4 (length bytes / 4) bytes → length fours ≡ length bytes / 4 → k < length fours
    → n ≡ word_at (get_or fours k []) 0 → n ≡ word_at bytes (4 * k)
word_in bytes fours k n e long h is =
    is ∙ ap (λ (l : List (List ℕ)). word_at (get_or l k []) 0) e
    ∙ ap (λ (l : List ℕ). word_at l 0) (chunk_at 4 (length bytes / 4) bytes k [] (rw long at h))
    ∙ word_here bytes (k * 4)
    ∙ ap (λ (i : ℕ). word_at bytes i) (omega arith)

-- one more word has been taken apart
pub chunk_on : (bytes words : List ℕ) (k w : ℕ) → 4 * k + 4 ≤ length bytes → k < length words → w ≡ word_at bytes (4 * k)
    → take (k + 1) (set words k w) ++ words_of (drop (4 * (k + 1)) bytes) ≡ take k words ++ words_of (drop (4 * k) bytes)
chunk_on bytes words k w h j e =
    ap (λ (l : List ℕ). l ++ words_of (drop (4 * (k + 1)) bytes)) (ap (λ (n : ℕ). take n (set words k w)) one_more ∙ take-suc-set words k w j)
    ∙ append_assoc (take k words) (w ∷ []) (words_of (drop (4 * (k + 1)) bytes))
    ∙ ap (λ (l : List ℕ). take k words ++ l)
    (ap (λ (x : ℕ). x ∷ words_of (drop (4 * (k + 1)) bytes)) e
    ∙ ap (λ (i : ℕ). word_at bytes (4 * k) ∷ words_of (drop i bytes)) next
    ∙ sym (words_from bytes (4 * k) h))
  where
    one_more : k + 1 ≡ suc k
    one_more = omega arith

    next : 4 * (k + 1) ≡ 4 * k + 4
    next = omega arith

pub chunk_end : (bytes words : List ℕ) (k : ℕ) → length bytes < 4 * k + 4 → 4 * k ≤ length bytes → take k words ++ words_of (drop (4 * k) bytes) ≡ take k words
chunk_end bytes words k h j = ap (λ (l : List ℕ). take k words ++ l) (words_none bytes (4 * k) h j) ∙ append-nil (take k words)

-- the run goes on behind a chunk of whole words
pub bytes_on : (m n : Machine) (bytes : List ℕ) (chunks : List (List ℕ)) (many i : ℕ) → chunks ≡ first_chunks 1024 many bytes → length chunks ≡ many
    → many ≡ length bytes / 1024 → i < length chunks → n ≡ run m (words_of (get_or chunks i []))
    → run n (words_of (drop ((i + 1) * 1024) bytes)) ≡ run m (words_of (drop (i * 1024) bytes))
bytes_on m n bytes chunks many i e long d h q =
    let here : i < many = rw long at h in
    let next : (i + 1) * 1024 ≡ i * 1024 + 1024 = omega arith in
    let rest : List ℕ = drop (i * 1024) bytes in
    let chunk : get_or chunks i [] ≡ take 1024 rest = ap (λ (l : List (List ℕ)). get_or l i []) e ∙ chunk_at 1024 many bytes i [] here in
    let behind : drop ((i + 1) * 1024) bytes ≡ drop 1024 rest = ap (λ (k : ℕ). drop k bytes) next ∙ sym (drop-drop 1024 (i * 1024) bytes) in
    ap₂ (λ (x : Machine) (l : List ℕ). run x (words_of l)) (q ∙ ap (λ (l : List ℕ). run m (words_of l)) chunk) behind
    ∙ sym (run_append m (words_of (take 1024 rest)) (words_of (drop 1024 rest)))
    ∙ ap (λ (l : List ℕ). run m l) (words_split 256 1024 rest refl (subst (λ (x : ℕ). 1024 ≤ x) (sym (length-drop (i * 1024) bytes)) (omega arith)))

module _ (buffer bytes : List ℕ) (short : Bool) (e : short ≡ too_short buffer) where
  pub bytes_31 : short ≡ true → as_found 31 buffer ≡ loaded_bytes buffer bytes
  unfolding loaded_bytes
  bytes_31 h = hit short _ _ _ e h

  pub bytes_9 : short ≡ false → (length bytes % 4 ≡ 0 → ⊥) → as_found 9 buffer ≡ loaded_bytes buffer bytes
  unfolding loaded_bytes
  bytes_9 h ne = pass short _ _ _ _ e h (hit_ne (length bytes % 4) 0 _ _ ne)

  pub bytes_whole : short ≡ false → length bytes % 4 ≡ 0 → settled (run (at fresh (cleared buffer)) (words_of bytes)) ≡ loaded_bytes buffer bytes
  unfolding loaded_bytes
  bytes_whole h q = whole buffer (words_of bytes) ∙ pass short _ _ _ _ e h (pass_ne (length bytes % 4) 0 _ _ _ q refl)

-- a run that has ended, by its phase
pub settles : (l : Load) (buffer : List ℕ) (p : Phase) (r : Answer) (after : List ℕ) → l.phase ≡ p → Ends (settled_in p buffer) r after → Ends (settled (at l buffer)) r after
settles l buffer p r after e h = subst (λ (x : Phase). Ends (settled_in x buffer) r after) (sym e) h
