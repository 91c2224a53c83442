-- Demand 3, of loads: two streams that carry the same lists, in any block order and any writes of 1 to 64 words, into any two buffers with room: both
-- pass all framing rules with these lists, and both get the answer and the image of the lists.
use Rattle.std.specs.Prelude.{◌≡◌, refl, Bool, true, false, cond, List, [], ◌∷◌, ◌++◌, ℕ, ◌<◌, ◌≤◌, eqb, length, get_or, drop}
use Rattle.std.proofs.Common.{sym, ◌∙◌, ap, subst, arith, take_at, ext_get_or, eqb-true}
use Rattle.std.proofs.lemmas.List.{length-replicate}
use Rattle.image.specs.Rows.{table_count, row_at, row_of, room}
use Rattle.image.specs.RowLaws.{place_of_row}
use Rattle.image.specs.Layout.{image_words, image_in, image_of}
use Rattle.image.specs.Images.{length_layout}
use Rattle.image.specs.declared.tables.Table.{Table}
use Rattle.rules.specs.Rules.{ruled}
use Rattle.stream.specs.declared.Answer.TheVariants.{Loaded, Refused}
use Rattle.stream.specs.Header.{length_of}
use Rattle.stream.specs.Paper.{Framed, passed, none, framed, ended, refused_with, numbered}
use Rattle.stream.specs.Machine.{Written, written}
use Rattle.stream.specs.Ends.{Reached, final}
use Rattle.stream.specs.Cutting.{writes, unwritten, words, Cuts}
use Rattle.stream.specs.CuttingLaws.{cut_reached}
use Rattle.stream.specs.Order.{Piece, streamed, after}
use Rattle.stream.specs.OrderLaws.{ordered, after_brings}
use Rattle.flat_numbers.specs.Flat.{FreshLoad, number_of}
use Rattle.flat_loads.specs.Calls.{FlatWritten}
use Rattle.loads.specs.Moves.{RestKept}
use Rattle.loads.specs.Chains.{WriteChain, WriteChainFlat, unwritten_flat, AllWords}
use Rattle.loads.specs.ChainsLaws.{chain_is, flat_chain}
use Rattle.loads.specs.Rest.{chain_keeps_the_rest}
use Rattle.loads.specs.Given.{passed_sound}
use Rattle.loads.specs.Lists.{Carries, Sent, Gets, GetsFlat}

-- ---- the streams pass
passes : {lists : List (List ℕ)} {ps : List Piece} (e0 e1 : ℕ) → Carries lists ps → length_of e1 ≡ 0 → framed (streamed ps e0 e1) ≡ passed lists
passes {lists} {ps} e0 e1 c end = pass ∙ ap passed (ext_get_or [] (after none ps) lists (long ∙ sym c.all) same)
  where
    pass : framed (streamed ps e0 e1) ≡ passed (after none ps)
    pass = ordered ps e0 e1 c.proper (λ t. subst (λ (l : List ℕ). length l ≤ room (row_of t)) (sym (c.each t)) (c.fits t)) end

    long : length (after none ps) ≡ table_count
    long = (passed_sound (streamed ps e0 e1) (after none ps) pass).all

    same : (k : ℕ) → k < length (after none ps) → get_or (after none ps) k [] ≡ get_or lists k []
    same k h =
        let t : Table = (row_at k).table in
        subst (λ (x : ℕ). get_or (after none ps) x [] ≡ get_or lists x []) (place_of_row k (subst (λ (n : ℕ). k < n) long h)) (after_brings ps t ∙ c.each t)

-- two streams that carry these lists, "laid in any order that keeps each list", both pass all framing rules, with these lists
pub any_order_passes : {lists : List (List ℕ)} {ps qs : List Piece} (e0 e1 f0 f1 : ℕ) → Carries lists ps → Carries lists qs → length_of e1 ≡ 0 → length_of f1 ≡ 0
    → (framed (streamed ps e0 e1) ≡ passed lists) × (framed (streamed qs f0 f1) ≡ passed lists)
any_order_passes e0 e1 f0 f1 c d end end' = (passes e0 e1 c end, passes f0 f1 d end')

-- ---- the answer and the image
length_ended : (lists : List (List ℕ)) → length (ended lists).image ≡ image_words
length_ended lists = go (eqb (ruled (image_of lists)) 0)
  where
    go : (t : Bool) → length (cond t (record { number = 0; image = image_of lists }) (refused_with (ruled (image_of lists)))).image ≡ image_words
    go true = length_layout 1 lists
    go false = length-replicate {A = ℕ} image_words 0

image_of_final : (lists : List (List ℕ)) (rest : List ℕ) → image_in ((ended lists).image ++ rest) ≡ (ended lists).image
unfolding image_in
image_of_final lists rest = take_at (ended lists).image rest image_words (length_ended lists)

-- a stream that passes with these lists, in any writes of 1 to 64 words: the answer, the load state and the whole buffer are the lists'
of_the_lists : (lists : List (List ℕ)) (buffer c : List ℕ) (cs : List (List ℕ)) → image_words ≤ length buffer → Cuts (c ∷ cs)
    → framed (words (c ∷ cs)) ≡ passed lists
    → writes (unwritten buffer) (c ∷ cs) ≡ written (final (ended lists) (drop image_words buffer))
of_the_lists lists buffer c cs room cuts e =
    subst (λ (f : Framed). Reached (drop image_words buffer) f (writes (unwritten buffer) (c ∷ cs))) e (cut_reached buffer c cs room cuts)

-- one stream sent to a fresh load
gets : {lists : List (List ℕ)} {buffer : List ℕ} {v : Written} (cs : List (List ℕ)) → Sent lists cs → image_words ≤ length buffer → WriteChain (unwritten buffer) cs v → Gets lists buffer v
unfolding words
gets [] s room p = absurd (let e = ap length s.stream in omega arith)
gets {lists} {buffer} {v} (c ∷ cs) s room p =
    let is : v ≡ written (final (ended lists) (drop image_words buffer)) =
    chain_is p ∙ of_the_lists lists buffer c cs room s.cuts (ap framed s.stream ∙ passes s.first s.second s.carries s.ends) in
    record {
      answer = ap (λ (w : Written). w.answer) is;
      image = ap (λ (w : Written). image_in w.buffer) is ∙ image_of_final lists (drop image_words buffer);
      rest = chain_keeps_the_rest p;
    }

-- "Given room for the image, both get the answer and the image that demand 2 gives for the lists"
pub both_get_the_lists : {lists : List (List ℕ)} {a b : List ℕ} {cs ds : List (List ℕ)} {v w : Written} → Sent lists cs → Sent lists ds → image_words ≤ length a
    → image_words ≤ length b
    → WriteChain (unwritten a) cs v
    → WriteChain (unwritten b) ds w
    → Gets lists a v × Gets lists b w
both_get_the_lists {cs = cs} {ds = ds} s t ra rb p q = (gets cs s ra p, gets ds t rb q)

-- ---- for C and Rust
number_back : (n : ℕ) → number_of (numbered n) ≡ n
number_back n = go (eqb n 0) refl
  where
    go : (t : Bool) → eqb n 0 ≡ t → number_of (cond t Loaded (Refused n)) ≡ n
    go true e = sym (eqb-true n 0 e)
    go false e = refl

gets_flat : {lists : List (List ℕ)} {numbers buffer : List ℕ} {x : FlatWritten} {cs : List (List ℕ)} → Sent lists cs → AllWords cs → image_words ≤ length buffer
    → FreshLoad numbers
    → WriteChainFlat (unwritten_flat numbers buffer) cs x
    → GetsFlat lists buffer x
gets_flat {lists} {buffer = buffer} {cs = cs} s small room fresh p =
    let f = flat_chain fresh small p in
    let g = gets cs s room f.1 in
    record {
      answer = f.2.answer ∙ ap number_of g.answer ∙ number_back (ended lists).number;
      image = ap image_in f.2.buffer ∙ g.image;
      rest = subst (RestKept buffer) (sym f.2.buffer) g.rest;
    }

-- the same of two chains of writes for C and Rust, from fresh loads, of 32-bit words
pub both_get_the_lists_flat : {lists : List (List ℕ)} {m n a b : List ℕ} {cs ds : List (List ℕ)} {v w : FlatWritten} → Sent lists cs → Sent lists ds → AllWords cs → AllWords ds
    → image_words ≤ length a
    → image_words ≤ length b
    → FreshLoad m
    → FreshLoad n
    → WriteChainFlat (unwritten_flat m a) cs v
    → WriteChainFlat (unwritten_flat n b) ds w
    → GetsFlat lists a v × GetsFlat lists b w
both_get_the_lists_flat s t x y ra rb f g p q = (gets_flat s x ra f p, gets_flat t y rb g q)
