-- Demand 3. "Fix one list of entries for each table. Take two whole streams that pass all framing rules and carry these lists, with blocks cut between
-- entries and laid in any order that keeps each list, each sent to a fresh loader in writes of 1 to 64 words, its image, load state and later its
-- ledger touched by nothing else. Given room for the image, both get the answer and the image that demand 2 gives for the lists. If that answer is
-- loaded, one sequence of frames and releases gets, from fresh ledgers, the same verdicts and tiles under both."
use Rattle.std.specs.Prelude.{◌≡◌, List, ℕ, ◌≤◌, length}
use Rattle.std.proofs.Common.{sym, ◌∙◌}
use Rattle.image.specs.Layout.{image_words}
use Rattle.stream.specs.Header.{length_of}
use Rattle.stream.specs.Paper.{passed, framed}
use Rattle.stream.specs.Machine.{Written}
use Rattle.stream.specs.Cutting.{unwritten}
use Rattle.stream.specs.Order.{Piece, streamed}
use Rattle.stream.specs.declared.Answer.TheVariants.{Loaded}
use Rattle.loads.specs.Chains.{WriteChain}
use Rattle.loads.specs.Lists.{Carries, Sent, Gets}
use Rattle.loads.specs.ListsProved as lists
use Rattle.loads.specs.Rest.{room_kept}
use Rattle.nights.specs.Nights.{Alike}
use Rattle.nights.specs.NightLaws.{alike}

-- streams that carry these lists do pass all framing rules, both with these lists
pub any_order_passes : {lists : List (List ℕ)} {ps qs : List Piece} (e0 e1 f0 f1 : ℕ) → Carries lists ps → Carries lists qs → length_of e1 ≡ 0 → length_of f1 ≡ 0
    → (framed (streamed ps e0 e1) ≡ passed lists) × (framed (streamed qs f0 f1) ≡ passed lists)
any_order_passes = lists.any_order_passes

-- two streams of these lists, as the writes cs and ds; two buffers with room; chains of permitted outcomes. Both get the lists' answer and image, with
-- the buffer's rest as it was; and if that answer is loaded, any two permitted nights of the same frames and releases are alike, replicas included
pub demand_3 : {lists : List (List ℕ)} {cs ds : List (List ℕ)} {a b : List ℕ} {v w : Written} → Sent lists cs → Sent lists ds → image_words ≤ length a
    → image_words ≤ length b
    → WriteChain (unwritten a) cs v
    → WriteChain (unwritten b) ds w
    → Gets lists a v
    × Gets lists b w
    × (v.answer ≡ Loaded → Alike v.buffer w.buffer)
demand_3 s t ra rb p q =
    let g = lists.both_get_the_lists s t ra rb p q in
    (g.0, g.1, λ loaded. alike _ _ (room_kept ra g.0.rest) (room_kept rb g.1.rest) (g.0.image ∙ sym g.1.image))
