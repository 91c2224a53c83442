-- Every cutting: writes of 1 to 64 words from a fresh load state, into any buffer with room, come to what one run over all the words comes to.
use Rattle.std.specs.Prelude.{◌≡◌, refl, List, [], ◌∷◌, ℕ, ◌≤◌, eqb, length, drop}
use Rattle.std.proofs.Common.{sym, ◌∙◌, ap, subst, le-ltb}
use mathlib.Core.Bool.{Bool, true, false, cond, not}
use Rattle.laws.specs.Chain.{pass}
use Rattle.crc.specs.Crc.{word_in, finished, checksum}
use Rattle.image.specs.Layout.{image_words, image_in, cleared, marked}
use Rattle.image.specs.Loaded.{too_short}
use Rattle.image.specs.Blocks.{block_of}
use Rattle.rules.specs.Rules.{ruled}
use Rattle.stream.specs.Header.{Header, Wrong, Right, device, id_of, length_of, header_of}
use Rattle.stream.specs.Paper.{framed}
use Rattle.stream.specs.Machine.{Machine, at, fresh, begins, had_in, step_in, step, run, begun, damaged, outside, Written, written, untouched, opened, wrote}
use Rattle.stream.specs.Runs.{run_append}
use Rattle.stream.specs.Ends.{Reached}
use Rattle.stream.specs.EndsLaws.{run_reached}
use Rattle.stream.specs.Fine.{Fine}
use Rattle.stream.specs.FineLaws.{cleared_fine, run_fine, fine_undamaged}
use Rattle.stream.specs.declared.Phase.{Phase}
use Rattle.stream.specs.declared.Phase.TheVariants.{Device, Id, Length, Sum, Data, Told}
use Rattle.stream.specs.declared.Load.{Load}
use Rattle.stream.specs.Cutting.{writes, unwritten, words, Cuts}

-- ---- a load that has taken a word has begun
chosen : (t : Bool) (a b : Machine) → begun a.load.phase ≡ true → begun b.load.phase ≡ true → begun (cond t a b).load.phase ≡ true
chosen true a b p q = p
chosen false a b p q = q

begun_in : (p : Phase) (l : Load) (buffer : List ℕ) (w : ℕ) → l.phase ≡ p → begun (step_in p l buffer w).load.phase ≡ true
begun_in Device l buffer w e = chosen (not (eqb w device)) _ _ refl refl
begun_in Id l buffer w e = refl
begun_in Length l buffer w e = refl
begun_in Sum l buffer w e =
    chosen (eqb (length_of l.second) 0) _ _
    (chosen (not (eqb w (finished l.stream))) _ _ refl (chosen (eqb (ruled (image_in (marked buffer))) 0) _ _ refl refl))
    (chosen (not (eqb w (checksum (l.first ∷ l.second ∷ [])))) _ _ refl
    (begins_begun (header_of (block_of (id_of l.first)) (length_of l.second) (had_in buffer))))
  where
    begins_begun : (x : Header) → begun (begins x (word_in l.stream w) (length_of l.second) buffer).load.phase ≡ true
    begins_begun (Wrong number) = refl
    begins_begun (Right t) = refl
begun_in Data l buffer w e = chosen (eqb l.due 0) _ _ (chosen (not (eqb w (finished l.block))) _ _ refl refl) refl
begun_in (Told n) l buffer w e = ap begun e

step_begun : (m : Machine) (w : ℕ) → begun (step m w).load.phase ≡ true
unfolding step
step_begun m w = begun_in m.load.phase m.load m.buffer w refl

run_begun : (m : Machine) (ws : List ℕ) → begun m.load.phase ≡ true → begun (run m ws).load.phase ≡ true
unfolding run
run_begun m [] e = e
run_begun m (w ∷ ws) e = run_begun (step m w) ws (step_begun m w)

-- a first write has a word
first_begun : (m : Machine) (c : List ℕ) → outside (length c) ≡ false → begun (run m c).load.phase ≡ true
unfolding run
first_begun m [] e = absurd (mathlib.Core.Bool.true≢false e)
first_begun m (w ∷ c) e = run_begun (step m w) c (step_begun m w)

-- ---- a write to a load that is fine is a run
wrote_run : (l : Load) (buffer c : List ℕ) → image_words ≤ length buffer → damaged l (image_in buffer) ≡ false → outside (length c) ≡ false
    → wrote l buffer c ≡ written (run (opened l buffer) c)
unfolding wrote
wrote_run l buffer c w d o =
    sym
    (pass (too_short buffer) (too_short buffer) r (untouched 31 l buffer) _ refl (le-ltb (length buffer) image_words w)
    (pass (damaged l (image_in buffer)) (damaged l (image_in buffer)) r (untouched 30 l buffer) _ refl d
    (pass (outside (length c)) (outside (length c)) r (untouched 32 l buffer) r refl o refl)))
  where
    r : Written
    r = written (run (opened l buffer) c)

on : (cs : List (List ℕ)) (m : Machine) → Fine m → begun m.load.phase ≡ true → Cuts cs → writes (written m) cs ≡ written (run m (words cs))
unfolding writes words run
on [] m f b cuts = refl
on (c ∷ cs) m f b cuts =
    ap (λ (w : Written). writes w cs)
    (wrote_run m.load m.buffer c f.whole (fine_undamaged m f) cuts.0
    ∙ ap (λ (t : Bool). written (run (at m.load (cond t m.buffer (cleared m.buffer))) c)) b)
    ∙ on cs (run m c) (run_fine m c f) (run_begun m c b) cuts.1
    ∙ ap written (sym (run_append m c (words cs)))

-- any cutting is one run
pub cutting : (buffer c : List ℕ) (cs : List (List ℕ)) → image_words ≤ length buffer → Cuts (c ∷ cs)
    → writes (unwritten buffer) (c ∷ cs) ≡ written (run (at fresh (cleared buffer)) (words (c ∷ cs)))
unfolding writes words
cutting buffer c cs w cuts =
    ap (λ (x : Written). writes x cs) (wrote_run fresh buffer c w refl cuts.0)
    ∙ on cs (run (at fresh (cleared buffer)) c) (run_fine _ c (cleared_fine fresh buffer tt)) (first_begun (at fresh (cleared buffer)) c cuts.0) cuts.1
    ∙ ap written (sym (run_append (at fresh (cleared buffer)) c (words cs)))

-- and so it comes to what the paper's form says of its words
pub cut_reached : (buffer c : List ℕ) (cs : List (List ℕ)) → image_words ≤ length buffer → Cuts (c ∷ cs)
    → Reached (drop image_words buffer) (framed (words (c ∷ cs))) (writes (unwritten buffer) (c ∷ cs))
cut_reached buffer c cs w cuts =
    subst (λ (x : Written). Reached (drop image_words buffer) (framed (words (c ∷ cs))) x) (sym (cutting buffer c cs w cuts))
    (run_reached buffer (words (c ∷ cs)))
