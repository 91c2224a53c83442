-- A permitted run comes to one thing, and a night depends on the buffer only through its length's test and its image.
use Rattle.std.specs.Prelude.{◌≡◌, refl, Bool, ℕ, ◌≤◌, eqb, length, Ok}
use Rattle.std.proofs.Common.{sym, ◌∙◌, le-ltb}
use Rattle.std.proofs.Math.Path.{ap}
use Rattle.std.proofs.Math.Bool.{cond}
use mathlib.Core.List.{List, [], ◌∷◌}
use Rattle.image.specs.Layout.{image_words, image_in}
use Rattle.image.specs.Loaded.{too_short, not_loaded}
use Rattle.ledger.specs.Answers.{answer_of, number_of}
use Rattle.ledger.specs.AnswersLaws.{numbered}
use Rattle.ledger.specs.Range.{unloaded}
use Rattle.row.specs.Fresh.{fresh_of, no_ledger, freshened, Freshened}
use Rattle.row.specs.Release.{Released}
use Rattle.row.specs.Proved.{same_refusal, same_release}
use Rattle.settle.specs.declared.Verdict.{Verdict}
use Rattle.places.specs.PlacesLaws.{heard_over}
use Rattle.judge.specs.declared.Judgement.{Judgement}
use Rattle.judge.specs.Judge.{Called, call_of}
use Rattle.judge.proofs.Proved.{same_call}
use Rattle.tile.specs.Tiles.{Asked, asked_of, Tiled}
use Rattle.tile.specs.TilesLaws.{same_tile}
use Rattle.kept.specs.History.{Event, frame, release, step, after}
use Rattle.flat_answers.specs.Answers.{flat_verdict, flat_tile}
use Rattle.flat_frames.specs.declared.FlatJudged.{FlatJudged}
use Rattle.flat_frames.specs.Frames.{FreshensFlat, ReleasesFlat, TilesFlat}
use Rattle.nights.specs.Nights.{Said, Hears, HearsFlat, heard_of, verdict, answer, Run, end, judges, releases, Night, defined_answer, defined_answers, AsDefined, SameNight, Alike, AlikeFlat}

-- Rattle's entries say it as it is
pub as_defined : (buffer : List ℕ) → AsDefined (heard_of (λ (v : Verdict). v)) answer_of (λ (t : Asked). t) buffer (Freshened buffer) (Hears buffer) (Released buffer) (Tiled buffer)
as_defined buffer =
    record {
      fresh = λ a g p. (p.answer, p.row);
      judge =
          λ g port time bytes v h p.
          let c = call_of buffer g port time bytes in
          let a = p.call.answer in
          let e = p.first ∙ heard_over c.replicas p.places p.told p.count (ap (λ (j : Judgement). j.replicas) a) p.call.laid in
          (λ i. record { own = (a i).verdict; replicas = e i }, p.call.row);
      release = λ g partition a h p. (p.answer, p.row);
      tile = λ g p t q. q.whole;
    }

-- those for C and Rust by its numbers
pub as_defined_flat : (buffer : List ℕ) → AsDefined (heard_of flat_verdict) (λ (n : ℕ). n) flat_tile buffer (FreshensFlat buffer) (HearsFlat buffer) (ReleasesFlat buffer) (TilesFlat buffer)
as_defined_flat buffer =
    record {
      fresh = λ a g p. (p.number, p.row);
      judge =
          λ g port time bytes v h p.
          let c = call_of buffer g port time bytes in
          let a = p.call.answer in
          let e = p.first ∙ heard_over c.replicas p.places p.told p.count (ap (λ (j : FlatJudged). j.replicas) a) p.call.laid in
          (λ i. record { own = (a i).verdict; replicas = e i }, p.call.row);
      release = λ g partition a h p. (p.number, p.row);
      tile = λ g p t q. q.tile;
    }

-- a fresh ledger was given: neither 31 nor 30
pub not_refused : (buffer g : List ℕ) → Freshened buffer (Ok tt) g → unloaded buffer ≡ 0
not_refused buffer g p = sym (numbered (unloaded buffer)) ∙ ap number_of (sym p.answer)

module _ {Verdicts Answers Tiles : Type 0} {as_verdict : Called → Verdicts} {as_answer : ℕ → Answers} {as_tile : Asked → Tiles} {buffer : List ℕ}
    {Fresh : Answers → List ℕ → Type 0} {Judge : List ℕ → ℕ → ℕ → List ℕ → Verdicts → List ℕ → Type 0} {Release : List ℕ → ℕ → Answers → List ℕ → Type 0}
    {Tile : List ℕ → ℕ → Tiles → Type 0} (says : AsDefined as_verdict as_answer as_tile buffer Fresh Judge Release Tile) where
  -- one event more, answered x with row h
  next : (g h z : List ℕ) (e : Event) (es : List Event) (said : List (Said Verdicts Answers)) (x : Said Verdicts Answers) → x ≡ defined_answer as_verdict as_answer buffer g e
      → h ≡ step buffer g e
      → (said ≡ defined_answers as_verdict as_answer buffer h es) × (z ≡ after buffer h es)
      → (x ∷ said ≡ defined_answers as_verdict as_answer buffer g (e ∷ es)) × (z ≡ after buffer g (e ∷ es))
  next g h z e es said x p q i = (
    ap (λ (y : Said Verdicts Answers). y ∷ said) p
        ∙ ap (λ (l : List (Said Verdicts Answers)). defined_answer as_verdict as_answer buffer g e ∷ l) (i.0 ∙ ap (λ (y : List ℕ). defined_answers as_verdict as_answer buffer y es) q),
    i.1 ∙ ap (λ (y : List ℕ). after buffer y es) q,
  )

  -- a permitted run comes to one thing: what the definitions say, and the row that they leave
  pub run_is : {g z : List ℕ} {es : List Event} {said : List (Said Verdicts Answers)} → Run Judge Release g es said z
      → (said ≡ defined_answers as_verdict as_answer buffer g es) × (z ≡ after buffer g es)
  run_is end = (refl, refl)
  run_is (judges {g} {h} {z} {port} {time} {bytes} {v} {es} {said} p r) =
      let s = says.judge g port time bytes v h p in
      next g h z (frame port time bytes) es said (verdict v) (ap verdict s.0) s.1 (run_is r)
  run_is (releases {g} {h} {z} {partition} {a} {es} {said} p r) =
      let s = says.release g partition a h p in
      next g h z (release partition) es said (answer a) (ap answer s.0) s.1 (run_is r)

  -- from a fresh ledger that was not refused
  pub fresh_run_is : {es : List Event} {first : Answers} {g z : List ℕ} {said : List (Said Verdicts Answers)} → unloaded buffer ≡ 0 → Fresh first g
      → Run Judge Release g es said z
      → (said ≡ defined_answers as_verdict as_answer buffer (fresh_of (image_in buffer)) es) × (z ≡ after buffer (fresh_of (image_in buffer)) es)
  fresh_run_is {es} {first} {g} given f r =
      let begun : g ≡ fresh_of (image_in buffer) = (says.fresh first g f).1 ∙ rw given in
      let i = run_is r in
      (i.0 ∙ ap (λ (x : List ℕ). defined_answers as_verdict as_answer buffer x es) begun, i.1 ∙ ap (λ (x : List ℕ). after buffer x es) begun)

  -- and so does a night
  night_is : {es : List Event} {first : Answers} {g z : List ℕ} {said : List (Said Verdicts Answers)} {tile : ℕ → Tiles}
      → Night Fresh Judge Release Tile es first g said z tile
      → SameNight first (as_answer (unloaded buffer)) g (freshened buffer) said (defined_answers as_verdict as_answer buffer (freshened buffer) es) z (after buffer (freshened buffer) es)
      tile (λ p. as_tile (asked_of buffer (after buffer (freshened buffer) es) p))
  night_is {es} {first} {g} {z} {said} {tile} n =
      let f = says.fresh first g n.fresh in
      let r = run_is n.run in
      let last = r.1 ∙ ap (λ (x : List ℕ). after buffer x es) f.1 in
      record {
        fresh = f.0;
        begun = f.1;
        answers = r.0 ∙ ap (λ (x : List ℕ). defined_answers as_verdict as_answer buffer x es) f.1;
        row = last;
        tiles = λ p h. says.tile z p (tile p) (n.tiles p h) ∙ ap (λ (x : List ℕ). as_tile (asked_of buffer x p)) last;
      }

-- ---- a buffer's rest has no part in it: two buffers that are both long enough, or both too short, with one image
module _ (a b : List ℕ) (long : too_short a ≡ too_short b) (image : image_in a ≡ image_in b) where
  same_unloaded : unloaded a ≡ unloaded b
  unfolding unloaded
  same_unloaded =
      ap (λ (t : Bool). cond t 31 (cond (not_loaded (image_in a)) 30 0)) long ∙ ap (λ (i : List ℕ). cond (too_short b) 31 (cond (not_loaded i) 30 0)) image

  same_fresh : freshened a ≡ freshened b
  same_fresh =
      ap (λ (n : ℕ). cond (eqb n 0) (fresh_of (image_in a)) no_ledger) same_unloaded
      ∙ ap (λ (i : List ℕ). cond (eqb (unloaded b) 0) (fresh_of i) no_ledger) image

  same_step : (g : List ℕ) (e : Event) → step a g e ≡ step b g e
  same_step g (frame port time bytes) = ap (λ (j : Called). j.row) (same_call a b long image g port time bytes)
  same_step g (release partition) = same_release a b long image g partition

  same_after : (g : List ℕ) (es : List Event) → after a g es ≡ after b g es
  same_after g [] = refl
  same_after g (e ∷ es) = ap (λ (x : List ℕ). after a x es) (same_step g e) ∙ same_after (step b g e) es

  module _ {Verdicts Answers : Type 0} (as_verdict : Called → Verdicts) (as_answer : ℕ → Answers) where
    same_told : (g : List ℕ) (e : Event) → defined_answer as_verdict as_answer a g e ≡ defined_answer as_verdict as_answer b g e
    same_told g (frame port time bytes) = ap (λ (j : Called). verdict (as_verdict j)) (same_call a b long image g port time bytes)
    same_told g (release partition) = ap (λ (n : ℕ). answer (as_answer n)) (same_refusal a b long image g partition)

    same_said : (g : List ℕ) (es : List Event) → defined_answers as_verdict as_answer a g es ≡ defined_answers as_verdict as_answer b g es
    same_said g [] = refl
    same_said g (e ∷ es) =
        ap (λ (x : Said Verdicts Answers). x ∷ defined_answers as_verdict as_answer a (step a g e) es) (same_told g e)
        ∙ ap (λ (l : List (Said Verdicts Answers)). defined_answer as_verdict as_answer b g e ∷ l)
        (ap (λ (x : List ℕ). defined_answers as_verdict as_answer a x es) (same_step g e) ∙ same_said (step b g e) es)

    module _ {Tiles : Type 0} (as_tile : Asked → Tiles) where
      same_defined : (es : List Event) → SameNight (as_answer (unloaded a)) (as_answer (unloaded b)) (freshened a) (freshened b) (defined_answers as_verdict as_answer a (freshened a) es)
          (defined_answers as_verdict as_answer b (freshened b) es)
          (after a (freshened a) es)
          (after b (freshened b) es)
          (λ p. as_tile (asked_of a (after a (freshened a) es) p))
          (λ p. as_tile (asked_of b (after b (freshened b) es) p))
      same_defined es =
          let last = same_after (freshened a) es ∙ ap (λ (x : List ℕ). after b x es) same_fresh in
          record {
            fresh = ap as_answer same_unloaded;
            begun = same_fresh;
            answers = same_said (freshened a) es ∙ ap (λ (x : List ℕ). defined_answers as_verdict as_answer b x es) same_fresh;
            row = last;
            tiles =
                λ p h. ap as_tile (same_tile a b long image (after a (freshened a) es) p) ∙ ap (λ (x : List ℕ). as_tile (asked_of b x p)) last;
          }

-- one night is a second, and that is a third
module _ {Verdicts Answers Tiles : Type 0} {first second third : Answers} {g h i : List ℕ} {said told heard : List (Said Verdicts Answers)} {z y x : List ℕ}
    {tile shown seen : ℕ → Tiles} where
  then : SameNight first second g h said told z y tile shown → SameNight second third h i told heard y x shown seen
      → SameNight first third g i said heard z x tile seen
  then m n =
      record {
        fresh = m.fresh ∙ n.fresh;
        begun = m.begun ∙ n.begun;
        answers = m.answers ∙ n.answers;
        row = m.row ∙ n.row;
        tiles = λ p l. m.tiles p l ∙ n.tiles p l;
      }

module _ {Verdicts Answers Tiles : Type 0} {first second : Answers} {g h : List ℕ} {said told : List (Said Verdicts Answers)} {z y : List ℕ} {tile shown : ℕ → Tiles} where
  back : SameNight first second g h said told z y tile shown → SameNight second first h g told said y z shown tile
  back m = record { fresh = sym m.fresh; begun = sym m.begun; answers = sym m.answers; row = sym m.row; tiles = λ p l. sym (m.tiles p l) }

-- "one sequence of frames and releases gets, from fresh ledgers, the same verdicts and tiles under both"
pub same_night : (a b : List ℕ) → too_short a ≡ too_short b → image_in a ≡ image_in b → Alike a b
same_night a b long image =
    record {
      same =
          λ es m n. then (night_is (as_defined a) m) (then (same_defined a b long image (heard_of (λ (v : Verdict). v)) answer_of (λ (t : Asked). t) es) (back (night_is (as_defined b) n)));
    }

-- and at the entries for C and Rust
pub same_night_flat : (a b : List ℕ) → too_short a ≡ too_short b → image_in a ≡ image_in b → AlikeFlat a b
same_night_flat a b long image =
    record {
      same = λ es m n. then (night_is (as_defined_flat a) m) (then (same_defined a b long image (heard_of flat_verdict) (λ (k : ℕ). k) flat_tile es) (back (night_is (as_defined_flat b) n)));
    }

-- two buffers with room and one image
module _ (a b : List ℕ) (ra : image_words ≤ length a) (rb : image_words ≤ length b) where
  both_long : too_short a ≡ too_short b
  both_long = le-ltb (length a) image_words ra ∙ sym (le-ltb (length b) image_words rb)

  pub alike : image_in a ≡ image_in b → Alike a b
  alike = same_night a b both_long

  pub alike_flat : image_in a ≡ image_in b → AlikeFlat a b
  alike_flat = same_night_flat a b both_long
