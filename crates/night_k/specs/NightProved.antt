-- "The night of K, whole": every permitted night of K's list, under whatever a permitted whole load of K's stream leaves, says document 01's output.
use Rattle.std.specs.Prelude.{◌≡◌, refl, false, ℕ, ◌<◌, drop, Float, Ok}
use Rattle.std.proofs.Common.{◌∙◌, le_of_suc-le-suc, lit<, le-ltb}
use Rattle.std.proofs.Math.Path.{ap}
use mathlib.Core.List.{List, [], ◌∷◌}
use Rattle.std.specs.Int.Count.{count_trailing_zeros}
use Rattle.std.specs.Float.{binary64}
use Rattle.std.specs.Float.Ieee.{round, units, odd, size, span, climb, div, of_int, is_nan, to_bits}
use Rattle.image.specs.Layout.{image_words, image_in}
use Rattle.image.specs.Loaded.{too_short}
use Rattle.stream.specs.declared.Answer.{Answer}
use Rattle.stream.specs.declared.Answer.TheVariants.{Loaded}
use Rattle.stream.specs.Paper.{Whole, loaded_words}
use Rattle.stream.specs.Leaves.{Ends}
use Rattle.config_k.specs.Stream.{K}
use Rattle.config_k.specs.Fields.{IsK}
use Rattle.ledger.specs.Answers as ledger
use Rattle.row.specs.Fresh.{fresh_of}
use Rattle.row.specs.Release.{release_refusal, released}
use Rattle.settle.specs.declared.Verdict.{Verdict}
use Rattle.settle.specs.declared.Verdict.TheVariants.{Drop, Sent}
use Rattle.settle.specs.Settle.{judged}
use Rattle.settle.specs.Note.{counts_at}
use Rattle.judge.specs.Judge.{Called, by_itself, call_of}
use Rattle.tile.specs.declared.shares.Tile.TheVariants.{NoFrames, Shares}
use Rattle.tile.specs.Tiles.{Asked, share_of, tile_at, asked_of, bits_of}
use Rattle.kept.specs.History.{Event, frame, release, after}
use Rattle.flat_answers.specs.declared.FlatVerdict.{FlatVerdict}
use Rattle.flat_answers.specs.declared.FlatTile.{FlatTile}
use Rattle.flat_answers.specs.Answers.{flat_verdict}
use Rattle.flat_answers.specs.AnswersLaws.{shown_as}
use Rattle.flat_numbers.specs.Flat.{number_of}
use Rattle.flat_loads.specs.Calls.{LoadsWords}
use Rattle.nights.specs.Nights.{Heard, only, heard_of, Said, verdict, answer, Night, NightOf, NightFlat, defined_answers, AsDefined}
use Rattle.nights.specs.NightLaws.{as_defined, as_defined_flat, fresh_run_is}
use Rattle.image.specs.Standing.{IsLoaded}
use Rattle.records.specs.OfK.{list_of_k}
use Rattle.night_k.specs.List.{events_in}
use Rattle.night_k.specs.ListProved.{events_of_k}
use Rattle.night_k.specs.Output.{HoldsK, sent_of_k, Output, ShowsBits, OutputOf, ShowsNumbers, OutputFlat}
use Rattle.night_k.specs.Rows.{row, ended}
use Rattle.night_k.specs.StepLaws.{fresh_row, not_unloaded, first_frame, second_frame, release_done, release_left, fourth_frame, shows}
use Rattle.night_k.specs.LoadLaws.{holds_fields, holds_loaded, loads_k, holds_k}

-- ---- the shares
-- a number with these bits
record Bits (x : Float) (n : ℕ) : Type 0 where
  real : is_nan x ≡ false
  are : to_bits binary64 x ≡ n

-- a half and all, of frames and of octets
bits_of_k : Bits (share_of 1 2) 0x3fe0000000000000 × Bits (share_of 64 128) 0x3fe0000000000000 × Bits (share_of 1 1) 0x3ff0000000000000 × Bits (share_of 63 63) 0x3ff0000000000000
unfolding share_of div of_int round units odd size span climb count_trailing_zeros is_nan to_bits
bits_of_k = (
  record { real = refl; are = refl },
  record { real = refl; are = refl },
  record { real = refl; are = refl },
  record { real = refl; are = refl },
)

-- ---- the four events
module _ {Verdicts Answers : Type 0} (as_verdict : Verdict → Verdicts) (as_answer : ℕ → Answers) (buffer : List ℕ) where
  -- the definitions say this to a history from row g on, and leave row z
  record Tells (g : List ℕ) (es : List Event) (said : List (Said (Heard Verdicts) Answers)) (z : List ℕ) : Type 0 where
    says : defined_answers (heard_of as_verdict) as_answer buffer g es ≡ said
    leaves : after buffer g es ≡ z

  judges : {g h z : List ℕ} {port time : ℕ} {bytes : List ℕ} {v : Verdict} {es : List Event} {said : List (Said (Heard Verdicts) Answers)}
      → call_of buffer g port time bytes ≡ by_itself (judged v h)
      → Tells h es said z
      → Tells g (frame port time bytes ∷ es) (verdict (only (as_verdict v)) ∷ said) z
  judges {v = v} {es = es} e t =
      record {
        says =
            ap (λ (c : Called). verdict (heard_of as_verdict c) ∷ defined_answers (heard_of as_verdict) as_answer buffer c.row es) e
            ∙ ap (λ (x : List (Said (Heard Verdicts) Answers)). verdict (only (as_verdict v)) ∷ x) t.says;
        leaves = ap (λ (c : Called). after buffer c.row es) e ∙ t.leaves;
      }

  releases : {g h z : List ℕ} {partition n : ℕ} {es : List Event} {said : List (Said (Heard Verdicts) Answers)} → release_refusal buffer g partition ≡ n
      → released buffer g partition ≡ h
      → Tells h es said z
      → Tells g (release partition ∷ es) (answer (as_answer n) ∷ said) z
  releases {g} {partition = partition} {n = n} {es = es} e q t =
      record {
        says =
            ap (λ (m : ℕ). answer (as_answer m) ∷ defined_answers (heard_of as_verdict) as_answer buffer (released buffer g partition) es) e
            ∙ ap (λ (x : List ℕ). answer (as_answer n) ∷ defined_answers (heard_of as_verdict) as_answer buffer x es) q
            ∙ ap (λ (x : List (Said (Heard Verdicts) Answers)). answer (as_answer n) ∷ x) t.says;
        leaves = ap (λ (x : List ℕ). after buffer x es) q ∙ t.leaves;
      }

  -- what they say to the events of K's list, and the row that they leave
  told : IsLoaded buffer → IsK (image_in buffer) → Tells (fresh_of (image_in buffer)) (events_in list_of_k)
      (verdict (only (as_verdict (Sent sent_of_k))) ∷ verdict (only (as_verdict (Drop 11))) ∷ answer (as_answer 0) ∷ verdict (only (as_verdict (Drop 1))) ∷ []) ended
  told l k =
      rw (events_of_k, fresh_row (image_in buffer) k)
      (judges (first_frame buffer l k) (judges (second_frame buffer l k) (releases (release_done buffer l k) (release_left buffer l k) (judges (fourth_frame buffer l k) (record { says = refl; leaves = refl })))))

module _ {Verdicts Answers Tiles : Type 0} (as_verdict : Verdict → Verdicts) {as_answer : ℕ → Answers} {as_tile : Asked → Tiles} {buffer : List ℕ}
    {Fresh : Answers → List ℕ → Type 0} {Judge : List ℕ → ℕ → ℕ → List ℕ → Heard Verdicts → List ℕ → Type 0} {Release : List ℕ → ℕ → Answers → List ℕ → Type 0}
    {Tile : List ℕ → ℕ → Tiles → Type 0} (says : AsDefined (heard_of as_verdict) as_answer as_tile buffer Fresh Judge Release Tile) (l : IsLoaded buffer) (k : IsK (image_in buffer))
    (Shows : ℕ → ℕ → Tiles → Type 0) (as_shares : (x y : Float) (s o : ℕ) → Bits x s → Bits y o → Shows s o (as_tile (Ok (Shares x y)))) where
  -- the output, in the entries' own form
  output : {first : Answers} {g z : List ℕ} {said : List (Said (Heard Verdicts) Answers)} {tile : ℕ → Tiles}
      → Night Fresh Judge Release Tile (events_in list_of_k) first g said z tile
      → Output (only (as_verdict (Sent sent_of_k))) (λ (n : ℕ). only (as_verdict (Drop n))) (as_answer 0) Shows (as_tile (Ok NoFrames)) first said z tile
  unfolding row
  output {first} {g} {z} {said} {tile} n =
      let t = told as_verdict as_answer buffer l k in
      let r = fresh_run_is says (not_unloaded buffer l k) n.fresh n.run in
      let last : z ≡ ended = r.1 ∙ t.leaves in
      let at : (p : ℕ) → p < 5 → tile p ≡ as_tile (Ok (tile_at ended p)) =
      λ p h. says.tile z p (tile p) (n.tiles p h)
      ∙ ap (λ (x : List ℕ). as_tile (asked_of buffer x p)) last
      ∙ ap as_tile (shows buffer l k p (le-ltb 4 p (le_of_suc-le-suc h)))
      in
      record {
        fresh = (says.fresh first g n.fresh).0 ∙ ap as_answer (not_unloaded buffer l k);
        answers = r.0 ∙ t.says;
        tile0 =
            record {
              counted = ap (λ (x : List ℕ). (counts_at x 0).frames) last;
              lost = ap (λ (x : List ℕ). (counts_at x 0).drops) last;
              shares = rw (at 0 (lit< tt)) (as_shares (share_of 1 2) (share_of 64 128) _ _ bits_of_k.0 bits_of_k.1);
            };
        tile1 =
            record {
              counted = ap (λ (x : List ℕ). (counts_at x 1).frames) last;
              lost = ap (λ (x : List ℕ). (counts_at x 1).drops) last;
              shares = rw (at 1 (lit< tt)) (as_shares (share_of 1 1) (share_of 63 63) _ _ bits_of_k.2 bits_of_k.3);
            };
        tile2 = at 2 (lit< tt);
        tile3 = at 3 (lit< tt);
        tile4 = at 4 (lit< tt);
      }

-- ---- a buffer that holds K's image
module _ (buffer : List ℕ) (h : HoldsK buffer) where
  -- every permitted night of K's list says document 01's lines
  pub night_under_k : {first : ledger.Answer} {g z : List ℕ} {said : List (Said (Heard Verdict) ledger.Answer)} {tile : ℕ → Asked}
      → NightOf buffer (events_in list_of_k) first g said z tile
      → OutputOf first said z tile
  night_under_k =
      output (λ (v : Verdict). v) (as_defined buffer) (holds_loaded buffer h) (holds_fields buffer h) ShowsBits
      (λ x y s o p q. record { frame_share = x; octet_share = y; whole = refl; share_bits = p.are; octet_bits = q.are })

  -- and at the entries for C and Rust, by kinds and numbers
  pub night_under_k_flat : {first : ℕ} {g z : List ℕ} {said : List (Said (Heard FlatVerdict) ℕ)} {tile : ℕ → FlatTile}
      → NightFlat buffer (events_in list_of_k) first g said z tile
      → OutputFlat first said z tile
  night_under_k_flat =
      output flat_verdict (as_defined_flat buffer) (holds_loaded buffer h) (holds_fields buffer h) ShowsNumbers
      (λ x y s o p q. shown_as _ _ _ _ (bits x s p) (bits y o q))
    where
      bits : (x : Float) (n : ℕ) → Bits x n → bits_of x ≡ n
      bits x n b = rw (b.real, b.are)

-- ---- whatever a load of K's stream leaves in a buffer with room
module _ (before : List ℕ) (room : too_short before ≡ false) where
  -- "config loaded": the answer, and K's image
  pub load_of_k : (r : Answer) (after : List ℕ) → Ends (loaded_words before K) r after → (r ≡ Loaded) × HoldsK after
  load_of_k r after p =
      let e = loads_k before room in
      (p.told ∙ ap (λ (w : Whole). w.answer) e, rw (p.kept, e) (holds_k (drop image_words before)))

  -- and by its number
  pub load_of_k_flat : (r : ℕ) (after : List ℕ) → LoadsWords before K r after → (r ≡ 0) × HoldsK after
  load_of_k_flat r after p =
      let e = loads_k before room in
      (p.told ∙ ap (λ (w : Whole). number_of w.answer) e, rw (p.kept, e) (holds_k (drop image_words before)))

  -- document 01's whole output: a permitted load says "config loaded", and every permitted night behind it its other lines
  pub night_of_k : {r : Answer} {after : List ℕ} → Ends (loaded_words before K) r after → {first : ledger.Answer} {g z : List ℕ} {said : List (Said (Heard Verdict) ledger.Answer)}
      {tile : ℕ → Asked}
      → NightOf after (events_in list_of_k) first g said z tile
      → (r ≡ Loaded) × OutputOf first said z tile
  night_of_k {r} {after} p n = let e = load_of_k r after p in (e.0, night_under_k after e.1 n)

  -- and at the entries for C and Rust, by kinds and numbers
  pub night_of_k_flat : {r : ℕ} {after : List ℕ} → LoadsWords before K r after → {first : ℕ} {g z : List ℕ} {said : List (Said (Heard FlatVerdict) ℕ)} {tile : ℕ → FlatTile}
      → NightFlat after (events_in list_of_k) first g said z tile
      → (r ≡ 0) × OutputFlat first said z tile
  night_of_k_flat {r} {after} p n = let e = load_of_k_flat r after p in (e.0, night_under_k_flat after e.1 n)
