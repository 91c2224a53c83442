-- Demand 2, of tiles: over any permitted night a port's cells are the sums over its verdicts, its tile is theirs, and a port with no frames shows no share.
use Rattle.std.specs.Prelude.{◌≡◌, refl, Bool, true, cond, List, [], ◌∷◌, ℕ, ◌<◌, ◌≤◌, eqb, pos, Float, Ok}
use Rattle.std.proofs.Common.{sym, ◌∙◌, subst, le_of_suc-le-suc, arith}
use Rattle.std.proofs.Math.Path.{ap}
use Rattle.std.proofs.Math.Bool.{false}
use Rattle.std.specs.Float.{fin}
use Rattle.std.specs.Float.Ieee.{binary64, is_nan, to_bits}
use borrow.Author.Tests.{le-ltb, ne_eqb, eqb-true}
use Rattle.laws.specs.Chain.{zero_first, zero_rest}
use Rattle.image.specs.Layout.{image_in}
use Rattle.image.specs.Loaded.{too_short, not_loaded}
use Rattle.ledger.specs.Answers.{Answer}
use Rattle.ledger.specs.Stands.{Counted}
use Rattle.ledger.specs.Range.{unloaded}
use Rattle.row.specs.Fresh.{fresh_of, Freshened}
use Rattle.spend.specs.declared.Counts.{Counts}
use Rattle.settle.specs.declared.Verdict.{Verdict}
use Rattle.settle.specs.Note.{counts_at}
use Rattle.tile.specs.declared.shares.Tile.TheVariants.{NoFrames, Shares}
use Rattle.tile.specs.Tiles.{Asked, share_of, tile_of, asked_of, Tiled, bits_of}
use Rattle.tile.specs.Shares.{perfect, share_real}
use Rattle.judge.specs.Judge.{Called}
use Rattle.kept.specs.Kept.{Kept}
use Rattle.kept.specs.KeptLaws.{fresh_kept}
use Rattle.kept.specs.History.{Event, step, after}
use Rattle.kept.specs.HistoryLaws.{step_kept, never_39}
use Rattle.flat_answers.specs.declared.FlatVerdict.{FlatVerdict}
use Rattle.flat_answers.specs.declared.FlatTile.{FlatTile}
use Rattle.flat_answers.specs.Answers.{flat_shown, flat_tile}
use Rattle.flat_answers.specs.AnswersLaws.{shown_as}
use Rattle.flat_frames.specs.Frames.{FreshensFlat, TilesFlat}
use Rattle.nights.specs.Nights.{Heard, Said, Run, RunOf, RunFlat, NightOf, NightFlat, AsDefined}
use Rattle.nights.specs.NightLaws.{as_defined, as_defined_flat, not_refused, fresh_run_is}
use Rattle.nights.specs.Sums.{Kind, kind_of, kind_flat, own_kind, sums_of, tile_from, divided, Shows, ShowsFlat}
use Rattle.nights.specs.SumLaws.{same_kind, counts_are_sums, few}

-- what is known of port p's counts c in row z
record Known (buffer z : List ℕ) (p : ℕ) (c : Counts) : Type 0 where
  counts : counts_at z p ≡ c
  asked : asked_of buffer z p ≡ Ok (tile_from c)
  range : Counted c.frames c.drops c.octets c.dropped
  few : c.frames ≤ 4294967295

-- ---- they are known over the definitions
module _ (buffer : List ℕ) (given : unloaded buffer ≡ 0) (p : ℕ) (inside : p < 5) where
  history_kept : (g : List ℕ) (es : List Event) → Kept (image_in buffer) g → Kept (image_in buffer) (after buffer g es)
  history_kept g [] k = k
  history_kept g (e ∷ es) k = history_kept (step buffer g e) es (step_kept buffer g e k)

  known_after : (es : List Event) → Known buffer (after buffer (fresh_of (image_in buffer)) es) p (counts_at (after buffer (fresh_of (image_in buffer)) es) p)
  unfolding unloaded asked_of
  known_after es =
      record {
        counts = refl;
        asked =
            rw (
              zero_first (too_short buffer) 30 _ given,
              le-ltb 4 p (le_of_suc-le-suc inside),
              zero_first (not_loaded (image_in buffer)) 29 _ (zero_rest (too_short buffer) 30 _ given),
              never_39 buffer es,
            );
        range = (history_kept (fresh_of (image_in buffer)) es (fresh_kept (image_in buffer))).range.tiled p inside;
        few = few buffer p es inside;
      }

  -- and over what entries permit
  module _ {Verdicts Answers Tiles : Type 0} {as_verdict : Called → Verdicts} {as_answer : ℕ → Answers} {as_tile : Asked → Tiles} {Fresh : Answers → List ℕ → Type 0}
      {Judge : List ℕ → ℕ → ℕ → List ℕ → Verdicts → List ℕ → Type 0} {Release : List ℕ → ℕ → Answers → List ℕ → Type 0} {Tile : List ℕ → ℕ → Tiles → Type 0}
      (says : AsDefined as_verdict as_answer as_tile buffer Fresh Judge Release Tile) (kind : Verdicts → Kind) (same : (c : Called) → kind (as_verdict c) ≡ kind_of c.verdict) where
    run_known : {es : List Event} {first : Answers} {g z : List ℕ} {said : List (Said Verdicts Answers)} → Fresh first g → Run Judge Release g es said z
        → Known buffer z p (sums_of kind p es said)
    run_known {es} {first} {g} {z} {said} f r =
        let i = fresh_run_is says given f r in
        subst (λ (x : List ℕ). Known buffer x p (sums_of kind p es said)) (sym i.1)
        (subst (λ (c : Counts). Known buffer (after buffer (fresh_of (image_in buffer)) es) p c)
        (counts_are_sums as_verdict as_answer kind same buffer p inside es ∙ ap (sums_of kind p es) (sym i.0)) (known_after es))

-- ---- what the counts show
plus_zero_bits : to_bits binary64 (fin false 0 (pos 0)) ≡ 0
unfolding to_bits
plus_zero_bits = refl

module _ (buffer z : List ℕ) (p : ℕ) (c : Counts) (k : Known buffer z p c) where
  kind_two : (flat_shown (tile_from c)).kind ≡ 2 → c.frames ≡ 0
  kind_two = by (eqb c.frames 0) refl
    where
      by : (t : Bool) → eqb c.frames 0 ≡ t → (flat_shown (cond t NoFrames (Shares (share_of c.drops c.frames) (share_of c.dropped c.octets)))).kind ≡ 2
          → c.frames ≡ 0
      by true e q = eqb-true c.frames 0 e
      by false e q = absurd (omega arith)

  no_frames : c.frames ≡ 0 → tile_from c ≡ NoFrames
  no_frames e = rw e

  bounds : (c.frames ≡ 0 → ⊥) → (0 < c.frames) × (c.frames < 18446744073709551616) × (0 < c.octets) × (c.octets < 18446744073709551616)
      × (c.drops < 18446744073709551616) × (c.dropped < 18446744073709551616)
  bounds h = let r = k.range in let f = k.few in (omega arith, omega arith, omega arith, omega arith, omega arith, omega arith)

  one_division : (c.frames ≡ 0 → ⊥) → tile_from c ≡ Shares (divided c.drops c.frames) (divided c.dropped c.octets)
  unfolding share_of
  one_division h = rw (ne_eqb c.frames 0 h)

  real : (c.frames ≡ 0 → ⊥) → (is_nan (divided c.drops c.frames) ≡ false) × (is_nan (divided c.dropped c.octets) ≡ false)
  unfolding share_of
  real h = let b = bounds h in (share_real _ _ b.4 b.0 b.1, share_real _ _ b.5 b.2 b.3)

  plus_zero : (c.frames ≡ 0 → ⊥) → c.drops ≡ 0 → tile_from c ≡ Shares (fin false 0 (pos 0)) (fin false 0 (pos 0))
  plus_zero h e =
      let b = bounds h in
      ap (λ (d : ℕ). tile_of c.frames d c.octets c.dropped) e
      ∙ perfect c.frames c.octets c.dropped b.0 b.1 b.3 (subst (λ (d : ℕ). Counted c.frames d c.octets c.dropped) e k.range)

  asked_shows : (t : Asked) → t ≡ asked_of buffer z p → Shows c t
  asked_shows t q =
      let e = q ∙ k.asked in
      record {
        tile = e;
        no_frames = (λ n. kind_two (ap (λ (x : Asked). (flat_tile x).kind) (sym e ∙ n)), λ n. e ∙ ap Ok (no_frames n));
        shares = λ h. e ∙ ap Ok (one_division h);
        real = real;
        perfect = λ h n. (fin false 0 (pos 0), fin false 0 (pos 0), e ∙ ap Ok (plus_zero h n), plus_zero_bits, plus_zero_bits);
      }

  asked_shows_flat : (t : FlatTile) → t ≡ flat_tile (asked_of buffer z p) → ShowsFlat c t
  unfolding is_nan
  asked_shows_flat t q =
      let e : t ≡ flat_shown (tile_from c) = q ∙ ap flat_tile k.asked in
      record {
        tile = e;
        no_frames = (λ n. kind_two (ap (λ (x : FlatTile). x.kind) (sym e) ∙ n), λ n. ap (λ (x : FlatTile). x.kind) (e ∙ ap flat_shown (no_frames n)));
        shares = λ h. e ∙ ap flat_shown (one_division h) ∙ shown_as _ _ _ _ (bits _ (real h).0) (bits _ (real h).1);
        real = real;
        perfect = λ h n. e ∙ ap flat_shown (plus_zero h n) ∙ shown_as _ _ _ _ plus_zero_bits plus_zero_bits;
      }
    where
      bits : (x : Float) → is_nan x ≡ false → bits_of x ≡ to_bits binary64 x
      bits x h = rw h

-- ---- at Rattle's entries
module _ (buffer : List ℕ) (es : List Event) (g : List ℕ) (said : List (Said (Heard Verdict) Answer)) (z : List ℕ) (fresh : Freshened buffer (Ok tt) g)
    (run : RunOf buffer g es said z) (p : ℕ) (inside : p < 5) where
  known_of : Known buffer z p (sums_of (own_kind kind_of) p es said)
  known_of = run_known buffer (not_refused buffer g fresh) p inside (as_defined buffer) (own_kind kind_of) (λ c. refl) fresh run

  -- "Tiles count what was judged": after a fresh ledger and any permitted run, port p's four cells are the four sums over its verdicts
  pub cells_are_the_sums : counts_at z p ≡ sums_of (own_kind kind_of) p es said
  cells_are_the_sums = known_of.counts

  -- and its tile is theirs
  pub tile_shows_the_sums : (t : Asked) → Tiled buffer z p t → Shows (sums_of (own_kind kind_of) p es said) t
  tile_shows_the_sums t q = asked_shows buffer z p (sums_of (own_kind kind_of) p es said) known_of t q.whole

-- ---- at those for C and Rust
module _ (buffer : List ℕ) (es : List Event) (g : List ℕ) (said : List (Said (Heard FlatVerdict) ℕ)) (z : List ℕ) (fresh : FreshensFlat buffer 0 g)
    (run : RunFlat buffer g es said z) (p : ℕ) (inside : p < 5) where
  known_flat : Known buffer z p (sums_of (own_kind kind_flat) p es said)
  known_flat = run_known buffer (sym fresh.number) p inside (as_defined_flat buffer) (own_kind kind_flat) (λ c. same_kind c.verdict) fresh run

  -- the lent ledger's four cells
  pub cells_are_the_sums_flat : counts_at z p ≡ sums_of (own_kind kind_flat) p es said
  cells_are_the_sums_flat = known_flat.counts

  -- and its tile
  pub tile_shows_the_sums_flat : (t : FlatTile) → TilesFlat buffer z p t → ShowsFlat (sums_of (own_kind kind_flat) p es said) t
  tile_shows_the_sums_flat t q = asked_shows_flat buffer z p (sums_of (own_kind kind_flat) p es said) known_flat t q.tile

-- ---- a whole night whose fresh ledger was not refused: each of the five tiles shows its port's sums
pub night_shows_the_sums : (buffer : List ℕ) (es : List Event) (g : List ℕ) (said : List (Said (Heard Verdict) Answer)) (z : List ℕ) (tile : ℕ → Asked)
    → NightOf buffer es (Ok tt) g said z tile
    → (p : ℕ)
    → p < 5
    → Shows (sums_of (own_kind kind_of) p es said) (tile p)
night_shows_the_sums buffer es g said z tile n p h = tile_shows_the_sums buffer es g said z n.fresh n.run p h (tile p) (n.tiles p h)

-- and at the entries for C and Rust
pub night_shows_the_sums_flat : (buffer : List ℕ) (es : List Event) (g : List ℕ) (said : List (Said (Heard FlatVerdict) ℕ)) (z : List ℕ) (tile : ℕ → FlatTile)
    → NightFlat buffer es 0 g said z tile
    → (p : ℕ)
    → p < 5
    → ShowsFlat (sums_of (own_kind kind_flat) p es said) (tile p)
night_shows_the_sums_flat buffer es g said z tile n p h = tile_shows_the_sums_flat buffer es g said z n.fresh n.run p h (tile p) (n.tiles p h)
