-- Demand 1: an image that isn't loaded is never judged; and one that is loaded is never told 30.
use Rattle.std.specs.Prelude.{◌≡◌, Bool, cond, List, ℕ, ◌<◌, ltb, leb, eqb, length, Float, Ok, Err}
use Rattle.std.proofs.Math.Path.{refl, sym}
use Rattle.std.proofs.Common.{◌∙◌, ap, le_of_suc-le-suc, arith}
use Rattle.std.proofs.Math.Bool.{true, false}
use borrow.Author.Tests.{le-ltb}
use Rattle.laws.specs.Chain.{hit, pass}
use Rattle.image.specs.Layout.{image_in}
use Rattle.image.specs.Loaded.{too_short, not_loaded}
use Rattle.fields.specs.Fields.{part_spc}
use Rattle.ledger.specs.Answers.{answer_of}
use Rattle.ledger.specs.Row.{units, frames, last, cell}
use Rattle.ledger.specs.Range.{out_of_range, unloaded, standing}
use Rattle.row.specs.Fresh.{fresh_of, no_ledger, freshened}
use Rattle.row.specs.Release.{unreleased, release_refusal, released}
use Rattle.settle.specs.declared.Verdict.TheVariants.{Refused}
use Rattle.settle.specs.Settle.{judged}
use Rattle.places.specs.Places.{laid_over}
use Rattle.places.specs.PlacesLaws.{laid_none}
use Rattle.judge.specs.Refusal.{mistimed, unjudged, refusal_of}
use Rattle.judge.specs.declared.Judgement.{Judgement}
use Rattle.judge.specs.Judge.{Called, by_itself, call_of, answer_of as answer_of_call}
use Rattle.judge.proofs.Proved.{refused_call}
use Rattle.tile.specs.declared.shares.Tile.TheVariants.{NotLoaded, NoFrames, Shares}
use Rattle.tile.specs.Tiles.{Asked, tile_at, asked_of}
use Rattle.flat_answers.specs.declared.FlatTile.{FlatTile}
use Rattle.flat_answers.specs.Answers.{flat_verdict, flat_tile}
use Rattle.flat_frames.specs.declared.FlatJudged.{FlatJudged}
use Rattle.flat_frames.specs.Frames.{flat_judged}
use Rattle.image.specs.Standing.{Unloaded, IsLoaded}
use Rattle.nights.specs.Loaded.{NeverJudged, NeverThirty}
use Rattle.nights.specs.RefusedProved.{as_it_was, refused_by_lem, refused_number}

-- ---- not loaded
module _ (buffer : List ℕ) (u : Unloaded buffer) where
  unloaded_30 : unloaded buffer ≡ 30
  unfolding unloaded
  unloaded_30 =
      sym (pass (too_short buffer) (too_short buffer) 30 31 _ refl u.room (hit (not_loaded (image_in buffer)) (not_loaded (image_in buffer)) 30 _ refl u.unmarked))

  standing_30 : (g : List ℕ) → standing buffer g ≡ 30
  unfolding standing
  standing_30 g = rw unloaded_30

  refusal_30 : (g : List ℕ) (port time : ℕ) (frame : List ℕ) → refusal_of buffer g port time frame ≡ 30
  unfolding refusal_of
  refusal_30 g port time frame = rw (standing_30 g)

  release_30 : (g : List ℕ) (partition : ℕ) → release_refusal buffer g partition ≡ 30
  unfolding release_refusal
  release_30 g partition = rw (standing_30 g)

  called_30 : (g : List ℕ) (port time : ℕ) (frame : List ℕ) → call_of buffer g port time frame ≡ by_itself (judged (Refused 30) g)
  called_30 g port time frame =
      let e = refusal_30 g port time frame in
      refused_call buffer g port time frame (λ z. absurd (omega arith)) ∙ ap (λ (n : ℕ). by_itself (judged (Refused n) g)) e

  kept_30 : (g : List ℕ) (partition : ℕ) → released buffer g partition ≡ g
  unfolding released
  kept_30 g partition = rw (release_30 g partition)

  fresh_30 : freshened buffer ≡ no_ledger
  fresh_30 = rw unloaded_30

  tile_30 : (g : List ℕ) (p : ℕ) → p < 5 → asked_of buffer g p ≡ Ok NotLoaded
  unfolding asked_of
  tile_30 g p h = rw (u.room, le-ltb 4 p (le_of_suc-le-suc h), u.unmarked)

  -- "An image that isn't loaded is never judged"
  pub never_judged : NeverJudged buffer
  never_judged =
      record {
        fresh = λ r after p. (p.answer ∙ ap answer_of unloaded_30, p.row ∙ fresh_30);
        frame =
            λ g port time bytes places r after told p.
            let e = called_30 g port time bytes in
            (p.answer ∙ ap answer_of_call e, p.row ∙ ap (λ (c : Called). c.row) e, p.laid ∙ ap (λ (c : Called). laid_over c.replicas places) e ∙ sym (laid_none places));
        release = λ g partition r after p. (p.answer ∙ ap answer_of (release_30 g partition), p.row ∙ kept_30 g partition);
        tile = λ g q t h p. p.whole ∙ tile_30 g q h;
        fresh_flat = λ r after p. (p.number ∙ unloaded_30, p.row ∙ fresh_30);
        frame_flat =
            λ g port time bytes places r after told p.
            let e = called_30 g port time bytes in (
              p.answer ∙ ap (λ (c : Called). flat_judged c.verdict (length c.replicas)) e,
              p.row ∙ ap (λ (c : Called). c.row) e,
              p.laid ∙ ap (λ (c : Called). laid_over c.replicas places) e ∙ sym (laid_none places),
            );
        release_flat = λ g partition r after p. (p.number ∙ release_30 g partition, p.row ∙ kept_30 g partition);
        tile_flat = λ g q t h p. p.tile ∙ ap flat_tile (tile_30 g q h);
      }

-- ---- loaded
-- a chain of refusals that holds no 30
past : (t : Bool) (n y : ℕ) → (n ≡ 30 → ⊥) → (y ≡ 30 → ⊥) → cond t n y ≡ 30 → ⊥
past true n y a b = a
past false n y a b = b

-- a tile's answer as numbers: of no kind 1, and with no number 30
abbrev NotThirty : Asked → Type 0
NotThirty t = ((flat_tile t).kind ≡ 1 → ⊥) × ((flat_tile t).number ≡ 30 → ⊥)

module _ (buffer : List ℕ) (l : IsLoaded buffer) where
  not_unloaded : unloaded buffer ≡ 0
  unfolding unloaded
  not_unloaded = rw (l.room, l.marked)

  loaded_fresh : freshened buffer ≡ fresh_of (image_in buffer)
  loaded_fresh = rw not_unloaded

  standing_not : (g : List ℕ) → standing buffer g ≡ 30 → ⊥
  unfolding standing
  standing_not g =
      rw not_unloaded (past (out_of_range (image_in buffer) g) 39 0 (λ e. absurd (omega arith)) (λ e. absurd (omega arith)))

  refusal_not : (g : List ℕ) (port time : ℕ) (frame : List ℕ) → refusal_of buffer g port time frame ≡ 30 → ⊥
  unfolding refusal_of
  refusal_not g port time frame =
      past (eqb (standing buffer g) 0) (unjudged g port time frame) (standing buffer g)
      (past (ltb 4 port) 33 _ (λ e. absurd (omega arith))
      (past (mistimed (cell g last 0) time) 34 _ (λ e. absurd (omega arith))
      (past (ltb 4096 (length frame)) 35 _ (λ e. absurd (omega arith))
      (past (leb 4294967295 (cell g frames port)) 38 0 (λ e. absurd (omega arith)) (λ e. absurd (omega arith))))))
      (standing_not g)

  release_not : (g : List ℕ) (partition : ℕ) → release_refusal buffer g partition ≡ 30 → ⊥
  unfolding release_refusal
  release_not g partition =
      past (eqb (standing buffer g) 0) (unreleased (image_in buffer) g partition) (standing buffer g)
      (past (ltb 7 partition) 36 _ (λ e. absurd (omega arith))
      (past (leb (part_spc (image_in buffer) partition) (cell g units partition)) 37 0 (λ e. absurd (omega arith)) (λ e. absurd (omega arith))))
      (standing_not g)

  tile_not : (g : List ℕ) (p : ℕ) → NotThirty (asked_of buffer g p)
  unfolding asked_of
  tile_not g p = rw (l.room, l.marked) (by (ltb 4 p) (out_of_range (image_in buffer) g))
    where
      counted : (c : Bool) (frames octets : Float) → NotThirty (Ok (cond c NoFrames (Shares frames octets)))
      counted true frames octets = (λ e. absurd (omega arith), λ e. absurd (omega arith))
      counted false frames octets = (λ e. absurd (omega arith), λ e. absurd (omega arith))

      by : (a b : Bool) → NotThirty (cond a (Err 33) (cond b (Err 39) (Ok (tile_at g p))))
      by true b = (λ e. absurd (omega arith), λ e. absurd (omega arith))
      by false true = (λ e. absurd (omega arith), λ e. absurd (omega arith))
      by false false = counted (eqb (cell g frames p) 0) _ _

  -- loaded, and never told 30
  pub never_thirty : NeverThirty buffer
  never_thirty =
      record {
        fresh = λ r after p. (p.answer ∙ ap answer_of not_unloaded, p.row ∙ loaded_fresh);
        frame =
            λ g port time bytes places r after told p e. refusal_not g port time bytes
            (refused_by_lem buffer g port time bytes 30 (ap (λ (j : Judgement). j.verdict) (sym p.answer) ∙ e));
        release = λ g partition r after p e. release_not g partition (refused_number (release_refusal buffer g partition) 30 (sym p.answer ∙ e));
        tile =
            λ g q t p. (
              λ e. (tile_not g q).0 (ap (λ (x : Asked). (flat_tile x).kind) (sym p.whole ∙ e)),
              λ e. (tile_not g q).1 (ap (λ (x : Asked). (flat_tile x).number) (sym p.whole ∙ e)),
            );
        fresh_flat = λ r after p. (p.number ∙ not_unloaded, p.row ∙ loaded_fresh);
        frame_flat =
            λ g port time bytes places r after told p k e. refusal_not g port time bytes
            (ap (λ (c : Called). (flat_verdict c.verdict).number) (sym (as_it_was buffer g port time bytes (ap (λ (x : FlatJudged). x.verdict.kind) (sym p.answer) ∙ k)))
            ∙ ap (λ (x : FlatJudged). x.verdict.number) (sym p.answer)
            ∙ e);
        release_flat = λ g partition r after p e. release_not g partition (sym p.number ∙ e);
        tile_flat =
            λ g q t p. (
              λ e. (tile_not g q).0 (ap (λ (x : FlatTile). x.kind) (sym p.tile) ∙ e),
              λ e. (tile_not g q).1 (ap (λ (x : FlatTile). x.number) (sym p.tile) ∙ e),
            );
      }
