-- Each call by the promise below it; that each promise permits one outcome; and that the numbers are what document 01 says.
use Rattle.std.specs.Prelude.{◌≡◌, refl, List, ℕ, ◌≤◌, Ok, Err}
use Rattle.std.proofs.Common.{sym, ◌∙◌, ap, subst}
use Rattle.ledger.specs.Answers.{Answer, number_of}
use Rattle.ledger.specs.AnswersLaws.{numbered}
use Rattle.ledger.specs.Range.{unloaded}
use Rattle.row.specs.Fresh.{Freshened}
use Rattle.row.specs.Release.{release_refusal, Released}
use Rattle.settle.specs.declared.Verdict.{Verdict}
use Rattle.settle.specs.declared.Verdict.TheVariants as verdicts
use Rattle.judge.specs.Judge as verdict
use Rattle.tile.specs.declared.shares.Tile.TheVariants as shown
use Rattle.tile.specs.Tiles as asked
use Rattle.judge.specs.declared.Judgement.{Judgement}
use Rattle.judge.specs.Judge.{call_of, answer_of, Judges}
use Rattle.judge.proofs.Proved as judge
use Rattle.tile.specs.Tiles.{Asked, Tiled}
use Rattle.flat_answers.specs.declared.FlatVerdict.{FlatVerdict}
use Rattle.flat_answers.specs.declared.FlatTile.{FlatTile}
use Rattle.flat_answers.specs.Answers.{flat_verdict, flat_tile}
use Rattle.flat_frames.specs.declared.FlatJudged.{FlatJudged}
use Rattle.flat_frames.specs.Frames.{FreshensFlat, flat_judged, JudgesFlat, ReleasesFlat, TilesFlat}

pub freshens : (buffer : List ℕ) (a : Answer) (r : ℕ) (after : List ℕ) → Freshened buffer a after → r ≡ number_of a → FreshensFlat buffer r after
freshens buffer a r after p e = record { number = e ∙ ap number_of p.answer ∙ numbered (unloaded buffer); row = p.row }

pub one_fresh : (buffer : List ℕ) (r s : ℕ) (a b : List ℕ) → FreshensFlat buffer r a → FreshensFlat buffer s b → (r ≡ s) × (a ≡ b)
one_fresh buffer r s a b p q = (p.number ∙ sym q.number, p.row ∙ sym q.row)

pub judges : (buffer g : List ℕ) (port time : ℕ) (frame places : List ℕ) (j : Judgement) (v : FlatVerdict) (n : ℕ) (after told : List ℕ)
    → Judges buffer g port time frame places j after told
    → v ≡ flat_verdict j.verdict
    → n ≡ j.replicas
    → JudgesFlat buffer g port time frame places (record { verdict = v; replicas = n }) after told
judges buffer g port time frame places j v n after told p e f =
    record {
      answer =
          (λ i. record { verdict = e i; replicas = f i }) ∙ ap (λ (k : Judgement). flat_judged k.verdict k.replicas) p.answer;
      row = p.row;
      laid = p.laid;
    }

pub one_judged : (buffer g : List ℕ) (port time : ℕ) (frame places : List ℕ) (r s : FlatJudged) (a b t u : List ℕ) → JudgesFlat buffer g port time frame places r a t
    → JudgesFlat buffer g port time frame places s b u
    → (r ≡ s) × (a ≡ b) × (t ≡ u)
one_judged buffer g port time frame places r s a b t u p q = (p.answer ∙ sym q.answer, p.row ∙ sym q.row, p.laid ∙ sym q.laid)

-- there is a place for each replica
pub few_replicas : (buffer g : List ℕ) (port time : ℕ) (frame places : List ℕ) (r : FlatJudged) (after told : List ℕ) → JudgesFlat buffer g port time frame places r after told
    → r.replicas ≤ 32
few_replicas buffer g port time frame places r after told p =
    subst (λ (j : FlatJudged). j.replicas ≤ 32) (sym p.answer)
    (judge.few_replicas buffer g port time frame places (answer_of (call_of buffer g port time frame)) after told (record { answer = refl; said = refl; row = p.row; laid = p.laid }))

pub releases : (buffer g : List ℕ) (partition : ℕ) (a : Answer) (r : ℕ) (after : List ℕ) → Released buffer g partition a after → r ≡ number_of a
    → ReleasesFlat buffer g partition r after
releases buffer g partition a r after p e = record { number = e ∙ ap number_of p.answer ∙ numbered (release_refusal buffer g partition); row = p.row }

pub one_released : (buffer g : List ℕ) (partition r s : ℕ) (a b : List ℕ) → ReleasesFlat buffer g partition r a → ReleasesFlat buffer g partition s b
    → (r ≡ s) × (a ≡ b)
one_released buffer g partition r s a b p q = (p.number ∙ sym q.number, p.row ∙ sym q.row)

pub tiles : (buffer g : List ℕ) (port : ℕ) (a : Asked) (r : FlatTile) → Tiled buffer g port a → r ≡ flat_tile a → TilesFlat buffer g port r
tiles buffer g port a r p e = record { tile = e ∙ ap flat_tile p.whole }

pub one_tile : (buffer g : List ℕ) (port : ℕ) (r s : FlatTile) → TilesFlat buffer g port r → TilesFlat buffer g port s → r ≡ s
one_tile buffer g port r s p q = p.tile ∙ sym q.tile

-- the kind and the number that C and Rust get are those that a verdict and a tile say in document 01's terms
pub verdict_says : (v : Verdict) → ((flat_verdict v).kind ≡ (verdict.said_of v).kind) × ((flat_verdict v).number ≡ (verdict.said_of v).number)
verdict_says (verdicts.Refused n) = (refl, refl)
verdict_says (verdicts.Drop n) = (refl, refl)
verdict_says (verdicts.Sent s) = (refl, refl)

pub tile_says : (a : Asked) → ((flat_tile a).kind ≡ (asked.said_of a).kind) × ((flat_tile a).number ≡ (asked.said_of a).number)
tile_says (Err n) = (refl, refl)
tile_says (Ok shown.NotLoaded) = (refl, refl)
tile_says (Ok shown.NoFrames) = (refl, refl)
tile_says (Ok (shown.Shares x y)) = (refl, refl)
