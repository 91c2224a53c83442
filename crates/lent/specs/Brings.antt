-- What a record tells, and the row and the lent places that it leaves: a frame by the judge's definition, a release by the ledger's.
use Rattle.std.specs.Prelude.{◌≡◌, List, [], ◌∷◌, ℕ, Ok, Err}
use Rattle.laws.specs.Says.{Says, says}
use Rattle.ledger.specs.Answers.{Answer, answer_of}
use Rattle.row.specs.Release.{release_refusal, released}
use Rattle.places.specs.Places.{laid_over}
use Rattle.judge.specs.declared.Judgement.{Judgement}
use Rattle.judge.specs.Judge.{Called, call_of, answer_of as judgement_of, said_of as said_of_verdict}
use Rattle.lent.specs.declared.Event.{Event}
use Rattle.lent.specs.declared.Event.TheVariants.{Frame, Release}
use Rattle.lent.specs.declared.Told.{Told}
use Rattle.lent.specs.declared.Told.TheVariants.{Judged, Released}

-- what is said in document 01's terms: a verdict's kinds are 0 to 2, a release's follow on
abbrev pub release_says : Answer → Says
release_says (Err n) = says 3 n []
release_says (Ok done) = says 4 0 []

-- of a frame, how many replicas were told stands before the verdict's own values
abbrev pub frame_says : Judgement → Says
frame_says j = says (said_of_verdict j.verdict).kind (said_of_verdict j.verdict).number (j.replicas ∷ (said_of_verdict j.verdict).values)

abbrev pub said_of : Told → Says
said_of (Judged j) = frame_says j
said_of (Released a) = release_says a

-- what is told, and the row and the places afterwards
pub record Outcome : Type 0 where
  pub told : Told
  pub row : List ℕ
  pub places : List ℕ

abbrev pub framed : Called → List ℕ → Outcome
framed c places = record { told = Judged (judgement_of c); row = c.row; places = laid_over c.replicas places }

abbrev pub bring_of : List ℕ → List ℕ → Event → List ℕ → List ℕ → Outcome
bring_of buffer g (Frame port time) frame places = framed (call_of buffer g port time frame) places
bring_of buffer g (Release partition) frame places =
    record { told = Released (answer_of (release_refusal buffer g partition)); row = released buffer g partition; places = places }

pub record Brings (buffer g : List ℕ) (event : Event) (frame places : List ℕ) (r : Told) (after told : List ℕ) : Type 0 where
  pub answer : r ≡ (bring_of buffer g event frame places).told
  pub said : said_of r ≡ said_of (bring_of buffer g event frame places).told
  pub row : after ≡ (bring_of buffer g event frame places).row
  pub laid : told ≡ (bring_of buffer g event frame places).places
