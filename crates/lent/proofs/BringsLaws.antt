-- What a frame and a release bring, each by its own promise, and that the promise permits one outcome.
use Rattle.std.specs.Prelude.{◌≡◌, refl, true, false, List, ℕ, ltb, drop, get_or, Ok, Err}
use Rattle.std.proofs.Common.{sym, ◌∙◌, ap, true≢false}
use Rattle.laws.specs.Says.{Says, says}
use Rattle.laws.specs.SaysLaws.{other_kind}
use Rattle.ledger.specs.Answers.{Answer}
use Rattle.row.specs.Release as release
use Rattle.settle.specs.declared.Verdict.{Verdict}
use Rattle.settle.specs.declared.Verdict.TheVariants as verdict
use Rattle.judge.specs.declared.Judgement.{Judgement}
use Rattle.judge.specs.Judge.{said_of as said_of_verdict, Judges}
use Rattle.judge.specs.SaidLaws.{apart as verdicts-apart}
use Rattle.lent.specs.declared.Event.{Event}
use Rattle.lent.specs.declared.Event.TheVariants.{Frame, Release}
use Rattle.lent.specs.declared.Told.{Told}
use Rattle.lent.specs.declared.Told.TheVariants.{Judged, Released}
use Rattle.lent.specs.Brings.{frame_says, said_of, bring_of, Brings}

brings : (buffer g : List ℕ) (event : Event) (frame places : List ℕ) (r : Told) (after told : List ℕ) → r ≡ (bring_of buffer g event frame places).told
    → after ≡ (bring_of buffer g event frame places).row
    → told ≡ (bring_of buffer g event frame places).places
    → Brings buffer g event frame places r after told
brings buffer g event frame places r after told e h l = record { answer = e; said = ap said_of e; row = h; laid = l }

-- an event that was matched, by its case
pub frame_brings : (buffer g : List ℕ) (event : Event) (frame places : List ℕ) (port time : ℕ) (r : Judgement) (after told : List ℕ) → event ≡ Frame port time
    → Judges buffer g port time frame places r after told
    → Brings buffer g event frame places (Judged r) after told
frame_brings buffer g event frame places port time r after told e j =
    rw e (brings buffer g (Frame port time) frame places (Judged r) after told (ap Judged j.answer) j.row j.laid)

-- a release leaves the places as found
pub release_brings : (buffer g : List ℕ) (event : Event) (frame places : List ℕ) (partition : ℕ) (r : Answer) (after : List ℕ) → event ≡ Release partition
    → release.Released buffer g partition r after
    → Brings buffer g event frame places (Released r) after places
release_brings buffer g event frame places partition r after e o =
    rw e (brings buffer g (Release partition) frame places (Released r) after places (ap Released o.answer) o.row refl)

-- the promise permits one outcome
pub one_told : (buffer g : List ℕ) (event : Event) (frame places : List ℕ) (r s : Told) (a b t u : List ℕ) → Brings buffer g event frame places r a t
    → Brings buffer g event frame places s b u
    → (r ≡ s) × (a ≡ b) × (t ≡ u)
one_told buffer g event frame places r s a b t u p q = (p.answer ∙ sym q.answer, p.row ∙ sym q.row, p.laid ∙ sym q.laid)

-- ---- what is said tells every case apart

-- a release's kinds are above a verdict's
verdict_below : (v : Verdict) → ltb 2 (said_of_verdict v).kind ≡ false
verdict_below (verdict.Refused n) = refl
verdict_below (verdict.Drop n) = refl
verdict_below (verdict.Sent s) = refl

of_release : (a : Answer) → ltb 2 (said_of (Released a)).kind ≡ true
of_release (Err n) = refl
of_release (Ok done) = refl

mixed : (j : Judgement) (a : Answer) → said_of (Judged j) ≡ said_of (Released a) → ⊥
mixed j a e = true≢false (sym (of_release a) ∙ sym (ap (λ (s : Says). ltb 2 s.kind) e) ∙ verdict_below j.verdict)

releases_apart : (a b : Answer) → said_of (Released a) ≡ said_of (Released b) → a ≡ b
releases_apart (Err m) (Err n) e = ap (λ (s : Says). Err s.number) e
releases_apart (Ok x) (Ok y) e = refl
releases_apart (Err m) (Ok x) e = absurd (other_kind e refl)
releases_apart (Ok x) (Err n) e = absurd (other_kind e refl)

-- a frame's verdict is read behind the number of its replicas
judgements_apart : (a b : Judgement) → frame_says a ≡ frame_says b → a ≡ b
judgements_apart a b e =
    let own = verdicts-apart a.verdict b.verdict (ap (λ (s : Says). says s.kind s.number (drop 1 s.values)) e) in
    let many = ap (λ (s : Says). get_or s.values 0 0) e in
    λ i. record { verdict = own i; replicas = many i }

pub apart : (a b : Told) → said_of a ≡ said_of b → a ≡ b
apart (Judged a) (Judged b) e = ap Judged (judgements_apart a b e)
apart (Released a) (Released b) e = ap Released (releases_apart a b e)
apart (Judged j) (Released a) e = absurd (mixed j a e)
apart (Released a) (Judged j) e = absurd (mixed j a (sym e))
