-- A write by its three tests: refused, or let by and run. Every `write` rests on these.
use Rattle.std.proofs.Common.{◌≡◌, refl, sym, ◌∙◌, ap, Bool, true, false, cond, true≢false, List, ℕ, ◌≤◌, length, le-ltb}
use Rattle.image.specs.SoundLaws.{has_room}
use Rattle.laws.specs.Chain.{hit, pass, zero_first, zero_rest}
use Rattle.image.specs.Layout.{image_words, image_in, cleared}
use Rattle.image.specs.Loaded.{too_short}
use Rattle.stream.specs.Machine.{at, run, begun, damaged, outside, untouched, opened, Written, written, wrote, answer_of}
use Rattle.stream.specs.declared.Phase.{Phase}
use Rattle.stream.specs.declared.Phase.TheVariants.{Device, Id, Length, Sum, Data, Told}
use Rattle.stream.specs.declared.Load.{Load}
use Rattle.stream.specs.Answers.{said_of}
use Rattle.stream.specs.Leaves.{Leaves, Writes}
use Rattle.placing.specs.Refusal.{write_refusal}
use Rattle.placing.specs.Refused.{number_of}
use Rattle.placing.specs.declared.refusal.Refusal.{Refusal}
use Rattle.placing.specs.declared.refusal.Refusal.TheVariants.{TooShort, Damaged, Outside}
use Rattle.stream.specs.declared.states.Wrote.{Wrote}
use Rattle.stream.specs.Fine.{Fine, Roomy}
use Rattle.stream.specs.FineLaws.{undamaged_fine, cleared_fine}
use Rattle.stream.specs.declared.Answer.TheVariants.{Refused}

-- ---- refused

-- what a write leaves is what `wrote` says
wrote_as : (l : Load) (buffer ws after : List ℕ) (r : Wrote) (v : Written) → v ≡ wrote l buffer ws → r.answer ≡ v.answer → r.load ≡ v.load → after ≡ v.buffer
    → Writes l buffer ws r after
wrote_as l buffer ws after r v e a s b =
    record {
      answer = a ∙ ap (λ (x : Written). x.answer) e;
      said = ap said_of (a ∙ ap (λ (x : Written). x.answer) e);
      state = s ∙ ap (λ (x : Written). x.load) e;
      kept = b ∙ ap (λ (x : Written). x.buffer) e;
    }

-- a number that is not 0 is the one that `wrote` refuses with
pub refused : (l : Load) (buffer ws : List ℕ) (n : ℕ) → n ≡ write_refusal l buffer (length ws) → (n ≡ 0 → ⊥) → untouched n l buffer ≡ wrote l buffer ws
unfolding write_refusal wrote
refused l buffer ws n e ne = go (too_short buffer) (damaged l (image_in buffer)) (outside (length ws)) e
  where
    go : (short bad out : Bool) → n ≡ cond short 31 (cond bad 30 (cond out 32 0))
        → untouched n l buffer
        ≡ cond short (untouched 31 l buffer) (cond bad (untouched 30 l buffer) (cond out (untouched 32 l buffer) (written (run (opened l buffer) ws))))
    go true bad out q = ap (λ (x : ℕ). untouched x l buffer) q
    go false true out q = ap (λ (x : ℕ). untouched x l buffer) q
    go false false true q = ap (λ (x : ℕ). untouched x l buffer) q
    go false false false q = absurd (ne q)

some_number : (refusal : Refusal) → number_of refusal ≡ 0 → ⊥
some_number TooShort e = cc
some_number Damaged e = cc
some_number Outside e = cc

pub writes_refused : (l : Load) (buffer ws : List ℕ) (refusal : Refusal) (n : ℕ) (r : Wrote) → number_of refusal ≡ write_refusal l buffer (length ws)
    → n ≡ number_of refusal → r.answer ≡ Refused n → r.load ≡ l → Writes l buffer ws r buffer
writes_refused l buffer ws refusal n r e q a s =
    wrote_as l buffer ws buffer r (untouched n l buffer) (refused l buffer ws n (q ∙ e) (λ z. some_number refusal (sym q ∙ z))) a s refl

-- ---- let by

pub record LetBy (l : Load) (buffer ws : List ℕ) : Type 0 where
  pub whole : image_words ≤ length buffer
  pub undamaged : damaged l (image_in buffer) ≡ false
  pub some : outside (length ws) ≡ false

pub let_by : (l : Load) (buffer ws : List ℕ) → 0 ≡ write_refusal l buffer (length ws) → LetBy l buffer ws
unfolding write_refusal
let_by l buffer ws e =
    let first : ◌≡◌ {A = ℕ} (cond (too_short buffer) 31 (cond (damaged l (image_in buffer)) 30 (cond (outside (length ws)) 32 0))) 0 = sym e in
    let second = zero_rest (too_short buffer) 30 _ first in
    record {
      whole = has_room buffer (too_short buffer) refl (zero_first (too_short buffer) 30 _ first);
      undamaged = zero_first (damaged l (image_in buffer)) 29 _ second;
      some = zero_first (outside (length ws)) 31 0 (zero_rest (damaged l (image_in buffer)) 29 _ second);
    }

pub wrote_run : (l : Load) (buffer ws : List ℕ) → LetBy l buffer ws → written (run (opened l buffer) ws) ≡ wrote l buffer ws
unfolding wrote
wrote_run l buffer ws b =
    pass false (too_short buffer) _ _ _ (sym (le-ltb (length buffer) image_words b.whole)) refl
    (pass false (damaged l (image_in buffer)) _ _ _ (sym b.undamaged) refl (pass false (outside (length ws)) _ _ _ (sym b.some) refl refl))

pub writes_run : (l : Load) (buffer ws after : List ℕ) (r : Wrote) → LetBy l buffer ws → r.answer ≡ answer_of r.load.phase → Leaves (run (opened l buffer) ws) r.load after
    → Writes l buffer ws r after
writes_run l buffer ws after r b a v =
    wrote_as l buffer ws after r (written (run (opened l buffer) ws)) (wrote_run l buffer ws b) (a ∙ ap (λ (x : Load). answer_of x.phase) v.state) v.state v.kept

-- ---- what it runs on

-- a begun load runs on its own buffer
pub opened_begun : (l : Load) (buffer : List ℕ) (b : Bool) → b ≡ begun l.phase → b ≡ true → at l buffer ≡ opened l buffer
opened_begun l buffer b e h = ap (λ (x : List ℕ). at l x) (hit b _ _ _ e h)

-- a load that has not begun has nothing due
unbegun_roomy : (l : Load) (buffer : List ℕ) (p : Phase) → begun p ≡ false → Roomy p l buffer
unbegun_roomy l buffer Device h = tt
unbegun_roomy l buffer Id h = absurd (true≢false h)
unbegun_roomy l buffer Length h = absurd (true≢false h)
unbegun_roomy l buffer Sum h = absurd (true≢false h)
unbegun_roomy l buffer Data h = absurd (true≢false h)
unbegun_roomy l buffer (Told n) h = absurd (true≢false h)

pub opened_fine : (l : Load) (buffer ws : List ℕ) → LetBy l buffer ws → Fine (opened l buffer)
opened_fine l buffer ws b = go (begun l.phase) refl
  where
    go : (t : Bool) → begun l.phase ≡ t → Fine (at l (cond t buffer (cleared buffer)))
    go true e = undamaged_fine l buffer b.whole e b.undamaged
    go false e = cleared_fine l buffer (unbegun_roomy l (cleared buffer) l.phase e)
