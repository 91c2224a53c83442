-- Every word moves a load that has told no answer in one of these ways, so a run keeps what each of them keeps.
use Rattle.std.specs.Prelude.{◌≡◌, refl, Bool, true, false, cond, not, List, [], ◌∷◌, ℕ, ◌+◌, ◌/◌, eqb}
use Rattle.std.proofs.Common.{sym, ◌∙◌, ap, subst, true≢false, pos_of_ne-zero, lt_of_lt_of_le, lit≤, eqb-true}
use Rattle.std.proofs.lemmas.Bool.{false≢true, eqb-false}
use Rattle.crc.specs.Crc.{word_in, checksum, finished}
use Rattle.image.specs.Rows.{size_of}
use Rattle.image.specs.RowLaws.{count_before_mark}
use Rattle.image.specs.Blocks.{block_of}
use Rattle.image.specs.Layout.{image_in, count_at, marked}
use Rattle.rules.specs.Rules.{rules, first_of, ruled}
use Rattle.stream.specs.Header.{Header, Wrong, Right, device, id_of, length_of, header_of, wrong_passes}
use Rattle.stream.specs.declared.Load.{Load}
use Rattle.stream.specs.declared.Phase.{Phase}
use Rattle.stream.specs.declared.Phase.TheVariants.{Device, Id, Length, Sum, Data, Told}
use Rattle.stream.specs.Machine.{Machine, at, begins, had_in, place_in, step_in, step, run, begun}
use Rattle.stream.specs.Fine.{Roomy, Fine}
use Rattle.stream.specs.FineLaws.{placed_inside, step_fine}
use Rattle.loads.specs.Refusals.{leaves_zero}
use Rattle.loads.specs.Moves.{is_told, Waiting, Move, waits, stores, refuses, loads}
use Rattle.rules.specs.NumbersLaws.{first_holds}
use Rattle.stream.specs.Headers.{header_passes}

-- ---- the numbers that a word can be told

rule_number : (image : List ℕ) → eqb (ruled image) 0 ≡ false → leaves_zero (ruled image) ≡ true
unfolding ruled
rule_number image e =
    sym (ap (λ (t : Bool). cond t true (leaves_zero (first_of rules image))) e)
    ∙ first_holds (λ n. cond (eqb n 0) true (leaves_zero n)) rules image refl refl

-- ---- one word
either : {m : Machine} (t : Bool) (a b : Machine) → (t ≡ true → Move m a) → (t ≡ false → Move m b) → Move m (cond t a b)
either true a b held failed = held refl
either false a b held failed = failed refl

waiting : {l : Load} → begun l.phase ≡ true → is_told l.phase ≡ false → Waiting l
waiting b u = record { begins = b; untold = u }

in_phase : (p : Phase) (l : Load) (buffer : List ℕ) (w : ℕ) → is_told p ≡ false → Roomy p l buffer → Move (at l buffer) (step_in p l buffer w)
in_phase Device l buffer w e r = either (not (eqb w device)) _ _ (λ _. refuses refl) (λ _. waits (waiting refl refl))
in_phase Id l buffer w e r = waits (waiting refl refl)
in_phase Length l buffer w e r = waits (waiting refl refl)
in_phase Sum l buffer w e r =
    either (eqb (length_of l.second) 0) _ _
    (λ _. either (not (eqb w (finished l.stream))) _ _ (λ _. refuses refl)
    (λ _. either (eqb (ruled (image_in (marked buffer))) 0) _ _ (λ q. loads (eqb-true _ 0 q)) (λ q. refuses (rule_number (image_in (marked buffer)) q))))
    (λ _. either (not (eqb w (checksum (l.first ∷ l.second ∷ [])))) _ _ (λ _. refuses refl)
    (λ _. headed (header_of (block_of (id_of l.first)) (length_of l.second) (had_in buffer))
    (header_passes leaves_zero (block_of (id_of l.first)) (length_of l.second) (had_in buffer) refl refl refl refl)))
  where
    headed : (x : Header) → wrong_passes leaves_zero x ≡ true → Move (at l buffer) (begins x (word_in l.stream w) (length_of l.second) buffer)
    headed (Wrong n) q = refuses q
    headed (Right t) q = waits (waiting refl refl)
in_phase Data l buffer w e r =
    either (eqb l.due 0) _ _
    (λ _. either (not (eqb w (finished l.block))) _ _ (λ _. refuses refl) (λ _. stores (count_at l.table) (had_in buffer l.table + l.placed / size_of l.table) (waiting refl refl) (count_before_mark l.table)))
    (λ q. stores (place_in buffer l.table l.placed) w (waiting refl refl)
    (lt_of_lt_of_le (placed_inside l.table l.placed l.due buffer (pos_of_ne-zero (eqb-false l.due 0 q)) r) (lit≤ tt)))
in_phase (Told n) l buffer w e r = absurd (true≢false e)

told_stays : (p : Phase) (l : Load) (buffer : List ℕ) (w : ℕ) → is_told p ≡ true → step_in p l buffer w ≡ at l buffer
told_stays Device l buffer w e = absurd (false≢true e)
told_stays Id l buffer w e = absurd (false≢true e)
told_stays Length l buffer w e = absurd (false≢true e)
told_stays Sum l buffer w e = absurd (false≢true e)
told_stays Data l buffer w e = absurd (false≢true e)
told_stays (Told n) l buffer w e = refl

-- a word after an answer is ignored, and any other is a move
pub step_goes : (P : Machine → Type 0) (m : Machine) (w : ℕ) → Fine m → (is_told m.load.phase ≡ true → P m)
    → (is_told m.load.phase ≡ false → (n : Machine) → Move m n → P n)
    → P (step m w)
unfolding step
step_goes P m w f stays moves = go (is_told m.load.phase) refl
  where
    go : (t : Bool) → is_told m.load.phase ≡ t → P (step_in m.load.phase m.load m.buffer w)
    go true e = subst P (sym (told_stays m.load.phase m.load m.buffer w e)) (stays e)
    go false e = moves e _ (in_phase m.load.phase m.load m.buffer w e f.roomy)

-- a run keeps what every move keeps
pub run_keeps : (P : Machine → Type 0) → ((m n : Machine) → Fine m → is_told m.load.phase ≡ false → Move m n → P m → P n) → (m : Machine) (ws : List ℕ) → Fine m → P m
    → P (run m ws)
unfolding run
run_keeps P moves m [] f p = p
run_keeps P moves m (w ∷ ws) f p = run_keeps P moves (step m w) ws (step_fine m w f) (step_goes P m w f (λ t. p) (λ t n v. moves m n f t v p))

-- words after an answer are ignored
pub run_stays : (m : Machine) (ws : List ℕ) → is_told m.load.phase ≡ true → run m ws ≡ m
unfolding run step
run_stays m [] e = refl
run_stays m (w ∷ ws) e = ap (λ (x : Machine). run x ws) (told_stays m.load.phase m.load m.buffer w e) ∙ run_stays m ws e
