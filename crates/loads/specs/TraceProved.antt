-- From a fresh load the six numbers are those that the load state by itself has: no trace of the blocks' order or of the cutting stands in them.
use Rattle.std.specs.Prelude.{◌≡◌, refl, Bool, true, false, cond, List, [], ◌∷◌, ℕ, ◌<◌, eqb}
use Rattle.std.proofs.Common.{sym, ◌∙◌, subst, true≢false, arith, lit<}
use Rattle.std.proofs.Math.Path.{ap}
use Rattle.image.specs.declared.tables.Table.{Table}
use Rattle.stream.specs.declared.Load.{Load}
use Rattle.stream.specs.declared.Phase.{Phase}
use Rattle.stream.specs.declared.Phase.TheVariants.{Device, Id, Length, Sum, Data, Told}
use Rattle.stream.specs.Machine.{Written, wrote}
use Rattle.flat_numbers.specs.Flat.{low, high, joined, phase_number, told_in, kept, place_in, is_load, load_in, stored_in, FreshLoad}
use Rattle.flat_states.specs.Round.{low_joined, high_joined, phase_fits, place_fits}
use Rattle.flat_loads.specs.Calls.{FlatWritten, wrote_flat}
use Rattle.flat_loads.specs.Through.{of_state, as_found_lem}
use Rattle.loads.specs.Chains.{done, call, WriteChainFlat, unwritten_flat, AllWords, Stated, plain}
use Rattle.loads.specs.ChainsLaws.{stated, fresh_stated}
use Rattle.loads.specs.Moves.{is_told}
use Rattle.loads.specs.AsFound.{told_load_is_not_written}

-- before an answer none is told
untold : (p : Phase) → is_told p ≡ false → told_in 0 p ≡ 0
untold Device e = refl
untold Id e = refl
untold Length e = refl
untold Sum e = refl
untold Data e = refl
untold (Told n) e = absurd (true≢false e)

-- outside a block the table's number was 0, or the phase has moved
none : (b : Bool) → ◌≡◌ {A = ℕ} (cond b 0 0) 0
none true = refl
none false = refl

kept_zero : (p : Phase) (t : Table) (k : ℕ) → eqb 4 k ≡ false → kept (phase_number p) (place_in 0 p t) k ≡ 0
kept_zero Device t k h = none (eqb 0 k)
kept_zero Id t k h = none (eqb 1 k)
kept_zero Length t k h = none (eqb 2 k)
kept_zero Sum t k h = none (eqb 3 k)
kept_zero Data t k h = ap (λ (b : Bool). cond b (place_in 0 Data t) 0) h
kept_zero (Told n) t k h = none (eqb 5 k)

place_zero : (p q : Phase) (t u : Table) → place_in (kept (phase_number p) (place_in 0 p t) (phase_number q)) q u ≡ place_in 0 q u
place_zero p Device t u = kept_zero p t 0 refl
place_zero p Id t u = kept_zero p t 1 refl
place_zero p Length t u = kept_zero p t 2 refl
place_zero p Sum t u = kept_zero p t 3 refl
place_zero p Data t u = refl
place_zero p (Told n) t u = kept_zero p t 5 refl

-- one state's numbers in the place of another's that had told no answer
module _ (l m : Load) (u : is_told l.phase ≡ false) where
  first : ℕ
  first = joined (phase_number l.phase) (told_in 0 l.phase)

  second : ℕ
  second = joined (place_in 0 l.phase l.table) 0

  row : ℕ → ℕ → ℕ → List ℕ
  row told place spare =
      joined (phase_number m.phase) told ∷ joined place spare ∷ m.placed ∷ m.due ∷ joined m.first m.second ∷ joined m.stream m.block ∷ []

  after_plain : stored_in (plain l) m ≡ plain m
  unfolding first second row
  after_plain =
      let p : phase_number l.phase < 4294967296 = omega (arith, phase_fits l.phase) in
      let t : place_in 0 l.phase l.table < 4294967296 = place_fits 0 l.phase l.table (lit< tt) in
      ap (λ (x : ℕ). row (told_in x m.phase) (place_in (kept (low first) (low second) (phase_number m.phase)) m.phase m.table) (high second))
      (high_joined (phase_number l.phase) (told_in 0 l.phase) p ∙ untold l.phase u)
      ∙ ap (λ (x : ℕ). row (told_in 0 m.phase) (place_in (kept x (low second) (phase_number m.phase)) m.phase m.table) (high second))
      (low_joined (phase_number l.phase) (told_in 0 l.phase) p)
      ∙ ap (λ (x : ℕ). row (told_in 0 m.phase) (place_in (kept (phase_number l.phase) x (phase_number m.phase)) m.phase m.table) (high second))
      (low_joined (place_in 0 l.phase l.table) 0 t)
      ∙ ap (λ (x : ℕ). row (told_in 0 m.phase) x (high second)) (place_zero l.phase m.phase l.table m.table)
      ∙ ap (row (told_in 0 m.phase) (place_in 0 m.phase m.table)) (high_joined (place_in 0 l.phase l.table) 0 t)

-- a write by numbers
plain_after : (c buffer words : List ℕ) → is_load c ≡ true → c ≡ plain (load_in c) → (wrote_flat c buffer words).numbers ≡ plain (wrote (load_in c) buffer words).load
plain_after c buffer words is e = go (is_told l.phase) refl
  where
    l : Load
    l = load_in c

    go : (t : Bool) → is_told l.phase ≡ t → (wrote_flat c buffer words).numbers ≡ plain (wrote l buffer words).load
    go true told =
        let stays : (wrote l buffer words).load ≡ l = (told_load_is_not_written (record { answer = refl; said = refl; state = refl; kept = refl }) told).0 in
        as_found_lem c buffer words is stays ∙ e ∙ ap plain (sym stays)
    go false waits =
        ap (λ (w : FlatWritten). w.numbers) (of_state c buffer words is)
        ∙ ap (λ (x : List ℕ). stored_in x (wrote l buffer words).load) e
        ∙ after_plain l (wrote l buffer words).load waits

-- a chain of them
plain_chain : {v : Written} {w x : FlatWritten} {cs : List (List ℕ)} → Stated v w → AllWords cs → w.numbers ≡ plain (load_in w.numbers) → WriteChainFlat w cs x
    → x.numbers ≡ plain (load_in x.numbers)
plain_chain s small e done = e
plain_chain {v = v} {w = w} {x = x} s small e (call {t = t} {c = c} p q) =
    let next = stated s small.0 p in
    plain_chain {v = wrote v.load v.buffer c} next small.1
    (p.state ∙ plain_after w.numbers w.buffer c s.is e
    ∙ ap plain (ap (λ (l : Load). (wrote l w.buffer c).load) s.tells.state ∙ ap (λ (b : List ℕ). (wrote v.load b c).load) s.tells.buffer ∙ sym next.tells.state))
    q

pub flat_chain_leaves_no_trace : {numbers buffer : List ℕ} {cs : List (List ℕ)} {x : FlatWritten} → FreshLoad numbers → AllWords cs
    → WriteChainFlat (unwritten_flat numbers buffer) cs x
    → x.numbers ≡ plain (load_in x.numbers)
flat_chain_leaves_no_trace {numbers} {buffer} fresh small chain =
    plain_chain (fresh_stated buffer fresh) small (subst (λ (c : List ℕ). c ≡ plain (load_in c)) (sym fresh.numbers) refl) chain
