-- A chain of permitted writes comes to one thing, and a chain by numbers from a fresh load is a chain on the load state.
use Rattle.std.specs.Prelude.{◌≡◌, refl, List, ℕ, length}
use Rattle.std.proofs.Common.{◌∙◌, ap}
use Rattle.stream.specs.declared.Answer.{Answer}
use Rattle.stream.specs.declared.Load.{Load}
use Rattle.stream.specs.Machine.{Written, wrote}
use Rattle.stream.specs.Cutting.{writes, unwritten}
use Rattle.flat_numbers.specs.Flat.{is_load, load_in, FreshLoad, number_of}
use Rattle.flat_loads.specs.Calls.{FlatWritten, wrote_flat, flattened}
use Rattle.flat_loads.specs.Through.{of_state}
use Rattle.flat_loads.specs.Words.{Words}
use Rattle.flat_loads.specs.Kept.{state_after, is_state_after, six_after}
use Rattle.loads.specs.Chains.{done, call, Writing, WriteChain, WritingFlat, WriteChainFlat, unwritten_flat, AllWords, Tells, Stated}

-- one permitted write is `wrote`
pub permitted : (w : Written) {v : Written} {c : List ℕ} → Writing w c v → v ≡ wrote w.load w.buffer c
permitted w {v} {c} p =
    ap (λ (x : Answer). record { answer = x; load = v.load; buffer = v.buffer }) p.answer
    ∙ ap (λ (x : Load). record { answer = (wrote w.load w.buffer c).answer; load = x; buffer = v.buffer }) p.state
    ∙ ap (λ (x : List ℕ). record { answer = (wrote w.load w.buffer c).answer; load = (wrote w.load w.buffer c).load; buffer = x }) p.kept

-- a chain comes to one thing
pub chain_is : {w v : Written} {cs : List (List ℕ)} → WriteChain w cs v → v ≡ writes w cs
unfolding writes
chain_is done = refl
chain_is (call {s = w} {cs = cs} p q) = chain_is q ∙ ap (λ (x : Written). writes x cs) (permitted w p)

-- which a permitted write keeps
pub stated : {v : Written} {w x : FlatWritten} {c : List ℕ} → Stated v w → Words c → WritingFlat w c x → Stated (wrote v.load v.buffer c) x
stated {v} {w} {x} {c} s small p =
    record {
      tells = record {
        answer = p.answer ∙ ap (λ (f : FlatWritten). f.answer) of ∙ ap (λ (y : Written). number_of y.answer) same;
        state = ap load_in p.state ∙ state_after w.numbers w.buffer c s.six s.is small ∙ ap (λ (y : Written). y.load) same;
        buffer = p.image ∙ ap (λ (f : FlatWritten). f.buffer) of ∙ ap (λ (y : Written). y.buffer) same;
      };
      six = ap length p.state ∙ six_after w.numbers w.buffer c s.six s.is small;
      is = ap is_load p.state ∙ is_state_after w.numbers w.buffer c s.six s.is small;
    }
  where
    of : wrote_flat w.numbers w.buffer c ≡ flattened w.numbers (wrote (load_in w.numbers) w.buffer c)
    of = of_state w.numbers w.buffer c s.is

    same : wrote (load_in w.numbers) w.buffer c ≡ wrote v.load v.buffer c
    same =
        ap (λ (l : Load). wrote l w.buffer c) s.tells.state
        ∙ ap (λ (b : List ℕ). wrote v.load b c) s.tells.buffer

-- what the chain on the load state leaves
follows : {v : Written} {w x : FlatWritten} {cs : List (List ℕ)} → Stated v w → AllWords cs → WriteChainFlat w cs x
    → (u : Written) × WriteChain v cs u × Tells u x
follows {v = v} s small done = (v, done, s.tells)
follows {v = v} s small (call {c = c} p q) =
    let r = follows {v = wrote v.load v.buffer c} (stated s small.0 p) small.1 q in (r.0, call (record { answer = refl; said = refl; state = refl; kept = refl }) r.1, r.2)

-- a fresh load's numbers are a state's
pub fresh_stated : {numbers : List ℕ} (buffer : List ℕ) → FreshLoad numbers → Stated (unwritten buffer) (unwritten_flat numbers buffer)
fresh_stated buffer fresh =
    record {
      tells = record { answer = refl; state = fresh.state; buffer = refl };
      six = ap length fresh.numbers;
      is = ap is_load fresh.numbers;
    }

-- a chain by numbers from a fresh load is a chain on the load state
pub flat_chain : {numbers buffer : List ℕ} {cs : List (List ℕ)} {x : FlatWritten} → FreshLoad numbers → AllWords cs
    → WriteChainFlat (unwritten_flat numbers buffer) cs x
    → (u : Written) × WriteChain (unwritten buffer) cs u × Tells u x
flat_chain {buffer = buffer} fresh small chain = follows (fresh_stated buffer fresh) small chain
