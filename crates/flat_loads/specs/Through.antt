-- A write by numbers is a write to the load state that they are.
use Rattle.std.specs.Prelude.{◌≡◌, refl, Bool, true, false, cond, not, List, ℕ, length}
use Rattle.std.proofs.Common.{sym, ◌∙◌, ap, true≢false}
use Rattle.image.specs.Loaded.{too_short}
use Rattle.stream.specs.Machine.{Written, untouched, wrote}
use Rattle.stream.specs.declared.Load.{Load}
use Rattle.flat_numbers.specs.Flat.{load_in, is_load, stored_in}
use Rattle.flat_states.specs.Stored.{Storable}
use Rattle.flat_states.specs.Round.{numbers_back, state_back, is_state_lem}
use Rattle.flat_loads.specs.Calls.{FlatWritten, flattened, as_found_flat, wrote_flat}

-- numbers that no load state has: 30 after 31, everything as found
pub no_state : (c buffer words : List ℕ) → is_load c ≡ false → wrote_flat c buffer words ≡ cond (too_short buffer) (as_found_flat 31 c buffer) (as_found_flat 30 c buffer)
unfolding wrote_flat
no_state c buffer words e =
    ap (λ (b : Bool). cond (too_short buffer) (as_found_flat 31 c buffer) (cond (not b) (as_found_flat 30 c buffer) (flattened c (wrote (load_in c) buffer words)))) e

-- numbers that are a state's: a write to the state, also where it is refused
pub of_state : (c buffer words : List ℕ) → is_load c ≡ true → wrote_flat c buffer words ≡ flattened c (wrote (load_in c) buffer words)
unfolding wrote_flat wrote
of_state c buffer words e = by (too_short buffer) (is_load c) _ e
  where
    by : (short is : Bool) (w : Written) → is ≡ true
        → cond short (as_found_flat 31 c buffer) (cond (not is) (as_found_flat 30 c buffer) (flattened c (cond short (untouched 31 (load_in c) buffer) w)))
        ≡ flattened c (cond short (untouched 31 (load_in c) buffer) w)
    by true is w q = ap (λ (numbers : List ℕ). as_found_flat 31 numbers buffer) (sym (numbers_back c e))
    by false true w q = refl
    by false false w q = absurd (true≢false (sym q))

-- a write that leaves the load state as found leaves every number as found: 30, 31, 32 and a repeated answer
pub as_found_lem : (c buffer words : List ℕ) → is_load c ≡ true → (wrote (load_in c) buffer words).load ≡ load_in c → (wrote_flat c buffer words).numbers ≡ c
as_found_lem c buffer words e kept =
    ap (λ (w : FlatWritten). w.numbers) (of_state c buffer words e) ∙ ap (stored_in c) kept ∙ numbers_back c e

-- a write to a state's numbers is a write to the state
pub through : (c : List ℕ) (l : Load) (buffer words : List ℕ) → length c ≡ 6 → Storable l
    → wrote_flat (stored_in c l) buffer words ≡ flattened (stored_in c l) (wrote l buffer words)
through c l buffer words six fits =
    of_state (stored_in c l) buffer words (is_state_lem c l six fits.answered)
    ∙ ap (λ (s : Load). flattened (stored_in c l) (wrote s buffer words)) (state_back c l six fits)
