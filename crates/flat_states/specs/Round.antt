-- A load state survives its numbers, and numbers that are a state's survive the state: nothing is lost on a call's way in and out.
use Rattle.std.specs.Prelude.{◌≡◌, refl, Bool, true, false, cond, not, List, [], ◌∷◌, ℕ, zero, suc, ◌<◌, ◌≤◌, ltb, eqb, length, get_or, set, drop}
use Rattle.std.proofs.Common.{sym, ◌∙◌, ap, true≢false, arith, lit<, ltb-true, ltb-false, lt-ltb, ne_eqb}
use Rattle.std.proofs.lemmas.List.Edits.{sets, sets-eq}
use Rattle.std.proofs.lemmas.List.{set-get_or}
use Rattle.std.proofs.lemmas.Bool.{eqb-false, not-true}
use Rattle.image.specs.Rows.{index_of, table_count}
use Rattle.image.specs.RowLaws.{placed, place_of_row}
use Rattle.image.specs.declared.tables.Table.{Table}
use Rattle.stream.specs.declared.Phase.{Phase}
use Rattle.stream.specs.declared.Phase.TheVariants.{Device, Id, Length, Sum, Data, Told}
use Rattle.stream.specs.declared.Load.{Load}
use Rattle.flat_numbers.specs.Flat.{low, high, joined, phase_number, told_in, kept, place_in, phase_of, table_of, table_in, is_state, load_in, is_load, numbers_of, stored_in}
use Rattle.flat_states.specs.Stored.{Outside, Storable}

-- ---- halves

pub low_joined : (l h : ℕ) → l < 4294967296 → low (joined l h) ≡ l
low_joined l h s = omega arith

pub high_joined : (l h : ℕ) → l < 4294967296 → high (joined l h) ≡ h
high_joined l h s = omega arith

pub joined_halves : (n : ℕ) → joined (low n) (high n) ≡ n
joined_halves n = omega arith

-- ---- a state's numbers, the state, its numbers

-- a store of what stands there
pub put_back : (c : List ℕ) (i v : ℕ) (vs : List ℕ) → v ≡ get_or c i 0 → sets c i (v ∷ vs) ≡ sets c (suc i) vs
put_back c i v vs e = ap (λ (l : List ℕ). sets l (suc i) vs) (ap (set c i) e ∙ set-get_or c i 0)

phase_kept : (n told : ℕ) → n ≤ 5 → joined (phase_number (phase_of n told)) (told_in told (phase_of n told)) ≡ joined n told
phase_kept zero told h = refl
phase_kept (suc zero) told h = refl
phase_kept (suc (suc zero)) told h = refl
phase_kept (suc (suc (suc zero))) told h = refl
phase_kept (suc (suc (suc (suc zero)))) told h = refl
phase_kept (suc (suc (suc (suc (suc zero))))) told h = refl
phase_kept (suc (suc (suc (suc (suc (suc n)))))) told h = absurd (omega arith)

pub table_kept : (n spare : ℕ) → n < table_count → joined (index_of (table_of n)) spare ≡ joined n spare
table_kept n spare h = ap (λ (k : ℕ). joined k spare) (place_of_row n h)

in_range : (a told b : ℕ) → is_state a told b ≡ true → a ≤ 5
in_range a told b e = by (ltb 5 a) refl e
  where
    by : (t : Bool) → ltb 5 a ≡ t → cond t false (cond (eqb a 5) (not (eqb told 0xFFFFFFFF)) (cond (eqb a 4) (ltb b table_count) true)) ≡ true → a ≤ 5
    by true q f = absurd (true≢false (sym f))
    by false q f = ltb-false 5 a q

-- the table's number is kept: in the data phase it is a row's place, in any other the phase has not moved
place_kept : (a told b spare : ℕ) → is_state a told b ≡ true → joined (place_in (kept a b (phase_number (phase_of a told))) (phase_of a told) (table_in (phase_of a told) b)) spare ≡ joined b spare
place_kept zero told b spare e = refl
place_kept (suc zero) told b spare e = refl
place_kept (suc (suc zero)) told b spare e = refl
place_kept (suc (suc (suc zero))) told b spare e = refl
place_kept (suc (suc (suc (suc zero)))) told b spare e = table_kept b spare (ltb-true b table_count e)
place_kept (suc (suc (suc (suc (suc zero))))) told b spare e = refl
place_kept (suc (suc (suc (suc (suc (suc n)))))) told b spare e = let h = in_range (suc (suc (suc (suc (suc (suc n)))))) told b e in absurd (omega arith)

pub numbers_back : (c : List ℕ) → is_load c ≡ true → stored_in c (load_in c) ≡ c
numbers_back c e =
    let vs : List ℕ = numbers_of c (load_in c) in
    put_back c 0 _ (drop 1 vs) (phase_kept _ _ (in_range (low (get_or c 0 0)) (high (get_or c 0 0)) (low (get_or c 1 0)) e) ∙ joined_halves (get_or c 0 0))
    ∙ put_back c 1 _ (drop 2 vs) (place_kept (low (get_or c 0 0)) (high (get_or c 0 0)) (low (get_or c 1 0)) _ e ∙ joined_halves (get_or c 1 0))
    ∙ put_back c 2 _ (drop 3 vs) refl
    ∙ put_back c 3 _ (drop 4 vs) refl
    ∙ put_back c 4 _ (drop 5 vs) (joined_halves (get_or c 4 0))
    ∙ put_back c 5 _ [] (joined_halves (get_or c 5 0))

-- "more" is not 0
more : ◌≡◌ {A = ℕ} 0 0xFFFFFFFF → ⊥
more = eqb-false 0 0xFFFFFFFF refl

-- ---- a state, its numbers, the state

phase_back : (spare : ℕ) (p : Phase) → phase_of (phase_number p) (told_in spare p) ≡ p
phase_back spare Device = refl
phase_back spare Id = refl
phase_back spare Length = refl
phase_back spare Sum = refl
phase_back spare Data = refl
phase_back spare (Told n) = refl

-- the table, where nothing is lost of it outside a block
table_back : (spare : ℕ) (p : Phase) (t : Table) → Outside p t → table_in p (place_in spare p t) ≡ t
table_back spare Device t o = sym o
table_back spare Id t o = sym o
table_back spare Length t o = sym o
table_back spare Sum t o = sym o
table_back spare Data t o = (placed t).back
table_back spare (Told n) t o = sym o

kept_fits : (before spare phase : ℕ) → spare < 4294967296 → kept before spare phase < 4294967296
kept_fits before spare phase h = go (eqb before phase)
  where
    go : (b : Bool) → cond b spare 0 < 4294967296
    go true = h
    go false = lit< tt

pub place_fits : (spare : ℕ) (p : Phase) (t : Table) → spare < 4294967296 → place_in spare p t < 4294967296
place_fits spare Device t h = h
place_fits spare Id t h = h
place_fits spare Length t h = h
place_fits spare Sum t h = h
place_fits spare Data t h = omega (arith, (placed t).inside)
place_fits spare (Told n) t h = h

pub phase_fits : (p : Phase) → phase_number p ≤ 5
phase_fits Device = omega arith
phase_fits Id = omega arith
phase_fits Length = omega arith
phase_fits Sum = omega arith
phase_fits Data = omega arith
phase_fits (Told n) = omega arith

-- which a state's numbers pass: its phase is one of six, no answer is "more", and a block's table has a row
state_passes : (p : Phase) (t : Table) (told b : ℕ) → (told_in 0 p ≡ 0xFFFFFFFF → ⊥) → is_state (phase_number p) (told_in told p) (place_in b p t) ≡ true
state_passes Device t told b h = refl
state_passes Id t told b h = refl
state_passes Length t told b h = refl
state_passes Sum t told b h = refl
state_passes Data t told b h = lt-ltb (index_of t) table_count (placed t).inside
state_passes (Told n) t told b h = ap not (ne_eqb n 0xFFFFFFFF h)

module _ (c : List ℕ) (l : Load) (six : length c ≡ 6) where
  abbrev stood : ℕ
  stood = kept (low (get_or c 0 0)) (low (get_or c 1 0)) (phase_number l.phase)

  phase_small : phase_number l.phase < 4294967296
  phase_small = omega (arith, phase_fits l.phase)

  place_small : place_in stood l.phase l.table < 4294967296
  place_small = place_fits stood l.phase l.table (kept_fits (low (get_or c 0 0)) (low (get_or c 1 0)) (phase_number l.phase) (omega arith))

  pub state_back : Storable l → load_in (stored_in c l) ≡ l
  state_back fits =
      let p : phase_number l.phase < 4294967296 = phase_small in
      let t : place_in stood l.phase l.table < 4294967296 = place_small in
      let f : l.first < 4294967296 = fits.first in
      let s : l.stream < 4294967296 = fits.stream in
      let o : Outside l.phase l.table = fits.outside in
      ap load_in (sets-eq (numbers_of c l) c 0 (omega arith)) ∙ simp (low_joined, high_joined, phase_back, table_back)

  pub is_state_lem : (told_in 0 l.phase ≡ 0xFFFFFFFF → ⊥) → is_load (stored_in c l) ≡ true
  is_state_lem h =
      let p : phase_number l.phase < 4294967296 = phase_small in
      let t : place_in stood l.phase l.table < 4294967296 = place_small in
      let as_numbers : is_load (numbers_of c l)
      ≡ is_state (phase_number l.phase) (told_in (high (get_or c 0 0)) l.phase) (place_in stood l.phase l.table)
      = simp (low_joined, high_joined) in
      ap is_load (sets-eq (numbers_of c l) c 0 (omega arith)) ∙ as_numbers ∙ state_passes l.phase l.table (high (get_or c 0 0)) stood h

-- numbers that are a state's are those of a state that they hold
of_phase : (phase told place : ℕ) → is_state phase told place ≡ true → (Outside (phase_of phase told) (table_in (phase_of phase told) place)) × (told_in 0 (phase_of phase told) ≡ 0xFFFFFFFF → ⊥)
of_phase zero told place e = (refl, more)
of_phase (suc zero) told place e = (refl, more)
of_phase (suc (suc zero)) told place e = (refl, more)
of_phase (suc (suc (suc zero))) told place e = (refl, more)
of_phase (suc (suc (suc (suc zero)))) told place e = (tt, more)
of_phase (suc (suc (suc (suc (suc zero))))) told place e = (refl, eqb-false told 0xFFFFFFFF (not-true (eqb told 0xFFFFFFFF) e))
of_phase (suc (suc (suc (suc (suc (suc n)))))) told place e = let h = in_range (suc (suc (suc (suc (suc (suc n)))))) told place e in absurd (omega arith)

pub of_numbers : (c : List ℕ) → is_load c ≡ true → Storable (load_in c)
of_numbers c e =
    let p = of_phase (low (get_or c 0 0)) (high (get_or c 0 0)) (low (get_or c 1 0)) e in
    let low_lt : (n : ℕ) → low n < 4294967296 = λ n. omega arith in
    record { first = low_lt (get_or c 4 0); stream = low_lt (get_or c 5 0); outside = p.0; answered = p.1 }
