-- A row's ID names its table.
use Rattle.std.specs.Prelude.{◌≡◌, refl, Bool, true, cond, ◌||◌, ℕ, ◌<◌, ◌≤◌, leb, eqb, Err}
use Rattle.std.proofs.Common.{sym, ◌∙◌, ap, subst, lt_irrefl, lt_of_le_of_lt, lit<, ne_eqb, le-leb}
use Rattle.std.proofs.lemmas.Bool.{lt-leb}
use Rattle.laws.specs.Agree.{agree}
use Rattle.laws.specs.Chain.{agreed}
use Rattle.laws.specs.Scan.{every}
use Rattle.laws.specs.ScanLaws.{every_at}
use Rattle.image.specs.declared.tables.NoTable.TheVariants.{NotCarried, Unknown}
use Rattle.image.specs.Blocks.{Block, table2, listed}

-- ---- table 2 runs from 00 to 12, and has 4E besides
all_listed : every 256 (λ id. eqb id 0x4E || agree (listed id table2) (leb id 0x12)) ≡ true
unfolding every
all_listed = refl

told : (id : ℕ) → id < 256 → (id ≡ 0x4E → ⊥) → listed id table2 ≡ leb id 0x12
told id h ne = agreed _ _ (sym (ap (λ (t : Bool). t || agree (listed id table2) (leb id 0x12)) (ne_eqb id 0x4E ne)) ∙ every_at 256 id (λ k. eqb k 0x4E || agree (listed k table2) (leb k 0x12)) all_listed h)

-- an ID up to 12 is one of table 2
pub is_listed : (id : ℕ) → id ≤ 0x12 → Err NotCarried ≡ cond {A = Block} (listed id table2) (Err NotCarried) (Err Unknown)
is_listed id h =
    ap (λ (t : Bool). cond {A = Block} t (Err NotCarried) (Err Unknown))
    (sym
    (told id (lt_of_le_of_lt h (lit< tt)) (λ e. lt_irrefl 0x4E (lt_of_le_of_lt (subst (λ (x : ℕ). x ≤ 0x12) e h) (lit< tt)))
    ∙ le-leb id 0x12 h))

-- an ID above 12 is none of table 2's, but for 4E
pub not_listed : (id : ℕ) → id < 256 → 0x12 < id → (id ≡ 0x4E → ⊥) → Err Unknown ≡ cond {A = Block} (listed id table2) (Err NotCarried) (Err Unknown)
not_listed id h l ne = ap (λ (t : Bool). cond {A = Block} t (Err NotCarried) (Err Unknown)) (sym (told id h ne ∙ lt-leb id 0x12 l))
