-- Marks that are bools: a pass that sets them is a pass over their flags, and a mark that is not set tells that 07 has no entry of a VLAN.
use Rattle.std.specs.Prelude.{◌≡◌, refl, Bool, true, false, not, ◌||◌, List, ℕ, ◌+◌, ◌<◌, ◌≤◌, eqb, zero, suc, ◌∷◌, length, get_or, set, map, replicate}
use Rattle.std.proofs.Common.{sym, ◌∙◌, ap, subst, zero-le, arith}
use Rattle.std.proofs.Math.ListN.{get_or-map}
use Rattle.std.proofs.lemmas.List.{length-map, map-set}
use Rattle.laws.specs.Scan.{flag, Marks, Counting}
use Rattle.laws.specs.ScanLaws.{counting_none, counting_more}
use Rattle.image.specs.Layout.{count_of}
use Rattle.image.specs.declared.tables.Table.TheVariants.{VlanLookup}
use Rattle.fields.specs.Fields.{vlanid}
use Rattle.broken.specs.Broken.{no_vlan}
use Rattle.broken.specs.PassesLaws.{mark_tells}

no_flags : (n : ℕ) → map flag (replicate n false) ≡ replicate n 0
no_flags zero = refl
no_flags (suc n) = ap (λ (ms : List ℕ). 0 ∷ ms) (no_flags n)

pub flags_none : (f : ℕ → ℕ) (size : ℕ) (again : Bool) (marks : List Bool) → again ≡ false → marks ≡ replicate size false → Counting f size 0 (flag again) (map flag marks)
flags_none f size again marks e m =
    subst (λ (b : Bool). Counting f size 0 (flag b) (map flag marks)) (sym e)
    (subst (λ (ms : List ℕ). Counting f size 0 0 ms) (sym (ap (map flag) m ∙ no_flags size)) (counting_none f size))

pub flags_more : (f : ℕ → ℕ) (size i v : ℕ) (again next : Bool) (marks more : List Bool) → Counting f size i (flag again) (map flag marks) → v ≡ f i → v < size
    → next ≡ (again || get_or marks v false) → more ≡ set marks v true
    → Counting f size (i + 1) (flag next) (map flag more)
flags_more f size i v again next marks more c e l n m =
    let after : Counting f size (i + 1) (flag again + flag (get_or marks v false)) (set (map flag marks) v 1) =
    counting_more f size i (flag again) v (flag (get_or marks v false)) (map flag marks) c e l (sym (get_or-map flag marks v false)) in
    let is : map flag more ≡ set (map flag marks) v 1 = ap (map flag) m ∙ map-set flag marks v true in
    record {
      long = ap length is ∙ after.long;
      marked = subst (Marks (i + 1) f) (sym is) after.marked;
      counted = ap (λ (b : Bool). eqb (flag b) 0) n ∙ either again (get_or marks v false) ∙ after.counted;
      small = small next;
    }
  where
    either : (a b : Bool) → eqb (flag (a || b)) 0 ≡ eqb (flag a + flag b) 0
    either true true = refl
    either true false = refl
    either false true = refl
    either false false = refl

    small : (b : Bool) → flag b ≤ i + 1
    small true = omega arith
    small false = zero-le

pub unmarked_tells : (image : List ℕ) (marks : List Bool) (v : ℕ) → v < 4096 → length marks ≡ 4096 → Marks (count_of image VlanLookup) (vlanid image) (map flag marks)
    → not (get_or marks v false) ≡ no_vlan image v
unmarked_tells image marks v l long marked =
    back (get_or marks v false) ∙ ap (λ (n : ℕ). eqb n 0) (sym (get_or-map flag marks v false)) ∙ mark_tells image (map flag marks) v l (length-map marks flag ∙ long) marked
  where
    back : (b : Bool) → not b ≡ eqb (flag b) 0
    back true = refl
    back false = refl

-- a flag that is not 0 is set
pub flag_told : (b : Bool) → b ≡ not (eqb (flag b) 0)
flag_told true = refl
flag_told false = refl
