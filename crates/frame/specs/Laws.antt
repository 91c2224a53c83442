-- That a frame that was taken in has it; and row (k) of document 01's proved table.
use Rattle.std.specs.Prelude.{◌≡◌, refl, Bool, true, false, cond, not, Option, Some, None, List, ℕ, ◌+◌, ◌%◌, ◌/◌, ◌<◌, ◌≤◌, ltb, eqb, length}
use Rattle.std.proofs.Common.{sym, ◌∙◌, ap, mod-lt, lit<, ltb-false, arith}
use Rattle.fields.specs.Fields.{vlanprio, port_vlanid, drpuntag, ingress}
use Rattle.frame.specs.declared.Tag.{Tag}
use Rattle.frame.specs.Bytes.{octets_of, pair_at, tag, tag_of}
use Rattle.frame.specs.Intake.{Dropped, Taken, by_tag, intake_of}
use Rattle.frame.specs.Whole.{Whole, Narrow}

eight : (n : ℕ) → n % 8 < 8
eight n = mod-lt n (lit< tt)

narrow : (frame : List ℕ) → Narrow (tag_of frame)
unfolding tag_of
narrow frame = by (eqb (pair_at frame 12) 0x8100)
  where
    by : (t : Bool) → Narrow (cond t (Some (tag 12 (pair_at frame 14 / 8192 % 8) (pair_at frame 14 % 4096))) None)
    by true = eight (pair_at frame 14 / 8192)
    by false = tt

by_tag_lem : (image : List ℕ) (port : ℕ) (frame : List ℕ) (t : Option Tag) → 60 ≤ length frame → Narrow t → Whole frame (by_tag image port t)
by_tag_lem image port frame None h n = by (not (eqb (drpuntag image port) 0))
  where
    by : (t : Bool) → Whole frame (cond t (Dropped 3) (Taken (port_vlanid image port) (vlanprio image port) false))
    by true = tt
    by false = (h, eight _)
by_tag_lem image port frame (Some t) h n = (h, n)

pub whole : (image : List ℕ) (port : ℕ) (frame : List ℕ) → Whole frame (intake_of image port frame)
unfolding intake_of
whole image port frame = first (ltb (octets_of frame) 64) refl
  where
    second : 60 ≤ length frame → (t : Bool) → Whole frame (cond t (Dropped 2) (by_tag image port (tag_of frame)))
    second h true = tt
    second h false = by_tag_lem image port frame (tag_of frame) h (narrow frame)

    sixty : (n : ℕ) → 64 ≤ n + 4 → 60 ≤ n
    sixty n h = omega native.Mathlib.Omega.arith

    first : (t : Bool) → t ≡ ltb (octets_of frame) 64
        → Whole frame (cond t (Dropped 1) (cond (eqb (ingress image port) 0) (Dropped 2) (by_tag image port (tag_of frame))))
    first true e = tt
    first false e = second (sixty (length frame) (ltb-false (octets_of frame) 64 (sym e))) (eqb (ingress image port) 0)

-- (k) L 63 drops, 64 goes on
pub row_k_63 : (image : List ℕ) (port : ℕ) (frame : List ℕ) → octets_of frame ≡ 63 → intake_of image port frame ≡ Dropped 1
unfolding intake_of
row_k_63 image port frame e = rw e refl

pub row_k_64 : (image : List ℕ) (port : ℕ) (frame : List ℕ) → octets_of frame ≡ 64
    → intake_of image port frame ≡ cond (eqb (ingress image port) 0) (Dropped 2) (by_tag image port (tag_of frame))
unfolding intake_of
row_k_64 image port frame e = rw e refl

-- L and the frame's bytes
pub octets_few : (n : ℕ) → n < 60 → n + 4 < 64
octets_few n h = omega arith

pub octets_many : (n : ℕ) → 60 ≤ n → 64 ≤ n + 4
octets_many n h = omega arith

pub same_taken : (a b c d : ℕ) (t : Bool) → a ≡ b → c ≡ d → Taken a c t ≡ Taken b d t
same_taken a b c d t e h = ap (λ (x : ℕ). Taken x c t) e ∙ ap (λ (x : ℕ). Taken b x t) h
