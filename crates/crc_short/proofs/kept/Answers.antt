use Rattle.std.proofs.Common.{◌≡◌, ◌∙◌, ℕ, ◌+◌, ◌*◌, ◌/◌, ◌%◌, arith, rules, bit_xor}
use Rattle.crc.specs.Crc.{bits_out}
use Rattle.crc.specs.Bytes.{Taken}
use Rattle.crc.proofs.BytesLaws.{taken_none, taken_more}
use Rattle.crc_short_bytes.specs.Twice.{twice}
use Rattle.crc_short_bytes.specs.ArmLaws.{halves}
use Rattle.crc_short.specs.Turn.{reach}
use Rattle.crc_short.specs.TurnLaws.{reach_far, reach_near}
use Rattle.crc_short.proofs.kept.Goals.{then-k-lt3+in-0, then-k-lt3+in-1, then-k-lt3+in-2, then-k-lt3+in_default, else-k-lt3+in-0-j, else-k-lt3+in-1-j, else-k-lt3+in-2-j, else-k-lt3+in_default-j}
use Rattle.crc_short.proofs.kept.Goals as goal

pub loop-j-init : goal.loop-j-init
loop-j-init c = taken_none halves (reach _) _

pub loop-j-preserved : goal.loop-j-preserved
loop-j-preserved c = let l = c.loop-j in
    let a = c.args in
    let of = c.byte-b.ensures in
    let more : (n m v : ℕ) → reach a.k ≡ n → n ≡ 8 * l.j + m → v ≡ twice (bits_out m (l.rest % 256)) → Taken twice (reach a.k) a.w (l.j + 1) (l.rest / 256) (bit_xor l.left v)
    = λ n m v d e p. taken_more halves (reach a.k) m _ _ _ _ v c.loop-j-test.true (search rules) (d ∙ e) p l.invariant in
    elim c.if-k-lt3.branch [
      | then-k-lt3+in-0 w ↦ more 64 64 _ (reach_far _ w.if-k-lt3.true) (omega arith) (w.u-is ∙ of.7)
      | then-k-lt3+in-1 w ↦ more 64 56 _ (reach_far _ w.if-k-lt3.true) (omega arith) (w.u-is ∙ of.6)
      | then-k-lt3+in-2 w ↦ more 64 48 _ (reach_far _ w.if-k-lt3.true) (omega arith) (w.u-is ∙ of.5)
      | then-k-lt3+in_default w ↦ more 64 40 _ (reach_far _ w.if-k-lt3.true) (omega arith) (w.u-is ∙ of.4)
      | else-k-lt3+in-0-j w ↦ more 32 32 _ (reach_near _ w.if-k-lt3.false) (omega arith) (w.u-is ∙ of.3)
      | else-k-lt3+in-1-j w ↦ more 32 24 _ (reach_near _ w.if-k-lt3.false) (omega arith) (w.u-is ∙ of.2)
      | else-k-lt3+in-2-j w ↦ more 32 16 _ (reach_near _ w.if-k-lt3.false) (omega arith) (w.u-is ∙ of.1)
      | else-k-lt3+in_default-j w ↦ more 32 8 _ (reach_near _ w.if-k-lt3.false) (omega arith) (w.u-is ∙ of.0)
    ]
