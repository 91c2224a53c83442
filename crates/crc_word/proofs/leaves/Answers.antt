use Rattle.std.proofs.Common.{◌≡◌, ◌∙◌, ℕ, ◌+◌, ◌*◌, ◌/◌, ◌%◌, arith, rules, bit_xor}
use Rattle.crc.specs.Crc.{bits_out}
use Rattle.crc.proofs.ArmLaws.{itself}
use Rattle.crc.specs.Bytes.{Taken}
use Rattle.crc.proofs.BytesLaws.{taken_none, taken_more}
use Rattle.crc_word.proofs.leaves.Goals.{in-0, in-1, in-2, in_default}
use Rattle.crc_word.proofs.leaves.Goals as goal

pub loop-j-init : goal.loop-j-init
loop-j-init c = taken_none itself 32 _

pub loop-j-preserved : goal.loop-j-preserved
loop-j-preserved c = let l = c.loop-j in
    let more : (m v : ℕ) → 32 ≡ 8 * l.j + m → v ≡ bits_out m (l.rest % 256) → Taken (λ x. x) 32 c.args.w (l.j + 1) (l.rest / 256) (bit_xor l.left v)
    = λ m v e p. taken_more itself 32 m _ _ _ _ v c.loop-j-test.true (search rules) e p l.invariant in
    elim c.match-j.branch [
      | in-0 w ↦ more 32 _ (omega arith) (w.u-is ∙ c.byte-b.ensures.3)
      | in-1 w ↦ more 24 _ (omega arith) (w.u-is ∙ c.byte-b.ensures.2)
      | in-2 w ↦ more 16 _ (omega arith) (w.u-is ∙ c.byte-b.ensures.1)
      | in_default w ↦ more 8 _ (omega arith) (w.u-is ∙ c.byte-b.ensures.0)
    ]
