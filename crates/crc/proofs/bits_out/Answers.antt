use Rattle.std.proofs.Common.{◌≡◌, ◌∙◌, ℕ, suc, ◌+◌, ◌-◌, ◌≤◌, ◌<◌, arith}
use Rattle.crc.specs.Crc.{bit, bits_out}
use Rattle.crc.proofs.bits_out.Goals as goal

-- the first of the bits that are left
next : (k i x y : ℕ) → i < k → y ≡ bit x → bits_out (k - (i + 1)) y ≡ bits_out (k - i) x
unfolding bits_out
next k i x y h e = let n : suc (k - (i + 1)) ≡ k - i = omega arith in rw (e, ← n)

-- none is left
last : (k i x : ℕ) → k ≤ i → x ≡ bits_out (k - i) x
unfolding bits_out
last k i x h = let n : k - i ≡ 0 = omega arith in rw n

pub loop-preserved : goal.loop-preserved
loop-preserved c = next _ _ _ _ c.loop-test.true c.bit_out-x.ensures ∙ c.loop.invariant

pub returns : goal.returns
returns c = last _ _ _ c.loop-test.false ∙ c.loop.invariant
