-- `tile::shares::bits`: a NaN is told before the cast.
use Rattle.std.proofs.Common.{to_bits, Bool, cond, not, T, sym, ap, subst}
use Rattle.std.specs.Float.Ieee.{binary64}
use Rattle.tile.specs.Shares.{nan_of, real_of}
use Rattle.tile.proofs.shares.bits.Goals as goal

pub returns-then-x : goal.returns-then-x
returns-then-x c = ap (λ (t : Bool). cond t 0x7FF8000000000000 (to_bits binary64 c.args.x)) (sym (nan_of _ c.if-x.true))

pub float_to_bits-result : goal.float_to_bits-result
float_to_bits-result c = subst (λ (t : Bool). T (not t)) (sym (real_of _ c.if-x.false)) tt

pub returns : goal.returns
returns c = ap (λ (t : Bool). cond t 0x7FF8000000000000 (to_bits binary64 c.args.x)) (sym (real_of _ c.if-x.false))
