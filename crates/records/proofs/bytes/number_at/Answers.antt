use Rattle.std.proofs.Common.{ℕ, ◌+◌, ◌<◌, ◌≡◌, ◌^◌, [], subst, sym, arith, lit<, get_or}
use Rattle.records.specs.Bytes.{number_at}
use Rattle.records.proofs.ByteLaws.{number_none, number_more, number_small, number_fits, number_room, bytes_in, byte_in}
use Rattle.records.proofs.bytes.number_at.Goals as goal

pub loop-b-init : goal.loop-b-init
loop-b-init c = (number_none c.args.list.now c.args.at, lit< tt)

pub overflow_mul-n : goal.overflow_mul-n
overflow_mul-n c = let l = c.loop-b in
    let a = c.args in
    let more : l.b-index < a.width = rw (bytes_in a.list.now a.at a.width c.requires.0) at c.loop-b-test.true in
    number_room [] 0 l.b-index _ l.n 0 more c.requires.1 l.invariant.1

-- the byte is one more of them, it is the list's, and it is a byte
more : (c : goal.After-from) → c.loop-b.b-index < c.args.width
more c = let a = c.args in rw (bytes_in a.list.now a.at a.width c.requires.0) at c.loop-b-test.true

is : (c : goal.After-from) → c.from.result ≡ get_or c.args.list.now (c.args.at + c.loop-b.b-index) 0
is c = let a = c.args in byte_in a.list.now a.at a.width c.requires.0 c.loop-b.b-index c.from.result (more c) c.from.ensures

small : (c : goal.After-from) → c.from.result < 256
small c = subst (λ (n : ℕ). n < 256) (sym (is c)) (c.type_inv.list (c.args.at + c.loop-b.b-index)).fits

pub overflow_add-n : goal.overflow_add-n
overflow_add-n c = let l = c.loop-b in number_fits [] 0 l.b-index _ l.n _ (more c) c.requires.1 l.invariant.1 (small c)

pub loop-b-preserved : goal.loop-b-preserved
loop-b-preserved c = let l = c.loop-b in
    let a = c.args in
    (number_more a.list.now a.at l.b-index a.width l.n _ (more c) c.requires.0 l.invariant.0 (is c), number_small [] 0 l.b-index _ l.n _ (more c) l.invariant.1 (small c))

pub returns : goal.returns
returns c = let l = c.loop-b in
    let a = c.args in
    let all : l.b-index ≡ a.width = omega (arith, bytes_in a.list.now a.at a.width c.requires.0, l.auto.b-index-end, c.loop-b-test.false) in
    subst (λ (k : ℕ). (l.n ≡ number_at a.list.now a.at k) × (l.n < 256 ^ k)) all l.invariant
