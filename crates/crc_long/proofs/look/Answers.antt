-- `crc_long::look` meets its contract: the bytes' entries are what the word leaves.
use Rattle.std.proofs.Common.{◌≡◌, ap, ap₂, ◌∙◌, List, ℕ, ◌+◌, ◌/◌, ◌%◌, arith, bit_xor, get_or}
use Rattle.crc_long.specs.Turn.{looked}
use Rattle.crc_long.specs.TurnLaws.{looked_bits}
use Rattle.crc_long.proofs.look.Goals as goal

pub returns : goal.returns
unfolding looked
returns c = λ n t. let l = c.args.table.now in
    let w = c.args.w in
    let last : w / 16777216 % 256 ≡ w / 16777216 = omega arith in
    let entry = λ (k i j : ℕ) (p : i ≡ j). ap (λ (x : ℕ). get_or l (k + x) 0) p in
    let byte = λ (k : ℕ). ap (λ (bytes : List ℕ). get_or bytes k 0) c.to_le_bytes.ensures in
    ap₂ bit_xor
    (ap₂ bit_xor (ap₂ bit_xor (entry 768 _ _ (c.from.ensures ∙ byte 0)) (entry 512 _ _ (c.from-2.ensures ∙ byte 1))) (entry 256 _ _ (c.from-3.ensures ∙ byte 2)))
    (ap (λ (x : ℕ). get_or l x 0) (c.from-4.ensures ∙ byte 3 ∙ last))
    ∙ looked_bits n l w t c.ranges.w.fits
