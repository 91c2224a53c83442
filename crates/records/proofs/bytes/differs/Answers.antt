use Rattle.std.proofs.Common.{ℕ, List, ◌≡◌, ◌∙◌, ◌≤◌, ap, arith, length, drop, length-drop, take_all}
use Rattle.records.specs.Bytes.{differ}
use Rattle.records.proofs.ByteLaws.{differ_pairs, differ_none}
use Rattle.records.proofs.bytes.differs.Goals as goal

pub returns-in_default : goal.returns-in_default
returns-in_default c = let s = c.args in
    let short : length s.list.now ≤ s.at = omega (arith, c.in_default.ensures.lookup) in
    differ_none s.list.now s.at s.wanted.now short

pub returns : goal.returns
returns c = let s = c.args in
    let rest : c.in-Some.rest.now ≡ drop s.at s.list.now = c.in-Some.ensures.lookup.0.2 ∙ take_all _ _ (omega (arith, length-drop s.at s.list.now)) in
    c.unlike.ensures ∙ differ_pairs c.in-Some.rest.now s.wanted.now ∙ ap (λ (l : List ℕ). differ l s.wanted.now) rest
