-- `records::kind_of`: the version, then each of its kinds.
use Rattle.std.proofs.Common.{rules}
use Rattle.laws.specs.Chain.{chain}
use Rattle.records.specs.List.{kind_of}
use Rattle.records.proofs.kind_of.Goals as goal

pub returns-then-version-ne1 : goal.returns-then-version-ne1
unfolding kind_of
returns-then-version-ne1 c = search (rules, chain) depth 40

pub returns-in_default : goal.returns-in_default
unfolding kind_of
returns-in_default c = search (rules, chain) depth 40

pub returns-in-1 : goal.returns-in-1
unfolding kind_of
returns-in-1 c = search (rules, chain) depth 40

pub returns-in-2 : goal.returns-in-2
unfolding kind_of
returns-in-2 c = search (rules, chain) depth 40
