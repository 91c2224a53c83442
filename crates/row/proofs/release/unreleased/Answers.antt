-- `release::unreleased`: 36, then 37.
use Rattle.laws.specs.Chain.{chain, carried}
use Rattle.row.proofs.release.unreleased.Goals as goal

pub returns-then-part_spc-row : goal.returns-then-part_spc-row
returns-then-part_spc-row c = search (chain, carried) depth 40

pub returns : goal.returns
returns c = search (chain, carried) depth 40
