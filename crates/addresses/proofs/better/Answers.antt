use Rattle.std.proofs.Common.{sym, ◌∙◌}
use Rattle.image.specs.Layout.{image_in}
use Rattle.addresses.specs.LeadingLaws.{kept_past, kept_lower, kept_over}
use Rattle.addresses.proofs.better.Goals as goal

pub returns-then-not-matches : goal.returns-then-not-matches
returns-then-not-matches c = let s = c.args.search.now in
    kept_past (image_in s.image.now) s.vlan s.mac c.args.i c.args.best (sym c.matches.ensures ∙ c.if-not-matches.true) c.requires.so_far

pub returns-then-best-index : goal.returns-then-best-index
returns-then-best-index c = let s = c.args.search.now in
    kept_over (image_in s.image.now) s.vlan s.mac c.args.i c.index-index.result c.args.best (sym c.matches.ensures ∙ c.if-not-matches.false) c.index-index.ensures c.if-best-index.true c.requires.so_far

pub returns : goal.returns
returns c = let s = c.args.search.now in
    kept_lower (image_in s.image.now) s.vlan s.mac c.args.i c.index-index.result c.args.best (sym c.matches.ensures ∙ c.if-not-matches.false) c.index-index.ensures c.if-best-index.false c.requires.so_far
