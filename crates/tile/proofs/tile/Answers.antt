-- `tile::tile`: 31, 33, not-loaded, 39, then the tile.
use Rattle.std.proofs.Common.{sym, ap, ◌∙◌}
use Rattle.laws.specs.Chain.{hit, pass, hit_lt, pass_lt}
use Rattle.image.specs.SoundLaws.{sound, has_room}
use Rattle.std.specs.Prelude.{Ok, Err}
use Rattle.tile.specs.Tiles.{asked_of}
use Rattle.tile.specs.TilesLaws.{tiled}
use Rattle.tile.proofs.tile.Goals as goal

pub returns-then-too_short : goal.returns-then-too_short
unfolding asked_of
returns-then-too_short c = tiled _ _ _ _ (ap Err c.from.ensures ∙ hit _ _ _ _ c.too_short.ensures c.if-too_short.true)

pub returns-then-port-gt4 : goal.returns-then-port-gt4
unfolding asked_of
returns-then-port-gt4 c = tiled _ _ _ _ (ap Err c.from-then-port-gt4.ensures ∙ pass _ _ _ _ _ c.too_short.ensures c.if-too_short.false (hit_lt _ _ _ _ c.if-port-gt4.true))

pub returns-then-not_loaded : goal.returns-then-not_loaded
unfolding asked_of
returns-then-not_loaded c = tiled _ _ _ _ (pass _ _ _ _ _ c.too_short.ensures c.if-too_short.false (pass_lt _ _ _ _ _ c.if-port-gt4.false (hit _ _ _ _ c.not_loaded.ensures c.if-not_loaded.true)))

pub out_of_range-requires : goal.out_of_range-requires
unfolding asked_of
out_of_range-requires c = sound _ (has_room c.args.image.now _ c.too_short.ensures c.if-too_short.false) (sym c.not_loaded.ensures ∙ c.if-not_loaded.false)

pub returns-then-out_of_range : goal.returns-then-out_of_range
unfolding asked_of
returns-then-out_of_range c = tiled _ _ _ _ (ap Err c.from-then-out_of_range.ensures ∙ pass _ _ _ _ _ c.too_short.ensures c.if-too_short.false (pass_lt _ _ _ _ _ c.if-port-gt4.false (pass _ _ _ _ _ c.not_loaded.ensures c.if-not_loaded.false (hit _ _ _ _ c.out_of_range.ensures c.if-out_of_range.true))))

pub returns : goal.returns
unfolding asked_of
returns c = tiled _ _ _ _ (pass _ _ _ _ _ c.too_short.ensures c.if-too_short.false (pass_lt _ _ _ _ _ c.if-port-gt4.false (pass _ _ _ _ _ c.not_loaded.ensures c.if-not_loaded.false (pass _ _ _ _ _ c.out_of_range.ensures c.if-out_of_range.false (ap Ok c.tile_of.ensures)))))
