use Rattle.std.proofs.Common.{[], sym, ◌∙◌, arith, ℕ, zero-add}
use Rattle.std.proofs.lemmas.List.FromFn.{map-range_with_len_more}
use Rattle.tree_shape.specs.Shape.{position}
use Rattle.tree_shape.proofs.lemmas.ShapeFactLemmas.{level_blocks-is}
use Rattle.hash_tree.specs.Building.{LevelRecord}
use Rattle.hash_tree.proofs.building.begun_levels.Goals as goal

pub position-requires-clause-index : goal.position-requires-clause-index
position-requires-clause-index c = omega (arith, level_blocks-is c.args.shape.now c.requires c.loop-level.level)

pub loop-level-preserved : goal.loop-level-preserved
loop-level-preserved c =
    let s = c.args.shape.now in
    let f : ℕ → LevelRecord = λ l. record { next = position s l 0; bytes = [] } in (
      c.loop-level.invariant.0,
      c.in_ok-push.ensures.ok
          ∙ rw (c.position.ensures.value, c.new.ensures.items, c.loop-level.invariant.1) (sym (map-range_with_len_more f 0 c.loop-level.level c.loop-level.level (zero-add c.loop-level.level))),
    )
