use Rattle.std.proofs.Common.{◌≡◌, ◌≤◌, ◌<◌, ◌+◌, ◌-◌, sym, ap, ◌∙◌, arith}
use Rattle.tree_shape.specs.Shape.{level_blocks, levels}
use Rattle.stack_meaning.specs.Erasures.{tree_block}
use Rattle.stack_engine.proofs.PathEndLemmas.{tree-here, tree-next, tree-none}
use Rattle.stack_engine.proofs.path_end.tree_block.Goals as goal

pub returns-then-left-count : goal.returns-then-left-count
returns-then-left-count c =
    let s = c.args.shape.now in
    let n = c.loop-level.level in
    let l = n - 1 in
    let low : c.loop-level.left < level_blocks s l = omega (arith, c.if-left-count.true, c.level_blocks-count.ensures.value) in
    let above : c.loop-level.above ≡ levels s - (l + 1) = omega (arith, c.loop-level.invariant.1, c.loop-level-test.true) in
    rw (c.first_beneath-index.ensures, above) (sym (c.loop-level.invariant.0 ∙ tree-here s n l c.loop-level.left (omega (arith, c.loop-level-test.true)) low))

pub loop-level-preserved : goal.loop-level-preserved
loop-level-preserved c =
    let s = c.args.shape.now in
    let n = c.loop-level.level in
    let high : level_blocks s (n - 1) ≤ c.loop-level.left = omega (arith, c.if-left-count.false, c.level_blocks-count.ensures.value) in (
      c.loop-level.invariant.0 ∙ tree-next s n (n - 1) c.loop-level.left (omega (arith, c.loop-level-test.true)) high ∙ ap (λ k. tree_block s (n - 1) (c.loop-level.left - k)) (sym c.level_blocks-count.ensures.value),
      omega (arith, c.loop-level.invariant.1, c.loop-level-test.true),
    )

pub returns : goal.returns
returns c =
    let s = c.args.shape.now in
    let end : c.loop-level.level ≡ 0 = omega (arith, c.loop-level-test.false) in
    sym (c.loop-level.invariant.0 ∙ ap (λ k. tree_block s k c.loop-level.left) end ∙ tree-none s c.loop-level.left)
