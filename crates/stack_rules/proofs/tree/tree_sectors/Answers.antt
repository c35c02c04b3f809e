use Rattle.std.proofs.Common.{◌≡◌, refl, sym, ◌∙◌, arith}
use Rattle.tree_shape.specs.Shape.{area_end}
use Rattle.stack_rules.specs.Trees.{tree_of}
use Rattle.stack_rules.proofs.TreeLemmas.{area_end-none, area_end-some}
use Rattle.stack_rules.proofs.tree.tree_sectors.Goals as goal

pub returns-then-blocks-eq0 : goal.returns-then-blocks-eq0
returns-then-blocks-eq0 c =
    let verity = c.args.verity.now in
    let none : area_end (tree_of verity) ≡ 0 = area_end-none (tree_of verity) (sym c.tree_size-blocks.ensures.blocks ∙ c.if-blocks-eq0.true) in
    rw none (omega arith)

pub returns : goal.returns
returns c =
    let verity = c.args.verity.now in
    let some = area_end-some (tree_of verity) (λ none. c.if-blocks-eq0.false (c.tree_size-blocks.ensures.blocks ∙ none)) in
    rw (some, c.from.ensures, c.from-2.ensures, c.from-3.ensures, c.tree_size-blocks.ensures.blocks) refl
