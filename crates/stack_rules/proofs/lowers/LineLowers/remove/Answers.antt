use Rattle.std.proofs.Common.{get_or, set, arith, ap, ◌∙◌}
use Rattle.std.proofs.lemmas.List.{get_or_default}
use Rattle.std.proofs.lemmas.List.Edits.{map_over_more}
use Rattle.stack_rules.specs.declared.lower.Lower.{Lower}
use Rattle.stack_rules.specs.declared.lower.Lower.TheVariants.{Leaf as leaf}
use Rattle.stack_rules.specs.Removal.{lower_after}
use Rattle.stack_rules.proofs.lowers.LineLowers.remove.Goals as goal

pub loop-lower-preserved : goal.loop-lower-preserved
loop-lower-preserved c =
    let items = c.loop-lower.lower-items in
    let i = c.loop-lower.lower-index in
    let x : Lower = get_or items i (leaf 0) in
    ap (set items i) c.after_removal.ensures
    ∙ map_over_more (lower_after c.args.d) c.as_mut_slice-lower-items.result.now items i x c.loop-lower-test.true c.loop-lower.invariant
    (get_or_default items i (leaf 0) x (omega arith))
