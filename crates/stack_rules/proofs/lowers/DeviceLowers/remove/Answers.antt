use Rattle.std.proofs.Common.{List, set, sym, ap, ◌∙◌, map}
use Rattle.std.proofs.lemmas.List.Edits.{map_over_more}
use Rattle.stack_rules.specs.declared.lower.Lower.{Lower}
use Rattle.stack_rules.specs.Removal.{lower_after}
use Rattle.stack_rules.proofs.lowers.DeviceLowers.remove.Goals as goal

pub loop-line-preserved : goal.loop-line-preserved
loop-line-preserved c =
    let items : List (List Lower) = c.loop-line.line-items in
    ap (set items c.loop-line.line-index) c.remove.ensures
    ∙ ap (λ (row : List Lower). set items c.loop-line.line-index (map (lower_after c.args.d) row)) (sym c.line-item.is)
    ∙ map_over_more (map (lower_after c.args.d)) c.as_mut_slice-line-items.result.now items c.loop-line.line-index c.line-item.result c.loop-line-test.true c.loop-line.invariant c.line-item.is
