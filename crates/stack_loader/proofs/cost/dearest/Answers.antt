use Rattle.std.proofs.Common.{ap, ◌∙◌, Some, map}
use Rattle.dm_table.specs.declared.table.Line.{Line}
use Rattle.stack_rules.specs.declared.lower.Lower.{Lower}
use Rattle.stack_rules.specs.Descend.{by_name}
use Rattle.stack_loader.specs.Costs.{cost_in, line_cost, dearest}
use Rattle.stack_loader.proofs.GreatestLemmas.{greatest_more, greatest_all, ord_max-nat}
use Rattle.stack_rules.proofs.lemmas.NameMeaningLemmas.{row-at}
use Rattle.stack_loader.proofs.cost.dearest.Goals as goal

pub loop-i-preserved : goal.loop-i-preserved
loop-i-preserved c = λ c' means.
    let row = row-at c' c.args.rows.now c.args.lines.now c.loop-i.i c.index-lines-i.result c.index-rows-i.result means c.loop-i-test.true c.index-lines-i.is c.index-rows-i.is in
    let cost = c.line_cost.ensures c' (ap (map (λ (lower : Lower). Some lower)) c.as_slice.ensures ∙ row) in
    rw (c.max-greatest.ensures, ord_max-nat)
    (greatest_more (λ (line : Line). line_cost c' c.args.direction (by_name c' 0 (cost_in c.args.costs.now)) line.target) c.args.lines.now c.loop-i.i c.loop-i.greatest c.index-lines-i.result c.line_cost.result
    (dearest c' c.args.direction (cost_in c.args.costs.now) c.args.lines.now) c.loop-i-test.true c.index-lines-i.is cost (c.loop-i.invariant c' means))

pub returns : goal.returns
returns c = λ c' means.
    greatest_all (λ (line : Line). line_cost c' c.args.direction (by_name c' 0 (cost_in c.args.costs.now)) line.target) c.args.lines.now c.loop-i.i c.loop-i.greatest
    (dearest c' c.args.direction (cost_in c.args.costs.now) c.args.lines.now) c.loop-i-test.false (c.loop-i.invariant c' means)
