use Rattle.std.proofs.Common.{sym, ap, ◌∙◌, Some, length, map, arith}
use Rattle.dm_table.specs.declared.table.Line.{Line}
use Rattle.stack_rules.specs.declared.lower.Lower.{Lower}
use Rattle.stack_rules.specs.Names.{named, names}
use Rattle.stack_loader.specs.Costs.{cost_in, capped_cost, dearest}
use Rattle.stack_rules.specs.Records.{Configuration, configuration}
use Rattle.stack_loader.proofs.lemmas.CostLemmas.{settles_none, settles_all, settles_written, settles_skipped, rows-table, depth-kept, cost-written}
use Rattle.stack_rules.proofs.lemmas.ValidLemmas.{depths-low}
use Rattle.stack_loader.proofs.cost.settle.Goals as goal
use Rattle.stack_loader.proofs.cost.settle.Goals.{then-here-depth, else-here-depth}

pub loop-d-init : goal.loop-d-init
loop-d-init c = λ leaves measured are. settles_none (configuration leaves c.args.devices.now) c.args.direction c.args.depth c.args.costs.now are

pub dearest-cost-requires-clause-rows : goal.dearest-cost-requires-clause-rows
dearest-cost-requires-clause-rows c =
    let long = rows-table c.args.lowers.now c.args.devices.now c.loop-d.d c.index-lowers-d.result c.index-devices-d.result c.requires.rows c.loop-d-test.true c.index-lowers-d.is c.index-devices-d.is in
    let table = ap length (c.lines.ensures.value ∙ c.table.ensures) in
    let rows = ap length c.lines-then-here-depth.ensures in
    omega (arith, long, table, rows)

pub loop-d-preserved : goal.loop-d-preserved
loop-d-preserved c = λ leaves measured are.
    let c' : Configuration = configuration leaves c.args.devices.now in
    let before = c.loop-d.invariant leaves measured are in
    let kept = depth-kept c' c.args.lowers.now c.args.depths.now measured c.loop-d.d c.loop-d-test.true in
    elim c.if-here-depth.branch [
      | then-here-depth w ↦
          rw w.costs-is
          (settles_written c' c.args.direction c.args.depth c.loop-d.d w.capped.result c.loop-d.costs (depths-low c' measured.low) (omega (arith, c.loop-d.auto.costs, c.requires.costs)) (omega (arith, c.loop-d.auto.costs, c.requires.costs, c.loop-d-test.true))
          (sym kept ∙ w.if-here-depth.true)
          (w.capped.ensures ∙ ap (capped_cost c.args.direction) (cost-written c' c.args.direction c.loop-d.costs c.args.lowers.now c.args.depths.now measured c.loop-d.d w.dearest-cost.result c.index-devices-d.result w.index-lowers-d.result c.loop-d-test.true c.index-devices-d.is w.index-lowers-d.is
          (λ c0 means.
          let table = w.lines.ensures.value ∙ w.table.ensures in
          w.dearest-cost.ensures c0 (ap (map (map (λ (lower : Lower). Some lower))) w.lines-then-here-depth.ensures ∙ means ∙ ap (map (λ (line : Line). map (named c0) (names line.target))) (sym table))
          ∙ ap (dearest c0 c.args.direction (cost_in c.loop-d.costs)) table)))
          before)
      | else-here-depth w ↦ rw w.costs-is (settles_skipped c' c.args.direction c.args.depth c.loop-d.d c.loop-d.costs (λ same. w.if-here-depth.false (kept ∙ same)) before)
    ]

pub returns : goal.returns
returns c = λ leaves measured are.
    settles_all (configuration leaves c.args.devices.now) c.args.direction c.args.depth c.loop-d.d c.loop-d.costs (omega (arith, c.loop-d-test.false, c.loop-d.auto.costs, c.requires.costs)) (c.loop-d.invariant leaves measured are)
