use Rattle.stack_loader.specs.Costs.{cost_in}
use Rattle.stack_loader.proofs.lemmas.CostLemmas.{line_read_cost-verity}
use Rattle.stack_loader.proofs.cost.verity_cost.Goals as goal

pub returns : goal.returns
returns c = λ c' means.
    rw (c.from.ensures, c.from-2.ensures, c.from-3.ensures, c.block_sectors.ensures, c.path_sectors.ensures.value, c.cost_at.ensures.value, c.cost_at-2.ensures.value, c.path_blocks.ensures.value, c.mend_cost.ensures.value)
    (line_read_cost-verity c' (cost_in c.args.costs.now) c.args.lowers.now c.args.verity.now means)
