use Rattle.std.proofs.Common.{arith}
use Rattle.fec_area.proofs.LayoutLemmas.{layout-small, covered-small}
use Rattle.fec_area.proofs.layout.Layout.covered_blocks.Goals as goal

pub overflow_add-result : goal.overflow_add-result
overflow_add-result c = omega (arith, (layout-small c.args.self.now c.requires).0, (layout-small c.args.self.now c.requires).1)

pub returns-clause-small : goal.returns-clause-small
returns-clause-small c = covered-small c.args.self.now c.requires
