use Rattle.std.proofs.Common.{arith}
use Rattle.fec_area.proofs.LayoutLemmas.{layout-small}
use Rattle.fec_area.proofs.layout.Layout.is_laid_on.Goals as goal

pub overflow_add-end : goal.overflow_add-end
overflow_add-end g c = omega (arith, (layout-small c.args.self.now c.requires).1)
