use Rattle.std.proofs.Common.{arith}
use Rattle.fec_area.proofs.LayoutLemmas.{round-small}
use Rattle.fec_area.proofs.layout.Layout.round_bytes.Goals as goal

pub overflow_mul-result : goal.overflow_mul-result
overflow_mul-result c = omega (arith, round-small c.args.self.now c.requires)

pub returns-clause-small : goal.returns-clause-small
returns-clause-small c = round-small c.args.self.now c.requires
