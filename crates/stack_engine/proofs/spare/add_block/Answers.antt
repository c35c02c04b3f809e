use Rattle.stack_engine.proofs.SumLemmas.{added-block}
use Rattle.stack_engine.proofs.spare.add_block.Goals as goal

pub returns : goal.returns
returns c = added-block c.args.sums.now c.add_parity.new.sums c.args.block.now c.add_parity.auto.sums c.add_parity.ensures
