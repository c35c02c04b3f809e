use Rattle.std.proofs.Common.{◌/◌, length}
use Rattle.reed_solomon.specs.Sums.{part_sum}
use Rattle.stack_engine.proofs.SumLemmas.{added-is}
use Rattle.stack_engine.proofs.spare.add_stored.Goals as goal

pub returns : goal.returns
returns c = added-is (part_sum (length c.args.stored.now / length c.args.sums.now) c.args.stored.now) c.args.sums.now c.add_parity.new.sums c.add_parity.auto.sums c.add_parity.ensures
