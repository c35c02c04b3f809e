use Rattle.std.proofs.Common.{length}
use Rattle.std.specs.Prelude.{slice_index}
use Rattle.reed_solomon.specs.Sums.{part_combination}
use Rattle.stack_engine.proofs.SumLemmas.{added-is}
use Rattle.stack_engine.proofs.spare.add_scaled_stored.Goals as goal

pub returns : goal.returns
returns c = added-is (part_combination (slice_index c.args.factors.now) (length c.args.factors.now) c.args.stored.now) c.args.sums.now c.add_parity_products.new.sums c.add_parity_products.auto.sums c.add_parity_products.ensures
