use Rattle.std.proofs.Common.{sym}
use Rattle.std.specs.Prelude.{slice_index}
use Rattle.reed_solomon.specs.Field.{field_product}
use Rattle.reed_solomon.specs.Products.{AreAdded}
use Rattle.stack_engine.proofs.SumLemmas.{added-scaled}
use Rattle.stack_engine.proofs.spare.add_scaled_block.Goals as goal

pub returns : goal.returns
returns c =
    let added : AreAdded (λ k. field_product c.args.factor (slice_index c.args.block.now k)) c.args.sums.now c.add_to.new.sum = rw (sym c.by.ensures) c.add_to.ensures in
    added-scaled c.args.factor c.args.sums.now c.add_to.new.sum c.args.block.now c.add_to.auto.sum c.requires added
