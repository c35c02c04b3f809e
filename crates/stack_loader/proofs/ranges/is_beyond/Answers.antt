use Rattle.std.proofs.Common.{sym, ◌∙◌}
use Rattle.stack_rules.specs.Records.{configuration}
use Rattle.stack_rules.proofs.lemmas.RangeLemmas.{is_beyond-striped}
use Rattle.stack_loader.proofs.ranges.is_beyond.Goals as goal

pub returns-in-Striped : goal.returns-in-Striped
returns-in-Striped c =
    rw c.in-Striped.is
    (rw c.as_slice-bases.ensures at c.are_beyond-in-Striped.ensures
    ∙ sym (is_beyond-striped (configuration c.args.leaves.now c.args.devices.now) c.args.line.now.length c.in-Striped.chunk c.in-Striped.bases))

pub returns-in-Verity : goal.returns-in-Verity
returns-in-Verity c = rw c.in-Verity.is (c.are_blocks_beyond.ensures c.args.line.now.length)
