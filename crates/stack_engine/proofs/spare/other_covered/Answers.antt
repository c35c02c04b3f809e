use Rattle.stack_engine.proofs.LostBlockLemmas.{block-covered}
use Rattle.stack_engine.proofs.spare.other_covered.Goals as goal

pub other_number-requires-clause-inside : goal.other_number-requires-clause-inside
other_number-requires-clause-inside c = block-covered c.args.config.now c.args.verity.now c.args.tree.now c.args.index c.requires.loaded c.requires.block c.in-Some.parity c.in-Some.is
