use Rattle.stack_engine.proofs.LostBlockLemmas.{block-covered}
use Rattle.stack_engine.proofs.spare.own_loss.Goals as goal

pub place_of-place-requires-clause-inside : goal.place_of-place-requires-clause-inside
place_of-place-requires-clause-inside c = block-covered c.args.config.now c.args.verity.now c.args.tree.now c.args.lost.now.index c.requires.loaded c.requires.block c.in-Some.parity c.in-Some.is
