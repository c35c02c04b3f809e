use Rattle.std.proofs.Common.{◌<◌, length, arith}
use Rattle.fec_area.proofs.LayoutLemmas.{block-fits}
use Rattle.fec_area.proofs.correcting.correct_columns.Goals as goal

pub error_of-found-requires-clause-parity : goal.error_of-found-requires-clause-parity
error_of-found-requires-clause-parity c =
    let inside : c.loop-c.c < length c.args.block.now = omega (arith, c.loop-c-test.true) in
    omega (arith, block-fits c.loop-c.c (length c.args.block.now) c.args.roots inside, c.requires.parity)

pub error_of-found-requires-clause-stored : goal.error_of-found-requires-clause-stored
error_of-found-requires-clause-stored c =
    let inside : c.loop-c.c < length c.args.block.now = omega (arith, c.loop-c-test.true) in
    omega (arith, block-fits c.loop-c.c (length c.args.block.now) c.args.roots inside, c.requires.stored)
