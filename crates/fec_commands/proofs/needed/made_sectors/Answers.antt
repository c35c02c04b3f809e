use Rattle.std.proofs.Common.{arith}
use Rattle.fec_commands.proofs.NeededLemmas.{image-small}
use Rattle.fec_commands.proofs.needed.made_sectors.Goals as goal

pub returns-then-bare-clause-value : goal.returns-then-bare-clause-value
returns-then-bare-clause-value c = rw c.if-bare.true c.tree_sectors.ensures.value

pub returns-clause-value : goal.returns-clause-value
returns-clause-value c = rw c.if-bare.false c.image_sectors.ensures

pub returns-clause-small : goal.returns-clause-small
returns-clause-small c =
    let one = rw c.if-bare.false at c.requires.start in
    let small = image-small c.args.shape.now c.requires.valid one in
    omega (arith, c.image_sectors.ensures, small)
