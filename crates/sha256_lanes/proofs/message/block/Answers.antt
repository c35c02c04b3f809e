use Rattle.std.proofs.Common.{◌≡◌, ◌+◌, ◌-◌, ◌*◌, arith}
use Rattle.sha256_lanes.proofs.PaddingLemmas.{length-block}
use Rattle.sha256_lanes.proofs.message.block.Goals as goal

pub returns-clause-size : goal.returns-clause-size
returns-clause-size c =
    let width : c.args.j * c.args.size + c.args.size - c.args.j * c.args.size ≡ c.args.size = omega arith in
    rw width (length-block c.args.blocks.now c.args.size c.args.j c.requires.inside c.requires.blocks)
