use Rattle.assemble_commands.proofs.LinearLemmas.{linear-parts}
use Rattle.assemble_commands.proofs.laws.linear_parts_hold.Goals as goal

pub returns : goal.returns
returns g c = linear-parts g.I.Dev.BlockDev.state g.met.I.Dev.BlockDev.whole
