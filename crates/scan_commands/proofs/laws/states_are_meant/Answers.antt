use Rattle.scan_commands.proofs.MeantStateLemmas.{states-meant}
use Rattle.scan_commands.proofs.laws.states_are_meant.Goals as goal

pub returns : goal.returns
returns g c = states-meant g.I.Images.relations g.I.Dev.BlockDev.state
