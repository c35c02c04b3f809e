use Rattle.scan_commands.proofs.LawLemmas.{unrecovered}
use Rattle.scan_commands.proofs.laws.lost_runs_are_unrecovered.Goals as goal

pub returns : goal.returns
returns g c = unrecovered g.I.Images.relations g.I.Dev.BlockDev.state
