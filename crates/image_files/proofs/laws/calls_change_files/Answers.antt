use Rattle.image_files.proofs.AfterLemmas.{calls-change}
use Rattle.image_files.proofs.laws.calls_change_files.Goals as goal

pub returns : goal.returns
returns g c = calls-change g.D.BlockDev.state g.met.D.BlockDev.whole
