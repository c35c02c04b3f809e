use Rattle.stack_engine.proofs.DirtyLemmas.{dirty-read}
use Rattle.stack_engine.proofs.laws.reads_keep_dirty.Goals as goal

pub returns : goal.returns
returns g c = dirty-read g.D.BlockDev.state g.D.BlockDev.does
