use Rattle.stack_engine.proofs.DirtyLemmas.{dirty-write}
use Rattle.stack_engine.proofs.laws.writes_make_dirty.Goals as goal

pub returns : goal.returns
returns g c = dirty-write g.D.BlockDev.state g.D.BlockDev.does
