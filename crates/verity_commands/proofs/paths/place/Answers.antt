use Rattle.std.proofs.Common.{ap}
use Rattle.verity_commands.proofs.OpeningLemmas.{windowed-same}
use Rattle.verity_commands.proofs.paths.place.Goals as goal

pub returns : goal.returns
returns g c = windowed-same _ _ _ _ (ap g.D.BlockDev.state c.behind.ensures.inner) c.behind.ensures.part
