use Rattle.std.proofs.Common.{ap}
use Rattle.image_commands.proofs.PlacedLemmas.{windowed-same}
use Rattle.image_commands.proofs.comparing.place_parts.Goals as goal

pub returns-clause-data : goal.returns-clause-data
returns-clause-data g c = windowed-same _ _ _ _ (ap g.D.BlockDev.state c.before-2.ensures.inner) c.before-2.ensures.part

pub returns-clause-hash : goal.returns-clause-hash
returns-clause-hash g c = windowed-same _ _ _ _ (ap g.H.BlockDev.state c.behind.ensures.inner) c.behind.ensures.part
