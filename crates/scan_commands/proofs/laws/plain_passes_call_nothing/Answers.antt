use Rattle.scan_commands.proofs.PlainPassLemmas.{plain-ended, plain-passed}
use Rattle.scan_commands.proofs.laws.plain_passes_call_nothing.Goals as goal

pub returns : goal.returns
returns g c = λ old new t m. (
  λ counts p. plain-passed g.I.Images.relations g.I.Dev.BlockDev.state old new t m counts p,
  λ fault p. plain-ended g.I.Images.relations g.I.Dev.BlockDev.state old new t m fault p,
)
