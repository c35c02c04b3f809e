use Rattle.verity_format.proofs.lemmas.DeviceLemmas.{only_read-none}
use Rattle.repair_commands.proofs.by_parity.go_on.Goals as goal

pub returns-in-Image-clause-parity : goal.returns-in-Image-clause-parity
returns-in-Image-clause-parity g c = only_read-none (g.P.BlockDev.state c.args.parity_dev.now)
