use Rattle.std.proofs.Common.{◌≡◌, List, ℕ, ap, sym}
use Rattle.block_device.specs.Device.{Device}
use Rattle.device_adapters.proofs.PartLemmas.{run_of-run_of}
use Rattle.device_adapters.proofs.window.Window+D.narrow.Goals as goal

pub returns-clause-state : goal.returns-clause-state
returns-clause-state g c =
    ap (λ (image : List (List ℕ)). record (g.D.BlockDev.state c.args.self.inner) { size = c.args.part.count; image = image })
    (sym (run_of-run_of (g.D.BlockDev.state c.args.self.inner).image c.args.self.part.first c.args.self.part.count c.args.part.first c.args.part.count c.requires))
