use Rattle.std.proofs.Common.{◌≡◌, ℕ, ◌+◌, ◌/◌, length, arith}
use Rattle.block_device.specs.Device.{capped}
use Rattle.device_adapters.proofs.DifferingCallLemmas.{read-differing}
use Rattle.device_adapters.proofs.differing.DifferingBlockDev.read.Goals as goal

pub returns-clause-call : goal.returns-clause-call
returns-clause-call g c =
    let n : ℕ = length c.read.new.out / 512 in
    let counted : capped c.saturating_add-self.result ≡ capped (capped c.args.self.now.reads + n) = omega (arith, c.saturating_add-self.ensures, c.read.auto.out) in
    (read-differing _ _ c.args.first n _ _ _ _ _ _ c.read.ensures.call.0 counted, c.read.ensures.call)
