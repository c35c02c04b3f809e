use Rattle.std.proofs.Common.{◌≡◌, Bool, false, true, ap, refl, subst, sym, ◌∙◌, arith}
use Rattle.std.specs.Prelude.{is_ok}
use Rattle.block_device.specs.Failing.{IsInnerSync}
use Rattle.block_device.specs.Device.{capped}
use Rattle.block_device.specs.Call.{DeviceDoes, Sync}
use Rattle.device_adapters.specs.Differing.{differing}
use Rattle.device_adapters.proofs.DifferingCallLemmas.{sync-differing, unsynced-differing}
use Rattle.device_adapters.proofs.PutLemmas.{not_ok}
use Rattle.device_adapters.proofs.differing.DifferingSyncDev.sync.Goals as goal

pub returns-in_err-sync-clause-call : goal.returns-in_err-sync-clause-call
returns-in_err-sync-clause-call g c =
    let old = g.D.BlockDev.state c.args.self.now.inner in
    let new = g.D.BlockDev.state c.sync.new.self in
    let reads = capped c.args.self.now.reads in
    let writes = capped c.args.self.now.writes in
    let failed : IsInnerSync old false new = subst (λ (b : Bool). IsInnerSync old b new) (ap is_ok c.in_err-sync.was) c.sync.ensures.call.0 in
    let fault : is_ok c.from_residual.result ≡ false = not_ok c.from_residual.result _ c.from_residual.ensures.1 in (
      subst (λ (b : Bool). IsInnerSync (differing old reads writes c.args.self.now.dirty) b (differing new reads writes c.args.self.now.dirty)) (sym fault) (unsynced-differing old new reads writes c.args.self.now.dirty failed),
      subst (λ (b : Bool). DeviceDoes g.D.BlockDev.state g.D.BlockDev.does c.args.self.now.inner (Sync b) c.sync.new.self) (ap is_ok c.in_err-sync.was ∙ sym fault) c.sync.ensures.call,
    )

pub returns-clause-call : goal.returns-clause-call
returns-clause-call g c =
    let old = g.D.BlockDev.state c.args.self.now.inner in
    let new = g.D.BlockDev.state c.sync.new.self in
    let done : IsInnerSync old true new = subst (λ (b : Bool). IsInnerSync old b new) (ap is_ok c.in_ok-sync.was) c.sync.ensures.call.0 in (
      sync-differing old new (capped c.args.self.now.reads) (capped c.args.self.now.writes) c.args.self.now.dirty done,
      subst (λ (b : Bool). DeviceDoes g.D.BlockDev.state g.D.BlockDev.does c.args.self.now.inner (Sync b) c.sync.new.self) (ap is_ok c.in_ok-sync.was) c.sync.ensures.call,
    )
