use Rattle.std.proofs.Common.{ap, inl, inr, sym, ◌∙◌}
use Rattle.block_device.specs.Device.{Device}
use Rattle.verity_commands.specs.Surveyed.{surveyed_devices}
use Rattle.update_commands.proofs.unheard.end_moving.Goals as goal

pub returns-then-is_unprinted : goal.returns-then-is_unprinted
returns-then-is_unprinted g c = inr (sym c.is_unprinted.ensures ∙ c.if-is_unprinted.true, c.update_unheard.ensures)

pub returns : goal.returns
returns g c =
    let w = c.args.image.world in
    inl (
      sym c.is_unprinted.ensures ∙ c.if-is_unprinted.false,
      (c.fault_of.ensures, ap (λ (d : Device). surveyed_devices d (g.H.BlockDev.state c.devices_of-data_dev.result.1)) c.devices_of-data_dev.ensures.data ∙ ap (λ (h : Device). surveyed_devices w.data_dev h) c.devices_of-data_dev.ensures.hash),
    )
