use Rattle.std.proofs.Common.{◌∙◌, ◌<◌, sym, ap, map, false, length, arith}
use Rattle.std.proofs.lemmas.List.{get_or-map, length-map}
use Rattle.block_device.specs.Device.{Device}
use Rattle.stack_engine.proofs.space.lacked_space.Goals as goal

pub returns-then-index-devices : goal.returns-then-index-devices
returns-then-index-devices g c =
    let x = c.index-devices-index.result in
    let there : c.args.index < length (map g.D.BlockDev.state c.args.devices.now) = omega (arith, length-map c.args.devices.now g.D.BlockDev.state, c.if-index-devices.true) in
    c.lacked_space.ensures
    ∙ ap (λ d. (g.D.BlockDev.state d).lacked_space) (c.index-devices-index.is)
    ∙ ap (λ (l : Device). l.lacked_space) (sym (get_or-map g.D.BlockDev.state c.args.devices.now c.args.index x (g.D.BlockDev.state x) c.if-index-devices.true))
    ∙ sym (get_or-map (λ (l : Device). l.lacked_space) (map g.D.BlockDev.state c.args.devices.now) c.args.index (g.D.BlockDev.state x) false there)
