use Rattle.std.proofs.Common.{arith, map}
use Rattle.command_line.specs.Bindings.{binding_record}
use Rattle.stack_files.specs.Bindings.{backings_of}
use Rattle.stack_files.proofs.LeafClosingLemmas.{AreClosed-found, AreClosed-none}
use Rattle.stack_files.proofs.leaf_closing.close_each.Goals as goal

pub devices-init : goal.devices-init
devices-init g c = AreClosed-none g.I.Images.relations g.I.Dev.BlockDev.state c.args.images.now (backings_of (map binding_record c.args.bindings.now)) c.args.devices.items

pub devices-preserved-in-Some-get : goal.devices-preserved-in-Some-get
devices-preserved-in-Some-get g c =
    AreClosed-found g.I.Images.relations g.I.Dev.BlockDev.state c.args.images.now c.devices.images c.close_backing.new.images c.args.bindings.now c.args.devices.items
    c.devices.devices.items c.pop.new.self.items c.in-Some.device c.in-Some-get.binding.now c.len.result c.in-Some.ensures.items (omega (arith, c.len.ensures, c.pop.new.self.ok)) c.in-Some-get.ensures.lookup.3.0 c.in-Some-get.ensures.lookup.1 c.devices.invariant c.close_backing.ensures
