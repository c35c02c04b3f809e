use Rattle.std.proofs.Common.{length, map}
use Rattle.command_line.specs.Bindings.{binding_record}
use Rattle.image_files.specs.Opener.{calls}
use Rattle.stack_files.specs.Bindings.{backings_of}
use Rattle.stack_files.proofs.LeafClosingLemmas.{AreClosed}
use Rattle.stack_files.proofs.leaf_closing.close_each.Given as goal

-- the later devices are closed
abbrev pub invariant-devices : goal.invariant-devices
invariant-devices g l =
    AreClosed (calls g.I.Images.relations g.I.Dev.BlockDev.state l.fn.images l.images) (backings_of (map binding_record l.fn.bindings)) l.fn.devices.items l.devices.items

abbrev pub decreases-devices : goal.decreases-devices
decreases-devices g l = length l.devices.items
