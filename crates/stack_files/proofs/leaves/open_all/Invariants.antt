use Rattle.std.proofs.Common.{map, take}
use Rattle.command_line.specs.Bindings.{binding_record}
use Rattle.image_files.specs.Opener.{calls}
use Rattle.stack_files.proofs.OpeningLemmas.{AreOpen}
use Rattle.stack_files.proofs.leaves.open_all.Given as goal

-- the bindings so far are open
abbrev pub invariant-bindings : goal.invariant-bindings
invariant-bindings g l =
    AreOpen (calls g.I.Images.relations g.I.Dev.BlockDev.state l.fn.images l.images) l.fn.files (map binding_record (take l.binding-index l.bindings)) l.open_leaves l.open_files.items
