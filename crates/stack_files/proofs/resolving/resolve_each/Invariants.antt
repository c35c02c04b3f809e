use Rattle.std.proofs.Common.{map, take}
use Rattle.command_line.specs.Bindings.{binding_record}
use Rattle.image_files.specs.Opener.{calls}
use Rattle.stack_files.specs.Resolving.{ResolvesEach}
use Rattle.stack_files.proofs.resolving.resolve_each.Given as goal

-- the bindings so far are resolved
abbrev pub invariant-bindings : goal.invariant-bindings
invariant-bindings g l =
    ResolvesEach (calls g.I.Images.relations g.I.Dev.BlockDev.state l.fn.images l.images) (map binding_record (take l.binding-index l.bindings)) (map binding_record l.resolved.items)
