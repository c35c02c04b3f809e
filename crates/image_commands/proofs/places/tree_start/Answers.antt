use Rattle.std.proofs.Common.{◌/◌, arith}
use Rattle.std.proofs.Math.Nat.{div-le_self}
use Rattle.image_commands.proofs.places.tree_start.Goals as goal

pub overflow_add-result : goal.overflow_add-result
overflow_add-result c = omega (arith, div-le_self c.args.first (c.args.size / 512))
