-- The sentences on bindings that are refused.
use Rattle.std.specs.Prelude.{ℕ, List, codes, Option, Some, None}
use Rattle.stack_rules.specs.declared.refusal.ConfigFault.{ConfigFault}
use Rattle.stack_rules.specs.declared.refusal.ConfigFault.TheVariants as leaves

-- bindings that are refused
unfoldable pub leaves_message : ConfigFault → Option (List ℕ)
leaves_message leaves.DuplicateLeaf = Some (codes "two bindings have the same name: give each image a name of its own")
leaves_message leaves.TooMany = Some (codes "there are more than 64 bindings: a stack takes at most 64 images")
leaves_message leaves.BadName = Some (codes "a binding's name is empty, begins with /dev/mapper/, or has a comma, a semicolon or white space")
leaves_message leaves.TooLarge = Some (codes "a bound image has more than 2^54 sectors: bind a part of it with 'ro@FIRST+COUNT:FILE'")
leaves_message leaves.NoMemory = None
