-- Which leaves are refused, and by which rule.
use Rattle.std.specs.Prelude.{Bool, false, not, ◌||◌, nat_lt, List, [], ◌∷◌, length, Option, Some, None, if◌then◌else◌}
use Rattle.std.specs.List.{list_any}
use Rattle.std.specs.Str.{bytes_eq}
use Rattle.stack_rules.specs.declared.refusal.ConfigFault.{ConfigFault}
use Rattle.stack_rules.specs.declared.refusal.ConfigFault.TheVariants.{DuplicateLeaf, TooMany, BadName, TooLarge}
use Rattle.stack_rules.specs.Records.{LeafRecord}
use Rattle.stack_rules.specs.Rules.{is_leaf_name, most_sectors, most_leaves}

-- two leaves have the same name
abbrev pub has_duplicate : List LeafRecord → Bool
has_duplicate [] = false
has_duplicate (l ∷ more) = list_any (λ other. bytes_eq l.name other.name) more || has_duplicate more

-- the first rule that refuses the leaves
unfoldable pub first_leaf_fault : List LeafRecord → Option ConfigFault
first_leaf_fault leaves =
    if has_duplicate leaves then Some DuplicateLeaf
    else if nat_lt most_leaves (length leaves) then Some TooMany
    else if list_any (λ l. not (is_leaf_name l.name)) leaves then Some BadName
    else if list_any (λ l. nat_lt most_sectors l.sectors) leaves then Some TooLarge
    else None
