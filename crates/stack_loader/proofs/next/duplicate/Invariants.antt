use Rattle.std.proofs.Common.{◌≡◌, ℕ, List, [], drop}
use Rattle.std.specs.Prelude.{is_some}
use Rattle.std.specs.Str.{bytes_eq}
use Rattle.std.specs.List.{list_any}
use Rattle.std.specs.HashMap.{get_by}
use Rattle.stack_rules.specs.Rules.{first, duplicate_names}
use Rattle.stack_loader.proofs.next.duplicate.Given as goal

abbrev pub invariant-loop-entry : goal.invariant-loop-entry
invariant-loop-entry l = (earlier : List (List ℕ)) × ((first (duplicate_names earlier (drop l.entry-index l.entries)) ≡ first (duplicate_names [] l.entries)) × ((q : List ℕ) → is_some (get_by (λ k. bytes_eq q k.now) l.names) ≡ list_any (bytes_eq q) earlier))
