use Rattle.tree_repair.proofs.UnusedEntryLemmas.{fresh-unused}
use Rattle.tree_repair.proofs.laws.formatted_entries_are_zero.Goals as goal

pub returns : goal.returns
returns c = fresh-unused
