use Rattle.std.proofs.Common.{◌≡◌, length}
use Rattle.dm_table.specs.Lines.{bases_at}
use Rattle.table_text.proofs.ReadLemmas.{after}
use Rattle.table_text.proofs.target.read_bases.Given as goal

abbrev pub invariant-pairs : goal.invariant-pairs
invariant-pairs l = bases_at l.fn.words ≡ after l.bases (bases_at l.words)

abbrev pub decreases-pairs : goal.decreases-pairs
decreases-pairs l = length l.words
