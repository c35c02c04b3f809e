use Rattle.std.proofs.Common.{◌≡◌, take}
use Rattle.dm_table.proofs.options.Options.try_clone.Given as goal

abbrev pub invariant-loop-word : goal.invariant-loop-word
invariant-loop-word l = l.options ≡ take l.word-index l.word-items
