use Rattle.std.proofs.Common.{◌≡◌, ◌+◌, length}
use Rattle.table_text.proofs.cut.Words.are.Given as goal

abbrev pub invariant-loop : goal.invariant-loop
invariant-loop l = length l.fn.self ≡ l.counter + length l.words
