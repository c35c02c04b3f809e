use Rattle.std.proofs.Common.{◌*◌, length}
use Rattle.stack_engine.proofs.ColumnLemmas.{AreAddedUpTo, column_addend}
use Rattle.stack_engine.proofs.losses.Losses.add_block.Given as goal

abbrev pub invariant-loop-column : goal.invariant-loop-column
invariant-loop-column l = AreAddedUpTo (column_addend l.self.places.items l.place l.block) l.fn.sums l.sums (l.column * length l.block)
