use Rattle.std.proofs.Common.{◌*◌, ◌/◌, length}
use Rattle.stack_engine.proofs.ColumnLemmas.{AreAddedUpTo, parity_addend}
use Rattle.stack_engine.proofs.losses.Losses.add_parity.Given as goal

abbrev pub invariant-loop-column : goal.invariant-loop-column
invariant-loop-column l = AreAddedUpTo (parity_addend l.self.places.items l.roots (length l.parity / l.roots) l.parity) l.fn.sums l.sums (l.column * (length l.parity / l.roots))
