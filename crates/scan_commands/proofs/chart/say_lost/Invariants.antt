use Rattle.std.proofs.Common.{take}
use Rattle.stack_recovery.specs.Listings.{Tells}
use Rattle.scan_commands.specs.Counting.{listed_by}
use Rattle.scan_commands.proofs.chart.say_lost.Given as goal

-- the lines so far were written
abbrev pub invariant-lines : goal.invariant-lines
invariant-lines g l = Tells (listed_by g.W.Write.contents l.initial.writer) (listed_by g.W.Write.contents l.writer) (take l.run-index l.runs)
