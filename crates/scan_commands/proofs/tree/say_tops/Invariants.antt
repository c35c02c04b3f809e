use Rattle.scan_commands.specs.Trees.{each, top_shown}
use Rattle.scan_commands.specs.TreeViews.{bound}
use Rattle.scan_commands.proofs.TreeLemmas.{IsShown}
use Rattle.scan_commands.proofs.tree.say_tops.Given as goal

-- the devices so far
abbrev pub invariant-devices : goal.invariant-devices
invariant-devices g l = IsShown g.W.Write.contents l.initial.writer l.writer (each (top_shown (bound l.shown) l.depth) l.d l.initial.printed) l.printed
