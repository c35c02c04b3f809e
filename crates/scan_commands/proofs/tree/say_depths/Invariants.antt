use Rattle.scan_commands.specs.Trees.{depths_shown}
use Rattle.scan_commands.specs.TreeViews.{bound}
use Rattle.scan_commands.proofs.TreeLemmas.{IsShown}
use Rattle.scan_commands.proofs.tree.say_depths.Given as goal

-- the depths so far
abbrev pub invariant-depths : goal.invariant-depths
invariant-depths g l = IsShown g.W.Write.contents l.initial.writer l.writer (depths_shown (bound l.shown) l.i l.initial.printed) l.printed
