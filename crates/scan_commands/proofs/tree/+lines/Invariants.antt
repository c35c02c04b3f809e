use Rattle.std.proofs.Common.{◌+◌, ◌*◌}
use Rattle.scan_commands.specs.Trees.{beneath, each, line_at_shown, name_shown}
use Rattle.scan_commands.specs.TreeViews.{bound, line_at}
use Rattle.scan_commands.proofs.TreeLemmas.{IsShown}
use Rattle.scan_commands.proofs.tree.+lines.Given as goal

-- four times the levels that may follow, and a rank

abbrev pub decreases-say_lines : goal.decreases-say_lines
decreases-say_lines g l = 4 * l.place.now.steps + 4

abbrev pub decreases-say_names : goal.decreases-say_names
decreases-say_names g l = 4 * l.place.now.steps + 3

abbrev pub decreases-say_name : goal.decreases-say_name
decreases-say_name g l = 4 * l.place.now.steps + 2

abbrev pub decreases-say_opened : goal.decreases-say_opened
decreases-say_opened g l = 4 * l.place.now.steps + 1

-- the lines so far
abbrev pub invariant-say_lines-loop-l : goal.invariant-say_lines-loop-l
invariant-say_lines-loop-l g l =
    IsShown g.W.Write.contents l.initial.writer l.writer (each (line_at_shown (bound l.shown) (beneath (bound l.shown) l.place.steps) l.place.bars l.d.0 l.lines) l.l l.initial.printed) l.printed

-- the names so far
abbrev pub invariant-say_names-loop-i : goal.invariant-say_names-loop-i
invariant-say_names-loop-i g l =
    IsShown g.W.Write.contents l.initial.writer l.writer (each (name_shown (bound l.shown) (beneath (bound l.shown) l.place.steps) l.place.bars (line_at l.at)) l.i l.initial.printed) l.printed
