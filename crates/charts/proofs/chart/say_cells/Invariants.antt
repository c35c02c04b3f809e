use Rattle.std.proofs.Common.{◌≡◌}
use Rattle.std.specs.Io.KnownBytes.{Appends}
use Rattle.charts.specs.Charts.{cells_text}
use Rattle.charts.proofs.chart.say_cells.Given as goal

-- the cells so far were written
abbrev pub invariant-cells : goal.invariant-cells
invariant-cells g l = record {
  written : Appends (g.W.Write.contents l.initial.writer.inner) (g.W.Write.contents l.writer.inner) (cells_text (g.M.Marks.marking l.marks) l.total l.i);
  kept : l.writer.failed ≡ l.initial.writer.failed;
}
