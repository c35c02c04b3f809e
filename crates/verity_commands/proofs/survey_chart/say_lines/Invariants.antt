use Rattle.std.proofs.Common.{◌≡◌, take}
use Rattle.std.specs.Io.KnownBytes.{Appends}
use Rattle.runs.specs.Lines.{lines_text}
use Rattle.verity_commands.proofs.survey_chart.say_lines.Given as goal

-- the lines so far were written
abbrev pub invariant-lines : goal.invariant-lines
invariant-lines g l = record {
  written : Appends (g.W.Write.contents l.initial.writer.inner) (g.W.Write.contents l.writer.inner) (lines_text (take l.line-index l.lines));
  kept : l.writer.failed ≡ l.initial.writer.failed;
}
