use Rattle.std.proofs.Common.{◌≡◌, take}
use Rattle.std.specs.Io.KnownBytes.{Appends}
use Rattle.scan_commands.specs.TreeRows.{bars_text}
use Rattle.scan_commands.proofs.tree_rows.say_branch.Given as goal

-- the bars so far
abbrev pub invariant-bars : goal.invariant-bars
invariant-bars g l = record {
  written : Appends (g.W.Write.contents l.initial.writer.inner) (g.W.Write.contents l.writer.inner) (bars_text (take l.bar-index l.bars));
  kept : l.writer.failed ≡ l.initial.writer.failed;
}
