use Rattle.std.proofs.Common.{◌≡◌, ◌≤◌, ◌++◌, ◌-◌, take, drop}
use Rattle.std.specs.Io.KnownBytes.{Appends}
use Rattle.io_fault_text.specs.Paths.{shown_path}
use Rattle.io_fault_text.proofs.path.say_path.Given as goal

-- what is before `from` was written, and what follows it up to here has no control character
abbrev pub invariant-loop-at : goal.invariant-loop-at
invariant-loop-at g l = record {
  from : l.from ≤ l.at;
  plain : shown_path (take l.at l.bytes) ≡ shown_path (take l.from l.bytes) ++ take (l.at - l.from) (drop l.from l.bytes);
  kept : l.writer.failed ≡ l.fn.writer.failed;
  written : Appends (g.W.Write.contents l.fn.writer.inner) (g.W.Write.contents l.writer.inner) (shown_path (take l.from l.bytes));
}
