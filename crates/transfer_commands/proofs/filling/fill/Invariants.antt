use Rattle.std.proofs.Common.{◌≡◌, ◌≤◌, length, take}
use Rattle.std.specs.Io.KnownBytes.{Consumes}
use Rattle.transfer_commands.proofs.filling.fill.Given as goal

-- the front of the buffer is what was taken, by at least a call in each turn
abbrev pub invariant-loop-turn : goal.invariant-loop-turn
invariant-loop-turn g l = record {
  taken : Consumes (g.R.Read.remaining l.initial.reader.inner) (g.R.Read.remaining l.reader.inner) (take l.done l.buffer);
  few : l.done ≤ length l.buffer;
  size : length l.buffer ≡ length l.initial.buffer;
  calls : l._turn ≤ l.reader.calls;
}
