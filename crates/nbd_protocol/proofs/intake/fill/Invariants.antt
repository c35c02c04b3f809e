use Rattle.std.proofs.Common.{◌≡◌, ◌<◌, length, take, None}
use Rattle.std.specs.Io.KnownBytes.{Consumes}
use Rattle.nbd_protocol.specs.Streaming.{HasRead}
use Rattle.nbd_protocol.proofs.intake.fill.Given as goal

-- the front of the buffer is what was taken, and no call failed
abbrev pub invariant-loop-turn : goal.invariant-loop-turn
invariant-loop-turn g l = record {
  taken : Consumes (g.R.Read.remaining l.initial.reader.inner) (g.R.Read.remaining l.reader.inner) (take l.done l.buffer);
  left : l.done < length l.buffer;
  size : length l.buffer ≡ length l.initial.buffer;
  read : HasRead l._turn l.initial.reader l.reader None;
}
