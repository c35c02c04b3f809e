use Rattle.std.proofs.Common.{◌≡◌, length, None}
use Rattle.nbd_protocol.specs.Streaming.{HasRead}
use Rattle.nbd_protocol.proofs.lemmas.IntakeLemmas.{Skipped}
use Rattle.nbd_protocol.proofs.intake.skip.Given as goal

-- all but what is left was taken, and no call failed
abbrev pub invariant-pieces : goal.invariant-pieces
invariant-pieces g l = record {
  skipped : Skipped l.count l.left (g.R.Read.remaining l.initial.reader.inner) (g.R.Read.remaining l.reader.inner);
  room : length l.piece ≡ 4096;
  read : HasRead 0 l.initial.reader l.reader None;
}

abbrev pub decreases-pieces : goal.decreases-pieces
decreases-pieces g l = l.left
