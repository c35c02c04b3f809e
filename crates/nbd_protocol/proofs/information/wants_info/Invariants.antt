use Rattle.std.proofs.Common.{◌≡◌, length}
use Rattle.nbd_protocol.specs.Handshake.{wants_info}
use Rattle.nbd_protocol.proofs.information.wants_info.Given as goal

-- no type so far was the one sought
abbrev pub invariant-facts : goal.invariant-facts
invariant-facts l = record { same : wants_info l.kind l.rest ≡ wants_info l.kind l.wanted }

abbrev pub decreases-facts : goal.decreases-facts
decreases-facts l = length l.rest
