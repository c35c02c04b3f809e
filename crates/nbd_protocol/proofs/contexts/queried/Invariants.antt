use Rattle.std.proofs.Common.{◌≡◌}
use Rattle.nbd_protocol.specs.Contexts.{queried}
use Rattle.nbd_protocol.proofs.contexts.queried.Given as goal

-- what the queries so far leave to ask of the rest
abbrev pub invariant-strings : goal.invariant-strings
invariant-strings l = record { is : queried l.listing l.named l.count l.queries ≡ queried l.listing l.found l.left l.rest }

abbrev pub decreases-strings : goal.decreases-strings
decreases-strings l = l.left
