use Rattle.std.proofs.Common.{map, take}
use Rattle.nbd_protocol.specs.Offers.{AreNames}
use Rattle.nbd_protocol.proofs.offers.names_of.Given as goal

-- the names so far
abbrev pub invariant-loop-device : goal.invariant-loop-device
invariant-loop-device l = AreNames (take l.device-index l.config.devices) (map (λ n. n.items) l.names.items)
