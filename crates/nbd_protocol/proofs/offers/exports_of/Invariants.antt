use Rattle.std.proofs.Common.{map, take}
use Rattle.nbd_protocol.specs.Exports.{export_records}
use Rattle.nbd_protocol.specs.Offers.{Offers}
use Rattle.nbd_protocol.proofs.offers.exports_of.Given as goal

-- the exports so far
abbrev pub invariant-loop-name : goal.invariant-loop-name
invariant-loop-name l = Offers l.config (map (λ n. n.items) (take l.name-index l.names)) (export_records l.exports.items)
