use Rattle.aes_lanes.specs.Keys.{AreOneBlock, kept_key}
use Rattle.aes_lanes.proofs.keys.kept_planes.Given as goal

-- the rows were moved back so many times
abbrev pub invariant-loop-shift : goal.invariant-loop-shift
invariant-loop-shift l = AreOneBlock l._shift (kept_key l.schedule l.round) l.planes
