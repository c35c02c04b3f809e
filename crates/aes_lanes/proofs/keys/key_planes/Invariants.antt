use Rattle.std.proofs.Common.{◌≡◌, ℕ, ◌%◌, ◌<◌, length}
use Rattle.aes_lanes.specs.Keys.{AreOneBlock, kept_key, key_planes}
use Rattle.aes_lanes.proofs.keys.key_planes.Given as goal

-- the round keys so far
abbrev pub invariant-loop-round : goal.invariant-loop-round
invariant-loop-round l = (length l.keys ≡ 15) × ((r : ℕ) → r < l.round → AreOneBlock (r % 4) (kept_key l.schedule r) (key_planes l.keys r))
