use Rattle.std.proofs.Common.{◌≡◌, ℕ, ◌<◌, ◌+◌, ◌*◌, ◌/◌, ◌%◌, length, slice_index}
use Rattle.sha2.specs.Sha256.{padded_message}
use Rattle.sha256_lanes.specs.Lanes.{message}
use Rattle.sha256_lanes.proofs.message.message_blocks.Given as goal

abbrev pub invariant-loop-j : goal.invariant-loop-j
invariant-loop-j l = (length l.out ≡ 512)
    × ((k : ℕ) → k < l.j * 64 → slice_index l.out k ≡ slice_index (padded_message (message l.prefix l.blocks l.size (k / 64))) (l.index * 64 + k % 64))
