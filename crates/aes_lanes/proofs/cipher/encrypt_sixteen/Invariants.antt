use Rattle.std.proofs.Common.{◌≡◌, ℕ, ◌-◌, ◌<◌, List}
use Rattle.aes_block.specs.Blocks.{block}
use Rattle.aes_block.specs.Cipher.{state_after}
use Rattle.aes_lanes.specs.Planes.{ArePlanes, lane_block, shifted}
use Rattle.aes_lanes.specs.Keys.{HoldKeys}
use Rattle.aes_lanes.proofs.cipher.encrypt_sixteen.Given as goal

-- the blocks after the rounds so far, as many ShiftRows ahead
abbrev pub invariant-loop-i : goal.invariant-loop-i
invariant-loop-i l = record {
  planes : ArePlanes l.state;
  blocks : (w : List ℕ) → HoldKeys l.rounds w l.keys → (j : ℕ) → j < 16 → shifted (l.i - 1) (lane_block l.state j) ≡ state_after w (block l.fn.blocks j) (l.i - 1);
}
