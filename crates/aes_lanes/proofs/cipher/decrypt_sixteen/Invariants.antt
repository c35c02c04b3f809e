use Rattle.std.proofs.Common.{◌≡◌, ℕ, ◌+◌, ◌-◌, ◌<◌, List}
use Rattle.aes_block.specs.Blocks.{block}
use Rattle.aes_block.specs.KeyExpansion.{round_key}
use Rattle.aes_block.specs.Rounds.{add_round_key}
use Rattle.aes_block.specs.Cipher.{inverse_rounds}
use Rattle.aes_lanes.specs.Constant.{add_constant}
use Rattle.aes_lanes.specs.Planes.{ArePlanes, lane_block, shifted}
use Rattle.aes_lanes.specs.Keys.{HoldKeys}
use Rattle.aes_lanes.proofs.cipher.decrypt_sixteen.Given as goal

-- the rounds that are left, of the blocks, give what all rounds give
abbrev pub invariant-loop-i : goal.invariant-loop-i
invariant-loop-i l = record {
  planes : ArePlanes l.state;
  blocks : (w : List ℕ) → HoldKeys l.rounds w l.keys → (j : ℕ) → j < 16
      → inverse_rounds w (l.i - 1) (add_constant (shifted (l.i - 1 + 1) (lane_block l.state j))) ≡ inverse_rounds w (l.rounds - 1) (add_round_key (block l.fn.blocks j) (round_key w l.rounds));
}
