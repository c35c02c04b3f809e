use Rattle.std.proofs.Common.{◌≡◌, ◌*◌, take}
use Rattle.aes_block.specs.Blocks.{joined}
use Rattle.aes_block.specs.KeyExpansion.{round_key}
use Rattle.aes_block.specs.Rounds.{inv_mix_columns}
use Rattle.aes_block.proofs.key_expansion.unmixed.Given as goal

-- the round keys so far
abbrev pub invariant-loop-round : goal.invariant-loop-round
invariant-loop-round l = take (16 * l.round) l.unmixed ≡ joined (λ r. inv_mix_columns (round_key l.schedule r)) l.round
