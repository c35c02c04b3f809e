use Rattle.std.proofs.Common.{◌≡◌, ◌-◌}
use Rattle.aes_block.specs.Columns.{state_of_columns}
use Rattle.aes_block.specs.KeyExpansion.{round_key}
use Rattle.aes_block.specs.Rounds.{add_round_key}
use Rattle.aes_block.specs.Cipher.{inverse_rounds}
use Rattle.aes_block.proofs.cipher.inverse_cipher_with.Given as goal

-- the rounds that are left, of the state, give what all rounds give
abbrev pub invariant-loop-i : goal.invariant-loop-i
invariant-loop-i l =
    inverse_rounds l.schedule (l.i - 1) (state_of_columns l.state) ≡ inverse_rounds l.schedule (l.fn.rounds - 1) (add_round_key l.fn.block (round_key l.schedule l.fn.rounds))
