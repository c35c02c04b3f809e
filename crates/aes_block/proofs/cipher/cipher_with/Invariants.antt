use Rattle.std.proofs.Common.{◌≡◌, ◌-◌}
use Rattle.aes_block.specs.Columns.{state_of_columns}
use Rattle.aes_block.specs.Cipher.{state_after}
use Rattle.aes_block.proofs.cipher.cipher_with.Given as goal

abbrev pub invariant-loop-i : goal.invariant-loop-i
invariant-loop-i l = state_of_columns l.state ≡ state_after l.schedule l.fn.block (l.i - 1)
