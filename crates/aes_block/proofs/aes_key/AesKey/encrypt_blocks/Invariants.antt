use Rattle.std.proofs.Common.{◌≡◌, ℕ, ◌<◌}
use Rattle.aes_block.specs.Blocks.{block}
use Rattle.aes_block.specs.Cipher.{cipher, inverse_cipher}
use Rattle.aes_block.proofs.lemmas.BlockLemmas.{IsWritten}
use Rattle.aes_block.proofs.aes_key.AesKey.encrypt_blocks.Given as goal

-- the blocks so far, each turned back by its inverse
abbrev pub invariant-loop-j : goal.invariant-loop-j
invariant-loop-j l = record {
  written : IsWritten (λ i. cipher l.self (block l.fn.bytes i)) l.fn.bytes l.bytes l.j;
  undone : (i : ℕ) → i < l.j → inverse_cipher l.self (cipher l.self (block l.fn.bytes i)) ≡ block l.fn.bytes i;
}
