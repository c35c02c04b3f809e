use Rattle.std.proofs.Common.{◌≡◌, ℕ, ◌/◌, List, length, ap, ◌∙◌, arith}
use borrow.Author.Count.{below_more}
use Rattle.aes_block.specs.Blocks.{block, joined, cipher_blocks, inverse_cipher_blocks}
use Rattle.aes_block.specs.Cipher.{cipher, inverse_cipher}
use Rattle.aes_block.proofs.lemmas.BlockLemmas.{IsWritten-none, IsWritten-more, IsWritten-all, block-written}
use Rattle.aes_block.proofs.lemmas.CipherBlocksLemmas.{inverse_cipher_blocks_undone, length-inverse_cipher}
use Rattle.aes_block.proofs.aes_key.AesKey.decrypt_blocks.Goals as goal
use Rattle.aes_block.proofs.aes_key.AesKey.decrypt_blocks.Goals.{After-loop-j}

-- the blocks to come
blocks : List ℕ → List ℕ → ℕ → List ℕ
blocks key bytes j = inverse_cipher key (block bytes j)

pub loop-j-init : goal.loop-j-init
unfolding blocks
loop-j-init c = record {
  written = IsWritten-none (blocks c.args.self.now c.args.bytes.now) c.args.bytes.now;
  undone = λ i h. absurd (omega arith);
}

pub loop-j-preserved : goal.loop-j-preserved
unfolding blocks
loop-j-preserved c =
    let key = c.args.self.now in
    let old = c.args.bytes.now in
    let j = c.loop-j.j in
    let so_far = c.loop-j.invariant in
    let read = c.block.ensures ∙ block-written (blocks key old) old c.loop-j.bytes j so_far.written in
    let out : c.copy_from_slice.new.self ≡ blocks key old j = cc (read, c.decrypt-plaintext.ensures.value, c.copy_from_slice.ensures.after) in
    let undone : cipher key (inverse_cipher key (block old j)) ≡ block old j = cc (read, c.decrypt-plaintext.ensures.inverse) in
    record {
      written = IsWritten-more (blocks key old) old c.loop-j.bytes c.copy_from_slice.new.self j (omega arith) out
          (ap length out ∙ length-inverse_cipher key (block old j)) so_far.written;
      undone = below_more (λ i. cipher key (inverse_cipher key (block old i)) ≡ block old i) j so_far.undone undone;
    }

-- the bytes that are left
bytes_are : (c : After-loop-j) → c.loop-j.bytes ≡ inverse_cipher_blocks c.args.self.now c.args.bytes.now
unfolding blocks inverse_cipher_blocks
bytes_are c =
    let all = blocks c.args.self.now c.args.bytes.now in
    let done : c.loop-j.j ≡ length c.args.bytes.now / 16 = omega arith in
    IsWritten-all all c.args.bytes.now c.loop-j.bytes c.loop-j.j (omega arith) c.loop-j.invariant.written ∙ ap (joined all) done

pub returns-clause-value : goal.returns-clause-value
returns-clause-value c = bytes_are c

pub returns-clause-inverse : goal.returns-clause-inverse
returns-clause-inverse c =
    ap (cipher_blocks c.args.self.now) (bytes_are c)
    ∙ inverse_cipher_blocks_undone c.args.self.now c.args.bytes.now c.requires (λ j h. c.loop-j.invariant.undone j (omega arith))
