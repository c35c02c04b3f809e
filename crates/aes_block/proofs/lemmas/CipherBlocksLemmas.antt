-- Enciphering and deciphering whole blocks undo each other where they do on each block.
use Rattle.std.proofs.Common.{◌≡◌, ℕ, zero, suc, ◌-◌, ◌*◌, ◌/◌, ◌%◌, ◌<◌, List, length, sym, ap, ◌∙◌, arith}
use Rattle.std.proofs.lemmas.List.{take_all}
use Rattle.aes_block.specs.Blocks.{block, joined, cipher_blocks, inverse_cipher_blocks}
use Rattle.aes_block.specs.Rounds.{add_round_key}
use Rattle.aes_block.specs.KeyExpansion.{rounds, key_schedule, round_key}
use Rattle.aes_block.specs.Cipher.{cipher_with, cipher, inverse_rounds, inverse_cipher_with, inverse_cipher}
use Rattle.aes_block.proofs.lemmas.StateLemmas.{length-state_of}
use Rattle.aes_block.proofs.lemmas.BlockLemmas.{joined-same, length-joined, block-joined, joined-block}

length-added : (s k : List ℕ) → length (add_round_key s k) ≡ 16
unfolding add_round_key
length-added s k = length-state_of _

pub length-cipher : (key b : List ℕ) → length (cipher key b) ≡ 16
unfolding cipher cipher_with
length-cipher key b = length-added _ _

length-inverse_rounds : (w : List ℕ) (n : ℕ) (s : List ℕ) → length (inverse_rounds w n s) ≡ 16
length-inverse_rounds w zero s = length-added _ _
length-inverse_rounds w (suc n) s = length-inverse_rounds w n _

pub length-inverse_cipher : (key b : List ℕ) → length (inverse_cipher key b) ≡ 16
unfolding inverse_cipher inverse_cipher_with
length-inverse_cipher key b = length-inverse_rounds (key_schedule key) (rounds key - 1) (add_round_key b (round_key (key_schedule key) (rounds key)))

-- two maps of blocks, each by the number of the block, of which the second undoes the first on each block
module _ (f g : ℕ → List ℕ → List ℕ) (bytes : List ℕ) (whole : length bytes % 16 ≡ 0) (long : (j : ℕ) (x : List ℕ) → length (f j x) ≡ 16)
    (undone : (j : ℕ) → j < length bytes / 16 → g j (f j (block bytes j)) ≡ block bytes j) where
  pub blocks_undone : joined (λ j. g j (block (joined (λ i. f i (block bytes i)) (length bytes / 16)) j)) (length (joined (λ i. f i (block bytes i)) (length bytes / 16)) / 16) ≡ bytes
  blocks_undone =
      let m = length bytes / 16 in
      let out = joined (λ i. f i (block bytes i)) m in
      let out_len = length-joined (λ i. f i (block bytes i)) m (λ j h. long j (block bytes j)) in
      let blocks : length out / 16 ≡ m = omega (arith, out_len) in
      let each = joined-same (λ j. g j (block out j)) (block bytes) m (λ j h.
      ap (g j) (block-joined (λ i. f i (block bytes i)) m j (λ i k. long i (block bytes i)) h) ∙ undone j h) in
      ap (joined (λ j. g j (block out j))) blocks ∙ each ∙ joined-block bytes m (omega arith) ∙ take_all (16 * m) bytes (omega arith)

module _ (key bytes : List ℕ) (whole : length bytes % 16 ≡ 0) where
  pub cipher_blocks_undone : ((j : ℕ) → j < length bytes / 16 → inverse_cipher key (cipher key (block bytes j)) ≡ block bytes j) → inverse_cipher_blocks key (cipher_blocks key bytes) ≡ bytes
  unfolding cipher_blocks inverse_cipher_blocks
  cipher_blocks_undone undone = blocks_undone (λ j b. cipher key b) (λ j b. inverse_cipher key b) bytes whole (λ j b. length-cipher key b) undone

  pub inverse_cipher_blocks_undone : ((j : ℕ) → j < length bytes / 16 → cipher key (inverse_cipher key (block bytes j)) ≡ block bytes j) → cipher_blocks key (inverse_cipher_blocks key bytes) ≡ bytes
  unfolding cipher_blocks inverse_cipher_blocks
  inverse_cipher_blocks_undone undone = blocks_undone (λ j b. inverse_cipher key b) (λ j b. cipher key b) bytes whole (λ j b. length-inverse_cipher key b) undone

-- and where they undo each other, they do on each block
module _ (f g : ℕ → List ℕ → List ℕ) (bytes : List ℕ) (m : ℕ) (whole : length bytes ≡ 16 * m) (long : (j : ℕ) (x : List ℕ) → length (f j x) ≡ 16) (back : (j : ℕ) (x : List ℕ) → length (g j x) ≡ 16)
    (undone : joined (λ j. g j (block (joined (λ i. f i (block bytes i)) m) j)) m ≡ bytes) where
  pub block_undone : (j : ℕ) → j < m → g j (f j (block bytes j)) ≡ block bytes j
  block_undone j h =
      let out = joined (λ i. f i (block bytes i)) m in
      sym (ap (g j) (block-joined (λ i. f i (block bytes i)) m j (λ i k. long i (block bytes i)) h))
      ∙ sym (block-joined (λ i. g i (block out i)) m j (λ i k. back i (block out i)) h)
      ∙ ap (λ bs. block bs j) undone

module _ (key bytes : List ℕ) (whole : length bytes % 16 ≡ 0) where
  pub cipher_undone-block : inverse_cipher_blocks key (cipher_blocks key bytes) ≡ bytes → (j : ℕ) → j < length bytes / 16 → inverse_cipher key (cipher key (block bytes j)) ≡ block bytes j
  unfolding cipher_blocks inverse_cipher_blocks
  cipher_undone-block undone =
      let m = length bytes / 16 in
      let out = joined (λ i. cipher key (block bytes i)) m in
      let len : length out ≡ 16 * m = length-joined (λ i. cipher key (block bytes i)) m (λ j h. length-cipher key (block bytes j)) in
      let blocks : length out / 16 ≡ m = omega (arith, len) in
      block_undone (λ j b. cipher key b) (λ j b. inverse_cipher key b) bytes m (omega arith) (λ j b. length-cipher key b) (λ j b. length-inverse_cipher key b)
      (ap (joined (λ j. inverse_cipher key (block out j))) (sym blocks) ∙ undone)

  pub inverse_cipher_undone-block : cipher_blocks key (inverse_cipher_blocks key bytes) ≡ bytes → (j : ℕ) → j < length bytes / 16 → cipher key (inverse_cipher key (block bytes j)) ≡ block bytes j
  unfolding cipher_blocks inverse_cipher_blocks
  inverse_cipher_undone-block undone =
      let m = length bytes / 16 in
      let out = joined (λ i. inverse_cipher key (block bytes i)) m in
      let len : length out ≡ 16 * m = length-joined (λ i. inverse_cipher key (block bytes i)) m (λ j h. length-inverse_cipher key (block bytes j)) in
      let blocks : length out / 16 ≡ m = omega (arith, len) in
      block_undone (λ j b. inverse_cipher key b) (λ j b. cipher key b) bytes m (omega arith) (λ j b. length-inverse_cipher key b) (λ j b. length-cipher key b)
      (ap (joined (λ j. cipher key (block out j))) (sym blocks) ∙ undone)
