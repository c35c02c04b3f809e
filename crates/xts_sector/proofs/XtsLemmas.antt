-- Enciphering and deciphering a unit undo each other where they do on each of its blocks.
use Rattle.std.proofs.Common.{◌≡◌, ℕ, ◌*◌, ◌/◌, ◌%◌, ◌<◌, ◌+◌, ◌-◌, ◌≤◌, List, length, take, drop, sym, ap, ◌∙◌, inl, inr, arith}
use Rattle.std.proofs.lemmas.Bool.{cases_lt}
use Rattle.std.proofs.lemmas.List.{length-take-le, length-drop}
use borrow.Rule.Slice.PartMut.{put_mid}
use Rattle.aes_block.proofs.lemmas.PartLemmas.{IsWrittenTo, IsWrittenTo-more}
use Rattle.aes_block.specs.Cipher.{cipher, inverse_cipher}
use Rattle.aes_block.specs.Blocks.{block, joined}
use Rattle.aes_block.proofs.lemmas.BlockLemmas.{joined-same, length-joined, block-joined}
use Rattle.aes_block.proofs.lemmas.CipherBlocksLemmas.{blocks_undone}
use Rattle.xts_sector.specs.Blocks.{add_blocks}
use Rattle.xts_sector.specs.Tweak.{times_alpha_power}
use Rattle.xts_sector.specs.Xts.{encrypted_block, decrypted_block, encrypted_blocks, decrypted_blocks}
use Rattle.xts_sector.proofs.BlockLemmas.{length-add_blocks, add_blocks-add_blocks, block-part}

-- ---- one block

pub length-encrypted_block : (key t p : List ℕ) → length (encrypted_block key t p) ≡ 16
unfolding encrypted_block
length-encrypted_block key t p = length-add_blocks (cipher key (add_blocks p t)) t

pub length-decrypted_block : (key t c : List ℕ) → length (decrypted_block key t c) ≡ 16
unfolding decrypted_block
length-decrypted_block key t c = length-add_blocks (inverse_cipher key (add_blocks c t)) t

-- where the cipher is undone, so is the block
pub decrypted_block-encrypted_block : (key t p : List ℕ) → length p ≡ 16 → length (cipher key (add_blocks p t)) ≡ 16
    → inverse_cipher key (cipher key (add_blocks p t)) ≡ add_blocks p t → decrypted_block key t (encrypted_block key t p) ≡ p
unfolding encrypted_block decrypted_block
decrypted_block-encrypted_block key t p len out_len undone =
    ap (λ x. add_blocks (inverse_cipher key x) t) (add_blocks-add_blocks (cipher key (add_blocks p t)) t out_len)
    ∙ ap (λ x. add_blocks x t) undone
    ∙ add_blocks-add_blocks p t len

pub encrypted_block-decrypted_block : (key t c : List ℕ) → length c ≡ 16 → length (inverse_cipher key (add_blocks c t)) ≡ 16
    → cipher key (inverse_cipher key (add_blocks c t)) ≡ add_blocks c t → encrypted_block key t (decrypted_block key t c) ≡ c
unfolding encrypted_block decrypted_block
encrypted_block-decrypted_block key t c len out_len undone =
    ap (λ x. add_blocks (cipher key x) t) (add_blocks-add_blocks (inverse_cipher key (add_blocks c t)) t out_len)
    ∙ ap (λ x. add_blocks x t) undone
    ∙ add_blocks-add_blocks c t len

-- ---- a unit

-- blocks that are added to their masks, mapped and added again
module _ (f : List ℕ → List ℕ) (tweaks : ℕ → List ℕ) (old masks b1 : List ℕ) (m : ℕ) (long : (x : List ℕ) → length (f x) ≡ 16)
    (len : length old ≡ 16 * m) (mask : (j : ℕ) → j < m → block masks j ≡ tweaks j) (is1 : b1 ≡ joined (λ j. add_blocks (block old j) (block masks j)) (length old / 16)) where
  first_sum : ℕ → List ℕ
  first_sum j = add_blocks (block old j) (block masks j)

  first_sums : b1 ≡ joined first_sum m
  unfolding first_sum
  first_sums = let same : length old / 16 ≡ m = omega (arith, len) in is1 ∙ ap (joined first_sum) same

  pub length-masked : length b1 ≡ 16 * m
  unfolding first_sum
  length-masked = ap length first_sums ∙ length-joined first_sum m (λ j h. length-add_blocks (block old j) (block masks j))

  pub block-masked : (j : ℕ) → j < m → block b1 j ≡ add_blocks (block old j) (tweaks j)
  unfolding first_sum
  block-masked j h = ap (λ bs. block bs j) first_sums ∙ block-joined first_sum m j (λ i k. length-add_blocks (block old i) (block masks i)) h ∙ ap (add_blocks (block old j)) (mask j h)

  pub masked_blocks : (b2 b3 : List ℕ) → b2 ≡ joined (λ j. f (block b1 j)) (length b1 / 16) → b3 ≡ joined (λ j. add_blocks (block b2 j) (block masks j)) (length b2 / 16)
      → b3 ≡ joined (λ j. add_blocks (f (add_blocks (block old j) (tweaks j))) (tweaks j)) m
  masked_blocks b2 b3 is2 is3 =
      let mapped = λ (j : ℕ). f (block b1 j) in
      let m2 : length b1 / 16 ≡ m = omega (arith, length-masked) in
      let e2 : b2 ≡ joined mapped m = is2 ∙ ap (joined mapped) m2 in
      let len2 : length b2 ≡ 16 * m = ap length e2 ∙ length-joined mapped m (λ j h. long (block b1 j)) in
      let at2 = λ (j : ℕ) (h : j < m). ap (λ bs. block bs j) e2 ∙ block-joined mapped m j (λ i k. long (block b1 i)) h ∙ ap f (block-masked j h) in
      let m3 : length b2 / 16 ≡ m = omega (arith, len2) in
      is3 ∙ ap (joined (λ j. add_blocks (block b2 j) (block masks j))) m3
      ∙ joined-same (λ j. add_blocks (block b2 j) (block masks j)) (λ j. add_blocks (f (add_blocks (block old j) (tweaks j))) (tweaks j)) m
      (λ j h. ap (λ x. add_blocks x (block masks j)) (at2 j h) ∙ ap (add_blocks (f (add_blocks (block old j) (tweaks j)))) (mask j h))

-- the n blocks from block m on of a unit, mapped by f, whose tweaks are the masks, and turned back by g
module _ (f : List ℕ → List ℕ → List ℕ) (masks first old now : List ℕ) (m n a k : ℕ) (at : a ≡ 16 * m) (wide : k ≡ 16 * n) (fits : a + k ≤ length now) (mask_is : (j : ℕ) → j < n → block masks j ≡ times_alpha_power (m + j) first) where
  length-part : length (take k (drop a now)) / 16 ≡ n
  length-part = omega (arith, wide, fits, length-take-le k (drop a now) (omega (arith, fits, length-drop a now)))

  pub part_written : (long : (u x : List ℕ) → length (f u x) ≡ 16) → (out : List ℕ) → out ≡ joined (λ j. f (block masks j) (block (take k (drop a now)) j)) (length (take k (drop a now)) / 16)
      → IsWrittenTo 16 (λ j. f (times_alpha_power j first) (block old j)) old now m → IsWrittenTo 16 (λ j. f (times_alpha_power j first) (block old j)) old (put_mid a k now out) (m + n)
  part_written long out is written =
      let part = take k (drop a now) in
      let blocks = λ (j : ℕ). f (times_alpha_power j first) (block old j) in
      let same = is ∙ ap (joined (λ j. f (block masks j) (block part j))) length-part
      ∙ joined-same (λ j. f (block masks j) (block part j)) (λ j. blocks (m + j)) n (λ j h. ap (λ u. f u (block part j)) (mask_is j h) ∙ ap (f (times_alpha_power (m + j) first)) (block-part old now m n a k j at wide written.rest h)) in
      let out_long : length out ≡ k = ap length same ∙ length-joined (λ j. blocks (m + j)) n (λ j h. long (times_alpha_power (m + j) first) (block old (m + j))) ∙ sym wide in
      IsWrittenTo-more 16 blocks old now out m n a k at wide fits same out_long written

  pub part_undone : (g : List ℕ → List ℕ → List ℕ) → drop (16 * m) now ≡ drop (16 * m) old
      → ((j : ℕ) → j < length (take k (drop a now)) / 16 → g (block masks j) (f (block masks j) (block (take k (drop a now)) j)) ≡ block (take k (drop a now)) j)
      → ((j : ℕ) → j < m → g (times_alpha_power j first) (f (times_alpha_power j first) (block old j)) ≡ block old j)
      → (j : ℕ) → j < m + n → g (times_alpha_power j first) (f (times_alpha_power j first) (block old j)) ≡ block old j
  part_undone g rest here before j h =
      elim (cases_lt j m) [
        | inl below ↦ before j below
        | inr above ↦
            let i = j - m in
            let inside : i < n = omega (arith, h, above) in
            let to : m + i ≡ j = omega (arith, above) in
            let tweak = mask_is i inside ∙ ap (λ x. times_alpha_power x first) to in
            let place = block-part old now m n a k i at wide rest inside ∙ ap (block old) to in
            let back = here i (omega (arith, inside, length-part)) in
            sym (ap (λ u. g u (f u (block (take k (drop a now)) i))) tweak ∙ ap (λ x. g (times_alpha_power j first) (f (times_alpha_power j first) x)) place) ∙ back ∙ place
      ]

module _ (key : List ℕ) (tweaks : ℕ → List ℕ) (unit : List ℕ) (whole : length unit % 16 ≡ 0) where
  pub decrypted_blocks-encrypted_blocks : ((j : ℕ) → j < length unit / 16 → decrypted_block key (tweaks j) (encrypted_block key (tweaks j) (block unit j)) ≡ block unit j)
      → decrypted_blocks key tweaks (encrypted_blocks key tweaks unit) ≡ unit
  unfolding encrypted_blocks decrypted_blocks
  decrypted_blocks-encrypted_blocks undone =
      blocks_undone (λ j p. encrypted_block key (tweaks j) p) (λ j c. decrypted_block key (tweaks j) c) unit whole (λ j p. length-encrypted_block key (tweaks j) p) undone

  pub encrypted_blocks-decrypted_blocks : ((j : ℕ) → j < length unit / 16 → encrypted_block key (tweaks j) (decrypted_block key (tweaks j) (block unit j)) ≡ block unit j)
      → encrypted_blocks key tweaks (decrypted_blocks key tweaks unit) ≡ unit
  unfolding encrypted_blocks decrypted_blocks
  encrypted_blocks-decrypted_blocks undone =
      blocks_undone (λ j c. decrypted_block key (tweaks j) c) (λ j p. encrypted_block key (tweaks j) p) unit whole (λ j c. length-decrypted_block key (tweaks j) c) undone
