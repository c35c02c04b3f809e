-- A loop over parts of sixteen blocks.
use Rattle.std.proofs.Common.{◌≡◌, ℕ, ◌+◌, ◌-◌, ◌*◌, ◌/◌, ◌%◌, ◌<◌, ◌≤◌, List, ◌++◌, length, take, drop, inl, inr, sym, ap, ◌∙◌, refl, arith}
use Rattle.std.proofs.lemmas.List.{length-append, drop-drop, length-take-le, length-drop}
use borrow.Rule.Slice.PartMut.{put_mid}
use Rattle.aes_block.specs.Blocks.{block, joined, cipher_blocks, inverse_cipher_blocks}
use Rattle.aes_block.specs.Key.{IsKeyLength}
use Rattle.aes_block.specs.KeyExpansion.{rounds, key_schedule}
use Rattle.aes_block.specs.Cipher.{cipher_with, cipher, inverse_cipher_with, inverse_cipher}
use Rattle.aes_lanes.specs.declared.keys.KeyPlanes.{KeyPlanes}
use Rattle.aes_lanes.specs.Keys.{HoldKeys}
use Rattle.aes_block.proofs.lemmas.BlockLemmas.{joined-same, length-joined, block-take}
use Rattle.aes_block.proofs.lemmas.PartLemmas.{IsWrittenTo, IsWrittenTo-more, IsWrittenTo-all}
use Rattle.aes_block.proofs.lemmas.CipherBlocksLemmas.{length-cipher, length-inverse_cipher}

length-put_mid : (a k : ℕ) (xs ys : List ℕ) → a + k ≤ length xs → length ys ≡ k → length (put_mid a k xs ys) ≡ length xs
length-put_mid a k xs ys fits size =
    omega (arith, fits, size, length-append (take a xs) (ys ++ drop k (drop a xs)), length-append ys (drop k (drop a xs)), length-take-le a xs (omega (arith, fits)), length-drop k (drop a xs), length-drop a xs)

-- at least 10 and at most 14 rounds
pub rounds_between : (key : List ℕ) → IsKeyLength (length key) → (10 ≤ rounds key) × (rounds key ≤ 14)
rounds_between key h = elim h [ inl e ↦ (omega (arith, e), omega (arith, e)) | inr e ↦ (omega (arith, e), omega (arith, e)) ]

-- the round keys of a key, counted by its schedule
pub HoldKeys-with : (key w : List ℕ) (keys : List KeyPlanes) (n : ℕ) → w ≡ key_schedule key → n ≡ rounds key → HoldKeys (rounds key) (key_schedule key) keys → HoldKeys n w keys
HoldKeys-with key w keys n same count holds = rw (same, count) holds

pub HoldKeys-of : (key w : List ℕ) (keys : List KeyPlanes) (n : ℕ) → w ≡ key_schedule key → n ≡ rounds key → HoldKeys n w keys → HoldKeys (rounds key) (key_schedule key) keys
HoldKeys-of key w keys n same count holds = rw (← same, ← count) holds

pub cipher-with : (key w b : List ℕ) (n : ℕ) → w ≡ key_schedule key → n ≡ rounds key → cipher_with n w b ≡ cipher key b
unfolding cipher
cipher-with key w b n same count = rw (same, count) refl

pub inverse_cipher-with : (key w b : List ℕ) (n : ℕ) → w ≡ key_schedule key → n ≡ rounds key → inverse_cipher_with n w b ≡ inverse_cipher key b
unfolding inverse_cipher
inverse_cipher-with key w b n same count = rw (same, count) refl

-- the n blocks from block m on, written where they were
module _ (f : List ℕ → List ℕ) (long : (x : List ℕ) → length (f x) ≡ 16) (old now : List ℕ) (m n a k : ℕ) (at : a ≡ 16 * m) (wide : k ≡ 16 * n) (fits : a + k ≤ length now) where
  block-part : drop (16 * m) now ≡ drop (16 * m) old → (j : ℕ) → j < n → block (take k (drop a now)) j ≡ block old (m + j)
  block-part rest j h =
      let from : drop a now ≡ drop (16 * m) old = ap (λ x. drop x now) at ∙ rest in
      let to : 16 * m + 16 * j ≡ 16 * (m + j) = omega arith in
      block-take (drop a now) k j (omega (arith, wide, h)) ∙ ap (λ xs. block xs j) from ∙ ap (take 16) (drop-drop (16 * j) (16 * m) old ∙ ap (λ x. drop x old) to)

  pub part_written : (out : List ℕ) → out ≡ joined (λ j. f (block (take k (drop a now)) j)) n → IsWrittenTo 16 (λ j. f (block old j)) old now m
      → IsWrittenTo 16 (λ j. f (block old j)) old (put_mid a k now out) (m + n)
  part_written out is written =
      let same = is ∙ joined-same (λ j. f (block (take k (drop a now)) j)) (λ j. f (block old (m + j))) n (λ j h. ap f (block-part written.rest j h)) in
      let size : length out ≡ k = ap length is ∙ length-joined (λ j. f (block (take k (drop a now)) j)) n (λ j h. long (block (take k (drop a now)) j)) ∙ sym wide in
      IsWrittenTo-more 16 (λ j. f (block old j)) old now out m n a k at wide fits same size written

-- the whole, once the blocks after the last sixteen are written too
pub rest_written : (key old now out : List ℕ) (i : ℕ) → i ≡ length old / 256 → length old % 16 ≡ 0 → length now ≡ length old
    → out ≡ cipher_blocks key (take (length now - 256 * (length old / 256)) (drop (256 * (length old / 256)) now))
    → IsWrittenTo 16 (λ j. cipher key (block old j)) old now (16 * i)
    → put_mid (256 * (length old / 256)) (length now - 256 * (length old / 256)) now out ≡ cipher_blocks key old
unfolding cipher_blocks
rest_written key old now out i done whole same is written =
    let f = λ (j : ℕ). cipher key (block old j) in
    let a : ℕ = 256 * (length old / 256) in
    let k : ℕ = length now - a in
    let part = take k (drop a now) in
    let n : ℕ = (length old - a) / 16 in
    let fits : a + k ≤ length now = omega (arith, same) in
    let wide : k ≡ 16 * n = omega (arith, same, whole) in
    let size : length part ≡ k = length-take-le k (drop a now) (omega (arith, length-drop a now)) in
    let count : length part / 16 ≡ n = omega (arith, size, wide) in
    let all : 16 * i + n ≡ length old / 16 = omega (arith, done, whole) in
    let made = is ∙ ap (joined (λ j. cipher key (block part j))) count in
    let long : length out ≡ k = ap length made ∙ length-joined (λ j. cipher key (block part j)) n (λ j h. length-cipher key (block part j)) ∙ sym wide in
    let final = put_mid a k now out in
    let total : length final ≡ 16 * (16 * i + n) = length-put_mid a k now out fits long ∙ omega (arith, same, whole, all) in
    IsWrittenTo-all 16 f old final (16 * i + n) total (part_written (cipher key) (length-cipher key) old now (16 * i) n a k (omega (arith, done)) wide fits out made written)
    ∙ ap (joined f) all

-- the whole deciphered, once the blocks after the last sixteen are written too
pub inverse_rest_written : (key old now out : List ℕ) (i : ℕ) → i ≡ length old / 256 → length old % 16 ≡ 0 → length now ≡ length old
    → out ≡ inverse_cipher_blocks key (take (length now - 256 * (length old / 256)) (drop (256 * (length old / 256)) now))
    → IsWrittenTo 16 (λ j. inverse_cipher key (block old j)) old now (16 * i)
    → put_mid (256 * (length old / 256)) (length now - 256 * (length old / 256)) now out ≡ inverse_cipher_blocks key old
unfolding inverse_cipher_blocks
inverse_rest_written key old now out i done whole same is written =
    let f = λ (j : ℕ). inverse_cipher key (block old j) in
    let a : ℕ = 256 * (length old / 256) in
    let k : ℕ = length now - a in
    let part = take k (drop a now) in
    let n : ℕ = (length old - a) / 16 in
    let fits : a + k ≤ length now = omega (arith, same) in
    let wide : k ≡ 16 * n = omega (arith, same, whole) in
    let size : length part ≡ k = length-take-le k (drop a now) (omega (arith, length-drop a now)) in
    let count : length part / 16 ≡ n = omega (arith, size, wide) in
    let all : 16 * i + n ≡ length old / 16 = omega (arith, done, whole) in
    let made = is ∙ ap (joined (λ j. inverse_cipher key (block part j))) count in
    let long : length out ≡ k = ap length made ∙ length-joined (λ j. inverse_cipher key (block part j)) n (λ j h. length-inverse_cipher key (block part j)) ∙ sym wide in
    let final = put_mid a k now out in
    let total : length final ≡ 16 * (16 * i + n) = length-put_mid a k now out fits long ∙ omega (arith, same, whole, all) in
    IsWrittenTo-all 16 f old final (16 * i + n) total (part_written (inverse_cipher key) (length-inverse_cipher key) old now (16 * i) n a k (omega (arith, done)) wide fits out made written)
    ∙ ap (joined f) all
