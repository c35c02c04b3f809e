-- Units of one size: each unit of what is enciphered or deciphered, and the step of a loop over units.
use Rattle.std.proofs.Common.{◌≡◌, ℕ, ◌+◌, ◌-◌, ◌*◌, ◌/◌, ◌%◌, ◌<◌, ◌≤◌, List, length, take, drop, get_or, sym, ap, ◌∙◌, refl, arith}
use Rattle.std.proofs.lemmas.List.{length-take-le, length-drop, drop-drop, drop-take, take-take}
use Rattle.std.proofs.Math.Nat.{mul-le-mul_left, div-add-mod}
use borrow.Rule.Slice.PartMut.{put_mid}
use Rattle.aes_block.specs.Blocks.{block, joined}
use Rattle.aes_block.proofs.lemmas.BlockLemmas.{length-joined}
use Rattle.aes_block.proofs.lemmas.PartLemmas.{length-joined_parts, part-joined, IsWrittenTo, IsWrittenTo-more, parts_undone}
use Rattle.xts_sector.specs.Xts.{data_key, tweak, encrypted_block, decrypted_block, encrypted_blocks, decrypted_blocks, encrypted, decrypted}
use Rattle.xts_sector.specs.Units.{unit, encrypted_numbered, decrypted_numbered}
use Rattle.xts_sector.proofs.XtsLemmas.{length-encrypted_block, length-decrypted_block}

-- whole units are as many bytes as their number times their size
pub length-units : (size : ℕ) (bytes : List ℕ) → length bytes % size ≡ 0 → length bytes ≡ size * (length bytes / size)
length-units size bytes whole = omega (arith, div-add-mod (length bytes) size, whole)

pub length-unit : (size : ℕ) (bytes : List ℕ) (m i : ℕ) → length bytes ≡ size * m → i < m → length (unit size bytes i) ≡ size
length-unit size bytes m i len h =
    let room : size * (i + 1) ≤ size * m = mul-le-mul_left size (omega (arith, h)) in
    length-take-le size (drop (size * i) bytes) (omega (arith, room, len, length-drop (size * i) bytes))

pub length-encrypted : (key : List ℕ) (n : ℕ) (bytes : List ℕ) → length bytes % 16 ≡ 0 → length (encrypted key n bytes) ≡ length bytes
unfolding encrypted encrypted_blocks
length-encrypted key n bytes whole =
    omega (arith, whole, length-joined (λ j. encrypted_block (data_key key) (tweak key n j) (block bytes j)) (length bytes / 16) (λ j h. length-encrypted_block (data_key key) (tweak key n j) (block bytes j)))

pub length-decrypted : (key : List ℕ) (n : ℕ) (bytes : List ℕ) → length bytes % 16 ≡ 0 → length (decrypted key n bytes) ≡ length bytes
unfolding decrypted decrypted_blocks
length-decrypted key n bytes whole =
    omega (arith, whole, length-joined (λ j. decrypted_block (data_key key) (tweak key n j) (block bytes j)) (length bytes / 16) (λ j h. length-decrypted_block (data_key key) (tweak key n j) (block bytes j)))

module _ (key numbers : List ℕ) (size : ℕ) (bytes : List ℕ) (blocks : size % 16 ≡ 0) (whole : length bytes ≡ size * length numbers) where
  pub length-encrypted_unit : (i : ℕ) → i < length numbers → length (encrypted key (get_or numbers i 0) (unit size bytes i)) ≡ size
  length-encrypted_unit i h =
      let long = length-unit size bytes (length numbers) i whole h in
      length-encrypted key (get_or numbers i 0) (unit size bytes i) (rw long blocks) ∙ long

  pub length-decrypted_unit : (i : ℕ) → i < length numbers → length (decrypted key (get_or numbers i 0) (unit size bytes i)) ≡ size
  length-decrypted_unit i h =
      let long = length-unit size bytes (length numbers) i whole h in
      length-decrypted key (get_or numbers i 0) (unit size bytes i) (rw long blocks) ∙ long

  -- a unit of enciphered units is the unit enciphered
  pub unit-encrypted_units : (i : ℕ) → i < length numbers → unit size (encrypted_numbered key numbers size bytes) i ≡ encrypted key (get_or numbers i 0) (unit size bytes i)
  unfolding encrypted_numbered
  unit-encrypted_units i h = part-joined size (λ i. encrypted key (get_or numbers i 0) (unit size bytes i)) (length numbers) i length-encrypted_unit h

  pub unit-decrypted_units : (i : ℕ) → i < length numbers → unit size (decrypted_numbered key numbers size bytes) i ≡ decrypted key (get_or numbers i 0) (unit size bytes i)
  unfolding decrypted_numbered
  unit-decrypted_units i h = part-joined size (λ i. decrypted key (get_or numbers i 0) (unit size bytes i)) (length numbers) i length-decrypted_unit h

  pub length-encrypted_units : length (encrypted_numbered key numbers size bytes) ≡ length bytes
  unfolding encrypted_numbered
  length-encrypted_units = length-joined_parts size (λ i. encrypted key (get_or numbers i 0) (unit size bytes i)) (length numbers) length-encrypted_unit ∙ sym whole

  pub length-decrypted_units : length (decrypted_numbered key numbers size bytes) ≡ length bytes
  unfolding decrypted_numbered
  length-decrypted_units = length-joined_parts size (λ i. decrypted key (get_or numbers i 0) (unit size bytes i)) (length numbers) length-decrypted_unit ∙ sym whole

  -- deciphering undoes enciphering where it does so on each unit
  pub encrypted_units_undone : ((i : ℕ) → i < length numbers → decrypted key (get_or numbers i 0) (encrypted key (get_or numbers i 0) (unit size bytes i)) ≡ unit size bytes i) → decrypted_numbered key numbers size (encrypted_numbered key numbers size bytes) ≡ bytes
  unfolding encrypted_numbered decrypted_numbered
  encrypted_units_undone undone =
      parts_undone size (λ i x. encrypted key (get_or numbers i 0) x) (λ i x. decrypted key (get_or numbers i 0) x) bytes (length numbers) whole length-encrypted_unit undone

  pub decrypted_units_undone : ((i : ℕ) → i < length numbers → encrypted key (get_or numbers i 0) (decrypted key (get_or numbers i 0) (unit size bytes i)) ≡ unit size bytes i) → encrypted_numbered key numbers size (decrypted_numbered key numbers size bytes) ≡ bytes
  unfolding encrypted_numbered decrypted_numbered
  decrypted_units_undone undone =
      parts_undone size (λ i x. decrypted key (get_or numbers i 0) x) (λ i x. encrypted key (get_or numbers i 0) x) bytes (length numbers) whole length-decrypted_unit undone

-- ---- units more are written

pub length-part : (size n a k : ℕ) (now : List ℕ) → k ≡ size * n → a + k ≤ length now → length (take k (drop a now)) ≡ size * n
length-part size n a k now wide fits = length-take-le k (drop a now) (omega (arith, fits, length-drop a now)) ∙ wide

-- the n units from unit m on of bytes that are still as they were there
pub unit-part : (size : ℕ) (old now : List ℕ) (m n a k : ℕ) → a ≡ size * m → k ≡ size * n → drop (size * m) now ≡ drop (size * m) old → (j : ℕ) → j < n
    → unit size (take k (drop a now)) j ≡ unit size old (m + j)
unit-part size old now m n a k at wide rest j h =
    let here = drop a now in
    let room : size * (j + 1) ≤ size * n = mul-le-mul_left size (omega (arith, h)) in
    let more : size * j + (k - size * j) ≡ k = omega (arith, room, wide) in
    let front : drop (size * j) (take k here) ≡ take (k - size * j) (drop (size * j) here) = rw more at (drop-take (size * j) (k - size * j) here) in
    let from : here ≡ drop (size * m) old = ap (λ x. drop x now) at ∙ rest in
    let to : size * m + size * j ≡ size * (m + j) = omega arith in
    ap (take size) front ∙ take-take size (k - size * j) (drop (size * j) here) (omega (arith, room, wide))
    ∙ ap (λ xs. take size (drop (size * j) xs)) from ∙ ap (take size) (drop-drop (size * j) (size * m) old ∙ ap (λ x. drop x old) to)

-- a unit more is written
pub unit_written : (size : ℕ) (parts : ℕ → List ℕ) (old now out : List ℕ) (i k : ℕ) → k ≡ size → size * i + k ≤ length now → out ≡ parts i → length out ≡ k
    → IsWrittenTo size parts old now i → IsWrittenTo size parts old (put_mid (size * i) k now out) (i + 1)
unfolding joined
unit_written size parts old now out i k wide fits is long written =
    let one : k ≡ size * 1 = omega (arith, wide) in
    let here : i + 0 ≡ i = omega arith in
    IsWrittenTo-more size parts old now out i 1 (size * i) k refl one fits (is ∙ ap parts (sym here)) long written
