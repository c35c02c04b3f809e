-- Covered blocks that are read, and their bytes added up.
use Rattle.std.proofs.Common.{◌≡◌, ℕ, ◌+◌, ◌-◌, ◌*◌, ◌/◌, ◌%◌, ◌<◌, ◌≤◌, List, [], length, take, drop, IsTrue, inl, inr, sym, ap, ◌∙◌, arith, bit_xor}
use Rattle.std.specs.Prelude.{slice_index, EachIndex}
use Rattle.std.specs.List.{concat}
use Rattle.std.specs.Int.Bits.{xor_zero_r}
use Rattle.std.proofs.lemmas.List.{get_or-take, get_or-drop, get_or_past, length-take-le, length-drop}
use Rattle.std.proofs.lemmas.Bool.{cases_lt}
use Rattle.std.proofs.Math.Nat.{mod-lt}
use Rattle.block_device.specs.Device.{Device, IsInside, run_of}
use Rattle.reed_solomon.specs.Factors.{AreProducts}
use Rattle.reed_solomon.specs.Field.{field_product}
use Rattle.reed_solomon.proofs.FieldLemmas.{product_zero_l, product_zero_r}
use Rattle.tree_shape.specs.Shape.{is_block_size}
use Rattle.verity_format.specs.Blocks.{block_at}
use Rattle.verity_format.proofs.lemmas.SizeLemmas.{block-size}
use Rattle.fec_area.specs.declared.layout.Layout.{Layout}
use Rattle.fec_area.specs.Layouts.{covered, covered_blocks, message_byte, code_rounds}
use Rattle.fec_area.specs.Rounds.{AreProductsAdded, IsPlaceAdded}
use Rattle.fec_area.proofs.LayoutLemmas.{block-fits, covered-data, covered-hash, covered-past}

-- a block lies on a device of which that many do
pub inside-block : (size : ℕ) (d : Device) (j n len : ℕ) → IsTrue (is_block_size size) → len ≡ size → n * (size / 512) ≤ d.size → j < n → IsInside d (j * (size / 512)) len
inside-block size d j n len valid is room lt =
    let b = block-size size valid in
    record {
      some = omega (arith, is, b.some);
      whole = ap (λ m. m % 512) is ∙ b.whole;
      inside = omega (arith, block-fits j n (size / 512) lt, room, ap (λ m. m / 512) is);
    }

-- what was read is the covered block
pub read-data : (l : Layout) (d h : List (List ℕ)) (j len : ℕ) (bytes : List ℕ) → len ≡ l.block → j < l.data_blocks
    → bytes ≡ concat (run_of d (j * (l.block / 512)) (len / 512)) → bytes ≡ covered l d h j
unfolding block_at
read-data l d h j len bytes is lt e = e ∙ ap (λ m. concat (run_of d (j * (l.block / 512)) (m / 512))) is ∙ sym (covered-data l d h j lt)

pub read-hash : (l : Layout) (d h : List (List ℕ)) (j len : ℕ) (bytes : List ℕ) → len ≡ l.block → l.data_blocks ≤ j → j < covered_blocks l
    → bytes ≡ concat (run_of h ((l.hash_first + (j - l.data_blocks)) * (l.block / 512)) (len / 512)) → bytes ≡ covered l d h j
unfolding block_at
read-hash l d h j len bytes is le lt e = e ∙ ap (λ m. concat (run_of h ((l.hash_first + (j - l.data_blocks)) * (l.block / 512)) (m / 512))) is ∙ sym (covered-hash l d h j le lt)

-- past the last block nothing is added
pub place-past : (l : Layout) (d h : List (List ℕ)) (count : ℕ) (products : List ℕ) (round place : ℕ) (sums : List ℕ) → covered_blocks l ≤ place * code_rounds l + round
    → IsPlaceAdded l d h count products round place sums sums
place-past l d h count products round place sums past =
    let none : (c : ℕ) → message_byte l d h round c place ≡ 0 = λ c. ap (λ b. slice_index b c) (covered-past l d h (place * code_rounds l + round) past) ∙ get_or_past {X = ℕ} [] c 0 (omega arith) in
    record {
      sums = λ m lt.
          let x = slice_index products (place * count + m % count) in
          sym (ap (λ v. bit_xor (slice_index sums m) (field_product x v)) (none (m / count)) ∙ ap (λ v. bit_xor (slice_index sums m) v) (product_zero_r x) ∙ xor_zero_r (slice_index sums m));
      bytes = λ c. omega (arith, none c);
    }

-- at a lost place the products are 0, so that there nothing has to be added
pub place-lost : (l : Layout) (d h : List (List ℕ)) (lost products : List ℕ) (round place k : ℕ) (sums : List ℕ) → AreProducts lost products → k < length lost → slice_index lost k ≡ place
    → AreProductsAdded l d h (length lost) products round place sums sums
place-lost l d h lost products round place k sums known lt at m inside =
    let n = length lost in
    let some : 0 < n = omega (arith, lt) in
    let byte = message_byte l d h round (m / n) place in
    let none : slice_index products (place * n + m % n) ≡ 0 = ap (λ i. slice_index products (i * n + m % n)) (sym at) ∙ (known.each (m % n) (mod-lt m some)).skip k lt in
    sym (ap (λ x. bit_xor (slice_index sums m) (field_product x byte)) none ∙ ap (λ v. bit_xor (slice_index sums m) v) (product_zero_l byte) ∙ xor_zero_r (slice_index sums m))

-- the factors of one place
pub part-products : (products : List ℕ) (count first k : ℕ) → first + count ≤ length products → k < count
    → slice_index (take (first + count - first) (drop first products)) k ≡ slice_index products (first + k)
part-products products count first k fits lt = get_or-take (first + count - first) (drop first products) k 0 (omega (arith, lt)) ∙ get_or-drop first products k 0

pub length-part : (products : List ℕ) (count first : ℕ) → first + count ≤ length products → length (take (first + count - first) (drop first products)) ≡ count
length-part products count first fits = length-take-le (first + count - first) (drop first products) (omega (arith, length-drop first products, fits)) ∙ omega arith

-- a place's factors lie among all of them
pub place-fits : (place count : ℕ) → place < 255 → place * count + count ≤ 255 * count
place-fits place count h = block-fits place 255 count h

-- the products of a block's bytes are added
pub products-added : (products block old new : List ℕ) (count first n : ℕ) → first + count ≤ length products → length new ≡ n * count
    → EachIndex new (λ m. slice_index new m ≡ bit_xor (slice_index old m) (field_product (slice_index (take (first + count - first) (drop first products)) (m % length (take (first + count - first) (drop first products)))) (slice_index block (m / length (take (first + count - first) (drop first products))))))
    → (m : ℕ) → m < length new → slice_index new m ≡ bit_xor (slice_index old m) (field_product (slice_index products (first + m % count)) (slice_index block (m / count)))
products-added products block old new count first n fits size added m lt =
    let part = take (first + count - first) (drop first products) in
    let long = length-part products count first fits in
    let some : 0 < count = elim (cases_lt 0 count) [
      | inl more ↦ more
      | inr none ↦
          let zero : count ≡ 0 = omega (arith, none) in
          let zero_is : n * count ≡ n * 0 = ap (λ k. n * k) zero in
          absurd (omega (arith, zero_is, size, lt))
    ] in
    added m lt
    ∙ ap (λ q. bit_xor (slice_index old m) (field_product (slice_index part (m % q)) (slice_index block (m / q)))) long
    ∙ ap (λ x. bit_xor (slice_index old m) (field_product x (slice_index block (m / count)))) (part-products products count first (m % count) fits (mod-lt m some))
