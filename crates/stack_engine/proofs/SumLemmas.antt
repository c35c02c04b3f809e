-- Sums of blocks as lists.
use Rattle.std.proofs.Common.{◌≡◌, ℕ, ◌+◌, ◌*◌, ◌<◌, List, length, map, sym, ap, ◌∙◌, arith, bit_xor, replicate}
use Rattle.std.specs.Prelude.{slice_index}
use Rattle.std.specs.List.{range_with_len}
use Rattle.std.specs.Int.Bits.{xor_zero_l, xor_zero_r}
use Rattle.std.proofs.lemmas.List.{ext_get_or, get_or-map, get_or-replicate}
use Rattle.std.proofs.lemmas.List.FromFn.{get_or-map-range_with_len, length-map-range_with_len}
use Rattle.reed_solomon.specs.Field.{field_product, total}
use Rattle.reed_solomon.specs.Products.{AreAdded}
use Rattle.reed_solomon.specs.Sums.{part_sum}
use Rattle.stack_meaning.specs.Erasures.{scaled_block}
use Rattle.stack_meaning.specs.Spares.{added_block}

-- a list to each element of which its addend was added
abbrev pub added_each : (ℕ → ℕ) → List ℕ → List ℕ
added_each addend old = map (λ c. bit_xor (slice_index old c) (addend c)) (range_with_len 0 (length old))

pub added-length : (addend : ℕ → ℕ) (old : List ℕ) → length (added_each addend old) ≡ length old
added-length addend old = length-map-range_with_len (λ c. bit_xor (slice_index old c) (addend c)) 0 (length old)

added-at : (addend : ℕ → ℕ) (old : List ℕ) (c : ℕ) → c < length old → slice_index (added_each addend old) c ≡ bit_xor (slice_index old c) (addend c)
added-at addend old c lt = get_or-map-range_with_len (λ c. bit_xor (slice_index old c) (addend c)) 0 (length old) c c 0 lt (omega arith)

pub added-is : (addend : ℕ → ℕ) (old new : List ℕ) → length new ≡ length old → AreAdded addend old new → new ≡ added_each addend old
added-is addend old new len added =
    ext_get_or 0 new (added_each addend old) (len ∙ sym (added-length addend old)) (λ c lt. added c lt ∙ sym (added-at addend old c (omega (arith, lt, len))))

-- the sum of one byte
one-sum : (bytes : List ℕ) (c : ℕ) → part_sum 1 bytes c ≡ slice_index bytes c
unfolding total
one-sum bytes c =
    let at : c * 1 + 0 ≡ c = omega arith in
    xor_zero_l (slice_index bytes (c * 1 + 0)) ∙ ap (λ (k : ℕ). slice_index bytes k) at

pub added-block : (old new block : List ℕ) → length new ≡ length old → AreAdded (part_sum 1 block) old new → new ≡ added_block old block
added-block old new block len added = added-is (λ c. slice_index block c) old new len (λ c lt. added c lt ∙ ap (λ (x : ℕ). bit_xor (slice_index old c) x) (one-sum block c))

-- each byte times a factor
pub added-scaled : (factor : ℕ) (old new block : List ℕ) → length new ≡ length old → length block ≡ length old → AreAdded (λ c. field_product factor (slice_index block c)) old new → new ≡ added_block old (scaled_block factor block)
added-scaled factor old new block len whole added =
    added-is (λ c. slice_index (scaled_block factor block) c) old new len
    (λ c lt. added c lt ∙ ap (λ (x : ℕ). bit_xor (slice_index old c) x) (sym (get_or-map (field_product factor) block c 0 0 (omega (arith, lt, len, whole)))))

-- zeros change no sum
pub added-zeros : (n : ℕ) (sums : List ℕ) → length sums ≡ n → added_block sums (replicate n 0) ≡ sums
added-zeros n sums len =
    let addend : ℕ → ℕ = λ c. slice_index (replicate n 0) c in
    sym (added-is addend sums sums (omega arith) (λ c lt. sym (ap (λ (x : ℕ). bit_xor (slice_index sums c) x) (get_or-replicate {A = ℕ} n c 0 0 (omega (arith, lt, len))) ∙ xor_zero_r (slice_index sums c))))
