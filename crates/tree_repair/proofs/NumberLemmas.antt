-- A covered block's offset follows from its number.
use Rattle.std.proofs.Common.{◌≡◌, ◌≤◌, ◌<◌, ◌+◌, ◌-◌, ◌*◌, ◌/◌, min, ℕ, zero, suc, IsTrue, List, [], ◌∷◌, length, drop, replicate, All, add-one, refl, sym, ap, ◌∙◌, subst, arith, inl, inr}
use Rattle.std.proofs.lemmas.Bool.{cases_lt}
use Rattle.std.proofs.lemmas.List.{length-drop, length-replicate, length-take}
use Rattle.std.proofs.lemmas.List.Elements.{All-drop, All-replicate, All-take}
use Rattle.block_device.specs.Device.{run_of}
use Rattle.fec_area.specs.declared.layout.Layout.{Layout}
use Rattle.fec_area.specs.Layouts.{IsLayout, IsOfData, IsOfHash, IsOffHash}
use Rattle.fec_area.proofs.LayoutLemmas.{covered-data, covered-hash}
use Rattle.hash_tree.proofs.lemmas.PackingLemmas.{length-concat}
use Rattle.tree_shape.specs.Shape.{ShapeRecord, IsShape, ancestor, is_block_size, position}
use Rattle.tree_shape.proofs.lemmas.ShapeFactLemmas.{ancestor-none}
use Rattle.verity_format.proofs.lemmas.SizeLemmas.{block-inside, block-size}
use Rattle.verity_format.specs.Blocks.{block_at}
use Rattle.tree_repair.specs.Parity.{IsCoveredAt}
use Rattle.tree_repair.specs.ParitySearches.{IsOffPlace, IsUncovered}

-- ---- images that tell blocks apart

module _ (size : ℕ) (valid : IsTrue (is_block_size size)) where
  -- c sectors of one byte
  abbrev marked : ℕ → List (List ℕ)
  marked c = replicate c (0 ∷ [])

  -- as many of them as a block takes
  block-long : (c i : ℕ) → length (block_at (marked c) size i) ≡ min (size / 512) (c - i * (size / 512))
  unfolding block_at
  block-long c i =
      let q : ℕ = size / 512 in
      let run : List (List ℕ) = run_of (marked c) (i * q) q in
      let one : All (λ x. length x ≡ 1) run =
      All-take (λ x. length x ≡ 1) q (drop (i * q) (marked c)) (All-drop (λ x. length x ≡ 1) (i * q) (marked c) (All-replicate (λ x. length x ≡ 1) c (0 ∷ []) refl)) in
      length-concat 1 run one ∙ omega (arith, length-take q (drop (i * q) (marked c)), length-drop (i * q) (marked c), length-replicate {A = List ℕ} c (0 ∷ []))

  -- those up to block n
  abbrev up_to : ℕ → List (List ℕ)
  up_to n = marked (n * (size / 512) + size / 512)

  block-there : (n : ℕ) → 0 < length (block_at (up_to n) size n)
  block-there n = omega (arith, block-long (n * (size / 512) + size / 512) n, (block-size size valid).least)

  block-past : (n i : ℕ) → n < i → length (block_at (up_to n) size i) ≡ 0
  block-past n i past = omega (arith, block-long (n * (size / 512) + size / 512) i, block-inside n i (size / 512) past)

  nothing-there : (i : ℕ) → length (block_at [] size i) ≡ 0
  nothing-there i = omega (arith, block-long 0 i)

  -- blocks that are the same in each image have one number
  block-before : (i n : ℕ) → ((image : List (List ℕ)) → block_at image size i ≡ block_at image size n) → i ≤ n
  block-before i n same = elim (cases_lt n i) [
    | inl past ↦ absurd (omega (arith, block-past n i past, block-there n, ap (λ (b : List ℕ). length b) (same (up_to n))))
    | inr not ↦ not
  ]

  pub block-number : (i n : ℕ) → ((image : List (List ℕ)) → block_at image size i ≡ block_at image size n) → i ≡ n
  block-number i n same = omega (arith, block-before i n same, block-before n i (λ image. sym (same image)))

  -- a block of one device isn't one of the other
  pub blocks-apart : (i n : ℕ) → block_at [] size i ≡ block_at (up_to n) size n → ⊥
  blocks-apart i n same = absurd (omega (arith, block-there n, nothing-there i, ap (λ (b : List ℕ). length b) same))

-- ---- covered blocks

module _ (l : Layout) (valid : IsLayout l) where
  pub of-data : (i k : ℕ) → IsOfData l i k → (k ≡ i) × (i < l.data_blocks)
  of-data i k at = elim (cases_lt k l.data_blocks) [
    | inl low ↦
        let same : k ≡ i = block-number l.block valid.size k i (λ image. sym (covered-data l image [] k low) ∙ at.bytes image []) in
        (same, omega (arith, same, low))
    | inr high ↦
        absurd (blocks-apart l.block valid.size (l.hash_first + (k - l.data_blocks)) i (sym (covered-hash l (up_to l.block valid.size i) [] k high at.is_covered) ∙ at.bytes (up_to l.block valid.size i) []))
  ]

  pub of-hash : (m k : ℕ) → IsOfHash l m k → (l.data_blocks ≤ k) × (l.hash_first + (k - l.data_blocks) ≡ m)
  of-hash m k at = elim (cases_lt k l.data_blocks) [
    | inl low ↦ absurd (blocks-apart l.block valid.size k m (sym (covered-data l [] (up_to l.block valid.size m) k low) ∙ at.bytes [] (up_to l.block valid.size m)))
    | inr high ↦ (high, block-number l.block valid.size (l.hash_first + (k - l.data_blocks)) m (λ image. sym (covered-hash l [] image k high at.is_covered) ∙ at.bytes [] image))
  ]

  -- it is one
  pub hash-covered : (m k : ℕ) → IsOfHash l m k → IsOffHash l m → ⊥
  hash-covered m k at (inl before) = let is = of-hash m k at in absurd (omega (arith, is.1, before))
  hash-covered m k at (inr past) = let is = of-hash m k at in absurd (omega (arith, is.0, is.1, past, at.is_covered))

-- ---- blocks of a tree

module _ (s : ShapeRecord) (valid : IsShape s) (l : Layout) (laid : IsLayout l) where
  height-same : (g i m : ℕ) → ancestor s (suc g) m ≡ ancestor s (suc g) i → ancestor s (g + 1) m ≡ ancestor s (g + 1) i
  height-same g i m same = ap (λ (n : ℕ). ancestor s n m) (add-one g) ∙ same ∙ ap (λ (n : ℕ). ancestor s n i) (sym (add-one g))

  index-same : (i m : ℕ) → ancestor s zero m ≡ ancestor s zero i → m ≡ i
  index-same i m same = sym (ancestor-none s valid m) ∙ same ∙ ancestor-none s valid i

  -- a block has only one number among the covered blocks
  pub covered-one : (h i m k n : ℕ) → ancestor s h m ≡ ancestor s h i → IsCoveredAt s l h i k → IsCoveredAt s l h m n → n ≡ k
  covered-one zero i m k n same here there = (of-data l laid m n there.is).0 ∙ index-same i m same ∙ sym (of-data l laid i k here.is).0
  covered-one (suc g) i m k n same here there =
      let a = of-hash l laid (position s g (ancestor s (g + 1) i)) k here.is in
      let b = of-hash l laid (position s g (ancestor s (g + 1) m)) n there.is in
      omega (arith, a.0, a.1, b.0, b.1, ap (position s g) (height-same g i m same))

  pub off-not : (h i m k : ℕ) → ancestor s h m ≡ ancestor s h i → IsCoveredAt s l h i k → IsOffPlace s l h m → ⊥
  off-not zero i m k same here off = absurd (omega (arith, (of-data l laid i k here.is).1, index-same i m same, off))
  off-not (suc g) i m k same here off =
      hash-covered l laid (position s g (ancestor s (g + 1) i)) k here.is (subst (IsOffHash l) (ap (position s g) (height-same g i m same)) off)

  -- one that has a number is covered
  pub covered-not : (h i m k : ℕ) → ancestor s h m ≡ ancestor s h i → IsCoveredAt s l h i k → IsUncovered s l h m → ⊥
  covered-not h i m k same here (inl size) = size here.size
  covered-not h i m k same here (inr off) = off-not h i m k same here off
