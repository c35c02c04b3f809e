-- Hash blocks made of whole data are those of the tree over them.
use Rattle.std.proofs.Common.{◌≡◌, ◌≤◌, ◌<◌, ◌+◌, ◌-◌, ◌*◌, [], ◌∷◌, ℕ, zero, suc, min, List, length, map, take, drop, get_or, zero-add, refl, sym, ap, ◌∙◌, arith}
use Rattle.std.specs.Int.{div_ceil}
use Rattle.std.specs.List.{concat, range_with_len}
use Rattle.std.proofs.Math.Path.{fun_ext}
use Rattle.std.proofs.lemmas.List.{drop-map, take-map, length-map}
use Rattle.std.proofs.lemmas.List.Elements.{All-map}
use Rattle.std.proofs.lemmas.List.FromFn.{get_or-map-range_with_len, length-map-range_with_len}
use Rattle.std.proofs.lemmas.Simd.{map-map}
use Rattle.tree_shape.specs.Digests.{digest}
use Rattle.tree_shape.specs.Shape.{ShapeRecord, IsShape, ancestor, level_blocks, per_block}
use Rattle.tree_shape.proofs.lemmas.ShapeFactLemmas.{ancestor-lt, over-same, two as two_of}
use Rattle.tree_shape.proofs.lemmas.ShapeFaultLemmas.{per_block-wide}
use Rattle.hash_tree.specs.Tree.{cut, filled, level, pack}
use Rattle.hash_tree.specs.Chain.{path_to}
use Rattle.hash_tree.proofs.lemmas.BlockwiseLemmas.{drop-concat, take-concat}
use Rattle.hash_tree.proofs.lemmas.PackingLemmas.{AllOf, length-cut}
use Rattle.hash_tree.proofs.lemmas.TreeFactLemmas.{length-level, level-packed, packed_in}
use Rattle.hash_tree.proofs.lemmas.TreeLemmas.{length-digest}
use Rattle.verity_format.specs.Blocks.{block_at, blocks_at}
use Rattle.tree_repair.specs.Laws.{chain_block_below}
use Rattle.tree_path.specs.Unused.{digests_in}
use Rattle.tree_repair.specs.Remaking.{StoredTree, children, made}

-- ---- parts of a range

drop-range : (k a n b m : ℕ) → b ≡ a + k → m ≡ n - k → drop k (range_with_len a n) ≡ range_with_len b m
drop-range zero a n b m at few =
    let here : a ≡ b = omega (arith, at) in
    let all : n ≡ m = omega (arith, few) in
    ap (λ (x : ℕ). range_with_len x n) here ∙ ap (λ (x : ℕ). range_with_len b x) all
drop-range (suc k) a zero b m at few = let none : 0 ≡ m = omega (arith, few) in ap (λ (x : ℕ). range_with_len b x) none
drop-range (suc k) a (suc n) b m at few = drop-range k (a + 1) n b m (omega (arith, at)) (omega (arith, few))

take-range : (k a n m : ℕ) → m ≡ min k n → take k (range_with_len a n) ≡ range_with_len a m
take-range zero a n m few = let none : 0 ≡ m = omega (arith, few) in ap (λ (x : ℕ). range_with_len a x) none
take-range (suc k) a zero m few = let none : 0 ≡ m = omega (arith, few) in ap (λ (x : ℕ). range_with_len a x) none
take-range (suc k) a (suc n) m few =
    let some : suc (min k n) ≡ m = omega (arith, few) in
    ap (λ (xs : List ℕ). a ∷ xs) (take-range k (a + 1) n (min k n) refl) ∙ ap (λ (x : ℕ). range_with_len a x) some

-- the bytes of block i are the digests of its part
part : (f : ℕ → List ℕ) (p c i : ℕ) → ((n : ℕ) → length (f n) ≡ 32)
    → take (32 * p) (drop (32 * p * i) (concat (map f (range_with_len 0 c)))) ≡ concat (map f (range_with_len (i * p) (min p (c - i * p))))
part f p c i sized =
    let xs = map f (range_with_len 0 c) in
    let k = i * p in
    let at : 32 * p * i ≡ 32 * (i * p) = grind arith in
    let rest : drop (i * p) xs ≡ map f (range_with_len (i * p) (c - i * p)) =
    drop-map f (i * p) (range_with_len 0 c) ∙ ap (map f) (drop-range (i * p) 0 c (i * p) (c - i * p) (sym (zero-add (i * p))) refl) in
    ap (λ (n : ℕ). take (32 * p) (drop n (concat xs))) at
    ∙ ap (take (32 * p)) (drop-concat 32 xs (i * p) (All-map (λ (d : List ℕ). length d ≡ 32) f (range_with_len 0 c) (λ n d inside. sized _)) ∙ ap concat rest)
    ∙ take-concat 32 (map f (range_with_len (i * p) (c - i * p))) p (All-map (λ (d : List ℕ). length d ≡ 32) f (range_with_len (i * p) (c - i * p)) (λ n d inside. sized _))
    ∙ ap concat (take-map f p (range_with_len (i * p) (c - i * p)) ∙ ap (map f) (take-range p (i * p) (c - i * p) (min p (c - i * p)) refl))

-- ---- the tree over the data that are stored there

module _ (s : ShapeRecord) (valid : IsShape s) (salt : List ℕ) (data_image hash_image : List (List ℕ)) where
  two : 2 ≤ per_block s
  two = two_of s valid

  whole : s.hash_block ≡ 32 * per_block s
  whole = (per_block-wide s valid).1

  abbrev here : StoredTree
  here = record { shape = s; salt = salt; data_image = data_image; hash_image = hash_image; height = 0 }

  abbrev ds : List (List ℕ)
  ds = map (digest salt) (blocks_at data_image s.data_block 0 s.blocks)

  abbrev digest_of : ℕ → ℕ → List ℕ
  digest_of l n = digest salt (made here l n)

  counted : length ds ≡ suc (s.blocks - 1)
  counted = length-map (blocks_at data_image s.data_block 0 s.blocks) (digest salt) ∙ length-map-range_with_len (block_at data_image s.data_block) 0 s.blocks ∙ omega (arith, valid.some)

  sized : AllOf 32 ds
  sized = All-map (λ (d : List ℕ). length d ≡ 32) (digest salt) (blocks_at data_image s.data_block 0 s.blocks) (λ n d inside. length-digest salt _)

  level-long : (l : ℕ) → length (level s.hash_block salt ds l) ≡ level_blocks s l
  level-long l = length-level s two whole salt l (s.blocks - 1) ds sized counted ∙ ap (λ (t : ShapeRecord). level_blocks t l) (over-same s valid.some)

  -- a block of the digests beneath it
  made-up : (l i : ℕ) → filled s.hash_block (take s.hash_block (drop (s.hash_block * i) (concat (map (digest_of l) (range_with_len 0 (digests_in s l)))))) ≡ made here (suc l) i
  unfolding made
  made-up l i =
      let p = per_block s in
      let none : l ≡ 0 + l = omega arith in
      ap (λ (n : ℕ). filled s.hash_block (take n (drop (n * i) (concat (map (digest_of l) (range_with_len 0 (digests_in s l))))))) whole
      ∙ ap (filled s.hash_block) (part (digest_of l) p (digests_in s l) i (λ n. length-digest salt (made here l n)))
      ∙ ap (λ (h : ℕ). filled s.hash_block (concat (map (digest_of l) (children s h i)))) none

  level-of : (l : ℕ) → packed_in s two whole salt ds l ≡ map (digest_of l) (range_with_len 0 (digests_in s l)) → level s.hash_block salt ds l ≡ map (made here (suc l)) (range_with_len 0 (level_blocks s l))
  unfolding cut
  level-of l packed =
      let bytes : List ℕ = concat (map (digest_of l) (range_with_len 0 (digests_in s l))) in
      let is : level s.hash_block salt ds l ≡ pack s.hash_block (map (digest_of l) (range_with_len 0 (digests_in s l))) = level-packed s two whole salt ds l ∙ ap (pack s.hash_block) packed in
      let count : div_ceil (length bytes) s.hash_block ≡ level_blocks s l = sym (length-cut s.hash_block bytes) ∙ ap (λ (x : List (List ℕ)). length x) (sym is) ∙ level-long l in
      is
      ∙ ap (λ (n : ℕ). map (λ i. filled s.hash_block (take s.hash_block (drop (s.hash_block * i) bytes))) (range_with_len 0 n)) count
      ∙ ap (λ (f : ℕ → List ℕ). map f (range_with_len 0 (level_blocks s l))) (fun_ext (made-up l))

  packed-made : (l : ℕ) → packed_in s two whole salt ds l ≡ map (digest_of l) (range_with_len 0 (digests_in s l))
  unfolding made
  packed-made zero = map-map (digest salt) (block_at data_image s.data_block) (range_with_len 0 s.blocks)
  packed-made (suc l) = ap (map (digest salt)) (level-of l (packed-made l)) ∙ map-map (digest salt) (made here (suc l)) (range_with_len 0 (level_blocks s l))

  -- the hash block of level l on the way to data block i
  pub level-made : (l i : ℕ) → i < s.blocks → get_or (level s.hash_block salt ds l) (ancestor s (l + 1) i) [] ≡ made here (suc l) (ancestor s (l + 1) i)
  level-made l i inside =
      ap (λ (x : List (List ℕ)). get_or x (ancestor s (l + 1) i) []) (level-of l (packed-made l))
      ∙ get_or-map-range_with_len (made here (suc l)) 0 (level_blocks s l) (ancestor s (l + 1) i) (ancestor s (l + 1) i) [] (ancestor-lt s valid l i inside) (zero-add (ancestor s (l + 1) i))

-- the block so far beneath the top of a path
pub below-path : (s : ShapeRecord) (salt : List ℕ) (ds : List (List ℕ)) (content : List ℕ) (i l n d : ℕ) → n ≡ suc l + d
    → chain_block_below (path_to s salt ds n i) content d ≡ get_or (level s.hash_block salt ds l) (ancestor s (l + 1) i) []
below-path s salt ds content i l zero d is = absurd (omega (arith, is))
below-path s salt ds content i l (suc m) zero is =
    let same : m ≡ l = omega (arith, is) in
    ap (λ (k : ℕ). get_or (level s.hash_block salt ds k) (ancestor s (k + 1) i) []) same
below-path s salt ds content i l (suc m) (suc d) is = below-path s salt ds content i l m d (omega (arith, is))
