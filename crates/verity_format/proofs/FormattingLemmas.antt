-- What formatting leaves on the hash device.
use Rattle.std.proofs.Common.{◌≡◌, ◌≤◌, ◌+◌, ◌*◌, ◌/◌, ℕ, Bool, false, IsTrue, List, ◌++◌, length, take, drop, refl, sym, ap, subst, ◌∙◌, arith, inl, inr}
use Rattle.std.specs.Prelude.{if◌then◌else◌}
use Rattle.std.specs.List.{concat}
use Rattle.std.proofs.lemmas.List.{append_assoc, drop_at, length-take-le}
use Rattle.block_device.specs.Device.{Device, HasFailed, IsWritten, capped, spliced, sectors_of as cut_into}
use Rattle.block_device.specs.Whole.{length-sectors_of}
use Rattle.block_device.proofs.lemmas.SectorLemmas.{sectors_of-append, drop-spliced}
use Rattle.tree_shape.specs.Shape.{ShapeRecord, IsShape, blocks_sectors, area_blocks}
use Rattle.verity_format.specs.declared.access.TreeFault.{TreeFault}
use Rattle.verity_format.specs.declared.access.TreeFault.TheVariants as tree
use Rattle.verity_format.specs.Superblock.{SuperRecord, shape_of}
use Rattle.verity_format.specs.Blocks.{IsOnlyWritten}
use Rattle.verity_format.specs.Image.{area_over, area_sectors, first_block, first_sectors, formatted, image_sectors, tree_sectors, with_tree}
use Rattle.verity_format.specs.Writing.{IsPartOfTree, IsTreeWritten, IsWriteCause}
use Rattle.verity_format.specs.Formatting.{FailsAtFirstBlock, IsFormatCause, format_fault_of}
use Rattle.verity_format.proofs.lemmas.SizeLemmas.{block-size, tree-within}
use Rattle.verity_format.proofs.lemmas.DeviceLemmas.{same-then, drop-same, steady-then}

-- the tree's blocks are sectors of the image
pub part-only_written : (s : ShapeRecord) → s.start ≡ 1 → (a b : Device) → IsPartOfTree s a b → IsOnlyWritten a (image_sectors s) b
part-only_written s start a b p = record { same = p.same; reads = p.reads; after = λ h. drop-same (tree_sectors s) (image_sectors s) b.image a.image (tree-within s start) (p.after h) }

-- hash block 0 is one of the image's
pub first-within : (s : ShapeRecord) (k : ℕ) → k ≡ s.hash_block / 512 → 0 + k ≤ image_sectors s
first-within s k count =
    let split : (1 + area_blocks s) * (s.hash_block / 512) ≡ s.hash_block / 512 + area_blocks s * (s.hash_block / 512) = grind arith in
    omega (arith, split, count)

-- hash block 0 after the tree, whether that write failed or not
pub first-then : (s : ShapeRecord) → s.start ≡ 1 → (a b c : Device) (k : ℕ) (ok : Bool) → k ≡ s.hash_block / 512 → IsPartOfTree s a b → capped b.writes ≡ capped (a.writes + blocks_sectors (area_blocks s) s.hash_block)
    → b.failures ≡ a.failures → IsWritten b 0 k ok c → IsWritten a 0 (image_sectors s) ok c
first-then s start a b c k ok count part writes failures w =
    let n = image_sectors s in
    let split : (1 + area_blocks s) * (s.hash_block / 512) ≡ s.hash_block / 512 + area_blocks s * (s.hash_block / 512) = grind arith in
    record {
      same = same-then part.same w.same;
      reads = w.reads ∙ part.reads;
      writes = omega (arith, w.writes, writes, split, count);
      failures = w.failures ∙ ap (λ n. if ok then n else capped (n + 1)) failures;
      dirty = w.dirty;
      before = λ h. refl;
      after = λ h. drop-same (0 + k) (0 + n) c.image b.image (omega (arith, split, count)) (w.after (steady-then part.same h)) ∙ drop-same (tree_sectors s) (0 + n) b.image a.image (omega (arith, tree-within s start)) (part.after h);
    }

-- the image with the tree, once hash block 0 is written, is the formatted one
pub formatted-is : (s : SuperRecord) (data_image old new : List (List ℕ)) (first : List ℕ) → IsShape (shape_of s) → image_sectors (shape_of s) ≤ length old
    → first ≡ first_block s → length first ≡ s.hash_block → new ≡ with_tree (shape_of s) s.salt data_image old
    → spliced new 0 (cut_into (length first / 512) first) ≡ formatted s data_image old
formatted-is s data_image old new first valid fits is long tree =
    let k : ℕ = s.hash_block / 512 in
    let f : ℕ = 1 * k in
    let m : ℕ = area_sectors (shape_of s) in
    let n : ℕ = image_sectors (shape_of s) in
    let j : ℕ = length first / 512 in
    let count : j ≡ k = ap (λ h. h / 512) long in
    let whole : j + m ≡ n = (let e : k + area_blocks (shape_of s) * k ≡ (1 + area_blocks (shape_of s)) * k = grind arith in omega (arith, e, count)) in
    let b = block-size s.hash_block valid.hash_size in
    let area : List ℕ = concat (area_over (shape_of s) s.salt data_image) in
    let rest : List (List ℕ) = drop (f + length (cut_into m area)) old in
    let front : 0 + length (cut_into j first) ≡ f = omega (arith, length-sectors_of j first, count) in
    let end : f + length (cut_into m area) ≡ 0 + length (cut_into n (first_block s ++ area)) = omega (arith, length-sectors_of m area, length-sectors_of n (first_block s ++ area), whole, count) in
    let behind : drop f new ≡ cut_into m area ++ rest =
    ap (drop f) (tree ∙ append_assoc (take f old) (cut_into m area) rest) ∙ drop_at (take f old) (cut_into m area ++ rest) f (length-take-le f old (omega (arith, fits, whole, count))) in
    ap (λ i. cut_into j first ++ drop i new) front
    ∙ ap (λ xs. cut_into j first ++ xs) behind
    ∙ sym (append_assoc (cut_into j first) (cut_into m area) rest)
    ∙ ap (λ xs. xs ++ rest) (sym (sectors_of-append j m first area (omega (arith, long, b.sectors, count))))
    ∙ ap (λ i. cut_into i (first ++ area) ++ rest) whole
    ∙ ap (λ f. cut_into n (f ++ area) ++ rest) is
    ∙ ap (λ i. cut_into n (first_block s ++ area) ++ drop i old) end

-- the write of hash block 0 failed after the whole tree was written
pub fails-at_first : (s : SuperRecord) (data_dev a b c : Device) (first : List ℕ) → HasFailed b c → b.failures ≡ a.failures → HasFailed a c → length first ≡ s.hash_block
    → IsPartOfTree (shape_of s) a b → capped b.writes ≡ capped (a.writes + blocks_sectors (area_blocks (shape_of s)) s.hash_block) → IsWritten b 0 (length first / 512) false c
    → (IsTrue data_dev.steady → IsTrue a.steady → spliced b.image 0 (cut_into (length first / 512) first) ≡ formatted s data_dev.image a.image)
    → FailsAtFirstBlock s data_dev a c
fails-at_first s data_dev a b c first failed failures failed_all long part writes w image =
    let j : ℕ = length first / 512 in
    let count : j ≡ s.hash_block / 512 = ap (λ h. h / 512) long in
    record {
      failed = failed_all;
      written = first-then (shape_of s) refl a b c j false count part writes failures w;
      tree = λ data_steady steady.
          let begin : 0 + j ≡ first_sectors s = omega (arith, count) in
          subst (λ (i : ℕ). drop i c.image ≡ drop i (formatted s data_dev.image a.image)) begin
          (w.after (steady-then part.same steady)
          ∙ sym (drop-spliced b.image (cut_into j first) 0 j (omega arith) (sym (length-sectors_of j first)))
          ∙ ap (drop (0 + j)) (image data_steady steady));
    }

-- the cause of a fault before hash block 0 is written
pub tree-cause : (s : SuperRecord) (data_dev hash_dev data_dev' hash_dev' : Device) (f : TreeFault) → IsPartOfTree (shape_of s) hash_dev hash_dev' → IsWriteCause data_dev hash_dev data_dev' hash_dev' f
    → IsFormatCause s data_dev hash_dev data_dev' hash_dev' (format_fault_of f)
tree-cause s data_dev hash_dev data_dev' hash_dev' tree.Device part (inl h) = inl (record { failed = h.0; failures = h.1; part = part })
tree-cause s data_dev hash_dev data_dev' hash_dev' tree.Device part (inr h) = inr (inl (record { failed = h; part = part }))
tree-cause s data_dev hash_dev data_dev' hash_dev' tree.NoMemory part h = record { failures = h.0; hash_failures = h.1; refused = h.2; part = part }

-- what was written, told of an equal shape
pub written-shape : (s t : ShapeRecord) (salt salt' : List ℕ) (a b a' b' : Device) (digest : List ℕ) → s ≡ t → salt ≡ salt'
    → IsTreeWritten s salt a b a' b' digest → IsTreeWritten t salt' a b a' b' digest
written-shape s t salt salt' a b a' b' digest p q h =
    subst (λ (x : List ℕ). IsTreeWritten t x a b a' b' digest) q (subst (λ (x : ShapeRecord). IsTreeWritten x salt a b a' b' digest) p h)
