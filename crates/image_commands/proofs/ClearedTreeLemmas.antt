-- Trees made on a device on which an old superblock was cleared.
use Rattle.std.proofs.Common.{◌≡◌, ◌+◌, ◌*◌, ◌/◌, ℕ, IsTrue, List, ◌++◌, length, drop, ap, subst, sym, ◌∙◌, arith, inl, inr, None}
use Rattle.std.proofs.Math.Nat.{zero-mul}
use Rattle.block_device.specs.Device.{Device, IsSameDevice, spliced, synced}
use Rattle.block_device.specs.Whole.{length-sectors_of}
use Rattle.verity_format.specs.declared.formatting.FormatFault.{FormatFault}
use Rattle.verity_format.specs.declared.tree.VerityTree.{VerityTree}
use Rattle.verity_format.specs.Formatting.{room_refusal}
use Rattle.verity_format.specs.Image.{area_sectors, tree_over, tree_sectors, with_tree}
use Rattle.verity_format.specs.Superblock.{SuperRecord}
use Rattle.verity_format.specs.Trees.{IsBuildCause, IsTreeBuilt, shape_alone, tree_alone, tree_refusal}
use Rattle.verity_format.specs.Writing.{IsPartOfTree}
use Rattle.verity_format.proofs.lemmas.DeviceLemmas.{same-none, same-then, steady-then}
use Rattle.verity_format.proofs.lemmas.SizeLemmas.{tree-end}
use Rattle.image_commands.specs.Clearing.{IsCleared}
use Rattle.image_commands.specs.ClearedTrees.{IsClearedEnd, IsKeptBehind, IsMadeCleared, IsTreeCleared, IsTreeUncleared, IsUnfinishedTree, sectors_alone}
use Rattle.image_commands.proofs.ClearingLemmas.{drop-cleared, drop-more}

-- a sync changes only what is dirty
same-kept : (old mid new : Device) → IsSameDevice old mid → new ≡ synced mid → IsSameDevice old new
same-kept old mid new same kept = record {
  size = ap (λ (d : Device). d.size) kept ∙ same.size;
  may_write = ap (λ (d : Device). d.may_write) kept ∙ same.may_write;
  steady = ap (λ (d : Device). d.steady) kept ∙ same.steady;
  never_fails = λ sure. subst IsTrue (sym (ap (λ (d : Device). d.never_fails) kept)) (same.never_fails sure);
}

same-cleared : (old new : Device) → IsCleared old new → IsSameDevice old new
same-cleared old new (inl none) = same-kept old none.read_dev new none.read.same none.kept
same-cleared old new (inr zeroed) = same-kept old zeroed.written_dev new (same-then zeroed.read.same zeroed.written.same) zeroed.kept

same-tree_cleared : (n : ℕ) (old new : Device) → IsTreeCleared n old new → IsSameDevice old new
same-tree_cleared n old new (inl none) = subst (IsSameDevice old) (sym none.1) (same-none old)
same-tree_cleared n old new (inr some) = same-cleared old new some.1

-- after the tree nothing changes
drop-tree_cleared : (n : ℕ) (old new : Device) → IsTreeCleared n old new → IsTrue old.steady → drop n new.image ≡ drop n old.image
drop-tree_cleared n old new (inl none) steady = ap (λ (d : Device). drop n d.image) none.1
drop-tree_cleared n old new (inr some) steady = drop-more n some.0 new.image old.image (drop-cleared old new some.1 steady)

-- a tree without a superblock ends after its blocks
sectors-alone : (s : SuperRecord) → sectors_alone s ≡ area_sectors (shape_alone s)
sectors-alone s =
    let zero : 0 * (s.hash_block / 512) ≡ 0 = zero-mul (s.hash_block / 512) in
    elim (tree-end (shape_alone s)) [
      | inl end ↦ omega (arith, end, zero)
      | inr none ↦ none.0 ∙ sym (ap (λ (n : ℕ). n * (s.hash_block / 512)) none.1 ∙ zero)
    ]

-- a tree covers the sector that was cleared
with_tree-cleared : (s : SuperRecord) (data_image : List (List ℕ)) (old new : Device) → IsTreeCleared (sectors_alone s) old new → IsTrue old.steady
    → with_tree (shape_alone s) s.salt data_image new.image ≡ with_tree (shape_alone s) s.salt data_image old.image
with_tree-cleared s data_image old new cleared steady =
    let sectors : List (List ℕ) = tree_over (shape_alone s) s.salt data_image in
    let long : length sectors ≡ area_sectors (shape_alone s) = length-sectors_of (area_sectors (shape_alone s)) _ in
    let count : 0 + length sectors ≡ sectors_alone s = omega (arith, long, sectors-alone s) in
    let start : 0 * (s.hash_block / 512) ≡ 0 = zero-mul (s.hash_block / 512) in
    ap (λ (n : ℕ). spliced new.image n sectors) start
    ∙ ap (λ (rest : List (List ℕ)). sectors ++ rest) (ap (λ n. drop n new.image) count ∙ drop-tree_cleared (sectors_alone s) old new cleared steady ∙ ap (λ n. drop n old.image) (sym count))
    ∙ ap (λ (n : ℕ). spliced old.image n sectors) (sym start)

-- whether the tree was made or not, nothing after it changed
kept-cleared : (s : SuperRecord) (old cleared new : Device) → IsTreeCleared (sectors_alone s) old cleared → IsPartOfTree (shape_alone s) cleared new → IsKeptBehind s old new
kept-cleared s old cleared new clearing written =
    let same : IsSameDevice old cleared = same-tree_cleared (sectors_alone s) old cleared clearing in
    record {
      same = same-then same written.same;
      after = λ steady. written.after (steady-then same steady) ∙ drop-tree_cleared (sectors_alone s) old cleared clearing steady;
    }

pub kept-uncleared : (s : SuperRecord) (old new : Device) → IsTreeUncleared (sectors_alone s) old new → IsKeptBehind s old new
kept-uncleared s old new ends = record {
  same = ends.uncleared.same;
  after = λ steady. drop-more (sectors_alone s) ends.some new.image old.image (ends.uncleared.after steady);
}

-- the tree of a superblock, and how many sectors it takes
module _ (s : SuperRecord) (tree : VerityTree) (n : ℕ) (is : tree ≡ tree_alone s) (count : n ≡ tree_sectors tree.shape) (data_dev hash_dev : Device) where
  sectors-is : n ≡ sectors_alone s
  sectors-is = count ∙ ap (λ (t : VerityTree). tree_sectors t.shape) is

  refusal-is : room_refusal tree.shape n data_dev hash_dev ≡ tree_refusal (shape_alone s) data_dev hash_dev
  refusal-is = ap (λ (k : ℕ). room_refusal tree.shape k data_dev hash_dev) count ∙ ap (λ (t : VerityTree). tree_refusal t.shape data_dev hash_dev) is

  pub uncleared-is : (new : Device) → IsTreeUncleared n hash_dev new → IsTreeUncleared (sectors_alone s) hash_dev new
  uncleared-is new = subst (λ (k : ℕ). IsTreeUncleared k hash_dev new) sectors-is

  module _ (cleared : Device) (cleared_first : IsTreeCleared n hash_dev cleared) (data_dev' hash_dev' : Device) where
    clearing-is : IsTreeCleared (sectors_alone s) hash_dev cleared
    clearing-is = subst (λ (k : ℕ). IsTreeCleared k hash_dev cleared) sectors-is cleared_first

    pub kept-is : IsPartOfTree tree.shape cleared hash_dev' → IsKeptBehind s hash_dev hash_dev'
    kept-is part = kept-cleared s hash_dev cleared hash_dev' clearing-is (subst (λ (t : VerityTree). IsPartOfTree t.shape cleared hash_dev') is part)

    -- the tree that was made after the clearing
    pub made-is : (Hash : Device → Type 0) → Hash cleared → None ≡ room_refusal tree.shape n data_dev hash_dev → (root : List ℕ) → IsTreeBuilt tree.shape tree.salt data_dev cleared data_dev' hash_dev' root → IsMadeCleared Hash s data_dev hash_dev data_dev' hash_dev' root
    made-is Hash left fits root built =
        let making : IsTreeBuilt (shape_alone s) s.salt data_dev cleared data_dev' hash_dev' root =
        subst (λ (t : VerityTree). IsTreeBuilt t.shape t.salt data_dev cleared data_dev' hash_dev' root) is built in
        let same : IsSameDevice hash_dev cleared = same-tree_cleared (sectors_alone s) hash_dev cleared clearing-is in
        record {
          cleared = cleared;
          left = left;
          fit = sym (fits ∙ refusal-is);
          clearing = clearing-is;
          making = making;
          image = λ a b. making.written.image a (steady-then same b) ∙ with_tree-cleared s data_dev.image hash_dev cleared clearing-is b;
        }

    -- or that wasn't made after it
    pub unfinished-is : (Hash : Device → Type 0) → Hash cleared → None ≡ room_refusal tree.shape n data_dev hash_dev → (fault : FormatFault) → IsBuildCause tree.shape data_dev cleared data_dev' hash_dev' fault
        → IsUnfinishedTree Hash s data_dev hash_dev data_dev' hash_dev' fault
    unfinished-is Hash left fits fault cause = record {
      cleared = cleared;
      left = left;
      fit = sym (fits ∙ refusal-is);
      clearing = clearing-is;
      cause = subst (λ (t : VerityTree). IsBuildCause t.shape data_dev cleared data_dev' hash_dev' fault) is cause;
    }

-- what holds of the device that the clearing left, weakened
pub made-known : {Hash Hash' : Device → Type 0} (s : SuperRecord) (d h d' h' : Device) (root : List ℕ) → IsMadeCleared Hash s d h d' h' root → ((c : Device) → Hash c → Hash' c) → IsMadeCleared Hash' s d h d' h' root
made-known s d h d' h' root made to = record { cleared = made.cleared; left = to made.cleared made.left; fit = made.fit; clearing = made.clearing; making = made.making; image = made.image }

pub end-known : {Hash Hash' : Device → Type 0} (s : SuperRecord) (d h d' h' : Device) (fault : FormatFault) → IsClearedEnd Hash s d h d' h' fault → ((c : Device) → Hash c → Hash' c) → IsClearedEnd Hash' s d h d' h' fault
end-known s d h d' h' fault (inl refused) to = inl refused
end-known s d h d' h' fault (inr (inl uncleared)) to = inr (inl uncleared)
end-known s d h d' h' fault (inr (inr cut)) to = inr (inr (record { cleared = cut.cleared; left = to cut.cleared cut.left; fit = cut.fit; clearing = cut.clearing; cause = cut.cause }))
