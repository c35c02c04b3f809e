-- A builder that takes the digests of a device's blocks, run by run.
use Rattle.std.proofs.Common.{◌≡◌, ◌+◌, ◌-◌, ◌*◌, ◌/◌, ℕ, List, [], ◌++◌, All, IsTrue, length, map, refl, sym, ap, ◌∙◌, subst, arith, false}
use Rattle.std.proofs.Math.Nat.{zero-mul}
use Rattle.std.proofs.lemmas.List.{length-append, map-append}
use Rattle.std.proofs.lemmas.List.Elements.{All-append, All-nil}
use Rattle.std.proofs.lemmas.List.Sorted.{length_permutation}
use Rattle.allocation.specs.Refusal.{IsOutOfMemory}
use Rattle.block_device.specs.Device.{Device}
use Rattle.tree_shape.specs.Digests.{digest}
use Rattle.hash_tree.specs.Laws.{AreDigests}
use Rattle.tree_shape.specs.Shape.{ShapeRecord, IsShape, area_blocks}
use Rattle.hash_tree.specs.Tree.{area}
use Rattle.hash_tree.specs.Building.{BuilderRecord, PlacedRecord, IsAreaBlock, begun_builder, builder_room, pushed, completed, last_completed, numbered}
use Rattle.hash_tree.proofs.lemmas.BuilderLemmas.{pushed-none, pushed-append, completed-append, left-pushed, left-begun, failed-pushed, failed-begun, size-begun}
use Rattle.hash_tree.proofs.lemmas.BlockwiseLemmas.{size-pushed}
use Rattle.hash_tree.proofs.lemmas.BuildingLemmas.{builds-area}
use Rattle.hash_tree.proofs.lemmas.AreaBlockLemmas.{next-inside, last-inside}
use Rattle.hash_tree.proofs.lemmas.LawLemmas.{stands-in_shape}
use Rattle.hash_tree.proofs.lemmas.PlacingLemmas.{length-numbered}
use Rattle.verity_format.specs.Access.{largest_allocation}
use Rattle.verity_format.specs.Blocks.{IsFullRead, blocks_at}
use Rattle.verity_format.specs.Image.{data_sectors, digests_of}
use Rattle.verity_format.specs.Growth.{IsDigest, IsRunTaken, IsTaken}
use Rattle.verity_format.proofs.lemmas.DeviceLemmas.{full_read-none, full_read-then, steady-then}
use Rattle.verity_format.proofs.lemmas.RunLemmas.{blocks-more, sectors-more}
use Rattle.verity_format.proofs.lemmas.SizeLemmas.{block-size}

module _ (s : ShapeRecord) (salt : List ℕ) where
  -- no block yet
  unfoldable pub taken-none : (d : Device) → IsTaken s salt d d (begun_builder s salt)
  taken-none d = record {
    digests = [];
    sized = All-nil IsDigest;
    few = omega arith;
    after = sym (pushed-none (begun_builder s salt));
    read = subst (λ (n : ℕ). IsFullRead d n d) (sym (zero-mul (s.data_block / 512))) (full_read-none d);
    over = λ steady. refl;
  }

  module _ (a b : Device) (x : BuilderRecord) (t : IsTaken s salt a b x) where
    -- how many digests are still to come
    pub left-taken : x.left + length t.digests ≡ s.blocks
    left-taken =
        let left : x.left ≡ s.blocks - length t.digests = ap (λ (b : BuilderRecord). b.left) t.after ∙ left-pushed (begun_builder s salt) t.digests ∙ ap (λ n. n - length t.digests) (left-begun s salt) in
        omega (arith, left, t.few)

    pub ready-taken : x.failed ≡ false
    ready-taken = ap (λ (b : BuilderRecord). b.failed) t.after ∙ failed-pushed (begun_builder s salt) t.digests ∙ failed-begun s salt

    pub size-taken : x.hash_block ≡ s.hash_block
    size-taken = ap (λ (b : BuilderRecord). b.hash_block) t.after ∙ size-pushed (begun_builder s salt) t.digests ∙ size-begun s salt

    -- an allocation that such a builder was refused is within the bound
    pub refused-taken : IsShape s → (x.failed ≡ false → IsOutOfMemory (builder_room x)) → IsOutOfMemory largest_allocation
    refused-taken valid refused =
        let h = refused ready-taken in
        let block = block-size s.hash_block valid.hash_size in
        (h.0, omega (arith, h.1, size-taken, block.most_bytes), h.2)

    module _ (c : Device) (y : BuilderRecord) (out : List PlacedRecord) (r : IsRunTaken s salt b c x y out) where
      -- a run more
      unfoldable pub taken-then : IsTaken s salt a c y
      taken-then =
          let f = digest salt in
          let n : ℕ = length t.digests in
          let m : ℕ = length r.digests in
          let sum : length (t.digests ++ r.digests) ≡ n + m = length-append t.digests r.digests in
          record {
            digests = t.digests ++ r.digests;
            sized = All-append IsDigest t.digests r.digests t.sized r.sized;
            few = omega (arith, sum, left-taken, r.few);
            after = r.after ∙ ap (λ b. pushed b r.digests) t.after ∙ sym (pushed-append (begun_builder s salt) t.digests r.digests);
            read = full_read-then _ _ _ t.read r.read (sectors-more s.data_block n m (length (t.digests ++ r.digests)) (sym sum));
            over = λ steady.
                let at : s.blocks - x.left ≡ 0 + n = omega (arith, left-taken) in
                ap (λ ds. ds ++ r.digests) (t.over steady)
                ∙ ap (λ ds. map f (blocks_at a.image s.data_block 0 n) ++ ds)
                (r.over (steady-then t.read.read.same steady)
                ∙ ap (λ i. map f (blocks_at i s.data_block (s.blocks - x.left) m)) (t.read.read.image steady)
                ∙ ap (λ k. map f (blocks_at a.image s.data_block k m)) at)
                ∙ sym (map-append f (blocks_at a.image s.data_block 0 n) (blocks_at a.image s.data_block (0 + n) m))
                ∙ ap (map f) (sym (blocks-more a.image s.data_block 0 n m))
                ∙ ap (λ k. map f (blocks_at a.image s.data_block 0 k)) (sym sum);
          }

      -- what was put out by it
      pub out-then : completed (begun_builder s salt) (t.digests ++ r.digests) ≡ completed (begun_builder s salt) t.digests ++ out
      out-then =
          completed-append (begun_builder s salt) t.digests r.digests
          ∙ ap (λ b. completed (begun_builder s salt) t.digests ++ completed b r.digests) (sym t.after)
          ∙ ap (λ ps. completed (begun_builder s salt) t.digests ++ ps) (sym r.placed)

      pub out-inside : IsShape s → All (IsAreaBlock s) out
      out-inside valid =
          let sum : length (t.digests ++ r.digests) ≡ length t.digests + length r.digests = length-append t.digests r.digests in
          let is : out ≡ completed (pushed (begun_builder s salt) t.digests) r.digests = r.placed ∙ ap (λ b. completed b r.digests) t.after in
          subst (All (IsAreaBlock s)) (sym is)
          (next-inside s valid salt t.digests r.digests (All-append IsDigest t.digests r.digests t.sized r.sized) (omega (arith, sum, left-taken, r.few)))

    -- once all have come
    module _ (valid : IsShape s) (none : x.left ≡ 0) where
      count-all : length t.digests ≡ s.blocks
      count-all = omega (arith, left-taken, none)

      pub digests-all : AreDigests s.blocks t.digests
      digests-all = record { count = count-all; sized = t.sized }

      pub read-all : IsFullRead a (data_sectors s) b
      read-all = subst (λ (n : ℕ). IsFullRead a (n * (s.data_block / 512)) b) count-all t.read

      pub over-all : IsTrue a.steady → t.digests ≡ digests_of s salt a.image
      over-all steady = t.over steady ∙ ap (λ n. map (digest salt) (blocks_at a.image s.data_block 0 n)) count-all

      pub last-all : All (IsAreaBlock s) (last_completed x)
      last-all = subst (λ b. All (IsAreaBlock s) (last_completed b)) (sym t.after) (last-inside s valid salt t.digests digests-all)

      pub length-all : length (completed (begun_builder s salt) t.digests) + length (last_completed x) ≡ area_blocks s
      length-all =
          let all : List PlacedRecord = completed (begun_builder s salt) t.digests ++ last_completed (pushed (begun_builder s salt) t.digests) in
          let built = builds-area s valid salt t.digests digests-all in
          let same : length (numbered s.start (area s.hash_block salt t.digests)) ≡ length all = length_permutation all (numbered s.start (area s.hash_block salt t.digests)) built.area in
          let stands = stands-in_shape s valid salt t.digests digests-all in
          let last : length (last_completed x) ≡ length (last_completed (pushed (begun_builder s salt) t.digests)) = ap (λ b. length (last_completed b)) t.after in
          omega (arith, same, length-numbered s.start (area s.hash_block salt t.digests), stands.total, last, length-append (completed (begun_builder s salt) t.digests) (last_completed (pushed (begun_builder s salt) t.digests)))
