-- The two partitions of an image, found among those of its disk.
use Rattle.std.proofs.Common.{◌≡◌, ◌∙◌, ◌==◌, ◌+◌, ◌-◌, ◌*◌, ◌/◌, ◌^◌, ◌≤◌, ℕ, suc, Bool, true, false, cond, List, [], ◌∷◌, Option, None, Some, Result, Ok, Err, ap, arith, drop, refl, subst, sym, take}
use Rattle.std.specs.Prelude.{count_by, find, if◌then◌else◌}
use Rattle.std.proofs.lemmas.Bool.Decides.{nat_tests}
use Rattle.std.proofs.lemmas.List.Sums.{sum_by-cons}
use Rattle.std.proofs.lemmas.Slice.Eq.{bytes_eq-Decides}
use Rattle.block_device.specs.Device.{capped}
use Rattle.device_adapters.specs.declared.part.Part.{Part}
use Rattle.disk_layout.specs.Made.{partition_at}
use Rattle.image_commands.specs.declared.format.MadeImage.{MadeImage}
use Rattle.image_files.specs.Partitions.{part_of, units}
use Rattle.partition_commands.specs.declared.refusal.PartitionRefusal.{PartitionRefusal}
use Rattle.partition_commands.specs.declared.root.ImagePartitions.{ImagePartitions}
use Rattle.partition_commands.specs.Roots.{both_of, data_partition as found_data, image_partitions, single_partition, verity_partition as found_hash}
use Rattle.partition_table.specs.declared.partition.Partition.{Partition}
use Rattle.partition_table.specs.declared.sector_size.SectorSize.{SectorSize}
use Rattle.partition_table.specs.declared.sector_size.SectorSize.TheVariants.{Bytes4096, Bytes512}
use Rattle.partition_table.specs.Disks.{unit_of}
use Rattle.partition_table.specs.Partitions.{has_uuid, partition_sectors}
use Rattle.assemble_commands.specs.declared.plan.DiskPlan.{DiskPlan}
use Rattle.assemble_commands.specs.Plans.{data_partition, hash_partition, parity_partition, partitions_of}

-- ---- the only one with a UUID

one-of : (none several : PartitionRefusal) (p q : Partition) (n : ℕ) → single_partition none several (Some p) n ≡ Ok q → q ≡ p
one-of none several p q n is = go (n == 1) is
  where
    go : (b : Bool) → cond b (Ok p) (Err several) ≡ Ok q → q ≡ p
    go true e = let same : p ≡ q = cc in sym same
    go false e = cc

-- if the first one has it, it is that
first-single : (none several : PartitionRefusal) (has : Partition → Bool) (p q : Partition) (rest : List Partition) → has p ≡ true
    → single_partition none several (find has (p ∷ rest)) (count_by has (p ∷ rest)) ≡ Ok q → q ≡ p
first-single none several has p q rest here is =
    one-of none several p q (count_by has (p ∷ rest)) (sym (ap (λ (b : Bool). single_partition none several (cond b (Some p) (find has rest)) (count_by has (p ∷ rest))) here) ∙ is)

not-one : (n : ℕ) → (1 + (1 + n)) == 1 ≡ false
not-one n = grind (arith, nat_tests)

-- if the second one has it, it is that: both would be more than one
second-single : (none several : PartitionRefusal) (has : Partition → Bool) (p q r : Partition) (rest : List Partition) → has q ≡ true
    → single_partition none several (find has (p ∷ q ∷ rest)) (count_by has (p ∷ q ∷ rest)) ≡ Ok r → r ≡ q
second-single none several has p q r rest here is = go (has p) refl
  where
    go : (b : Bool) → has p ≡ b → r ≡ q
    go false e =
        one-of none several q r (count_by has (p ∷ q ∷ rest))
        (sym (ap (λ (x : Bool). single_partition none several (cond x (Some p) (cond (has q) (Some q) (find has rest))) (count_by has (p ∷ q ∷ rest))) e ∙ ap (λ (x : Bool). single_partition none several (cond x (Some q) (find has rest)) (count_by has (p ∷ q ∷ rest))) here) ∙ is)
    go true e =
        let both : count_by has (p ∷ q ∷ rest) ≡ cond (has p) 1 0 + (cond (has q) 1 0 + count_by has rest) =
        sum_by-cons (λ x. cond (has x) 1 0) p (q ∷ rest) ∙ ap (λ (n : ℕ). cond (has p) 1 0 + n) (sum_by-cons (λ x. cond (has x) 1 0) q rest) in
        let two : count_by has (p ∷ q ∷ rest) ≡ 1 + (1 + count_by has rest) = both ∙ ap (λ (x : Bool). cond x 1 0 + (cond (has q) 1 0 + count_by has rest)) e ∙ ap (λ (x : Bool). 1 + (cond x 1 0 + count_by has rest)) here in
        let refused : single_partition none several (Some p) (1 + (1 + count_by has rest)) ≡ Ok r =
        sym (ap (λ (x : Bool). single_partition none several (cond x (Some p) (find has (q ∷ rest))) (count_by has (p ∷ q ∷ rest))) e ∙ ap (λ (n : ℕ). single_partition none several (Some p) n) two) ∙ is in
        let none_is : cond false (Ok p) (Err several) ≡ Ok r = sym (ap (λ (b : Bool). cond b (Ok p) (Err several)) (not-one (count_by has rest))) ∙ refused in
        cc

both-parts : (x y : Result Partition PartitionRefusal) (both : ImagePartitions) → both_of x y ≡ Ok both → (x ≡ Ok both.«data») × (y ≡ Ok both.verity)
both-parts (Err refusal) y both is = cc
both-parts (Ok p) (Err refusal) both is = cc
both-parts (Ok p) (Ok q) both is = let same : record { «data» = p; verity = q } ≡ both = cc in (ap (λ (b : ImagePartitions). Ok b.«data») same, ap (λ (b : ImagePartitions). Ok b.verity) same)

same-uuid : (uuid : List ℕ) (p : Partition) → p.uuid ≡ uuid → has_uuid uuid p ≡ true
same-uuid uuid p is = (bytes_eq-Decides p.uuid uuid).1 is

module _ (plan : DiskPlan) (made : MadeImage) (root : List ℕ) (root_is : root ≡ made.root) (both : ImagePartitions) where
  abbrev ps : Bool → List Partition
  ps b = if b then data_partition plan made ∷ hash_partition plan made ∷ parity_partition plan made ∷ [] else data_partition plan made ∷ hash_partition plan made ∷ []

  data-has : has_uuid (take 16 root) (data_partition plan made) ≡ true
  data-has = same-uuid (take 16 root) (data_partition plan made) (ap (λ (r : List ℕ). take 16 r) (sym root_is))

  hash-has : has_uuid (drop 16 root) (hash_partition plan made) ≡ true
  hash-has = same-uuid (drop 16 root) (hash_partition plan made) (ap (λ (r : List ℕ). drop 16 r) (sym root_is))

  pair-of : (b : Bool) → (found_data (ps b) root ≡ Ok both.«data») × (found_hash (ps b) root ≡ Ok both.verity) → (both.«data» ≡ data_partition plan made) × (both.verity ≡ hash_partition plan made)
  unfolding found_data found_hash
  pair-of true found = (
    first-single _ _ (has_uuid (take 16 root)) (data_partition plan made) both.«data» (hash_partition plan made ∷ parity_partition plan made ∷ []) data-has found.0,
    second-single _ _ (has_uuid (drop 16 root)) (data_partition plan made) (hash_partition plan made) both.verity (parity_partition plan made ∷ []) hash-has found.1,
  )
  pair-of false found = (
    first-single _ _ (has_uuid (take 16 root)) (data_partition plan made) both.«data» (hash_partition plan made ∷ []) data-has found.0,
    second-single _ _ (has_uuid (drop 16 root)) (data_partition plan made) (hash_partition plan made) both.verity [] hash-has found.1,
  )

  -- the partitions of the data and of the hash image
  pub pair-is : image_partitions (partitions_of plan made) root ≡ Ok both → (both.«data» ≡ data_partition plan made) × (both.verity ≡ hash_partition plan made)
  pair-is is = pair-of plan.has_parity (both-parts (found_data (partitions_of plan made) root) (found_hash (partitions_of plan made) root) both is)

-- ---- the part of a partition

part-same : (p q : Part) → p.first ≡ q.first → p.count ≡ q.count → p ≡ q
part-same p q first count = ap (λ (n : ℕ). record { first = n; count = p.count }) first ∙ ap (λ (n : ℕ). record { first = q.first; count = n }) count

-- whole sectors of the disk
pub record AreWhole (size : SectorSize) (part : Part) : Type 0 where
  pub first : part.first / unit_of size * unit_of size ≡ part.first
  pub count : part.count / unit_of size * unit_of size ≡ part.count
  pub some : unit_of size ≤ part.count
  pub few : part.first + part.count ≤ 2 ^ 60

-- the partition over a part is the part
pub part-back : (kind uuid label : List ℕ) (size : SectorSize) (number : ℕ) (part : Part) → AreWhole size part → part_of size (partition_at kind uuid label size number part) ≡ part
part-back kind uuid label Bytes512 number part whole =
    part-same _ part (omega (arith, whole.few)) (omega (arith, whole.few, whole.some))
part-back kind uuid label Bytes4096 number part whole =
    part-same _ part (omega (arith, whole.first, whole.few)) (omega (arith, whole.first, whole.count, whole.few, whole.some))
