-- What was read of the devices that are compared, and the verdict.
use Rattle.std.proofs.Common.{◌≡◌, ◌∙◌, ◌||◌, ℕ, List, Some, None, Result, Ok, Err, IsTrue, ap, false, inl, inr, nat_lt, refl, subst, sym, true}
use Rattle.block_device.specs.Call.{Call}
use Rattle.block_device.specs.Device.{Device}
use Rattle.tree_shape.specs.Shape.{ShapeRecord, area_blocks}
use Rattle.verity_format.specs.declared.access.TreeFault.{TreeFault}
use Rattle.verity_format.specs.declared.access.TreeFault.TheVariants as tree
use Rattle.verity_format.specs.declared.verifying.Verdict.{Verdict}
use Rattle.verity_format.specs.declared.verifying.Verdict.TheVariants.{AreaDiffers}
use Rattle.verity_format.specs.declared.verifying.VerifyFault.{VerifyFault}
use Rattle.verity_format.specs.declared.verifying.VerifyFault.TheVariants as verify
use Rattle.verity_format.specs.Superblock.{SuperRecord, read_of, shape_of}
use Rattle.verity_format.specs.Blocks.{IsFullRead}
use Rattle.verity_format.specs.ComparedCalls.{ComparesPart}
use Rattle.verity_format.specs.Comparing.{IsTreeCompared}
use Rattle.verity_format.specs.Growth.{IsPairCause}
use Rattle.verity_format.specs.Image.{area_over, area_sectors, data_sectors, tree_sectors}
use Rattle.verity_format.specs.Verifying.{IsFound, IsReadFrom, IsTreeFound, IsTreeStored, IsTreeVerifyCause, IsVerdict, IsVerifyCause, hash_sectors_read, is_too_small, verify_fault_of}
use Rattle.verity_format.specs.VerifyCalls.{JudgesImage, JudgesOver, StopsJudging}
use Rattle.verity_format.proofs.lemmas.AreaLemmas.{area-stands}
use Rattle.verity_format.proofs.ComparingLemmas.{stands-none, differs-least}
use Rattle.verity_format.proofs.lemmas.DeviceLemmas.{failed-then, full_read-then, steady-then}
use Rattle.verity_format.proofs.FieldLemmas.{no_fault-from_Carries, same-read}
use Rattle.verity_format.proofs.RefusalLemmas.{past-refused}

-- the superblock's sector, and then the hash blocks
pub full_read-compared : (s : SuperRecord) (a b c : Device) → IsFullRead a 1 b → IsFullRead b (area_sectors (shape_of s)) c → IsFullRead a (hash_sectors_read s) c
full_read-compared s a b c one rest = full_read-then 1 (area_sectors (shape_of s)) _ one rest refl

-- the verdict on a tree that was compared
module _ (s : ShapeRecord) (salt : List ℕ) (data_dev hash_dev data_dev' hash_dev' : Device) (digest : List ℕ) where
  pub verdict-stored : IsTreeCompared s salt data_dev hash_dev data_dev' hash_dev' None digest → IsTrue data_dev.steady → IsTrue hash_dev.steady → IsTreeStored s salt data_dev.image hash_dev.image
  verdict-stored compared data_steady hash_steady =
      stands-none hash_dev.image s.hash_block s.start (area_blocks s) (area_over s salt data_dev.image) (area-stands s compared.valid salt data_dev.image).total (compared.found data_steady hash_steady)

  pub verdict-area : (block : ℕ) (root : List ℕ) → IsTreeCompared s salt data_dev hash_dev data_dev' hash_dev' (Some block) digest → IsTrue data_dev.steady → IsTrue hash_dev.steady
      → IsVerdict s salt data_dev.image hash_dev.image root (AreaDiffers block)
  verdict-area block root compared data_steady hash_steady =
      differs-least hash_dev.image s.hash_block s.start (area_blocks s) (area_over s salt data_dev.image) (area-stands s compared.valid salt data_dev.image).total block (compared.found data_steady hash_steady)

-- the fault that a comparison's fault becomes
pub pair-cause : (s : ShapeRecord) (data_dev hash_dev data_dev' hash_dev' : Device) (f : TreeFault) → IsPairCause data_dev hash_dev data_dev' hash_dev' f
    → IsTreeVerifyCause s data_dev hash_dev data_dev' hash_dev' (verify_fault_of f)
pair-cause s data_dev hash_dev data_dev' hash_dev' tree.Device h = h
pair-cause s data_dev hash_dev data_dev' hash_dev' tree.NoMemory h = h

-- a part of a comparison that failed
pub stops-part : {D H : Type 0} (asks : D → Call → D → Type 0) (does : H → Call → H → Type 0) (s : ShapeRecord) (salt : List ℕ) (d : D) (h : H) (d' : D) (h' : H) (f : TreeFault) → ComparesPart asks does s salt d h d' h'
    → StopsJudging asks does s salt d h d' h' (verify_fault_of f)
stops-part asks does s salt d h d' h' tree.Device part = part
stops-part asks does s salt d h d' h' tree.NoMemory part = part

-- all calls of verifying, of which the first read the superblock
pub judged-after : {D H : Type 0} (asks : D → Call → D → Type 0) (does : H → Call → H → Type 0) (d : D) (h : H) (d' : D) (h' : H) (root : List ℕ) (result : Result Verdict VerifyFault)
    → JudgesImage asks does d h d' h' root result → JudgesOver asks does d h d' h' root result
judged-after asks does d h d' h' root (Ok verdict) image = image
judged-after asks does d h d' h' root (Err fault) image = inl image

-- what was found of the tree after a superblock that was read
pub found-after : (s : SuperRecord) (sector : List ℕ) (a b mid a' b' : Device) (root : List ℕ) (verdict : Verdict) → IsReadFrom b sector s → IsFullRead b 1 mid
    → IsTreeFound (shape_of s) s.salt a mid a' b' root verdict → IsFound a b a' b' root verdict
found-after s sector a b mid a' b' root verdict from one tree =
    let is : s ≡ read_of sector = sym (same-read s sector from.carried) in
    let at : IsTreeFound (shape_of (read_of sector)) (read_of sector).salt a mid a' b' root verdict = subst (λ (t : SuperRecord). IsTreeFound (shape_of t) t.salt a mid a' b' root verdict) is tree in
    let sized : is_too_small (shape_of (read_of sector)) a b ≡ false = ap (λ (n : ℕ). nat_lt a.size (data_sectors (shape_of (read_of sector))) || nat_lt n (tree_sectors (shape_of (read_of sector)))) (sym one.read.same.size) ∙ at.fit in
    record {
      sector = sector;
      first = from.first;
      fit = past-refused a b sector false from.some (no_fault-from_Carries s sector from.carried) sized;
      data_read = at.data_read;
      hash_read = full_read-compared (read_of sector) b mid b' one at.hash_read;
      found = λ data_steady hash_steady.
          subst (λ (image : List (List ℕ)). IsVerdict (shape_of (read_of sector)) (read_of sector).salt a.image image root verdict) (one.read.image hash_steady) (at.found data_steady (steady-then one.read.same hash_steady));
    }

-- why it wasn't
pub cause-after : (s : SuperRecord) (sector : List ℕ) (a b mid a' b' : Device) (f : VerifyFault) → IsReadFrom b sector s → IsFullRead b 1 mid
    → IsTreeVerifyCause (shape_of s) a mid a' b' f → IsVerifyCause a b a' b' f
cause-after s sector a b mid a' b' verify.Device from one (inl h) = inl h
cause-after s sector a b mid a' b' verify.Device from one (inr h) = inr (failed-then b mid b' one.failures h)
cause-after s sector a b mid a' b' verify.NoMemory from one h = (h.0, h.1 ∙ one.failures, h.2)
cause-after s sector a b mid a' b' (verify.Super f) from one h = absurd h
cause-after s sector a b mid a' b' verify.TooSmall from one h =
    let is : s ≡ read_of sector = sym (same-read s sector from.carried) in
    let sized : is_too_small (shape_of (read_of sector)) a b ≡ true =
    ap (λ (n : ℕ). nat_lt a.size (data_sectors (shape_of (read_of sector))) || nat_lt n (tree_sectors (shape_of (read_of sector)))) (sym one.read.same.size)
    ∙ subst (λ (t : SuperRecord). is_too_small (shape_of t) a mid ≡ true) is h.0 in
    (sector, (from.first, past-refused a b sector true from.some (no_fault-from_Carries s sector from.carried) sized))
