-- A superblock that is cleared stays so in a repair, since no block of the tree has the first sector.
use Rattle.std.proofs.Common.{◌≡◌, ◌≤◌, ◌+◌, ◌*◌, ◌/◌, ◌⊎◌, ℕ, zero, suc, Bool, true, false, IsTrue, List, [], ◌∷◌, Option, None, Some, ap, arith, inl, inr, refl, subst, sym, ◌∙◌}
use Rattle.std.specs.List.{slice_index_or}
use Rattle.std.proofs.Math.Nat.{mul-le-mul_right}
use Rattle.std.proofs.lemmas.List.{append-nil}
use Rattle.block_device.specs.Device.{Device}
use Rattle.image_commands.specs.Clearing.{IsCleared, begins_super}
use Rattle.repair_commands.specs.declared.counters.Counters.{Counters}
use Rattle.repair_commands.specs.Commands.{EndsOnDevices, MendsOnce, devices_in}
use Rattle.repair_commands.specs.Mends.{HalfMends, IsCutBy, IsRestOfUse, IsRunTo, IsWholeOrCut, ParityUse}
use Rattle.repair_commands.specs.Rest.{IsRestEnd, known_by}
use Rattle.repair_commands.proofs.lemmas.CountedLemmas.{counted-ends}
use Rattle.tree_repair.specs.declared.fault.RepairFault.{RepairFault}
use Rattle.tree_repair.specs.declared.fault.RepairFault.TheVariants.{Write}
use Rattle.tree_repair.specs.declared.outcome.Outcome.{Outcome}
use Rattle.tree_repair.specs.declared.outcome.Outcome.TheVariants.{Partly, Whole}
use Rattle.tree_repair.specs.declared.repair.Plan.{Plan}
use Rattle.tree_repair.specs.Laws.{AreOff, IsOffTree, OtherSectorsStay}
use Rattle.tree_repair.specs.Moves.{MovesBlocks}
use Rattle.tree_repair.specs.Repairs.{IsUnrepairedBy, Repairs, job_of}
use Rattle.tree_repair.specs.Runs.{Job, Visit}
use Rattle.tree_repair.specs.Worlds.{RepairWorld}
use Rattle.tree_repair.proofs.lemmas.SameLemmas.{repaired-same}
use Rattle.tree_shape.specs.Shape.{IsShape, ancestor, position}
use Rattle.verity_commands.specs.declared.tree_fault.TreeFault.{TreeFault}
use Rattle.verity_commands.specs.Surveyed.{SurveyedDevices}
use Rattle.verity_format.specs.Blocks.{block_at}
use Rattle.verity_format.proofs.lemmas.SizeLemmas.{block-size}
use Rattle.update_commands.specs.declared.release.Release.{Release}
use Rattle.update_commands.specs.Laws.{EndsOnce, EndsTwice, EndsUnrepaired, EndsUnsealedEarly, HasNoSuper}
use Rattle.update_commands.specs.Moving.{MovesListed}
use Rattle.update_commands.specs.Releases.{plan_of}
use Rattle.update_commands.specs.Repaired.{EndsAloud}
use Rattle.update_commands.specs.Updates.{EndsMoving, begun_world}

-- ---- the cleared sector

-- the first block of 512 bytes is the first sector
first-sector : (image : List (List ℕ)) → block_at image 512 0 ≡ slice_index_or image 0 []
unfolding block_at
first-sector [] = refl
first-sector (sector ∷ more) = append-nil sector

cleared-none : (old new : Device) → IsCleared old new → IsTrue old.steady → HasNoSuper new
cleared-none old new (inl none) steady =
    ap (λ (d : Device). begins_super (slice_index_or d.image 0 [])) none.kept
    ∙ ap (λ (image : List (List ℕ)). begins_super (slice_index_or image 0 [])) (none.read.image steady)
    ∙ ap begins_super (sym (none.first steady ∙ first-sector old.image))
    ∙ none.other
cleared-none old new (inr zeroed) steady =
    ap (λ (d : Device). begins_super (slice_index_or d.image 0 [])) zeroed.kept
    ∙ ap (λ (image : List (List ℕ)). begins_super (slice_index_or image 0 [])) (zeroed.zeros (subst IsTrue (sym zeroed.read.same.steady) steady))
    ∙ refl

pub cleared-steady : (old new : Device) → IsCleared old new → IsTrue old.steady → IsTrue new.steady
cleared-steady old new (inl none) steady = subst IsTrue (sym (ap (λ (d : Device). d.steady) none.kept ∙ none.read.same.steady)) steady
cleared-steady old new (inr zeroed) steady =
    subst IsTrue (sym (ap (λ (d : Device). d.steady) zeroed.kept ∙ zeroed.written.same.steady ∙ zeroed.read.same.steady)) steady

cleared-kept : (old new : Device) → IsCleared old new → IsTrue old.steady → HasNoSuper new × IsTrue new.steady
cleared-kept old new is steady = (cleared-none old new is steady, cleared-steady old new is steady)

-- ---- blocks of a tree after the superblock

block-off : (j : Job) → j.tree.shape.start ≡ 1 → IsShape j.tree.shape → (h i : ℕ) → IsOffTree j 0 h i
unfolding position
block-off j one valid zero i = tt
block-off j one valid (suc l) i =
    let s = j.tree.shape in
    let some : 1 ≤ position s l (ancestor s (l + 1) i) = omega (arith, one) in
    let whole : 1 * (s.hash_block / 512) ≤ position s l (ancestor s (l + 1) i) * (s.hash_block / 512) = mul-le-mul_right (s.hash_block / 512) some in
    let least : 1 ≤ s.hash_block / 512 = (block-size s.hash_block valid.hash_size).least in
    inl (omega (arith, whole, least))

all-off : (j : Job) → j.tree.shape.start ≡ 1 → IsShape j.tree.shape → (visits : List Visit) → AreOff (IsOffTree j 0) visits
all-off j one valid [] = tt
all-off j one valid (v ∷ more) = ((λ found. block-off j one valid v.height v.index), all-off j one valid more)

-- ---- a repair

-- the hash device is steady and has no superblock
abbrev Kept : RepairWorld → Type 0
Kept w = HasNoSuper w.hash_dev × IsTrue w.hash_dev.steady

-- so it is after the update
abbrev KeptOn : SurveyedDevices → Type 0
KeptOn t = HasNoSuper t.hash_dev × IsTrue t.hash_dev.steady

module _ (law : OtherSectorsStay) (plan : Plan) (one : plan.tree.shape.start ≡ 1) where
  kept-repaired : (parity : Bool) (w w' : RepairWorld) (old new : Option (List ℕ)) (fault : Option RepairFault) → Repairs plan parity w w' old new fault → Kept w → Kept w'
  kept-repaired parity w w' old new fault repairs (none, steady) = (
    ap begins_super ((law (job_of plan parity) repairs.run.visits w w' repairs.run.runs).tree_stays steady 0 (all-off (job_of plan parity) one repairs.lies.valid repairs.run.visits) []) ∙ none,
    subst IsTrue (sym (repaired-same plan parity w w' old new fault repairs).1.steady) steady,
  )

  kept-unrepaired : (parity : Bool) (w w' : RepairWorld) (old new : Option (List ℕ)) (fault : RepairFault) → IsUnrepairedBy plan parity w w' old new fault → Kept w → Kept w'
  kept-unrepaired parity w w' old new fault (inl past) kept = subst Kept (sym past.same) kept
  kept-unrepaired parity w w' old new fault (inr repairs) kept = kept-repaired parity w w' old new (Some fault) repairs kept

  kept-to : (rest : Option ParityUse) → IsRestOfUse None rest → (w w' : RepairWorld) (old new : Option (List ℕ)) (ended : Option RepairFault) → IsRunTo plan rest w w' old new ended → Kept w → Kept w'
  kept-to None is w w' old new None run kept = kept-repaired false w w' old new None run.repairs kept
  kept-to None is w w' old new (Some fault) run kept = kept-unrepaired false w w' old new fault run kept
  kept-to (Some rest) is w w' old new ended run kept = absurd is

  kept-cut : (w w' : RepairWorld) (old new : Option (List ℕ)) (failed : Bool) (fault : RepairFault) → IsCutBy plan None w w' old new failed fault → Kept w → Kept w'
  kept-cut w w' old new failed fault (inl (cause, (is, run))) kept = kept-unrepaired false w w' old new _ run kept
  kept-cut w w' old new failed fault (inr goes) kept =
      kept-to goes.rest goes.is_rest goes.between w' None None goes.unheard.ended goes.unheard.run (kept-unrepaired false w goes.between old new Write goes.cut kept)

  kept-run : (w w' : RepairWorld) (old new : Option (List ℕ)) (failed : Bool) (ended : Option RepairFault) → IsWholeOrCut plan None w w' old new failed ended → Kept w → Kept w'
  kept-run w w' old new failed None run kept = kept-repaired false w w' old new None run.repairs kept
  kept-run w w' old new failed (Some fault) run kept = kept-cut w w' old new failed fault run kept

  -- with the sync after it
  kept-half : (w w' : RepairWorld) (old new : Option (List ℕ)) (failed : Bool) (fault : RepairFault) → HalfMends plan None w w' old new failed fault → Kept w → Kept w'
  kept-half w w' old new failed fault half kept =
      let mid = kept-run w half.mid old new failed half.ended half.run kept in (
        ap (λ (image : List (List ℕ)). begins_super (slice_index_or image 0 [])) half.kept.hash_image.image ∙ mid.0,
        subst IsTrue (sym half.kept.hash_image.steady) mid.1,
      )

  kept-once : (w w' : RepairWorld) (old new : Option (List ℕ)) (found : Outcome) → MendsOnce plan w old w' new found → Kept w → Kept w'
  kept-once w w' old new found mends kept =
      let mid = kept-repaired false w mends.mends.mid old new None mends.mends.repair kept in (
        ap (λ (image : List (List ℕ)). begins_super (slice_index_or image 0 [])) mends.mends.kept.hash_image.image ∙ mid.0,
        subst IsTrue (sym mends.mends.kept.hash_image.steady) mid.1,
      )

  -- with the report after it
  kept-told : (outcome : Outcome) (w : RepairWorld) (t' : SurveyedDevices) (old new : Option (List ℕ)) (failed : Bool) (fault : TreeFault) → IsRestEnd outcome plan (devices_in w) t' old new failed fault
      → Kept w → KeptOn t'
  kept-told (Whole count) w t' old new failed fault (same, ends) kept = subst (λ (t : SurveyedDevices). KeptOn t) (sym same) kept
  kept-told Partly w t' old new failed fault (scanned, ends) kept = (
    ap (λ (image : List (List ℕ)). begins_super (slice_index_or image 0 [])) (scanned.hash_read.read.image kept.1) ∙ kept.0,
    subst IsTrue (sym scanned.hash_read.read.same.steady) kept.1,
  )

  kept-early : (whole : Bool) (w : RepairWorld) (t' : SurveyedDevices) (old new : Option (List ℕ)) (failed : Bool) (fault : TreeFault) → EndsOnDevices plan whole w t' old new failed fault
      → Kept w → KeptOn t'
  kept-early whole w t' old new failed fault (inl ends) kept =
      subst (λ (t : SurveyedDevices). KeptOn t) (sym ends.same) (kept-half w ends.mid old new failed ends.cause ends.half kept)
  kept-early whole w t' old new failed fault (inr ends) kept =
      kept-told (known_by whole ends.found) ends.mended t' ends.between new failed fault ends.ends (kept-once w ends.mended old ends.between ends.found ends.mends kept)

  kept-aloud : (json : Bool) (w : RepairWorld) (t' : SurveyedDevices) (old new : Option (List ℕ)) (failed : Bool) (n : Counters) (fault : TreeFault) → EndsAloud json plan w t' old new failed n fault
      → Kept w → KeptOn t'
  kept-aloud true w t' old new failed n fault ((unheard, ends), quiet) kept = kept-early true w t' None None unheard fault (counted-ends plan true w t' None None unheard n fault ends) kept
  kept-aloud false w t' old new failed n fault ends kept = kept-early true w t' old new failed fault (counted-ends plan true w t' old new failed n fault ends) kept

  -- with the moves before it
  kept-blocks : (w w' : RepairWorld) (old new : Option (List ℕ)) (count : ℕ) → MovesBlocks plan w w' old new count → Kept w → Kept w'
  kept-blocks w w' old new count moves kept = kept-repaired true moves.mid w' None None None moves.moved (kept-repaired true w moves.mid old moves.between None moves.tree kept)

  kept-moved : (json : Bool) (w w' : RepairWorld) (old new : Option (List ℕ)) (count : ℕ) → MovesListed json plan w w' old new count → Kept w → Kept w'
  kept-moved true w w' old new count moves kept = kept-blocks w w' None None count moves.0 kept
  kept-moved false w w' old new count moves kept = kept-blocks w w' old new count moves kept

-- ---- an update

kept-ends : OtherSectorsStay → (r : Release) (json : Bool) (w : RepairWorld) (t' : SurveyedDevices) (fault : TreeFault) → EndsMoving r w t' fault ⊎ EndsUnrepaired r json w t' fault → Kept w → KeptOn t'
kept-ends law r json w t' fault (inl ends) kept =
    subst (λ (t : SurveyedDevices). KeptOn t) (sym ends.same) (kept-unrepaired law (plan_of r) refl true w ends.behind None None ends.cause ends.fails kept)
kept-ends law r json w t' fault (inr ends) kept =
    kept-aloud law (plan_of r) refl json ends.moved t' ends.between ends.new ends.failed ends.counters fault ends.ends
    (elim ends.moves [
      | inl moves ↦ kept-moved law (plan_of r) refl json w ends.moved ends.old ends.between ends.count moves kept
      | inr fails ↦ kept-unrepaired law (plan_of r) refl true w ends.moved None None Write fails kept
    ])

-- the second attempt begins with the hash device that the first one left
kept-again : OtherSectorsStay → (r : Release) (json : Bool) (w again : RepairWorld) (cause : TreeFault) → EndsOnce r json w again cause → Kept w → Kept again
kept-again law r json w again cause once kept =
    subst (λ (d : Device). HasNoSuper d × IsTrue d.steady) (sym once.hash_same) (kept-ends law r json w once.t cause once.ends kept)

kept-twice : OtherSectorsStay → (r : Release) (json : Bool) (w : RepairWorld) (t' : SurveyedDevices) (fault : TreeFault)
    → (EndsMoving r w t' fault ⊎ EndsUnrepaired r json w t' fault) ⊎ EndsTwice r json w t' fault → Kept w → KeptOn t'
kept-twice law r json w t' fault (inl ends) kept = kept-ends law r json w t' fault ends kept
kept-twice law r json w t' fault (inr twice) kept = kept-ends law r true twice.again t' fault twice.ends (kept-again law r json w twice.again twice.cause twice.once kept)

pub early-none : OtherSectorsStay → (r : Release) (json : Bool) (w : RepairWorld) (t' : SurveyedDevices) → EndsUnsealedEarly r json w t' → IsTrue w.hash_dev.steady → HasNoSuper t'.hash_dev
early-none law r json w t' early steady =
    (kept-twice law r json (begun_world w early.cleared early.seen) t' early.fault early.ends
    (cleared-kept early.looked early.cleared early.begins.cleared (subst IsTrue (sym early.read.same.steady) steady))).0
