-- After an update that succeeded, the images hold the release of the pin.
use Rattle.std.proofs.Common.{◌≡◌, ◌≤◌, ◌<◌, ◌+◌, ◌*◌, ◌/◌, ◌==◌, ℕ, zero, suc, Bool, true, false, cond, IsTrue, List, [], ◌∷◌, All, length, take, drop, Option, None, ap, arith, inl, inr, refl, subst, sym, ◌∙◌, ◌⊎◌}
use Rattle.std.specs.List.{concat, slice_index_or}
use Rattle.std.proofs.Math.Nat.{mul-le-mul_right}
use Rattle.std.proofs.lemmas.List.{length-replicate, take_at}
use Rattle.std.proofs.lemmas.List.Elements.{All-cons, All-tail}
use Rattle.block_device.specs.Device.{Device, IsSector, IsWhole, filled_sector, sectors_of, spliced, zeros_image}
use Rattle.block_device.specs.Whole.{length-sectors_of}
use Rattle.image_commands.specs.Clearing.{IsCleared}
use Rattle.image_commands.specs.Places.{IsStateOf}
use Rattle.image_files.specs.Opener.{Opener}
use Rattle.repair_commands.specs.declared.counters.Counters.{Counters}
use Rattle.repair_commands.specs.Commands.{RepairsDevices, opened_world}
use Rattle.repair_commands.specs.Laws.{IsRepaired, RepairedImagesAreValid}
use Rattle.tree_path.specs.Laws.{Collide}
use Rattle.tree_path.specs.Path.{stored_block, stored_digest}
use Rattle.tree_repair.specs.declared.repair.Plan.{Plan}
use Rattle.tree_repair.specs.Moves.{MovesBlocks}
use Rattle.tree_repair.specs.Standing.{IsWorldSteady}
use Rattle.tree_repair.specs.Worlds.{RepairWorld}
use Rattle.tree_repair.proofs.lemmas.SteadyLemmas.{repaired-steady}
use Rattle.tree_shape.specs.Digests.{digest, digest_in}
use Rattle.tree_shape.specs.Shape.{IsShape, ancestor, levels, position, slot}
use Rattle.tree_survey.specs.Surveys.{IsContentStoredAs, Tree}
use Rattle.verity_commands.specs.Surveyed.{SurveyedDevices, surveyed_devices}
use Rattle.verity_format.specs.Blocks.{IsOnlyRead, block_at}
use Rattle.verity_format.specs.Image.{first_block}
use Rattle.verity_format.specs.Superblock.{IsSuperblock, SuperRecord, shape_of, spelling}
use Rattle.verity_format.proofs.lemmas.DeviceLemmas.{drop-same, steady-then}
use Rattle.verity_format.proofs.lemmas.SizeLemmas.{block-size}
use Rattle.verity_format.proofs.lemmas.SpellingLemmas.{carried-spelling}
use Rattle.update_commands.specs.declared.counts.Tally.{Tally}
use Rattle.update_commands.specs.declared.release.Release.{Release}
use Rattle.update_commands.specs.Beginnings.{Begins}
use Rattle.update_commands.specs.Finished.{HoldsRelease, UpdatedImagesHoldTheRelease, release_tree}
use Rattle.update_commands.specs.Moving.{MovesListed}
use Rattle.update_commands.specs.Releases.{plan_of}
use Rattle.update_commands.specs.Repaired.{RepairsAloud}
use Rattle.update_commands.specs.Updates.{UpdatesBegun, UpdatesDevices, UpdatesMoved, begun_world, tally_from}
use Rattle.update_commands.proofs.BeginningLemmas.{image-some}
use Rattle.update_commands.proofs.EarlyEndLemmas.{cleared-steady}

-- ---- an image whose superblock is cleared is whole

zeroed-whole : (image : List (List ℕ)) → 0 < length image → All IsSector image → (length (spliced image 0 (zeros_image 1)) ≡ length image) × All IsSector (spliced image 0 (zeros_image 1))
zeroed-whole [] some sectors = absurd (omega (arith, some))
zeroed-whole (first ∷ more) some sectors = (refl, All-cons IsSector (filled_sector 0) more (length-replicate {A = ℕ} 512 0) (All-tail IsSector first more sectors))

cleared-whole : (old new : Device) → IsCleared old new → IsWhole old → IsTrue old.steady → 0 < old.size → IsWhole new
cleared-whole old new (inl none) whole steady some =
    let image : new.image ≡ old.image = ap (λ (d : Device). d.image) none.kept ∙ none.read.image steady in
    let size : new.size ≡ old.size = ap (λ (d : Device). d.size) none.kept ∙ none.read.same.size in
    let count : length new.image ≡ length old.image = ap (λ (l : List (List ℕ)). length l) image in
    record {
      length = count ∙ whole.length ∙ sym size;
      sectors = subst (λ (l : List (List ℕ)). All IsSector l) (sym image) whole.sectors;
    }
cleared-whole old new (inr zeroed) whole steady some =
    let read : zeroed.read_dev.image ≡ old.image = zeroed.read.image steady in
    let zeros = zeroed.zeros (subst IsTrue (sym zeroed.read.same.steady) steady) in
    let image : new.image ≡ spliced old.image 0 (zeros_image 1) =
    ap (λ (d : Device). d.image) zeroed.kept ∙ zeros ∙ ap (λ (l : List (List ℕ)). spliced l 0 (zeros_image 1)) read in
    let size : new.size ≡ old.size = ap (λ (d : Device). d.size) zeroed.kept ∙ zeroed.written.same.size ∙ zeroed.read.same.size in
    let there : 0 < length old.image = omega (arith, some, whole.length) in
    let after = zeroed-whole old.image there whole.sectors in
    let count : length new.image ≡ length old.image = ap (λ (l : List (List ℕ)). length l) image ∙ after.0 in
    record {
      length = count ∙ whole.length ∙ sym size;
      sectors = subst (λ (l : List (List ℕ)). All IsSector l) (sym image) after.1;
    }

-- the hash device was read before
cleared-world : (s : SuperRecord) → IsShape (shape_of s) → (w : RepairWorld) (looked cleared : Device) (seen : List Device) → IsOnlyRead w.hash_dev looked → Begins s w.data_dev looked cleared → IsWorldSteady w → IsWorldSteady (begun_world w cleared seen)
cleared-world s valid w looked cleared seen read begins steady =
    let some : 0 < looked.size = omega (arith, image-some s valid, begins.hash_fits) in
    let image : looked.image ≡ w.hash_dev.image = read.image steady.hash_steady in
    let still : IsTrue looked.steady = steady-then read.same steady.hash_steady in
    let whole : IsWhole looked = record {
      length = ap (λ (l : List (List ℕ)). length l) image ∙ steady.hash_whole.length ∙ sym read.same.size;
      sectors = subst (λ (l : List (List ℕ)). All IsSector l) (sym image) steady.hash_whole.sectors;
    } in
    record {
      data_whole = steady.data_whole;
      hash_whole = cleared-whole looked cleared begins.cleared whole still some;
      data_steady = steady.data_steady;
      hash_steady = cleared-steady looked cleared begins.cleared still;
    }

-- ---- so are those of blocks that moved

moved-steady : (plan : Plan) (w w' : RepairWorld) (old new : Option (List ℕ)) (count : ℕ) → MovesBlocks plan w w' old new count → IsWorldSteady w → IsWorldSteady w'
moved-steady plan w w' old new count moves steady = repaired-steady plan true moves.mid w' None None moves.moved (repaired-steady plan true w moves.mid old moves.between moves.tree steady)

listed-steady : (json : Bool) (plan : Plan) (w w' : RepairWorld) (old new : Option (List ℕ)) (count : ℕ) → MovesListed json plan w w' old new count → IsWorldSteady w → IsWorldSteady w'
listed-steady true plan w w' old new count (moves, quiet) steady = moved-steady plan w w' None None count moves steady
listed-steady false plan w w' old new count moves steady = moved-steady plan w w' old new count moves steady

-- ---- blocks of a tree after hash block 0 stay when it is written

block-behind : (a b : List (List ℕ)) (size n : ℕ) → drop (size / 512) b ≡ drop (size / 512) a → 1 ≤ n → block_at b size n ≡ block_at a size n
unfolding block_at
block-behind a b size n same some =
    let whole : 1 * (size / 512) ≤ n * (size / 512) = mul-le-mul_right (size / 512) some in
    let from : size / 512 ≤ n * (size / 512) = omega (arith, whole) in
    ap (λ (l : List (List ℕ)). concat (take (size / 512) l)) (drop-same (size / 512) (n * (size / 512)) b a from same)

module _ (t : Tree) (one : t.shape.start ≡ 1) (a b : List (List ℕ)) (same : drop (t.shape.hash_block / 512) b ≡ drop (t.shape.hash_block / 512) a) where
  stored-behind : (l i : ℕ) → stored_block t.shape b l i ≡ stored_block t.shape a l i
  unfolding position
  stored-behind l i =
      let some : 1 ≤ position t.shape l (ancestor t.shape (l + 1) i) = omega (arith, one) in
      block-behind a b t.shape.hash_block (position t.shape l (ancestor t.shape (l + 1) i)) same some

  digest-behind : (i m : ℕ) → stored_digest t.shape t.root b i m ≡ stored_digest t.shape t.root a i m
  unfolding stored_digest
  digest-behind i m = ap (λ (x : List ℕ). cond (m == levels t.shape) t.root (digest_in x (slot t.shape (ancestor t.shape m i)))) (stored-behind m i)

  valid-behind : (image : List (List ℕ)) (i : ℕ) → IsContentStoredAs t image a i None → IsContentStoredAs t image b i None
  valid-behind image i (above, good) = (
    (λ l low. ap (digest t.salt) (stored-behind l i) ∙ above l low ∙ sym (digest-behind i (l + 1))),
    good ∙ sym (digest-behind i 0),
  )

-- hash block 0 is as `format` writes it then, and the first sector is the superblock
sealed-block : (image : List (List ℕ)) (n : ℕ) (bytes : List ℕ) → take n (spliced image 0 (sectors_of n bytes)) ≡ sectors_of n bytes
sealed-block image n bytes = take_at (sectors_of n bytes) _ n (length-sectors_of n bytes)

sealed-first : (s : SuperRecord) → IsSuperblock s → (image : List (List ℕ)) (n : ℕ) → 1 ≤ n → slice_index_or (spliced image 0 (sectors_of n (first_block s))) 0 [] ≡ spelling s
unfolding sectors_of
sealed-first s valid image zero some = absurd (omega (arith, some))
sealed-first s valid image (suc n) some = take_at (spelling s) _ 512 (carried-spelling s valid).size

-- ---- an update

-- a repair whose lines were printed or not
aloud-repairs : (json : Bool) (plan : Plan) (w : RepairWorld) (t : SurveyedDevices) (old new : Option (List ℕ)) (n : Counters) → RepairsAloud json plan w t old new n
    → (a : Option (List ℕ)) × ((b : Option (List ℕ)) × RepairsDevices plan true w t a b)
aloud-repairs true plan w t old new n (silent, quiet) = (None, (None, silent.0))
aloud-repairs false plan w t old new n aloud = (old, (new, aloud.0))

module _ (law : RepairedImagesAreValid) (r : Release) (super : IsSuperblock r.superblock) where
  moved-held : (Hash : Device → Type 0) (json : Bool) (tally : Tally) (w : RepairWorld) (t' : SurveyedDevices) (old new : Option (List ℕ)) → UpdatesMoved Hash r json tally w t' old new → IsWorldSteady w → HoldsRelease r t' ⊎ Collide r.superblock.salt
  moved-held Hash json tally w t' old new begun steady =
      let t = begun.mended in
      let done = aloud-repairs json (plan_of r) w t old begun.between begun.counters begun.repairs in
      let repairs : RepairsDevices (plan_of r) true w t done.0 done.1.0 = done.1.1 in
      let repaired : IsRepaired (plan_of r) t = law (plan_of r) true w t done.0 done.1.0 repairs steady in
      let sealed = begun.finishes.sealed in
      let n : ℕ = r.superblock.hash_block / 512 in
      let after : drop n sealed.written_dev.image ≡ drop n t.hash_dev.image = drop-same (0 + n) n _ _ (omega arith) (sealed.written.after repaired.hash_steady) in
      let behind : drop n t'.hash_dev.image ≡ drop n t.hash_dev.image = ap (λ (d : Device). drop n d.image) sealed.kept ∙ after in
      elim repaired.valid [
        | inr clash ↦ inr clash
        | inl each ↦ inl (record {
          valid = λ i inside.
              subst (λ (d : Device). IsContentStoredAs (release_tree r) d.image t'.hash_dev.image i None) (sym begun.data_is)
              (valid-behind (release_tree r) refl t.hash_dev.image t'.hash_dev.image behind t.data_dev.image i (each i inside));
          superblock = ap (λ (d : Device). slice_index_or d.image 0 []) sealed.kept
              ∙ ap (λ (l : List (List ℕ)). slice_index_or l 0 []) (sealed.image repaired.hash_steady)
              ∙ sealed-first r.superblock super t.hash_dev.image n (block-size r.superblock.hash_block super.shape.hash_size).least;
          first = ap (λ (d : Device). take n d.image) sealed.kept
              ∙ ap (λ (l : List (List ℕ)). take n l) (sealed.image repaired.hash_steady)
              ∙ sealed-block t.hash_dev.image n (first_block r.superblock);
          data_clean = ap (λ (d : Device). d.dirty) begun.data_is ∙ repairs.on_medium.data_clean refl;
          hash_clean = ap (λ (d : Device). d.dirty) sealed.kept;
        })
      ]

  begun-held : (Hash : Device → Type 0) (json : Bool) (w : RepairWorld) (t' : SurveyedDevices) (old new : Option (List ℕ)) → UpdatesBegun Hash r json w t' old new → IsWorldSteady w → HoldsRelease r t' ⊎ Collide r.superblock.salt
  begun-held Hash json w t' old new begun steady =
      moved-held Hash json (tally_from w begun.count) begun.moved t' begun.between new begun.updates (listed-steady json (plan_of r) w begun.moved old begun.between begun.count begun.moves steady)

  updated-held : (Hash : Device → Type 0) (no_index json : Bool) (w : RepairWorld) (t' : SurveyedDevices) (old new : Option (List ℕ)) → UpdatesDevices Hash r no_index json w t' old new → IsWorldSteady w → HoldsRelease r t' ⊎ Collide r.superblock.salt
  updated-held Hash no_index json w t' old new updates steady =
      begun-held Hash json (begun_world w updates.cleared updates.seen) t' old new updates.updates
      (cleared-world r.superblock super.shape w updates.looked updates.cleared updates.seen updates.lists.hash_read updates.begins steady)

-- from the files on
pub files-held : {S D : Type 0} (relations : Opener S D) (state : D → Device) → RepairedImagesAreValid → UpdatedImagesHoldTheRelease relations state
files-held relations state law old new o copies before behind u steady =
    let finds = u.is_ready.finds in
    let super = finds.reads.read.carried.valid in (
      record { is_super = super; pinned = finds.reads.pinned; root_is = finds.root_is },
      updated-held law u.release super (IsStateOf state) o.no_index o.json (opened_world state u.opened) (surveyed_devices (state u.updates.data_dev) (state u.updates.hash_dev)) before behind u.updates.holds steady,
    )
