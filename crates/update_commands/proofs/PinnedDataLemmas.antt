-- Data blocks that have a pin are those of the release of the pin.
use Rattle.std.proofs.Common.{◌≡◌, ◌==◌, ℕ, Bool, true, false, cond, List, map, Option, None, Some, ap, refl, sym, ◌∙◌}
use Rattle.std.specs.Prelude.{not}
use Rattle.std.specs.Str.{bytes_eq}
use Rattle.std.proofs.Math.Path.{subst₂}
use Rattle.std.proofs.lemmas.Bool.{eqb-true, not-false}
use Rattle.std.proofs.lemmas.Option.{none-some}
use Rattle.std.proofs.lemmas.Slice.Eq.{bytes_eq-Decides}
use Rattle.hash_tree.specs.Laws.{AreBlocks}
use Rattle.hash_tree.specs.Tree.{root as root_of}
use Rattle.image_pin.specs.declared.mismatch.Mismatch.{Mismatch}
use Rattle.image_pin.specs.declared.mismatch.Mismatch.TheVariants.{DataBlockSize, DataBlocks, HashBlockSize, Salt}
use Rattle.image_pin.specs.declared.pin.Pin.{Pin}
use Rattle.image_pin.specs.Laws.{IsPinned}
use Rattle.image_pin.specs.PinnedReads.{mismatch_of}
use Rattle.tree_repair.specs.Valid.{ValidImagesAreFormatted}
use Rattle.tree_shape.specs.Digests.{digest}
use Rattle.tree_survey.specs.Laws.{AreContents}
use Rattle.verity_format.specs.Superblock.{SuperRecord}
use Rattle.update_commands.specs.declared.release.Release.{Release}
use Rattle.update_commands.specs.Finished.{IsReleaseOf, ReleasesStorePinnedData, release_tree}

-- ---- a superblock that doesn't differ from a pin

record HasValues (pin : Pin) (s : SuperRecord) : Type 0 where
  pub data_block : s.data_block ≡ pin.data_block
  pub hash_block : s.hash_block ≡ pin.hash_block
  pub blocks : s.blocks ≡ pin.blocks
  pub salt : s.salt ≡ pin.salt

-- the first value doesn't differ, nor do the others
none-first : (b : Bool) (first : Mismatch) (others : Option Mismatch) → cond b (Some first) others ≡ None → (b ≡ false) × (others ≡ None)
none-first true first others none = absurd (none-some first (sym none))
none-first false first others none = (refl, none)

pinned-values : (pin : Pin) (s : SuperRecord) → mismatch_of (Some pin) s ≡ None → HasValues pin s
pinned-values pin s none =
    let last : Option Mismatch = cond (not (bytes_eq s.salt pin.salt)) (Some Salt) None in
    let later : Option Mismatch = cond (not (s.blocks == pin.blocks)) (Some DataBlocks) last in
    let others : Option Mismatch = cond (not (s.hash_block == pin.hash_block)) (Some HashBlockSize) later in
    let a = none-first (not (s.data_block == pin.data_block)) DataBlockSize others none in
    let b = none-first (not (s.hash_block == pin.hash_block)) HashBlockSize later a.1 in
    let c = none-first (not (s.blocks == pin.blocks)) DataBlocks last b.1 in
    let d = none-first (not (bytes_eq s.salt pin.salt)) Salt None c.1 in
    record {
      data_block = eqb-true s.data_block pin.data_block (not-false (s.data_block == pin.data_block) a.0);
      hash_block = eqb-true s.hash_block pin.hash_block (not-false (s.hash_block == pin.hash_block) b.0);
      blocks = eqb-true s.blocks pin.blocks (not-false (s.blocks == pin.blocks) c.0);
      salt = (bytes_eq-Decides s.salt pin.salt).0 (not-false (bytes_eq s.salt pin.salt) d.0);
    }

-- ---- the release

pinned-contents : (pin : Pin) (r : Release) → IsReleaseOf pin r → (contents : List (List ℕ)) → IsPinned pin contents → AreContents (release_tree r) contents
pinned-contents pin r is contents pinned =
    let s = r.superblock in
    let same = pinned-values pin s is.pinned in
    record {
      shape = is.is_super.shape;
      blocks = subst₂ (λ (n size : ℕ). AreBlocks n size contents) (sym same.blocks) (sym same.data_block) pinned.are;
      root = is.root_is
          ∙ sym pinned.root
          ∙ ap (λ (size : ℕ). root_of size pin.salt (map (digest pin.salt) contents)) (sym same.hash_block)
          ∙ ap (λ (x : List ℕ). root_of s.hash_block x (map (digest x) contents)) (sym same.salt);
    }

pub stored-data : ValidImagesAreFormatted → ReleasesStorePinnedData
stored-data law pin r is t holds contents pinned = law (release_tree r) t.data_dev.image t.hash_dev.image holds.valid contents (pinned-contents pin r is contents pinned)
