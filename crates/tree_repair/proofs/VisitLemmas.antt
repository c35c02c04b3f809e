-- A look at a block is a visit of the image.
use Rattle.std.proofs.Common.{◌≡◌, ◌<◌, ◌≤◌, ◌+◌, ◌*◌, ◌/◌, ℕ, suc, [], ◌-◌, length, add-one, ap, arith, sym, subst, refl, ◌∙◌, true, false, Bool, List, Result, Ok, Err}
use Rattle.std.specs.Prelude.{IfOk, OnErr}
use Rattle.block_device.specs.Device.{Device, IsSameDevice}
use Rattle.tree_shape.specs.Digests.{digest}
use Rattle.tree_shape.specs.Shape.{ancestor, position}
use Rattle.verity_format.specs.Blocks.{AreOnlyRead, IsOnlyRead}
use Rattle.verity_format.proofs.lemmas.DeviceLemmas.{only_read-none, only_read-then, same-then}
use Rattle.tree_path.specs.Path.{PathRecord, digest_on}
use Rattle.tree_survey.specs.Surveys.{IsWay}
use Rattle.tree_repair.specs.declared.mending.Mended.{Mended}
use Rattle.tree_repair.specs.declared.mending.Mended.TheVariants as mended
use Rattle.tree_repair.specs.Mending.{BlockCheck, IsBareOf, IsFoundNowhere, IsMended, IsNotRemade, IsAllowedPut, IsUnmended}
use Rattle.tree_repair.specs.Remaking.{IsMadeBeneath, IsNowhereBeneath, lost_hash}
use Rattle.tree_repair.specs.Runs.{IsVisited, Job, visit}
use Rattle.tree_repair.specs.Sources.{AreEachRead, AreNotIn}
use Rattle.tree_repair.specs.Worlds.{AreBothRead, RepairWorld, repair_world}
use Rattle.tree_repair.proofs.MakeLemmas.{nowhere-before, over-before}
use Rattle.tree_repair.specs.Visits.{FailsToStoreBlock, IsHashLooked, IsHashSeen, IsHashUnmended, IsLooked, IsBlockMade, IsTreePut, KeepsData, data_look, hash_look}

plain-bare : (parity : Bool) (m : Mended) → IsNotRemade m → IsBareOf parity m
plain-bare parity mended.Good plain = tt
plain-bare parity (mended.Copy k) plain = tt
plain-bare parity mended.Remade plain = plain
plain-bare parity mended.Parity plain = absurd plain
plain-bare parity mended.Lost plain = tt

module _ (j : Job) (p : PathRecord) (h i : ℕ) (inside : i < j.tree.shape.blocks) (way : IsWay j.tree i h p) where
  module _ (none : h ≡ 0) (d d' e : Device) (cs cs' es : List Device) where
    data-visit : (m : Mended) (bytes : List ℕ) (done : Bool) → IsNotRemade m → IsMended (data_look j p i d d' cs cs') bytes done m → IsVisited j (visit h i m bytes done) (repair_world d e cs es) (repair_world d' e cs' es)
    data-visit m bytes done plain looked =
        subst (λ (n : ℕ). IsVisited j (visit n i m bytes done) (repair_world d e cs es) (repair_world d' e cs' es)) (sym none)
        (record { inside = inside; p = p; way = subst (λ (n : ℕ). IsWay j.tree i n p) none way; mended_as = looked; made_of = plain-bare j.parity m plain; other_stays = refl; copies_are = refl })

    pub data-made : {E : Type 0} (r : Result Mended E) → IfOk r IsNotRemade → IfOk r (IsLooked (data_look j p i d d' cs cs')) → IfOk r (IsBlockMade j h i (repair_world d e cs es) (repair_world d' e cs' es))
    data-made (Ok m) plain looked = (looked.0, data-visit m looked.0 true plain looked.1)
    data-made (Err f) plain looked = tt

    pub data-fails : {E : Type 0} (r : Result Mended E) → OnErr r (IsUnmended (data_look j p i d d' cs cs')) → OnErr r (FailsToStoreBlock j h i (repair_world d e cs es) (repair_world d' e cs' es))
    data-fails (Ok m) looked = tt
    data-fails (Err f) looked = (mended.Copy looked.0, (looked.1.0, (tt, data-visit (mended.Copy looked.0) looked.1.0 false tt looked.1.1)))

  module _ (l : ℕ) (some : h ≡ suc l) (w w' : RepairWorld) where
    hash-visit : (m : Mended) (bytes : List ℕ) (done : Bool) → IsHashSeen j p l i w w' bytes done m → IsVisited j (visit h i m bytes done) w w'
    hash-visit m bytes done seen =
        subst (λ (n : ℕ). IsVisited j (visit n i m bytes done) w w') (sym some)
        (record {
          inside = inside;
          p = p;
          way = subst (λ (n : ℕ). IsWay j.tree i n p) some way;
          mended_as = subst (λ (n : ℕ). IsMended (record (hash_look j p l i w.hash_dev w'.hash_dev w.hash_copies w'.hash_copies) { w = record { salt = j.tree.salt; digest_is = digest_on p i n; sectors = j.tree.shape.hash_block / 512 } }) bytes done m) (add-one l) seen.looked;
          made_of = seen.made_of;
          other_stays = seen.data_stays;
          copies_are = seen.copies_are;
        })

    pub hash-made : {E : Type 0} (r : Result Mended E) → IfOk r (IsHashLooked j p l i w w') → IfOk r (IsBlockMade j h i w w')
    hash-made (Ok m) seen = (seen.0, hash-visit m seen.0 true seen.1)
    hash-made (Err f) seen = tt

    pub hash-fails : {E : Type 0} (r : Result Mended E) → OnErr r (IsHashUnmended j p l i w w') → OnErr r (FailsToStoreBlock j h i w w')
    hash-fails (Ok m) seen = tt
    hash-fails (Err f) seen = (seen.0, (seen.1.0, (seen.1.1.0, hash-visit seen.0 seen.1.0 false seen.1.1.1)))

-- ---- a hash block that no copy has

-- an image before, once its copies were asked, and once the blocks beneath were read
module _ (j : Job) (p : PathRecord) (l i : ℕ) (a m b : RepairWorld) where
  pub hash-same : IsFoundNowhere (hash_look j p l i a.hash_dev m.hash_dev a.hash_copies m.hash_copies) → AreBothRead m b → IsSameDevice a.hash_dev b.hash_dev
  hash-same found beneath = same-then found.read.same (same-then found.beneath_read.same beneath.devices.hash_read.same)

  -- the block is in no copy, as the copies are afterwards
  abbrev IsInNone : IsFoundNowhere (hash_look j p l i a.hash_dev m.hash_dev a.hash_copies m.hash_copies) → List Device → Type 0
  IsInNone found copies =
      let seen : BlockCheck = hash_look j p l i a.hash_dev m.hash_dev a.hash_copies m.hash_copies in
      AreNotIn a.hash_copies copies seen.copy_first seen.w (length a.hash_copies)

  module _ (kept : KeepsData a m) (found : IsFoundNowhere (hash_look j p l i a.hash_dev m.hash_dev a.hash_copies m.hash_copies)) (beneath : AreBothRead m b) where
    before : AreOnlyRead a.data_dev a.hash_dev m.data_dev m.hash_dev
    before = record { data_read = subst (IsOnlyRead a.data_dev) (sym kept.device_is) (only_read-none a.data_dev); hash_read = only_read-then found.read found.beneath_read }

    data-more : a.data_dev.failures ≤ b.data_dev.failures
    data-more = omega (arith, ap (λ (d : Device). d.failures) kept.device_is, beneath.data_more)

    -- it can't be made
    pub lost-seen : IsNowhereBeneath (lost_hash j.tree.shape j.tree.salt l i (digest_on p i (l + 1))) m.data_dev m.hash_dev b.data_dev b.hash_dev → IsHashSeen j p l i a b [] true mended.Lost
    lost-seen none = record {
      looked = record {
        seen = found.seen;
        read = found.read;
        more = found.more;
        bad = found.bad;
        copies_read = subst (AreEachRead a.hash_copies) (sym beneath.hash_copies_are) found.copies_read;
        none = subst (IsInNone found) (sym beneath.hash_copies_are) found.none;
        beneath_read = only_read-then found.beneath_read beneath.devices.hash_read;
        beneath_more = omega (arith, found.beneath_more, beneath.hash_more);
      };
      made_of = nowhere-before (lost_hash j.tree.shape j.tree.salt l i (digest_on p i (l + 1))) a.data_dev a.hash_dev m.data_dev m.hash_dev b.data_dev b.hash_dev before
          (omega (arith, ap (λ (d : Device). d.failures) kept.device_is)) (omega (arith, found.more, found.beneath_more)) none;
      data_stays = (only_read-then before.data_read beneath.devices.data_read, data-more);
      copies_are = beneath.data_copies_are ∙ kept.copies_are;
    }

    -- it was made, and was written, or not
    pub remade-seen : (bytes : List ℕ) (done : Bool) (c : RepairWorld) → digest j.tree.salt bytes ≡ digest_on p i (l + 1) → IsMadeBeneath j.tree.shape j.tree.salt m.data_dev m.hash_dev l i bytes
        → length bytes ≡ j.tree.shape.hash_block → IsTreePut j.write (position j.tree.shape l (ancestor j.tree.shape (l + 1) i) * (j.tree.shape.hash_block / 512)) bytes done b c
        → IsHashSeen j p l i a c bytes done mended.Remade
    remade-seen bytes done c good made long put = record {
      looked = record {
        seen = found.seen;
        read = found.read;
        more = found.more;
        bad = found.bad;
        copies_read = subst (AreEachRead a.hash_copies) (sym (put.hash_copies_are ∙ beneath.hash_copies_are)) found.copies_read;
        none = subst (IsInNone found) (sym (put.hash_copies_are ∙ beneath.hash_copies_are)) found.none;
        between = b.hash_dev;
        beneath_read = only_read-then found.beneath_read beneath.devices.hash_read;
        beneath_more = omega (arith, found.beneath_more, beneath.hash_more);
        good = good;
        put = subst (λ (n : ℕ). IsAllowedPut j.write b.hash_dev (position j.tree.shape l (ancestor j.tree.shape (l + 1) i) * (j.tree.shape.hash_block / 512)) (n / 512) bytes done c.hash_dev) long put.put;
      };
      made_of = record {
        from = made.from;
        beneath = made.beneath;
        stand = over-before j.tree.shape j.tree.salt a.data_dev a.hash_dev m.data_dev m.hash_dev before made.from (l + 1 - made.from) (ancestor j.tree.shape (l + 1) i) bytes made.stand;
      };
      data_stays = subst (λ (d : Device). IsOnlyRead a.data_dev d × (a.data_dev.failures ≤ d.failures)) (sym put.keeps.device_is) (only_read-then before.data_read beneath.devices.data_read, data-more);
      copies_are = put.keeps.copies_are ∙ beneath.data_copies_are ∙ kept.copies_are;
    }
