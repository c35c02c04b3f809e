-- Blocks restored by parity are visits of the image.
use Rattle.std.proofs.Common.{◌≡◌, ◌≢◌, ◌≤◌, ◌<◌, ◌+◌, ◌*◌, ◌/◌, ◌^◌, ℕ, zero, suc, refl, sym, ap, ◌∙◌, subst, arith, true, false, Bool, List, Option, Some, None, Result, Ok, Err, IsTrue, inr}
use Rattle.std.specs.Prelude.{IfErr, IfNone, IfOk, IfSome, IsErrAnd, OnErr}
use Rattle.std.proofs.lemmas.Bool.{false≢true}
use Rattle.block_device.specs.Device.{Device, IsInside}
use Rattle.fec_area.specs.declared.layout.Layout.{Layout}
use Rattle.fec_area.specs.Layouts.{IsOfData, IsOfHash, IsOffHash}
use Rattle.fec_area.specs.Correcting.{IsCorrectCause}
use Rattle.fec_area.specs.Restoring.{IsOtherCause, IsRestoreCause}
use Rattle.fec_area.specs.declared.restoring.RestoreFault.{RestoreFault}
use Rattle.fec_area.specs.declared.restoring.RestoreFault.TheVariants as restore
use Rattle.verity_format.specs.declared.verifying.VerifyFault.TheVariants.{NoMemory}
use Rattle.tree_repair.specs.declared.fault.RepairFault.{RepairFault}
use Rattle.tree_repair.specs.declared.fault.RepairFault.TheVariants.{Image}
use Rattle.tree_repair.specs.declared.losses.Losses.{Losses}
use Rattle.tree_shape.specs.Shape.{ShapeRecord, IsShape, ancestor, position, area_end}
use Rattle.tree_path.specs.Path.{PathRecord, digest_on}
use Rattle.verity_format.proofs.lemmas.DeviceLemmas.{only_read-none}
use Rattle.verity_format.proofs.lemmas.SizeLemmas.{IsBlock, block-inside, block-size}
use Rattle.tree_survey.specs.Surveys.{IsWay}
use Rattle.tree_repair.specs.declared.mending.Mended.TheVariants as mended
use Rattle.tree_repair.specs.Mending.{IsBlockReplaced}
use Rattle.tree_repair.specs.Parity.{FailsToPlace, IsBack, IsGoodNow, IsNotBack, IsOfBlocks, IsPlace, IsPlaced, IsPutOr, end_at}
use Rattle.tree_repair.specs.Runs.{IsRefusal, IsVisited, Job, sector_at, size_at, visit}
use Rattle.tree_repair.specs.Worlds.{RepairWorld, repair_world}
use Rattle.tree_repair.specs.Sources.{IsThere, wanted}
use Rattle.tree_repair.specs.ParitySearches.{IsCoveredOr}
use Rattle.tree_repair.proofs.SourceLemmas.{each-none}

-- what holds of a result that is a fault
pub if_ok-from : {T E : Type 0} (r : Result T E) (P : E → Type 0) (Q : T → Type 0) → IsErrAnd r P → IfOk r Q
if_ok-from (Ok x) P Q is = absurd is
if_ok-from (Err e) P Q is = tt

-- what holds of a fault holds of the result that hands it on
pub err-from : {T : Type 0} (r : Result T RepairFault) (P : RepairFault → Type 0) (fault : RepairFault) → IsErrAnd r (λ e. e ≡ fault) → P fault → IfErr r P
err-from (Ok x) P fault is holds = tt
err-from (Err e) P fault is holds = subst P (sym is) holds

-- ---- a block that isn't restored

-- what the two ends of a failed restoration are: it stays lost, or the allocation was refused
abbrev pub StaysLost : RestoreFault → Result Bool RepairFault → Type 0
StaysLost fault r = IfOk r (λ back. (back ≡ false) × (fault ≢ restore.NoMemory))

abbrev pub EndsRefused : RestoreFault → Result Bool RepairFault → Type 0
EndsRefused fault r = IfErr r (λ given. (given ≡ Image NoMemory) × (fault ≡ restore.NoMemory))

pub unback : (l : Losses) (w : RepairWorld) (p : Device) (index : ℕ) (bytes : List ℕ) (fault : RestoreFault) (r : Result Bool RepairFault) → StaysLost fault r → IfOk r (IsBack l w p index bytes)
unback l w p index bytes fault (Ok back) lost = λ yes. absurd (false≢true (sym lost.0 ∙ yes))
unback l w p index bytes fault (Err given) lost = tt

of-blocks : (d h p : Device) (fault : RestoreFault) → fault ≢ restore.NoMemory → IsOtherCause d h p fault → IsOfBlocks d h p fault
of-blocks d h p (restore.TooManyLost count) other sure = tt
of-blocks d h p (restore.TooSmall needed) other sure = tt
of-blocks d h p restore.Device other sure = λ never. sure never refl
of-blocks d h p restore.NoMemory other sure = absurd (other refl)

pub lacks-lost : (l : Losses) (index : ℕ) (w w' : RepairWorld) (p p' : Device) (fault : RestoreFault) (r : Result Bool RepairFault) → StaysLost fault r → IsOtherCause w.data_dev w.hash_dev p fault
    → IsRestoreCause l.layout l.lost.items index w.data_dev w.hash_dev p w'.data_dev w'.hash_dev p' fault → IfOk r (IsNotBack l index w w' p p')
lacks-lost l index w w' p p' fault (Ok back) lost sure cause = λ no. (fault, (of-blocks w.data_dev w.hash_dev p fault lost.1 sure, cause))
lacks-lost l index w w' p p' fault (Err given) lost sure cause = tt

pub refusal-from : (l : Layout) (lost : List ℕ) (index : ℕ) (d h p d' h' p' : Device) (fault : RestoreFault) (r : Result Bool RepairFault) → EndsRefused fault r → IsRestoreCause l lost index d h p d' h' p' fault → IfErr r IsRefusal
refusal-from l lost index d h p d' h' p' fault (Ok back) is cause = tt
refusal-from l lost index d h p d' h' p' fault (Err given) is cause = (is.0, (subst (λ (f : RestoreFault). IsRestoreCause l lost index d h p d' h' p' f) is.1 cause).1)

pub refusal-corrected : (l : Layout) (d h p d' h' p' : Device) (fault : RestoreFault) (r : Result Bool RepairFault) → EndsRefused fault r → IsCorrectCause l d h p d' h' p' fault → IfErr r IsRefusal
refusal-corrected l d h p d' h' p' fault (Ok back) is cause = tt
refusal-corrected l d h p d' h' p' fault (Err given) is cause = (is.0, (subst (λ (f : RestoreFault). IsCorrectCause l d h p d' h' p' f) is.1 cause).1)

-- ---- which covered block a block is

pub covered-data : (s : ShapeRecord) (l : Layout) (h i : ℕ) (r : Option ℕ) → IsPlace s h i → l.block ≡ size_at s h → h ≡ 0 → IfSome r (IsOfData l i) → IfNone r (l.data_blocks ≤ i) → IsCoveredOr s l h i r
covered-data s l zero i None place size none known off = λ there. inr off
covered-data s l zero i (Some k) place size none known off = record { place = place; size = size; inside = known.is_covered; is = known }
covered-data s l (suc h) i r place size none known off = absurd (omega (arith, none))

pub covered-hash : (s : ShapeRecord) (l : Layout) (h i : ℕ) (r : Option ℕ) → IsPlace s (suc h) i → l.block ≡ size_at s (suc h) → IfSome r (IsOfHash l (position s h (ancestor s (h + 1) i)))
    → IfNone r (IsOffHash l (position s h (ancestor s (h + 1) i))) → IsCoveredOr s l (suc h) i r
covered-hash s l h i None place size known off = λ there. inr off
covered-hash s l h i (Some k) place size known off = record { place = place; size = size; inside = known.is_covered; is = known }

-- ---- where a block lies

pub size-block : (s : ShapeRecord) (h : ℕ) → IsShape s → IsBlock (size_at s h)
size-block s zero valid = block-size s.data_block valid.data_size
size-block s (suc l) valid = block-size s.hash_block valid.hash_size

pub inside-place : (s : ShapeRecord) (h first len : ℕ) (d : Device) → IsShape s → len ≡ size_at s h → first + size_at s h / 512 ≤ end_at s h → end_at s h ≤ d.size → IsInside d first len
inside-place s h first len d valid size inside room =
    let block = size-block s h valid in
    rw size (record { some = block.some; whole = block.whole; inside = omega (arith, inside, room) })

-- by its first sector
pub sector-data : (s : ShapeRecord) (h i k : ℕ) → h ≡ 0 → k ≡ size_at s h → i * (k / 512) ≡ sector_at s h i
sector-data s zero i k none is = ap (λ (n : ℕ). i * (n / 512)) is
sector-data s (suc l) i k none is = absurd (omega (arith, none))

pub sector-hash : (s : ShapeRecord) (h l i k at : ℕ) → h ≡ suc l → k ≡ size_at s h → at ≡ position s l (ancestor s (l + 1) i) → at * (k / 512) ≡ sector_at s h i
sector-hash s h l i k at some is place =
    ap (λ (n : ℕ). at * (n / 512)) (is ∙ ap (size_at s) some) ∙ ap (λ (n : ℕ). n * (s.hash_block / 512)) place ∙ ap (λ (n : ℕ). sector_at s n i) (sym some)

pub inside-data : (s : ShapeRecord) (h i k : ℕ) → h ≡ 0 → k ≡ size_at s h → i < s.blocks → i * (k / 512) + size_at s h / 512 ≤ end_at s h
inside-data s zero i k none is below = rw is (block-inside i s.blocks (s.data_block / 512) below)
inside-data s (suc l) i k none is below = absurd (omega (arith, none))

pub inside-hash : (s : ShapeRecord) (h l k at : ℕ) → h ≡ suc l → k ≡ size_at s h → at < area_end s → at * (k / 512) + size_at s h / 512 ≤ end_at s h
inside-hash s zero l k at some is below = absurd (omega (arith, some))
inside-hash s (suc m) l k at some is below = rw is (block-inside at (area_end s) (s.hash_block / 512) below)

pub end-small : (s : ShapeRecord) (h : ℕ) → IsShape s → end_at s h ≤ 2 ^ 54
end-small s zero valid = valid.data_fits
end-small s (suc l) valid = valid.tree_fits

-- ---- a block that was read is good

module _ (j : Job) (p : PathRecord) (h i : ℕ) (d e : Device) (cs es : List Device) (way : IsWay j.tree i h p) where
  pub good-data : h ≡ 0 → (read : List ℕ) × IsThere d (sector_at j.tree.shape h i) (wanted j.tree.salt (digest_on p i h) (size_at j.tree.shape h / 512)) read → IsGoodNow j h i (repair_world d e cs es)
  good-data none there =
      subst (λ (n : ℕ). IsGoodNow j n i (repair_world d e cs es)) (sym none)
      (record {
        p = p;
        way = subst (λ (n : ℕ). IsWay j.tree i n p) none way;
        bytes = there.0;
        there = subst (λ (n : ℕ). IsThere d (sector_at j.tree.shape n i) (wanted j.tree.salt (digest_on p i n) (size_at j.tree.shape n / 512)) there.0) none there.1;
      })

  pub good-hash : (l : ℕ) → h ≡ suc l → (read : List ℕ) × IsThere d (sector_at j.tree.shape h i) (wanted j.tree.salt (digest_on p i h) (size_at j.tree.shape h / 512)) read → IsGoodNow j h i (repair_world e d es cs)
  good-hash l some there =
      subst (λ (n : ℕ). IsGoodNow j n i (repair_world e d es cs)) (sym some)
      (record {
        p = p;
        way = subst (λ (n : ℕ). IsWay j.tree i n p) some way;
        bytes = there.0;
        there = subst (λ (n : ℕ). IsThere d (sector_at j.tree.shape n i) (wanted j.tree.salt (digest_on p i n) (size_at j.tree.shape n / 512)) there.0) some there.1;
      })

-- ---- a block that was put is a visit

module _ (j : Job) (p : PathRecord) (h i : ℕ) (bytes : List ℕ) (d d' e : Device) (cs es : List Device) (asked : IsTrue j.parity) (inside : i < j.tree.shape.blocks) (way : IsWay j.tree i h p) where
  data-visit : (done : Bool) → h ≡ 0 → IsBlockReplaced d (sector_at j.tree.shape h i) (wanted j.tree.salt (digest_on p i h) (size_at j.tree.shape h / 512)) j.write bytes done d'
      → IsVisited j (visit h i mended.Parity bytes done) (repair_world d e cs es) (repair_world d' e cs es)
  data-visit done none put =
      subst (λ (n : ℕ). IsVisited j (visit n i mended.Parity bytes done) (repair_world d e cs es) (repair_world d' e cs es)) (sym none)
      (record {
        inside = inside;
        p = p;
        way = subst (λ (n : ℕ). IsWay j.tree i n p) none way;
        mended_as = record {
          replaced = subst (λ (n : ℕ). IsBlockReplaced d (sector_at j.tree.shape n i) (wanted j.tree.salt (digest_on p i n) (size_at j.tree.shape n / 512)) j.write bytes done d') none put;
          copies_read = each-none cs;
        };
        made_of = asked;
        other_stays = refl;
        copies_are = refl;
      })

  hash-visit : (l : ℕ) (done : Bool) → h ≡ suc l → IsBlockReplaced d (sector_at j.tree.shape h i) (wanted j.tree.salt (digest_on p i h) (size_at j.tree.shape h / 512)) j.write bytes done d'
      → IsVisited j (visit h i mended.Parity bytes done) (repair_world e d es cs) (repair_world e d' es cs)
  hash-visit l done some put =
      subst (λ (n : ℕ). IsVisited j (visit n i mended.Parity bytes done) (repair_world e d es cs) (repair_world e d' es cs)) (sym some)
      (record {
        inside = inside;
        p = p;
        way = subst (λ (n : ℕ). IsWay j.tree i n p) some way;
        mended_as = record {
          replaced = subst (λ (n : ℕ). IsBlockReplaced d (sector_at j.tree.shape n i) (wanted j.tree.salt (digest_on p i n) (size_at j.tree.shape n / 512)) j.write bytes done d') some put;
          copies_read = each-none cs;
        };
        made_of = asked;
        other_stays = refl;
        copies_are = refl;
      })

  data-or : (back : Bool) → h ≡ 0 → IsPutOr d (sector_at j.tree.shape h i) (wanted j.tree.salt (digest_on p i h) (size_at j.tree.shape h / 512)) j.write bytes d' back → IsPlaced j h i bytes (repair_world d e cs es) (repair_world d' e cs es) back
  data-or true none put = data-visit true none put
  data-or false none put = (record { data_read = put.0.0; hash_read = only_read-none e; data_more = put.0.1; hash_more = omega arith; data_copies_read = each-none cs; hash_copies_read = each-none es }, good-data j p h i d e cs es way none put.1)

  hash-or : (l : ℕ) (back : Bool) → h ≡ suc l → IsPutOr d (sector_at j.tree.shape h i) (wanted j.tree.salt (digest_on p i h) (size_at j.tree.shape h / 512)) j.write bytes d' back → IsPlaced j h i bytes (repair_world e d es cs) (repair_world e d' es cs) back
  hash-or l true some put = hash-visit l true some put
  hash-or l false some put = (record { data_read = only_read-none e; hash_read = put.0.0; data_more = omega arith; hash_more = put.0.1; data_copies_read = each-none es; hash_copies_read = each-none cs }, good-hash j p h i d e cs es way l some put.1)

  pub data-placed : {E : Type 0} (r : Result Bool E) → h ≡ 0 → IfOk r (IsPutOr d (sector_at j.tree.shape h i) (wanted j.tree.salt (digest_on p i h) (size_at j.tree.shape h / 512)) j.write bytes d')
      → IfOk r (IsPlaced j h i bytes (repair_world d e cs es) (repair_world d' e cs es))
  data-placed (Ok back) none put = data-or back none put
  data-placed (Err fault) none put = tt

  pub data-unplaced : {E : Type 0} (r : Result Bool E) → h ≡ 0 → OnErr r (IsBlockReplaced d (sector_at j.tree.shape h i) (wanted j.tree.salt (digest_on p i h) (size_at j.tree.shape h / 512)) j.write bytes false d')
      → OnErr r (FailsToPlace j h i bytes (repair_world d e cs es) (repair_world d' e cs es))
  data-unplaced (Ok back) none put = tt
  data-unplaced (Err fault) none put = data-visit false none put

  pub hash-placed : {E : Type 0} (l : ℕ) (r : Result Bool E) → h ≡ suc l → IfOk r (IsPutOr d (sector_at j.tree.shape h i) (wanted j.tree.salt (digest_on p i h) (size_at j.tree.shape h / 512)) j.write bytes d')
      → IfOk r (IsPlaced j h i bytes (repair_world e d es cs) (repair_world e d' es cs))
  hash-placed l (Ok back) some put = hash-or l back some put
  hash-placed l (Err fault) some put = tt

  pub hash-unplaced : {E : Type 0} (l : ℕ) (r : Result Bool E) → h ≡ suc l → OnErr r (IsBlockReplaced d (sector_at j.tree.shape h i) (wanted j.tree.salt (digest_on p i h) (size_at j.tree.shape h / 512)) j.write bytes false d')
      → OnErr r (FailsToPlace j h i bytes (repair_world e d es cs) (repair_world e d' es cs))
  hash-unplaced l (Ok back) some put = tt
  hash-unplaced l (Err fault) some put = hash-visit l false some put
