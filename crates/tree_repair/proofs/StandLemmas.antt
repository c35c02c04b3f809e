-- A block that a visit left good is good after all later visits.
use Rattle.std.proofs.Common.{◌≡◌, ◌≤◌, ◌<◌, ◌+◌, ◌/◌, ℕ, zero, suc, Bool, true, IsTrue, List, [], ◌∷◌, All, length, refl, sym, ap, ◌∙◌, subst, arith, inl, inr, ◌⊎◌}
use Rattle.std.specs.List.{concat}
use Rattle.std.proofs.lemmas.List.Elements.{All-head, All-tail}
use Rattle.block_device.specs.Device.{Device, IsSameDevice, run_of}
use Rattle.tree_shape.specs.Digests.{digest}
use Rattle.tree_shape.specs.Shape.{ShapeRecord, IsShape, ancestor}
use Rattle.hash_tree.specs.Chain.{formed}
use Rattle.hash_tree.specs.Laws.{FormedChainsAreGood}
use Rattle.tree_path.specs.Path.{PathRecord}
use Rattle.verity_format.proofs.lemmas.DeviceLemmas.{steady-then}
use Rattle.tree_path.proofs.lemmas.PathLemmas.{digest_on-along, leads-along}
use Rattle.tree_survey.specs.Surveys.{Tree, IsWay}
use Rattle.verity_format.specs.Image.{data_sectors, tree_sectors}
use Rattle.tree_repair.specs.declared.mending.Mended.{Mended}
use Rattle.tree_repair.specs.declared.mending.Mended.TheVariants as mended
use Rattle.tree_repair.specs.Mending.{IsMended}
use Rattle.tree_repair.specs.Parity.{IsPlace, end_at}
use Rattle.tree_repair.specs.Runs.{IsDone, IsVisited, Job, OtherStays, VisitsAll, Visit, look_at, other, own, sector_at, size_at}
use Rattle.tree_repair.specs.Standing.{IsLeftGoodIn, IsNotLost, IsSteadyImage, LeftGoodBlocksAreFormatted, LeftGoodBlocksStand, RepairsWriteAll, StandsGood, standing_bytes}
use Rattle.tree_repair.specs.Worlds.{IsWorldRead, RepairWorld}
use Rattle.tree_repair.proofs.ApartLemmas.{IsElsewhere, IsSamePlace, above-same, place-inside, same-or-elsewhere, sector-same}
use Rattle.tree_repair.proofs.LawLemmas.{formed-chain, way-good}
use Rattle.tree_repair.proofs.PutLemmas.{look-good, look-length, look-run, lost-image}
use Rattle.tree_repair.proofs.RunLemmas.{AreSame, other-image, visited-same}

-- ---- steady devices with room for the image

pub record IsRoomy (n : ℕ) (d : Device) : Type 0 where
  pub steady : IsTrue d.steady
  pub room : n ≤ length d.image

pub record IsReady (s : ShapeRecord) (w : RepairWorld) : Type 0 where
  pub data_ready : IsRoomy (data_sectors s) w.data_dev
  pub hash_ready : IsRoomy (tree_sectors s) w.hash_dev

roomy-then : (n : ℕ) (a b : Device) → IsRoomy n a → IsSameDevice a b → length b.image ≡ length a.image → IsRoomy n b
roomy-then n a b ready same long = record { steady = steady-then same ready.steady; room = omega (arith, ready.room, long) }

pub own-ready : (s : ShapeRecord) (h : ℕ) (w : RepairWorld) → IsReady s w → IsRoomy (end_at s h) (own h w)
own-ready s zero w ready = ready.data_ready
own-ready s (suc l) w ready = ready.hash_ready

read-ready : (s : ShapeRecord) (a b : RepairWorld) → IsWorldRead a b → IsReady s a → IsReady s b
read-ready s a b read ready = record {
  data_ready = roomy-then (data_sectors s) a.data_dev b.data_dev ready.data_ready read.data_read.same (ap length (read.data_read.image ready.data_ready.steady));
  hash_ready = roomy-then (tree_sectors s) a.hash_dev b.hash_dev ready.hash_ready read.hash_read.same (ap length (read.hash_read.image ready.hash_ready.steady));
}

-- ---- the same block by another data block beneath it

way-beside : (t : Tree) → IsShape t.shape → (h i k : ℕ) (p : PathRecord) → ancestor t.shape h k ≡ ancestor t.shape h i → IsWay t k h p → IsWay t i h p
way-beside t valid h i k p same way = record {
  is = way.is;
  few = way.few;
  leads = leads-along p k i h (subst (λ (s : ShapeRecord). (m : ℕ) → h < m → ancestor s m k ≡ ancestor s m i) (sym way.is.shape_is) (above-same t.shape valid h i k same)) way.leads;
}

module _ (j : Job) (valid : IsShape j.tree.shape) where
  pub stands-beside : (h i k : ℕ) (w : RepairWorld) → ancestor j.tree.shape h k ≡ ancestor j.tree.shape h i → StandsGood j h k w → StandsGood j h i w
  stands-beside h i k w same stands =
      let s = j.tree.shape in
      let p = stands.p in
      let above : ancestor p.shape h k ≡ ancestor p.shape h i = subst (λ (x : ShapeRecord). ancestor x h k ≡ ancestor x h i) (sym stands.way.is.shape_is) same in
      record {
        p = p;
        way = way-beside j.tree valid h i k p same stands.way;
        good = ap (λ (n : ℕ). digest j.tree.salt (concat (run_of (own h w).image n (size_at s h / 512)))) (sym (sector-same s valid h i k same))
            ∙ stands.good ∙ digest_on-along p k i h above;
      }

  stands-same : (h i g k : ℕ) (w : RepairWorld) → IsSamePlace j.tree.shape h i g k → StandsGood j g k w → StandsGood j h i w
  stands-same h i g k w same stands = stands-beside h i k w same.1 (subst (λ (n : ℕ). StandsGood j n k w) same.0 stands)

-- a block stays good if its bytes stay the same
pub stands-as : (j : Job) (h i : ℕ) (a b : RepairWorld) → standing_bytes j h i b ≡ standing_bytes j h i a → StandsGood j h i a → StandsGood j h i b
stands-as j h i a b same stands = record { p = stands.p; way = stands.way; good = ap (digest j.tree.salt) same ∙ stands.good }

read-bytes : (j : Job) (h i : ℕ) (a b : RepairWorld) → IsWorldRead a b → IsReady j.tree.shape a → standing_bytes j h i b ≡ standing_bytes j h i a
read-bytes j zero i a b read ready = ap (λ (im : List (List ℕ)). concat (run_of im (sector_at j.tree.shape zero i) (size_at j.tree.shape zero / 512))) (read.data_read.image ready.data_ready.steady)
read-bytes j (suc l) i a b read ready = ap (λ (im : List (List ℕ)). concat (run_of im (sector_at j.tree.shape (suc l) i) (size_at j.tree.shape (suc l) / 512))) (read.hash_read.image ready.hash_ready.steady)

-- ---- a visit

module _ (j : Job) (p : PathRecord) (bytes : List ℕ) (a b : RepairWorld) (ready : IsReady j.tree.shape a) where
  place-room : (g k : ℕ) → IsPlace j.tree.shape g k → sector_at j.tree.shape g k + size_at j.tree.shape g / 512 ≤ length (own g a).image
  place-room g k place = omega (arith, place-inside j.tree.shape g k place, (own-ready j.tree.shape g a ready).room)

  -- the block is good, unless it is lost
  own-stands : (g k : ℕ) (m : Mended) → IsTrue j.write → IsPlace j.tree.shape g k → IsWay j.tree k g p → IsMended (look_at j p g k a b) bytes true m → IsNotLost m → StandsGood j g k b
  own-stands g k m write place way looked kept = record {
    p = p;
    way = way;
    good = look-good (look_at j p g k a b) bytes (own-ready j.tree.shape g a ready).steady (place-room g k place) m looked kept write;
  }

  ready-behind : (g k : ℕ) (m : Mended) → IsPlace j.tree.shape g k → IsMended (look_at j p g k a b) bytes true m → OtherStays g m (other g a) (other g b) → AreSame a b → IsReady j.tree.shape b
  ready-behind zero k m place looked stays same = record {
    data_ready = roomy-then (data_sectors j.tree.shape) a.data_dev b.data_dev ready.data_ready same.data_same
        (look-length (look_at j p zero k a b) bytes ready.data_ready.steady (place-room zero k place) m looked);
    hash_ready = roomy-then (tree_sectors j.tree.shape) a.hash_dev b.hash_dev ready.hash_ready same.hash_same (ap length (other-image zero m a.hash_dev b.hash_dev stays ready.hash_ready.steady));
  }
  ready-behind (suc n) k m place looked stays same = record {
    data_ready = roomy-then (data_sectors j.tree.shape) a.data_dev b.data_dev ready.data_ready same.data_same (ap length (other-image (suc n) m a.data_dev b.data_dev stays ready.data_ready.steady));
    hash_ready = roomy-then (tree_sectors j.tree.shape) a.hash_dev b.hash_dev ready.hash_ready same.hash_same
        (look-length (look_at j p (suc n) k a b) bytes ready.hash_ready.steady (place-room (suc n) k place) m looked);
  }

  -- so many sectors of an image that is the same
  image-bytes : (h i : ℕ) (old new : List (List ℕ)) → new ≡ old
      → concat (run_of new (sector_at j.tree.shape h i) (size_at j.tree.shape h / 512)) ≡ concat (run_of old (sector_at j.tree.shape h i) (size_at j.tree.shape h / 512))
  image-bytes h i old new same = ap (λ (im : List (List ℕ)). concat (run_of im (sector_at j.tree.shape h i) (size_at j.tree.shape h / 512))) same

  -- another block keeps its bytes
  elsewhere-bytes : (h i g k : ℕ) (m : Mended) → IsMended (look_at j p g k a b) bytes true m → OtherStays g m (other g a) (other g b) → IsElsewhere j.tree.shape h i g k
      → standing_bytes j h i b ≡ standing_bytes j h i a
  elsewhere-bytes zero i zero k m looked stays apart =
      ap concat (look-run (sector_at j.tree.shape zero i) (size_at j.tree.shape zero / 512) (look_at j p zero k a b) bytes true m looked ready.data_ready.steady apart)
  elsewhere-bytes zero i (suc n) k m looked stays apart = image-bytes zero i a.data_dev.image b.data_dev.image (other-image (suc n) m a.data_dev b.data_dev stays ready.data_ready.steady)
  elsewhere-bytes (suc l) i zero k m looked stays apart = image-bytes (suc l) i a.hash_dev.image b.hash_dev.image (other-image zero m a.hash_dev b.hash_dev stays ready.hash_ready.steady)
  elsewhere-bytes (suc l) i (suc n) k m looked stays apart =
      ap concat (look-run (sector_at j.tree.shape (suc l) i) (size_at j.tree.shape (suc l) / 512) (look_at j p (suc n) k a b) bytes true m looked ready.hash_ready.steady apart)

  -- so do all where one is lost
  lost-bytes : (h i g k : ℕ) → IsMended (look_at j p g k a b) bytes true mended.Lost → OtherStays g mended.Lost (other g a) (other g b) → standing_bytes j h i b ≡ standing_bytes j h i a
  lost-bytes zero i zero k looked stays = image-bytes zero i a.data_dev.image b.data_dev.image (lost-image (look_at j p zero k a b) bytes true looked ready.data_ready.steady)
  lost-bytes zero i (suc n) k looked stays = image-bytes zero i a.data_dev.image b.data_dev.image (other-image (suc n) mended.Lost a.data_dev b.data_dev stays ready.data_ready.steady)
  lost-bytes (suc l) i zero k looked stays = image-bytes (suc l) i a.hash_dev.image b.hash_dev.image (other-image zero mended.Lost a.hash_dev b.hash_dev stays ready.hash_ready.steady)
  lost-bytes (suc l) i (suc n) k looked stays = image-bytes (suc l) i a.hash_dev.image b.hash_dev.image (lost-image (look_at j p (suc n) k a b) bytes true looked ready.hash_ready.steady)

pub lost-or : (m : Mended) → (m ≡ mended.Lost) ⊎ IsNotLost m
lost-or mended.Good = inr tt
lost-or (mended.Copy k) = inr tt
lost-or mended.Remade = inr tt
lost-or mended.Parity = inr tt
lost-or mended.Lost = inl refl

module _ (j : Job) (valid : IsShape j.tree.shape) (write : IsTrue j.write) where
  module _ (v : Visit) (a b : RepairWorld) (here : IsVisited j v a b) (done : v.done ≡ true) (ready : IsReady j.tree.shape a) where
    looked : IsMended (look_at j here.p v.height v.index a b) v.bytes true v.mended
    looked = subst (λ (d : Bool). IsMended (look_at j here.p v.height v.index a b) v.bytes d v.mended) done here.mended_as

    place : IsPlace j.tree.shape v.height v.index
    place = record { valid = valid; inside = here.inside; high = here.way.few }

    visit-ready : IsReady j.tree.shape b
    visit-ready = ready-behind j here.p v.bytes a b ready v.height v.index v.mended place looked here.other_stays (visited-same j v a b here)

    visit-stands : IsNotLost v.mended → StandsGood j v.height v.index b
    visit-stands kept = own-stands j here.p v.bytes a b ready v.height v.index v.mended write place here.way looked kept

    -- what is good stays so
    visit-keeps : (h i : ℕ) → IsPlace j.tree.shape h i → StandsGood j h i a → StandsGood j h i b
    visit-keeps h i at stands = elim (lost-or v.mended) [
      | inl lost ↦
          stands-as j h i a b (lost-bytes j here.p v.bytes a b ready h i v.height v.index
          (subst (λ (m : Mended). IsMended (look_at j here.p v.height v.index a b) v.bytes true m) lost looked)
          (subst (λ (m : Mended). OtherStays v.height m (other v.height a) (other v.height b)) lost here.other_stays)) stands
      | inr kept ↦ elim (same-or-elsewhere j.tree.shape h i v.height v.index at place) [
        | inl same ↦ stands-same j valid h i v.height v.index b same (visit-stands kept)
        | inr apart ↦ stands-as j h i a b (elsewhere-bytes j here.p v.bytes a b ready h i v.height v.index v.mended looked here.other_stays apart) stands
      ]
    ]

  -- ---- one after another

  pub runs-ready : (vs : List Visit) (a b : RepairWorld) → VisitsAll j vs a b → All IsDone vs → IsReady j.tree.shape a → IsReady j.tree.shape b
  runs-ready [] a b read done ready = read-ready j.tree.shape a b read ready
  runs-ready (v ∷ more) a b (x, (y, (read, (here, rest)))) done ready =
      runs-ready more y b rest (All-tail IsDone v more done) (visit-ready v x y here (All-head IsDone v more done) (read-ready j.tree.shape a x read ready))

  pub runs-keep : (vs : List Visit) (a b : RepairWorld) → VisitsAll j vs a b → All IsDone vs → IsReady j.tree.shape a → (h i : ℕ) → IsPlace j.tree.shape h i → StandsGood j h i a → StandsGood j h i b
  runs-keep [] a b read done ready h i at stands = stands-as j h i a b (read-bytes j h i a b read ready) stands
  runs-keep (v ∷ more) a b (x, (y, (read, (here, rest)))) done ready h i at stands =
      let one : v.done ≡ true = All-head IsDone v more done in
      let now : IsReady j.tree.shape x = read-ready j.tree.shape a x read ready in
      runs-keep more y b rest (All-tail IsDone v more done) (visit-ready v x y here one now) h i at
      (visit-keeps v x y here one now h i at (stands-as j h i a x (read-bytes j h i a x read ready) stands))

  pub runs-stand : (vs : List Visit) (a b : RepairWorld) → VisitsAll j vs a b → All IsDone vs → IsReady j.tree.shape a → (h i : ℕ) → i < j.tree.shape.blocks → IsLeftGoodIn j.tree.shape h i vs → StandsGood j h i b
  runs-stand [] a b read done ready h i inside left = absurd left
  runs-stand (v ∷ more) a b (x, (y, (read, (here, rest)))) done ready h i inside (inl left) =
      let one : v.done ≡ true = All-head IsDone v more done in
      let now : IsReady j.tree.shape x = read-ready j.tree.shape a x read ready in
      let at : IsPlace j.tree.shape h i = record { valid = valid; inside = inside; high = omega (arith, here.way.few, left.at.height_is) } in
      let stands : StandsGood j h i y = stands-same j valid h i v.height v.index y (left.at.height_is, left.at.same) (visit-stands v x y here one now left.kept) in
      runs-keep more y b rest (All-tail IsDone v more done) (visit-ready v x y here one now) h i at stands
  runs-stand (v ∷ more) a b (x, (y, (read, (here, rest)))) done ready h i inside (inr later) =
      let one : v.done ≡ true = All-head IsDone v more done in
      let now : IsReady j.tree.shape x = read-ready j.tree.shape a x read ready in
      runs-stand more y b rest (All-tail IsDone v more done) (visit-ready v x y here one now) h i inside later

pub image-ready : (s : ShapeRecord) (w : RepairWorld) → IsSteadyImage s w → IsReady s w
image-ready s w image = record {
  data_ready = record { steady = image.steady.data_steady; room = omega (arith, image.data_fits, image.steady.data_whole.length) };
  hash_ready = record { steady = image.steady.hash_steady; room = omega (arith, image.tree_fits, image.steady.hash_whole.length) };
}

pub left-good-stand : LeftGoodBlocksStand
left-good-stand j vs w w' run h i inside left = runs-stand j run.image.valid run.write vs w w' run.runs run.done (image-ready j.tree.shape w run.image) h i inside left

-- so it is the block of all data that are formatted with the root
pub left-good-formatted : FormedChainsAreGood → LeftGoodBlocksAreFormatted
left-good-formatted form j vs w w' run h i inside left contents are =
    let stands : StandsGood j h i w' = left-good-stand j vs w w' run h i inside left in
    way-good j.tree stands.p i h (standing_bytes j h i w') (formed j.tree.shape j.tree.salt contents i) stands.way (formed-chain form j.tree contents are i inside) stands.good

-- ---- a repair

pub repairs-write : RepairsWriteAll
repairs-write plan parity w w' old new r write steady = record {
  image = record { valid = r.lies.valid; steady = steady; data_fits = r.lies.data_fits; tree_fits = r.lies.tree_fits };
  write = write;
  runs = r.run.runs;
  done = r.run.done refl;
}
