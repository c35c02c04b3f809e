-- Steady, whole devices stay so in a repair without a failed write.
use Rattle.std.proofs.Common.{◌≡◌, ◌≤◌, ◌+◌, ◌*◌, ◌/◌, ℕ, zero, suc, Bool, true, false, IsTrue, List, [], ◌∷◌, ◌++◌, All, Option, None, length, take, drop, refl, sym, ap, ◌∙◌, subst, arith}
use Rattle.std.proofs.lemmas.List.Elements.{All-append, All-drop, All-head, All-tail, All-take}
use Rattle.block_device.specs.Device.{Device, IsSameDevice, IsSector, IsWhole, sectors_of, spliced}
use Rattle.block_device.specs.Whole.{each-sectors_of}
use Rattle.tree_shape.specs.Shape.{ShapeRecord}
use Rattle.verity_format.proofs.lemmas.DeviceLemmas.{steady-then}
use Rattle.tree_path.specs.Path.{PathRecord}
use Rattle.tree_repair.specs.declared.mending.Mended.{Mended}
use Rattle.tree_repair.specs.declared.mending.Mended.TheVariants as mended
use Rattle.tree_repair.specs.declared.repair.Plan.{Plan}
use Rattle.tree_repair.specs.Mending.{BlockCheck, IsAllowedPut, IsMended}
use Rattle.tree_repair.specs.Parity.{IsPlace}
use Rattle.tree_repair.specs.Repairs.{Repairs, job_of}
use Rattle.tree_repair.specs.Runs.{IsDone, IsVisited, Job, OtherStays, Visit, VisitsAll, look_at, other, own, sector_at, size_at}
use Rattle.tree_repair.specs.Standing.{IsSteadyImage, IsWorldSteady}
use Rattle.tree_repair.specs.Worlds.{IsWorldRead, RepairWorld}
use Rattle.tree_repair.proofs.ApartLemmas.{place-inside}
use Rattle.tree_repair.proofs.PutLemmas.{look-length}
use Rattle.tree_repair.proofs.RunLemmas.{AreSame, other-image, read-same, visited-same}
use Rattle.tree_repair.proofs.StandLemmas.{image-ready, own-ready}

-- ---- a device

record IsSound (d : Device) : Type 0 where
  pub whole : IsWhole d
  pub steady : IsTrue d.steady

sound-as : (a b : Device) → IsSameDevice a b → length b.image ≡ length a.image → All IsSector b.image → IsSound a → IsSound b
sound-as a b same long sectors sound = record {
  whole = record { length = long ∙ sound.whole.length ∙ sym same.size; sectors = sectors };
  steady = steady-then same sound.steady;
}

sound-same : (a b : Device) → IsSameDevice a b → b.image ≡ a.image → IsSound a → IsSound b
sound-same a b same image sound = sound-as a b same (ap (λ (l : List (List ℕ)). length l) image) (subst (λ (l : List (List ℕ)). All IsSector l) (sym image) sound.whole.sectors) sound

-- ---- the sectors after a write

splice-sectors : (image : List (List ℕ)) (first n : ℕ) (bytes : List ℕ) → 512 * n ≤ length bytes → All IsSector image → All IsSector (spliced image first (sectors_of n bytes))
splice-sectors image first n bytes long each =
    let sectors : List (List ℕ) = sectors_of n bytes in
    let before : List (List ℕ) = take first image in
    let behind : List (List ℕ) = drop (first + length sectors) image in
    All-append IsSector (before ++ sectors) behind (All-append IsSector before sectors (All-take IsSector first image each) (each-sectors_of n bytes long))
    (All-drop IsSector (first + length sectors) image each)

put-sectors : (write : Bool) (old : Device) (first n : ℕ) (bytes : List ℕ) (new : Device) → IsAllowedPut write old first n bytes true new → IsTrue old.steady → All IsSector old.image → All IsSector new.image
put-sectors true old first n bytes new put steady each =
    let long : 512 * n ≤ length bytes = omega (arith, put.whole) in
    subst (λ (l : List (List ℕ)). All IsSector l) (sym (put.image refl steady)) (splice-sectors old.image first n bytes long each)
put-sectors false old first n bytes new put steady each = subst (λ (d : Device). All IsSector d.image) (sym put.0) each

module _ (l : BlockCheck) (bytes : List ℕ) (steady : IsTrue l.old.steady) (each : All IsSector l.old.image) where
  as-read : (d : Device) → d.image ≡ l.old.image → All IsSector d.image
  as-read d same = subst (λ (im : List (List ℕ)). All IsSector im) (sym same) each

  look-sectors : (m : Mended) → IsMended l bytes true m → All IsSector l.new.image
  look-sectors mended.Good found = as-read l.new (found.read.image steady)
  look-sectors (mended.Copy k) found =
      put-sectors l.write found.between l.first l.w.sectors bytes l.new found.put (steady-then found.read.same steady) (as-read found.between (found.read.image steady))
  look-sectors mended.Remade found =
      let seen : IsTrue found.seen.steady = steady-then found.read.same steady in
      let same : found.between.image ≡ l.old.image = found.beneath_read.image seen ∙ found.read.image steady in
      put-sectors l.write found.between l.first l.w.sectors bytes l.new found.put (steady-then found.beneath_read.same seen) (as-read found.between same)
  look-sectors mended.Parity found =
      let r = found.replaced in
      put-sectors l.write r.between l.first l.w.sectors bytes l.new r.put (steady-then r.read.same steady) (as-read r.between (r.read.image steady))
  look-sectors mended.Lost found = as-read l.new (found.beneath_read.image (steady-then found.read.same steady) ∙ found.read.image steady)

-- ---- the two devices of an image

own-sound : (h : ℕ) (w : RepairWorld) → IsWorldSteady w → IsSound (own h w)
own-sound zero w steady = record { whole = steady.data_whole; steady = steady.data_steady }
own-sound (suc l) w steady = record { whole = steady.hash_whole; steady = steady.hash_steady }

other-sound : (h : ℕ) (w : RepairWorld) → IsWorldSteady w → IsSound (other h w)
other-sound zero w steady = record { whole = steady.hash_whole; steady = steady.hash_steady }
other-sound (suc l) w steady = record { whole = steady.data_whole; steady = steady.data_steady }

own-same : (h : ℕ) (a b : RepairWorld) → AreSame a b → IsSameDevice (own h a) (own h b)
own-same zero a b same = same.data_same
own-same (suc l) a b same = same.hash_same

beside-same : (h : ℕ) (a b : RepairWorld) → AreSame a b → IsSameDevice (other h a) (other h b)
beside-same zero a b same = same.hash_same
beside-same (suc l) a b same = same.data_same

both-sound : (h : ℕ) (w : RepairWorld) → IsSound (own h w) → IsSound (other h w) → IsWorldSteady w
both-sound zero w here there = record { data_whole = here.whole; hash_whole = there.whole; data_steady = here.steady; hash_steady = there.steady }
both-sound (suc l) w here there = record { data_whole = there.whole; hash_whole = here.whole; data_steady = there.steady; hash_steady = here.steady }

image-as : (s : ShapeRecord) (a b : RepairWorld) → AreSame a b → IsSteadyImage s a → IsWorldSteady b → IsSteadyImage s b
image-as s a b same image steady = record {
  valid = image.valid;
  steady = steady;
  data_fits = omega (arith, image.data_fits, same.data_same.size);
  tree_fits = omega (arith, image.tree_fits, same.hash_same.size);
}

read-steady : (s : ShapeRecord) (a b : RepairWorld) → IsWorldRead a b → IsSteadyImage s a → IsSteadyImage s b
read-steady s a b read image =
    let steady = image.steady in
    image-as s a b (read-same a b read) image
    (both-sound zero b (sound-same a.data_dev b.data_dev read.data_read.same (read.data_read.image steady.data_steady) (own-sound zero a steady))
    (sound-same a.hash_dev b.hash_dev read.hash_read.same (read.hash_read.image steady.hash_steady) (other-sound zero a steady)))

-- ---- a visit

look-sound : (j : Job) (p : PathRecord) (h i : ℕ) (bytes : List ℕ) (m : Mended) (a b : RepairWorld) → IsMended (look_at j p h i a b) bytes true m
    → sector_at j.tree.shape h i + size_at j.tree.shape h / 512 ≤ length (own h a).image → IsSameDevice (own h a) (own h b) → IsSound (own h a) → IsSound (own h b)
look-sound j p h i bytes m a b looked room same sound =
    sound-as (own h a) (own h b) same (look-length (look_at j p h i a b) bytes sound.steady room m looked) (look-sectors (look_at j p h i a b) bytes sound.steady sound.whole.sectors m looked) sound

beside-sound : (h : ℕ) (m : Mended) (a b : RepairWorld) → OtherStays h m (other h a) (other h b) → IsSameDevice (other h a) (other h b) → IsSound (other h a) → IsSound (other h b)
beside-sound h m a b stays same sound = sound-same (other h a) (other h b) same (other-image h m (other h a) (other h b) stays sound.steady) sound

visit-steady : (j : Job) (v : Visit) (a b : RepairWorld) → IsVisited j v a b → v.done ≡ true → IsSteadyImage j.tree.shape a → IsSteadyImage j.tree.shape b
visit-steady j v a b here done image =
    let s = j.tree.shape in
    let h = v.height in
    let looked : IsMended (look_at j here.p h v.index a b) v.bytes true v.mended = subst (λ (d : Bool). IsMended (look_at j here.p h v.index a b) v.bytes d v.mended) done here.mended_as in
    let place : IsPlace s h v.index = record { valid = image.valid; inside = here.inside; high = here.way.few } in
    let room : sector_at s h v.index + size_at s h / 512 ≤ length (own h a).image = omega (arith, place-inside s h v.index place, (own-ready s h a (image-ready s a image)).room) in
    let same = visited-same j v a b here in
    image-as s a b same image
    (both-sound h b (look-sound j here.p h v.index v.bytes v.mended a b looked room (own-same h a b same) (own-sound h a image.steady))
    (beside-sound h v.mended a b here.other_stays (beside-same h a b same) (other-sound h a image.steady)))

-- ---- one after another

runs-steady : (j : Job) (vs : List Visit) (a b : RepairWorld) → VisitsAll j vs a b → All IsDone vs → IsSteadyImage j.tree.shape a → IsSteadyImage j.tree.shape b
runs-steady j [] a b read done image = read-steady j.tree.shape a b read image
runs-steady j (v ∷ more) a b (x, (y, (read, (here, rest)))) done image =
    let one : v.done ≡ true = All-head IsDone v more done in
    runs-steady j more y b rest (All-tail IsDone v more done) (visit-steady j v x y here one (read-steady j.tree.shape a x read image))

pub repaired-steady : (plan : Plan) (parity : Bool) (w w' : RepairWorld) (old new : Option (List ℕ)) → Repairs plan parity w w' old new None → IsWorldSteady w → IsWorldSteady w'
repaired-steady plan parity w w' old new r steady =
    let image : IsSteadyImage plan.tree.shape w = record { valid = r.lies.valid; steady = steady; data_fits = r.lies.data_fits; tree_fits = r.lies.tree_fits } in
    (runs-steady (job_of plan parity) r.run.visits w w' r.run.runs (r.run.done refl) image).steady
