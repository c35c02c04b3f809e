-- What a look at a block leaves on a steady device: of the block, and of other sectors.
use Rattle.std.proofs.Common.{◌≡◌, ◌≤◌, ◌+◌, ◌-◌, ◌*◌, ℕ, Bool, true, false, IsTrue, List, ◌++◌, length, take, drop, refl, sym, ap, ◌∙◌, arith, inl, inr, ◌⊎◌}
use Rattle.std.specs.List.{concat}
use Rattle.std.proofs.lemmas.Bool.{false≢true}
use Rattle.std.proofs.lemmas.List.{append_assoc, drop-drop, drop-take, drop_at, length-append, length-drop, length-take-le, take-take, take_all, take_at}
use Rattle.block_device.specs.Device.{Device, IsWritten, run_of, sectors_of, spliced}
use Rattle.block_device.specs.Whole.{length-sectors_of}
use Rattle.block_device.proofs.lemmas.SectorLemmas.{concat-sectors_of}
use Rattle.tree_shape.specs.Digests.{digest}
use Rattle.verity_format.proofs.lemmas.DeviceLemmas.{steady-then}
use Rattle.tree_repair.specs.declared.mending.Mended.{Mended}
use Rattle.tree_repair.specs.declared.mending.Mended.TheVariants as mended
use Rattle.tree_repair.specs.Mending.{IsAllowedPut, IsBlockPut, IsMended, BlockCheck}
use Rattle.tree_repair.specs.Sources.{bytes_on_device}
use Rattle.tree_repair.specs.Standing.{IsNotLost}

-- ---- sectors that a write leaves

run-before : (image : List (List ℕ)) (f n first : ℕ) → f + n ≤ first → run_of image f n ≡ drop f (take (f + n) (take first image))
run-before image f n first low = sym (drop-take f n image) ∙ ap (drop f) (sym (take-take (f + n) first image low))

run-behind : (image : List (List ℕ)) (f n end : ℕ) → end ≤ f → run_of image f n ≡ take n (drop (f - end) (drop end image))
run-behind image f n end high =
    let at : f ≡ end + (f - end) = omega (arith, high) in
    ap (λ (k : ℕ). take n (drop k image)) at ∙ ap (take n) (sym (drop-drop (f - end) end image))

module _ (f n : ℕ) where
  written-run : (old : Device) (first m : ℕ) (done : Bool) (new : Device) → IsWritten old first m done new → IsTrue old.steady → (f + n ≤ first) ⊎ (first + m ≤ f) → run_of new.image f n ≡ run_of old.image f n
  written-run old first m done new moved steady (inl low) =
      run-before new.image f n first low ∙ ap (λ (im : List (List ℕ)). drop f (take (f + n) im)) (moved.before steady) ∙ sym (run-before old.image f n first low)
  written-run old first m done new moved steady (inr high) =
      run-behind new.image f n (first + m) high ∙ ap (λ (im : List (List ℕ)). take n (drop (f - (first + m)) im)) (moved.after steady) ∙ sym (run-behind old.image f n (first + m) high)

  put-run : (write : Bool) (old : Device) (first m : ℕ) (bytes : List ℕ) (done : Bool) (new : Device) → IsAllowedPut write old first m bytes done new → IsTrue old.steady → (f + n ≤ first) ⊎ (first + m ≤ f)
      → run_of new.image f n ≡ run_of old.image f n
  put-run true old first m bytes done new put steady apart = written-run old first m done new put.moved steady apart
  put-run false old first m bytes done new put steady apart = ap (λ (d : Device). run_of d.image f n) put.0

  pub look-run : (l : BlockCheck) (bytes : List ℕ) (done : Bool) (m : Mended) → IsMended l bytes done m → IsTrue l.old.steady → (f + n ≤ l.first) ⊎ (l.first + l.w.sectors ≤ f)
      → run_of l.new.image f n ≡ run_of l.old.image f n
  look-run l bytes done mended.Good found steady apart = ap (λ (im : List (List ℕ)). run_of im f n) (found.read.image steady)
  look-run l bytes done (mended.Copy k) found steady apart =
      put-run l.write found.between l.first l.w.sectors bytes done l.new found.put (steady-then found.read.same steady) apart
      ∙ ap (λ (im : List (List ℕ)). run_of im f n) (found.read.image steady)
  look-run l bytes done mended.Remade found steady apart =
      let seen : IsTrue found.seen.steady = steady-then found.read.same steady in
      put-run l.write found.between l.first l.w.sectors bytes done l.new found.put (steady-then found.beneath_read.same seen) apart
      ∙ ap (λ (im : List (List ℕ)). run_of im f n) (found.beneath_read.image seen ∙ found.read.image steady)
  look-run l bytes done mended.Parity found steady apart =
      put-run l.write found.replaced.between l.first l.w.sectors bytes done l.new found.replaced.put (steady-then found.replaced.read.same steady) apart
      ∙ ap (λ (im : List (List ℕ)). run_of im f n) (found.replaced.read.image steady)
  look-run l bytes done mended.Lost found steady apart =
      ap (λ (im : List (List ℕ)). run_of im f n) (found.beneath_read.image (steady-then found.read.same steady) ∙ found.read.image steady)

-- nothing is written of a block that is lost
pub lost-image : (l : BlockCheck) (bytes : List ℕ) (done : Bool) → IsMended l bytes done mended.Lost → IsTrue l.old.steady → l.new.image ≡ l.old.image
lost-image l bytes done found steady = found.beneath_read.image (steady-then found.read.same steady) ∙ found.read.image steady

-- ---- the block itself

module _ (old : Device) (first n : ℕ) (bytes : List ℕ) (new : Device) (steady : IsTrue old.steady) (inside : first + n ≤ length old.image) where
  put-bytes : IsBlockPut old first n bytes true new → bytes_on_device new first n ≡ bytes
  put-bytes put =
      let sectors : List (List ℕ) = sectors_of n bytes in
      let before : List (List ℕ) = take first old.image in
      let behind : List (List ℕ) = drop (first + length sectors) old.image in
      ap (λ (im : List (List ℕ)). concat (run_of im first n)) (put.image refl steady)
      ∙ ap (λ (im : List (List ℕ)). concat (run_of im first n)) (append_assoc before sectors behind)
      ∙ ap (λ (im : List (List ℕ)). concat (take n im)) (drop_at before (sectors ++ behind) first (length-take-le first old.image (omega (arith, inside))))
      ∙ ap concat (take_at sectors behind n (length-sectors_of n bytes))
      ∙ concat-sectors_of n bytes
      ∙ take_all (512 * n) bytes (omega (arith, put.whole))

  splice-length : (bytes' : List ℕ) → length (spliced old.image first (sectors_of n bytes')) ≡ length old.image
  splice-length bytes' =
      let sectors : List (List ℕ) = sectors_of n bytes' in
      let before : List (List ℕ) = take first old.image in
      let behind : List (List ℕ) = drop (first + length sectors) old.image in
      let count : length sectors ≡ n = length-sectors_of n bytes' in
      length-append (before ++ sectors) behind
      ∙ omega (arith, inside, count, length-append before sectors, length-take-le first old.image (omega (arith, inside)), length-drop (first + length sectors) old.image)

  put-length : (write : Bool) → IsAllowedPut write old first n bytes true new → length new.image ≡ length old.image
  put-length true put = ap length (put.image refl steady) ∙ splice-length bytes
  put-length false put = ap (λ (d : Device). length d.image) put.0

  put-good : (write : Bool) (salt digest_is : List ℕ) → IsTrue write → IsAllowedPut write old first n bytes true new → digest salt bytes ≡ digest_is → digest salt (bytes_on_device new first n) ≡ digest_is
  put-good true salt digest_is writes put good = ap (digest salt) (put-bytes put) ∙ good
  put-good false salt digest_is writes put good = absurd (false≢true writes)

module _ (l : BlockCheck) (bytes : List ℕ) (steady : IsTrue l.old.steady) (inside : l.first + l.w.sectors ≤ length l.old.image) where
  room : (d : Device) → d.image ≡ l.old.image → l.first + l.w.sectors ≤ length d.image
  room d same = omega (arith, inside, ap length same)

  -- the device keeps its length
  pub look-length : (m : Mended) → IsMended l bytes true m → length l.new.image ≡ length l.old.image
  look-length mended.Good found = ap length (found.read.image steady)
  look-length (mended.Copy k) found =
      put-length found.between l.first l.w.sectors bytes l.new (steady-then found.read.same steady) (room found.between (found.read.image steady)) l.write found.put ∙ ap length (found.read.image steady)
  look-length mended.Remade found =
      let seen : IsTrue found.seen.steady = steady-then found.read.same steady in
      let same : found.between.image ≡ l.old.image = found.beneath_read.image seen ∙ found.read.image steady in
      put-length found.between l.first l.w.sectors bytes l.new (steady-then found.beneath_read.same seen) (room found.between same) l.write found.put ∙ ap length same
  look-length mended.Parity found =
      let r = found.replaced in
      put-length r.between l.first l.w.sectors bytes l.new (steady-then r.read.same steady) (room r.between (r.read.image steady)) l.write r.put ∙ ap length (r.read.image steady)
  look-length mended.Lost found = ap length (lost-image l bytes true found steady)

  -- a block that isn't lost is stored there with its digest
  pub look-good : (m : Mended) → IsMended l bytes true m → IsNotLost m → IsTrue l.write → digest l.w.salt (bytes_on_device l.new l.first l.w.sectors) ≡ l.w.digest_is
  look-good mended.Good found kept writes =
      ap (λ (im : List (List ℕ)). digest l.w.salt (concat (run_of im l.first l.w.sectors))) (found.read.image steady) ∙ ap (digest l.w.salt) (sym (found.there.stand steady)) ∙ found.there.good
  look-good (mended.Copy k) found kept writes =
      put-good found.between l.first l.w.sectors bytes l.new (steady-then found.read.same steady) (room found.between (found.read.image steady)) l.write l.w.salt l.w.digest_is writes found.put found.good
  look-good mended.Remade found kept writes =
      let seen : IsTrue found.seen.steady = steady-then found.read.same steady in
      let same : found.between.image ≡ l.old.image = found.beneath_read.image seen ∙ found.read.image steady in
      put-good found.between l.first l.w.sectors bytes l.new (steady-then found.beneath_read.same seen) (room found.between same) l.write l.w.salt l.w.digest_is writes found.put found.good
  look-good mended.Parity found kept writes =
      let r = found.replaced in
      put-good r.between l.first l.w.sectors bytes l.new (steady-then r.read.same steady) (room r.between (r.read.image steady)) l.write l.w.salt l.w.digest_is writes r.put r.good
  look-good mended.Lost found kept writes = absurd kept
