-- What a recovery writes to the output device.
use Rattle.std.specs.Prelude.{◌≡◌, ℕ, ◌+◌, ◌-◌, IsTrue, List, [], ◌∷◌, length}
use Rattle.block_device.specs.Device.{Device, IsSameDevice, sectors_of, spliced}
use Rattle.stack_recovery.specs.Surveys.{Finding, had, lost, again, probed, trimmed, copied, kept, PieceRead, states_of}

-- sectors that were read are written to the same offset; others are unchanged
abbrev pub image_after : ℕ → Finding → ℕ → List (List ℕ) → List (List ℕ)
image_after first (had bytes) n image = spliced image first (sectors_of n bytes)
image_after first (lost fault) n image = image
image_after first (again fault) n image = image
image_after first (probed behind bytes) n image = spliced image (first + behind) (sectors_of (n - behind) bytes)
image_after first (trimmed behind fault) n image = image
image_after first copied n image = image
image_after first kept n image = image

-- the image after a sequence of pieces, from the first sector on
abbrev pub copied_image : ℕ → List PieceRead → List (List ℕ) → List (List ℕ)
copied_image first [] image = image
copied_image first (r ∷ more) image = copied_image (first + length (states_of r)) more (image_after first r.found r.count image)

-- a device that the pieces were copied to; if it is steady, its image is known
pub record IsCopied (reads : List PieceRead) (old new : Device) : Type 0 where
  pub same : IsSameDevice old new
  pub image : IsTrue old.steady → new.image ≡ copied_image 0 reads old.image
