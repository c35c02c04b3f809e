-- `format --grow --fec`: which files exist.
use Rattle.std.specs.Prelude.{◌≡◌, ◌⊎◌, ℕ, Bool, true, false, List, [], ◌∷◌, Option, None, Some, Ok, Err}
use Rattle.block_device.specs.declared.open_fault.OpenFault.TheVariants.{SameFile}
use Rattle.image_files.specs.declared.file_use.FileUse.{FileUse}
use Rattle.image_files.specs.declared.placed_image.PlacedImage.{PlacedImage}
use Rattle.image_files.specs.declared.opening.UnopenedFile.{UnopenedFile}
use Rattle.image_files.specs.FileUses.{has_clash}
use Rattle.image_files.specs.OnePlace.{Compares, FailsToCompare}
use Rattle.image_files.specs.Opener.{Calls}
use Rattle.image_files.specs.OpenPlaces.{FailsToGrowPlace, FindsPlace, GrowsPlace, OpensPlace, RefusesPlace}
use Rattle.image_files.specs.Places.{place_use}
use Rattle.image_files.specs.declared.texts.ReplaceFault.{ReplaceFault}
use Rattle.image_commands.specs.Places.{TwoPlaces}
use Rattle.fec_commands.specs.declared.finding.FoundThree.{FoundThree}
use Rattle.command_line.specs.FecFiles.{FecRecord}

-- the files that are only read
abbrev pub uses_found : {D : Type 0} → PlacedImage D → Option (PlacedImage D) → List FileUse
uses_found data_image None = place_use false data_image ∷ []
uses_found data_image (Some hash_image) = place_use false data_image ∷ place_use false hash_image ∷ []

-- the parity file exists, and is one of them
abbrev pub is_used : {D : Type 0} → PlacedImage D → Option (PlacedImage D) → Option (PlacedImage D) → Bool
is_used data_image hash_image None = false
is_used data_image hash_image (Some parity) = has_clash (uses_found data_image hash_image) (place_use true parity)

-- DATA was opened for reading, HASH too if it exists, and the parity file for writing if it exists
pub record LooksForThree {S D : Type 0} (w : Calls S D) (places : TwoPlaces) (fec : FecRecord) (found : FoundThree D) : Type 0 where
  pub one : S
  pub two : S
  pub data_opened : OpensPlace (record w { new = one }) places.paths.data_path false found.«data»
  pub hash_found : FindsPlace (record w { old = one; new = two }) places.paths.hash_path false found.hash
  pub parity_found : FindsPlace (record w { old = two }) fec.path true found.parity

-- the trial of a path failed, so the file was created at once
pub record IsMadeAtOnce {S D : Type 0} (w : Calls S D) (path : List ℕ) : Type 0 where
  pub between : S
  pub cause : ReplaceFault
  pub tried : w.relations.tries w.old path (Err cause) between
  pub made : GrowsPlace (record w { old = between }) path 0

-- a file can be created, or was created at once
abbrev pub CanMake : {S D : Type 0} → Calls S D → List ℕ → Type 0
CanMake w path = w.relations.tries w.old path (Ok tt) w.new ⊎ IsMadeAtOnce w path

-- the trial of a path failed, and the file can't be created
pub record FailsToMake {S D : Type 0} (w : Calls S D) (path : List ℕ) (file : UnopenedFile) : Type 0 where
  pub between : S
  pub cause : ReplaceFault
  pub tried : w.relations.tries w.old path (Err cause) between
  pub unmade : FailsToGrowPlace (record w { old = between }) path 0 file

-- whether a missing file would be created where HASH would be created
abbrev pub ComparesNew : {S D : Type 0} → Calls S D → Option (PlacedImage D) → List ℕ → List ℕ → Bool → Type 0
ComparesNew w None path hash_path one = Compares w path hash_path one
ComparesNew w (Some hash_image) path hash_path one = (one ≡ false) × (w.new ≡ w.old)

-- the file would be created elsewhere, and can be created
pub record CanBeNew {S D : Type 0} (w : Calls S D) (hash_image : Option (PlacedImage D)) (path hash_path : List ℕ) : Type 0 where
  pub between : S
  pub apart : ComparesNew (record w { new = between }) hash_image path hash_path false
  pub can : CanMake (record w { old = between }) path

-- the file would be created where HASH would be
pub record IsMadeTwice {S D : Type 0} (w : Calls S D) (hash_image : Option (PlacedImage D)) (path hash_path : List ℕ) (file : UnopenedFile) : Type 0 where
  pub one : ComparesNew w hash_image path hash_path true
  pub is : (file.fault ≡ SameFile) × (file.path.now ≡ path)

-- the file would be created elsewhere, but can't be created
pub record FailsToMakeNew {S D : Type 0} (w : Calls S D) (hash_image : Option (PlacedImage D)) (path hash_path : List ℕ) (file : UnopenedFile) : Type 0 where
  pub between : S
  pub apart : ComparesNew (record w { new = between }) hash_image path hash_path false
  pub fails : FailsToMake (record w { old = between }) path file

-- one of these, or memory ran out before that was known
abbrev pub IsNotNew : {S D : Type 0} → Calls S D → Option (PlacedImage D) → List ℕ → List ℕ → UnopenedFile → Type 0
IsNotNew w hash_image path hash_path file =
    FailsToCompare w path hash_path file ⊎ (IsMadeTwice w hash_image path hash_path file ⊎ FailsToMakeNew w hash_image path hash_path file)

-- the parity file exists, or can be created
abbrev pub IsReady : {S D : Type 0} → Calls S D → Option (PlacedImage D) → Option (PlacedImage D) → List ℕ → List ℕ → Type 0
IsReady w (Some parity) hash_image path hash_path = w.new ≡ w.old
IsReady w None hash_image path hash_path = CanBeNew w hash_image path hash_path

-- the parity file neither exists nor can be created
abbrev pub IsUnready : {S D : Type 0} → Calls S D → Option (PlacedImage D) → Option (PlacedImage D) → List ℕ → List ℕ → UnopenedFile → Type 0
IsUnready w (Some parity) hash_image path hash_path file = ⊥
IsUnready w None hash_image path hash_path file = IsNotNew w hash_image path hash_path file

-- the files were opened; the parity file is neither of the others, and can be created if it doesn't exist
pub record FindsThree {S D : Type 0} (w : Calls S D) (places : TwoPlaces) (fec : FecRecord) (found : FoundThree D) : Type 0 where
  pub looked : S
  pub looks : LooksForThree (record w { new = looked }) places fec found
  pub apart : is_used found.«data» found.hash found.parity ≡ false
  pub ready : IsReady (record w { old = looked }) found.parity found.hash fec.path places.paths.hash_path

-- DATA was opened, and HASH exists and couldn't be opened
pub record RefusesFoundHash {S D : Type 0} (w : Calls S D) (places : TwoPlaces) (file : UnopenedFile) : Type 0 where
  pub one : S
  pub data_image : PlacedImage D
  pub data_opened : OpensPlace (record w { new = one }) places.paths.data_path false data_image
  pub refused : RefusesPlace (record w { old = one }) places.paths.hash_path false file

-- neither was refused, and the parity file exists and couldn't be opened
pub record RefusesFoundParity {S D : Type 0} (w : Calls S D) (places : TwoPlaces) (fec : FecRecord) (file : UnopenedFile) : Type 0 where
  pub one : S
  pub two : S
  pub data_image : PlacedImage D
  pub hash_image : Option (PlacedImage D)
  pub data_opened : OpensPlace (record w { new = one }) places.paths.data_path false data_image
  pub hash_found : FindsPlace (record w { old = one; new = two }) places.paths.hash_path false hash_image
  pub refused : RefusesPlace (record w { old = two }) fec.path true file

-- no file was refused, and the parity file is one of the others
pub record IsOneOfThree {S D : Type 0} (w : Calls S D) (places : TwoPlaces) (fec : FecRecord) (file : UnopenedFile) : Type 0 where
  pub found : FoundThree D
  pub looks : LooksForThree w places fec found
  pub is : (file.fault ≡ SameFile) × (file.path.now ≡ fec.path)
  pub same : is_used found.«data» found.hash found.parity ≡ true

-- no file was refused, and the parity file doesn't exist, and can't be created or would be created where HASH would be
pub record RefusesNewParity {S D : Type 0} (w : Calls S D) (places : TwoPlaces) (fec : FecRecord) (file : UnopenedFile) : Type 0 where
  pub found : FoundThree D
  pub looked : S
  pub looks : LooksForThree (record w { new = looked }) places fec found
  pub refused : IsUnready (record w { old = looked }) found.parity found.hash fec.path places.paths.hash_path file

-- the first of the three that is refused; nothing was created or extended
abbrev pub IsUnfound : {S D : Type 0} → Calls S D → TwoPlaces → FecRecord → UnopenedFile → Type 0
IsUnfound w places fec file =
    RefusesPlace w places.paths.data_path false file ⊎ (RefusesFoundHash w places file ⊎ (RefusesFoundParity w places fec file ⊎ (IsOneOfThree w places fec file ⊎ RefusesNewParity w places fec file)))
