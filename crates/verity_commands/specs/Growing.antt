-- `format --grow`: HASH is created if there is none, and made as long as needed if it had fewer sectors.
use Rattle.std.specs.Prelude.{◌≡◌, ◌⊎◌, ℕ, List}
use Rattle.image_commands.specs.declared.fault.ImageFault.{ImageFault}
use Rattle.image_commands.specs.declared.fault.ImageFault.TheVariants.{Open}
use Rattle.command_line.specs.declared.image_options.ImageOptions.{ImageOptions}
use Rattle.image_commands.specs.Drawing.{Drawing}
use Rattle.image_commands.specs.Places.{TwoPlaces}
use Rattle.image_commands.specs.Preparing.{IsPrepared}
use Rattle.image_files.specs.Opener.{Calls}
use Rattle.image_files.specs.OpenPlaces.{FailsToGrowPlace, GrowsPlace}

-- the file that an argument names couldn't be made so long
abbrev pub IsUngrown : {S D : Type 0} → Calls S D → List ℕ → ℕ → ImageFault → Type 0
IsUngrown w path sectors (Open file) = FailsToGrowPlace w path sectors file
IsUngrown w path sectors fault = ⊥

-- HASH was created if there was none, and had enough sectors
pub record FormatsAtOnce {S D T G : Type 0} (w : Calls S D) (d : Drawing T G) (hash_path : List ℕ) (Formats : Calls S D → Drawing T G → Type 0) : Type 0 where
  pub between : S
  pub made : GrowsPlace (record w { new = between }) hash_path 0
  pub formats : Formats (record w { old = between }) d

-- it was made so, and had too few
pub record IsTriedInVain {S D T G : Type 0} (w : Calls S D) (d : Drawing T G) (hash_path : List ℕ) (IsTooSmall : Calls S D → Drawing T G → ℕ → Type 0) (needed : ℕ) : Type 0 where
  pub between : S
  pub made : GrowsPlace (record w { new = between }) hash_path 0
  pub too_small : IsTooSmall (record w { old = between }) d needed

-- so it was given as many as are needed, and then formatted
pub record FormatsGrown {S D T G : Type 0} (w : Calls S D) (d : Drawing T G) (hash_path : List ℕ) (IsTooSmall : Calls S D → Drawing T G → ℕ → Type 0) (Formats : Calls S D → Drawing T G → Type 0) : Type 0 where
  pub tried : S
  pub drawn : T
  pub room : S
  pub needed : ℕ
  pub vain : IsTriedInVain (record w { new = tried }) (record d { new = drawn }) hash_path IsTooSmall needed
  pub grown : GrowsPlace (record w { old = tried; new = room }) hash_path needed
  pub formats : Formats (record w { old = room }) (record d { old = drawn })

abbrev pub FormatsGrowing : {S D T G : Type 0} → Calls S D → Drawing T G → List ℕ → (Calls S D → Drawing T G → ℕ → Type 0) → (Calls S D → Drawing T G → Type 0) → Type 0
FormatsGrowing w d hash_path IsTooSmall Formats = FormatsAtOnce w d hash_path Formats ⊎ FormatsGrown w d hash_path IsTooSmall Formats

-- it had too few, and couldn't be made longer
pub record FailsToGrow {S D T G : Type 0} (w : Calls S D) (d : Drawing T G) (hash_path : List ℕ) (IsTooSmall : Calls S D → Drawing T G → ℕ → Type 0) (fault : ImageFault) : Type 0 where
  pub tried : S
  pub needed : ℕ
  pub vain : IsTriedInVain (record w { new = tried }) d hash_path IsTooSmall needed
  pub ungrown : IsUngrown (record w { old = tried }) hash_path needed fault

-- it couldn't be made or grown, or the formatting ended so
abbrev pub IsGrowingEnd : {S D T G : Type 0} → Calls S D → Drawing T G → List ℕ → (Calls S D → Drawing T G → ℕ → Type 0) → (Calls S D → Drawing T G → ImageFault → Type 0) → ImageFault → Type 0
IsGrowingEnd w d hash_path IsTooSmall Ends fault =
    IsUngrown w hash_path 0 fault ⊎ (FailsToGrow w d hash_path IsTooSmall fault ⊎ FormatsGrowing w d hash_path IsTooSmall (λ w' d'. Ends w' d' fault))

-- Before that salt and identifier were given or drawn, and the data looked at. So a format that is refused for its options or its
-- data makes no file.
pub record PreparesFirst {S D T G : Type 0} (w : Calls S D) (d : Drawing T G) (options : ImageOptions) (places : TwoPlaces) (Formats : Calls S D → Drawing T G → ImageOptions → Type 0) : Type 0 where
  pub between : S
  pub drawn : T
  pub said : ImageOptions
  pub prepared : IsPrepared (record w { new = between }) (record d { new = drawn }) options places said
  pub formats : Formats (record w { old = between }) (record d { old = drawn }) said
