-- What `diff` prints of two hash images, and how it ends, with `--all` and without.
use Rattle.std.specs.Prelude.{◌≡◌, ◌⊎◌, Bool, true, false, ℕ, List, Option, None, Some}
use Rattle.block_device.specs.Device.{Device}
use Rattle.program_io.specs.Counted.{CountedRecord}
use Rattle.image_files.specs.Opener.{Calls, Opener, calls}
use Rattle.tree_difference.specs.declared.trees.TreePair.{TreePair}
use Rattle.tree_difference.specs.declared.fault.DifferenceFault.TheVariants.{Unaligned}
use Rattle.tree_difference.specs.declared.fault.Which.{Which}
use Rattle.tree_difference.specs.Comparisons.{DifferenceWorld, difference_world}
use Rattle.verity_commands.specs.declared.diff.DiffForm.{DiffForm}
use Rattle.verity_commands.specs.declared.paths.HashPlaces.{HashPlaces}
use Rattle.verity_commands.specs.declared.paths.TwoHashes.{TwoHashes}
use Rattle.verity_commands.specs.declared.tree_fault.TreeFault.{TreeFault}
use Rattle.verity_commands.specs.declared.tree_fault.TreeFault.TheVariants.{Trees}
use Rattle.verity_commands.specs.declared.tree_pair.SoughtTrees.{SoughtTrees}
use Rattle.verity_commands.specs.declared.tree_pair.TreeStarts.{TreeStarts}
use Rattle.verity_commands.specs.CheckedDiffs.{IsCheckedEnd, IsWholeAndSame, SaysSuch}
use Rattle.verity_commands.specs.Diffs.{IsDiffEnd, SaysDifference, two_devices}
use Rattle.verity_commands.specs.Openings.{BothPlaces, both_places}
use Rattle.verity_commands.specs.OpenTrees.{AreUnopened, IsTreesEnd, OfHashes, OfPlaced, OfTrees}
use Rattle.verity_commands.specs.TreePairs.{misplaced}

-- no data block differs, and with --all each hash block of the second tree is valid, and that was printed
abbrev pub SaysNoDifference : Bool → DiffForm → TreePair → DifferenceWorld → Type 0
SaysNoDifference true form pair i = SaysSuch form.json i pair form.most IsWholeAndSame
SaysNoDifference false form pair i = SaysDifference form.json i pair form.most true

-- they differ, or a hash block is invalid, or that isn't known or printed
abbrev pub IsDifferenceEnd : Bool → DiffForm → TreePair → DifferenceWorld → Bool → TreeFault → Type 0
IsDifferenceEnd true form pair i failed fault = IsCheckedEnd form.json i pair form.most failed fault
IsDifferenceEnd false form pair i failed fault = IsDiffEnd form.json i pair form.most failed fault

-- of two devices, of which the trees are found first
abbrev pub DiffsWorld : DifferenceWorld → TreeStarts → SoughtTrees → DiffForm → Type 0
DiffsWorld i starts sought form = OfTrees i starts sought (SaysNoDifference form.all form)

abbrev pub IsWorldEnd : DifferenceWorld → TreeStarts → SoughtTrees → DiffForm → Bool → TreeFault → Type 0
IsWorldEnd i starts sought form failed fault = IsTreesEnd i starts sought (λ pair j. IsDifferenceEnd form.all form pair j failed) fault

-- of the hash images in two files; a tree that options state may begin at its sector
abbrev pub DiffsPlaces : {S D : Type 0} → Calls S D → BothPlaces → SoughtTrees → DiffForm → Option (List ℕ) → Option (List ℕ) → Type 0
DiffsPlaces w places sought form old new =
    (misplaced places.starts sought ≡ None) × OfHashes w places (λ a b a' b'. DiffsWorld (difference_world a b a' b' old new) places.starts sought form)

-- a tree that options state can't begin at its sector: no file was opened, and nothing printed
abbrev pub AreMisplaced : {S D : Type 0} → Calls S D → TreeStarts → SoughtTrees → Option (List ℕ) → Option (List ℕ) → TreeFault → Type 0
AreMisplaced w starts sought old new fault =
    (which : Which) × (misplaced starts sought ≡ Some which) × (fault ≡ Trees (Unaligned which)) × (w.new ≡ w.old) × (new ≡ old)

-- that, or a file isn't opened, and nothing is printed; or the comparison ends so
abbrev pub IsPlacesEnd : {S D : Type 0} → Calls S D → BothPlaces → SoughtTrees → DiffForm → Option (List ℕ) → Option (List ℕ) → Bool → TreeFault → Type 0
IsPlacesEnd w places sought form old new failed fault =
    AreMisplaced w places.starts sought old new fault
    ⊎ ((misplaced places.starts sought ≡ None) × ((AreUnopened w places.paths fault × (new ≡ old))
    ⊎ OfHashes w places (λ a b a' b'. IsWorldEnd (difference_world a b a' b' old new) places.starts sought form failed fault)))

-- ---- as a call sees them, as in `Diffs`

-- two images that are open, of which the trees are known
abbrev pub FindsNoDifference : {D W : Type 0} → Bool → (D → Device) → TwoHashes D → TwoHashes D → (W → Option (List ℕ)) → CountedRecord W → CountedRecord W → TreePair → DiffForm → Type 0
FindsNoDifference all state two two' contents writer writer' pair form =
    SaysNoDifference all form pair (two_devices state two two' (contents writer.inner) (contents writer'.inner))

abbrev pub FailsToFind : {D W : Type 0} → Bool → (D → Device) → TwoHashes D → TwoHashes D → (W → Option (List ℕ)) → CountedRecord W → CountedRecord W → TreePair → DiffForm → TreeFault → Type 0
FailsToFind all state two two' contents writer writer' pair form fault =
    IsDifferenceEnd all form pair (two_devices state two two' (contents writer.inner) (contents writer'.inner)) writer'.failed fault

-- two images that are open
abbrev pub DiffsDevices : {D W : Type 0} → (D → Device) → TwoHashes D → TwoHashes D → (W → Option (List ℕ)) → CountedRecord W → CountedRecord W → TreeStarts → SoughtTrees → DiffForm → Type 0
DiffsDevices state two two' contents writer writer' starts sought form =
    DiffsWorld (two_devices state two two' (contents writer.inner) (contents writer'.inner)) starts sought form

abbrev pub FailsDevices : {D W : Type 0} → (D → Device) → TwoHashes D → TwoHashes D → (W → Option (List ℕ)) → CountedRecord W → CountedRecord W → TreeStarts → SoughtTrees → DiffForm → TreeFault → Type 0
FailsDevices state two two' contents writer writer' starts sought form fault =
    IsWorldEnd (two_devices state two two' (contents writer.inner) (contents writer'.inner)) starts sought form writer'.failed fault

-- the images that begin at sectors of two devices
abbrev pub DiffsBehind : {D W : Type 0} → (D → Device) → TwoHashes D → TwoHashes D → (W → Option (List ℕ)) → CountedRecord W → CountedRecord W → TreeStarts → SoughtTrees → DiffForm → Type 0
DiffsBehind state two two' contents writer writer' starts sought form =
    OfPlaced state two two' starts (λ a b a' b'. DiffsWorld (difference_world a b a' b' (contents writer.inner) (contents writer'.inner)) starts sought form)

abbrev pub FailsBehind : {D W : Type 0} → (D → Device) → TwoHashes D → TwoHashes D → (W → Option (List ℕ)) → CountedRecord W → CountedRecord W → TreeStarts → SoughtTrees → DiffForm → TreeFault → Type 0
FailsBehind state two two' contents writer writer' starts sought form fault =
    OfPlaced state two two' starts (λ a b a' b'. IsWorldEnd (difference_world a b a' b' (contents writer.inner) (contents writer'.inner)) starts sought form writer'.failed fault)

-- two files
abbrev pub DiffsImages : {S D W : Type 0} → Opener S D → (D → Device) → S → S → (W → Option (List ℕ)) → CountedRecord W → CountedRecord W → HashPlaces → SoughtTrees → DiffForm → Type 0
DiffsImages relations state images images' contents writer writer' places sought form =
    DiffsPlaces (calls relations state images images') (both_places places) sought form (contents writer.inner) (contents writer'.inner)

abbrev pub FailsToDiff : {S D W : Type 0} → Opener S D → (D → Device) → S → S → (W → Option (List ℕ)) → CountedRecord W → CountedRecord W → HashPlaces → SoughtTrees → DiffForm → TreeFault → Type 0
FailsToDiff relations state images images' contents writer writer' places sought form =
    IsPlacesEnd (calls relations state images images') (both_places places) sought form (contents writer.inner) (contents writer'.inner) writer'.failed
