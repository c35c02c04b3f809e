-- What `verify` prints of the tree of a source, and how it ends early.
use Rattle.std.specs.Prelude.{◌≡◌, ◌⊎◌, ℕ, Bool, true, false, List, codes, Option}
use Rattle.std.specs.Io.KnownBytes.{Appends}
use Rattle.block_device.specs.Device.{Device}
use Rattle.program_io.specs.Counted.{CountedRecord}
use Rattle.image_files.specs.Opener.{Calls, Opener, calls}
use Rattle.verity_format.specs.declared.tree.VerityTree.{VerityTree}
use Rattle.verity_format.specs.declared.verifying.Verdict.TheVariants.{Matches}
use Rattle.verity_format.specs.Verifying.{IsTreeFound}
use Rattle.image_commands.specs.declared.fault.ImageFault.{ImageFault}
use Rattle.image_commands.specs.declared.fault.ImageFault.TheVariants.{Unaligned}
use Rattle.image_commands.specs.declared.paths.TwoImages.{TwoImages}
use Rattle.image_commands.specs.declared.places.Bounds.{Bounds}
use Rattle.image_commands.specs.declared.tree_source.NoSource.{NoSource}
use Rattle.image_commands.specs.declared.tree_source.SoughtTree.{SoughtTree}
use Rattle.image_commands.specs.declared.watching.WatchedPlaces.{WatchedPlaces}
use Rattle.image_commands.specs.Comparing.{IsComparedEnd}
use Rattle.image_commands.specs.Endings.{IsUnopened}
use Rattle.image_commands.specs.Finding.{no_source_fault}
use Rattle.image_commands.specs.Openings.{FailsToOpenTwo, OpensTwo}
use Rattle.image_commands.specs.Places.{IsPartState, TwoPlaces, before, behind, data_end, tree_start, two_places}
use Rattle.image_commands.specs.TreeSources.{IsNoTreeOf, IsTreeOf, may_seek}

-- ---- `Data` and `Hash` hold of what calls left: states of devices of their types, or parts of them

-- the tree was found by its source, and is valid for what lies before the data's end, under the root
pub record MatchesSought (Data Hash : Device → Type 0) (data_dev hash_dev : Device) (end first : ℕ) (sought : SoughtTree) (old new : Option (List ℕ)) : Type 0 where
  pub tree : VerityTree
  pub read_dev : Device
  pub data_dev' : Device
  pub hash_dev' : Device
  pub left : Hash read_dev × Data data_dev' × Hash hash_dev'
  pub stated : IsTreeOf sought.source (before data_dev end).size (behind hash_dev first) first read_dev tree
  pub found : IsTreeFound tree.shape tree.salt (before data_dev end) read_dev data_dev' hash_dev' sought.root Matches
  pub printed : Appends old new (codes "matches\n")

-- there is no tree of that source
pub record LacksSought (Hash : Device → Type 0) (data_dev hash_dev : Device) (end first : ℕ) (sought : SoughtTree) (fault : ImageFault) : Type 0 where
  pub cause : NoSource
  pub hash_dev' : Device
  pub left : Hash hash_dev'
  pub none : IsNoTreeOf sought.source (before data_dev end).size (behind hash_dev first) first hash_dev' cause
  pub is : fault ≡ no_source_fault cause

-- the tree was found, and the comparison with it ends early
pub record EndsMatching (Data Hash : Device → Type 0) (data_dev hash_dev : Device) (end first : ℕ) (sought : SoughtTree) (failed : Bool) (fault : ImageFault) : Type 0 where
  pub tree : VerityTree
  pub read_dev : Device
  pub data_dev' : Device
  pub hash_dev' : Device
  pub left : Hash read_dev × Data data_dev' × Hash hash_dev'
  pub stated : IsTreeOf sought.source (before data_dev end).size (behind hash_dev first) first read_dev tree
  pub ends : IsComparedEnd tree (tree_start first tree.shape.hash_block 0) (before data_dev end) read_dev data_dev' hash_dev' sought.root failed fault

abbrev pub IsMatchingEnd : (Device → Type 0) → (Device → Type 0) → Device → Device → ℕ → ℕ → SoughtTree → Bool → ImageFault → Type 0
IsMatchingEnd Data Hash data_dev hash_dev end first sought failed fault =
    LacksSought Hash data_dev hash_dev end first sought fault ⊎ EndsMatching Data Hash data_dev hash_dev end first sought failed fault

-- ---- from the paths on

pub record PrintsMatches {S D : Type 0} (w : Calls S D) (places : TwoPlaces) (sought : SoughtTree) (old new : Option (List ℕ)) : Type 0 where
  pub two : TwoImages D
  pub aligned : may_seek sought.source places.first ≡ true
  pub opened : OpensTwo w places.paths false two
  pub matches : MatchesSought (IsPartState w.state) (IsPartState w.state) (w.state two.data.device) (w.state two.hash.device) (data_end two places.first) places.first sought old new

-- no hash block of the options' tree begins there, and nothing was opened
pub record EndsUnplaced {S D : Type 0} (w : Calls S D) (places : TwoPlaces) (sought : SoughtTree) (fault : ImageFault) : Type 0 where
  pub unaligned : may_seek sought.source places.first ≡ false
  pub is : fault ≡ Unaligned
  pub same : w.new ≡ w.old

pub record EndsMatches {S D : Type 0} (w : Calls S D) (places : TwoPlaces) (sought : SoughtTree) (failed : Bool) (fault : ImageFault) : Type 0 where
  pub two : TwoImages D
  pub opened : OpensTwo w places.paths false two
  pub ends : IsMatchingEnd (IsPartState w.state) (IsPartState w.state) (w.state two.data.device) (w.state two.hash.device) (data_end two places.first) places.first sought failed fault

abbrev pub IsMatchesEnd : {S D : Type 0} → Calls S D → TwoPlaces → SoughtTree → Bool → ImageFault → Type 0
IsMatchesEnd w places sought failed fault = EndsUnplaced w places sought fault ⊎ (IsUnopened (FailsToOpenTwo w places.paths false) fault ⊎ EndsMatches w places sought failed fault)

-- ---- in terms of an opener and a writer before and after

abbrev pub VerifiesImages : {S D W : Type 0} → Opener S D → (D → Device) → S → S → (W → Option (List ℕ)) → CountedRecord W → CountedRecord W → WatchedPlaces → SoughtTree → Type 0
VerifiesImages relations state images images' contents writer writer' watched sought =
    PrintsMatches (calls relations state images images') (two_places watched.places) sought (contents writer.inner) (contents writer'.inner)

abbrev pub FailsToVerify : {S D W : Type 0} → Opener S D → (D → Device) → S → S → CountedRecord W → WatchedPlaces → SoughtTree → ImageFault → Type 0
FailsToVerify relations state images images' writer' watched sought = IsMatchesEnd (calls relations state images images') (two_places watched.places) sought writer'.failed

-- two devices that are open
abbrev pub MatchesBehind : {D H W : Type 0} → (D → Device) → (H → Device) → D × H → (W → Option (List ℕ)) → CountedRecord W → CountedRecord W → Bounds → SoughtTree → Type 0
MatchesBehind data_state hash_state devices contents writer writer' bounds sought =
    MatchesSought (IsPartState data_state) (IsPartState hash_state) (data_state devices.0) (hash_state devices.1) bounds.end bounds.first sought (contents writer.inner) (contents writer'.inner)

abbrev pub FailsToMatch : {D H W : Type 0} → (D → Device) → (H → Device) → D × H → CountedRecord W → Bounds → SoughtTree → ImageFault → Type 0
FailsToMatch data_state hash_state devices writer' bounds sought =
    IsMatchingEnd (IsPartState data_state) (IsPartState hash_state) (data_state devices.0) (hash_state devices.1) bounds.end bounds.first sought writer'.failed
