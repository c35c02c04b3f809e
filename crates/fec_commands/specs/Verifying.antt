-- What `verify --fec` finds of an image and its parity in open files, what it prints, and how it ends early.
use Rattle.std.specs.Prelude.{◌≡◌, ◌⊎◌, ℕ, ◌/◌, ◌<◌, ◌≤◌, Bool, true, List, Option, None, Some, codes}
use Rattle.std.specs.Io.KnownBytes.{Appends}
use Rattle.block_device.specs.Device.{Device}
use Rattle.command_line.specs.declared.words.fec_verify.FecVerifyWords.{FecVerifyWords}
use Rattle.command_line.specs.words.FecVerify.{FecVerifyRecord, fec_verify_record}
use Rattle.program_io.specs.Counted.{CountedRecord}
use Rattle.fec_area.specs.declared.layout.Layout.{Layout}
use Rattle.fec_area.specs.declared.writing.ParityFault.{ParityFault}
use Rattle.fec_area.specs.declared.writing.ParityFault.TheVariants.{TooSmall}
use Rattle.fec_area.specs.Checking.{IsCheckCause, IsChecked}
use Rattle.fec_area.specs.Layouts.{parity_sectors}
use Rattle.image_commands.specs.declared.comparing.ImagePair.{ImagePair}
use Rattle.image_commands.specs.declared.fault.ImageFault.{ImageFault}
use Rattle.image_commands.specs.declared.tree_source.SoughtTree.{SoughtTree}
use Rattle.image_commands.specs.declared.tree_source.TreeSource.{TreeSource}
use Rattle.image_commands.specs.Comparing.{IsComparedEnd}
use Rattle.image_commands.specs.Endings.{IsQuiet}
use Rattle.image_commands.specs.Places.{IsPartState, IsStateOf, before, behind, tree_start}
use Rattle.verity_commands.specs.declared.verity_fault.VerityFault.TheVariants.{Image}
use Rattle.verity_commands.specs.Endings.{IsVerityQuiet}
use Rattle.verity_format.specs.declared.verifying.Verdict.TheVariants.{Matches}
use Rattle.verity_format.specs.Verifying.{IsTreeFound}
use Rattle.fec_commands.specs.declared.fault.FecFault.{FecFault}
use Rattle.fec_commands.specs.declared.fault.FecFault.TheVariants.{BlockSizes, Differs, Parity, Verity}
use Rattle.fec_commands.specs.declared.image.LaidTree.{LaidTree}
use Rattle.fec_commands.specs.declared.image.ThreeImages.{ThreeImages}
use Rattle.fec_commands.specs.FecFaults.{unwritten}
use Rattle.fec_commands.specs.Images.{three_data_end}
use Rattle.fec_commands.specs.Layings.{IsLayoutEnd, LaysOut}

-- ---- The parts of an image, the device of its parity, and the source of its tree. `Data`, `Hash` and `ParityDev` hold of what calls
-- left: states of devices of their types, or parts of them.

pub record Parts : Type 0 where
  pub data_dev : Device
  pub hash_dev : Device
  pub parity_dev : Device
  pub first : ℕ
  pub source : TreeSource
  pub roots : ℕ

-- the tree is that of its source, and the parity device has enough sectors
pub record Measures (p : Parts) (read_dev : Device) (laid : LaidTree) : Type 0 where
  pub lays : LaysOut p.data_dev p.hash_dev p.first p.source p.roots read_dev laid
  pub room : parity_sectors laid.layout ≤ p.parity_dev.size

-- the parity device has too few sectors
pub record IsParityShort (Hash : Device → Type 0) (p : Parts) (fault : FecFault) : Type 0 where
  pub laid : LaidTree
  pub read_dev : Device
  pub left : Hash read_dev
  pub lays : LaysOut p.data_dev p.hash_dev p.first p.source p.roots read_dev laid
  pub short : p.parity_dev.size < parity_sectors laid.layout
  pub is : fault ≡ Parity (TooSmall (parity_sectors laid.layout))

-- the parity device is too small, or there is no layout
abbrev pub IsUnmeasured : (Device → Type 0) → Parts → FecFault → Type 0
IsUnmeasured Hash p fault = ((read_dev : Device) × Hash read_dev × IsLayoutEnd p.data_dev p.hash_dev p.first p.source read_dev fault) ⊎ IsParityShort Hash p fault

-- the parity is that of the image, and this is printed
pub record ChecksParity (l : Layout) (data_dev hash_dev parity_dev : Device) (old new : Option (List ℕ)) : Type 0 where
  pub checked : IsChecked l data_dev hash_dev parity_dev None
  pub printed : Appends old new (codes "parity ok\n")

-- the parity couldn't be compared
pub record FailsToCheck (Data Hash ParityDev : Device → Type 0) (l : Layout) (data_dev hash_dev parity_dev : Device) (cause : ParityFault) : Type 0 where
  pub data_dev' : Device
  pub hash_dev' : Device
  pub parity_dev' : Device
  pub left : Data data_dev' × Hash hash_dev' × ParityDev parity_dev'
  pub fails : IsCheckCause l data_dev hash_dev parity_dev data_dev' hash_dev' parity_dev' cause

-- the parity couldn't be compared, or differs from that round on, and nothing was printed; or the line can't be written
abbrev pub IsParityEnd : (Data Hash ParityDev : Device → Type 0) → Layout → Device → Device → Device → Option (List ℕ) → Option (List ℕ) → Bool → FecFault → Type 0
IsParityEnd Data Hash ParityDev l data_dev hash_dev parity_dev old new failed (Parity cause) = FailsToCheck Data Hash ParityDev l data_dev hash_dev parity_dev cause × (new ≡ old)
IsParityEnd Data Hash ParityDev l data_dev hash_dev parity_dev old new failed (Differs round) = IsChecked l data_dev hash_dev parity_dev (Some round) × (new ≡ old)
IsParityEnd Data Hash ParityDev l data_dev hash_dev parity_dev old new failed fault = IsChecked l data_dev hash_dev parity_dev None × ((failed ≡ true) × (fault ≡ unwritten))

-- the tree with that root hash matches the data, and this is printed
pub record MatchesLaid (Data Hash : Device → Type 0) (p : Parts) (root : List ℕ) (old new : Option (List ℕ)) : Type 0 where
  pub laid : LaidTree
  pub read_dev : Device
  pub data_dev' : Device
  pub hash_dev' : Device
  pub left : Hash read_dev × Data data_dev' × Hash hash_dev'
  pub measures : Measures p read_dev laid
  pub found : IsTreeFound laid.tree.shape laid.tree.salt p.data_dev read_dev data_dev' hash_dev' root Matches
  pub printed : Appends old new (codes "matches\n")

-- the tree doesn't match, or this isn't known or printed
pub record EndsComparing (Data Hash : Device → Type 0) (p : Parts) (root : List ℕ) (old new : Option (List ℕ)) (failed : Bool) (fault : FecFault) : Type 0 where
  pub cause : ImageFault
  pub laid : LaidTree
  pub read_dev : Device
  pub data_dev' : Device
  pub hash_dev' : Device
  pub left : Hash read_dev × Data data_dev' × Hash hash_dev'
  pub measures : Measures p read_dev laid
  pub ends : IsComparedEnd laid.tree (tree_start p.first laid.tree.shape.hash_block 0) p.data_dev read_dev data_dev' hash_dev' root failed cause
  pub is : fault ≡ Verity (Image cause)
  pub quiet : IsQuiet cause old new

-- the tree matches, and the parity isn't that of the image, or couldn't be compared
pub record EndsChecking (Data Hash ParityDev : Device → Type 0) (p : Parts) (root : List ℕ) (old new : Option (List ℕ)) (failed : Bool) (fault : FecFault) : Type 0 where
  pub between : Option (List ℕ)
  pub matches : MatchesLaid Data Hash p root old between
  pub ends : IsParityEnd Data Hash ParityDev matches.laid.layout matches.data_dev' matches.hash_dev' p.parity_dev between new failed fault

-- the tree and the parity match
pub record VerifiesParts (Data Hash : Device → Type 0) (p : Parts) (root : List ℕ) (old new : Option (List ℕ)) : Type 0 where
  pub told : Option (List ℕ)
  pub matches : MatchesLaid Data Hash p root old told
  pub checks : ChecksParity matches.laid.layout matches.data_dev' matches.hash_dev' p.parity_dev told new

-- ---- open files, and a tree that is sought

abbrev pub parts_of : {D : Type 0} → (D → Device) → ThreeImages D → FecVerifyRecord → TreeSource → Parts
parts_of state three v source =
    let first = v.verify.hash_offset / 512 in
    record {
      data_dev = before (state three.«data».device) (three_data_end three first);
      hash_dev = behind (state three.hash.device) first;
      parity_dev = state three.parity.device;
      first = first;
      source = source;
      roots = v.fec.roots;
    }

abbrev pub VerifiesThree : {D : Type 0} → (D → Device) → ThreeImages D → FecVerifyRecord → SoughtTree → Option (List ℕ) → Option (List ℕ) → Type 0
VerifiesThree state three v sought old new = VerifiesParts (IsPartState state) (IsPartState state) (parts_of state three v sought.source) sought.root old new

-- There is no layout, or no room for the parity, and nothing was printed; or the image isn't the one with this root hash, or
-- couldn't be compared; or it is, which is printed, and its parity isn't, or couldn't be compared.
abbrev pub IsPartsEnd : (Data Hash ParityDev : Device → Type 0) → Parts → List ℕ → Option (List ℕ) → Option (List ℕ) → Bool → FecFault → Type 0
IsPartsEnd Data Hash ParityDev p root old new failed fault =
    (IsUnmeasured Hash p fault × (new ≡ old)) ⊎ (EndsComparing Data Hash p root old new failed fault ⊎ EndsChecking Data Hash ParityDev p root old new failed fault)

abbrev pub IsVerifyThreeEnd : {D : Type 0} → (D → Device) → ThreeImages D → FecVerifyRecord → SoughtTree → Option (List ℕ) → Option (List ℕ) → Bool → FecFault → Type 0
IsVerifyThreeEnd state three v sought old new failed fault =
    IsPartsEnd (IsPartState state) (IsPartState state) (IsStateOf state) (parts_of state three v sought.source) sought.root old new failed fault

-- nothing is written before the fault, unless the writer is what failed
abbrev pub IsFecQuiet : FecFault → Option (List ℕ) → Option (List ℕ) → Type 0
IsFecQuiet (Verity fault) old new = IsVerityQuiet fault old new
IsFecQuiet BlockSizes old new = new ≡ old
IsFecQuiet (Parity fault) old new = new ≡ old
IsFecQuiet (Differs round) old new = new ≡ old

-- ---- in terms of devices of any type, a writer before and after, and the program's arguments

abbrev pub parts_by : {D H P : Type 0} → (D → Device) → (H → Device) → (P → Device) → D → H → P → ℕ → TreeSource → ℕ → Parts
parts_by data_state hash_state parity_state d h p first source roots = record { data_dev = data_state d; hash_dev = hash_state h; parity_dev = parity_state p; first = first; source = source; roots = roots }

abbrev pub MeasuresBy : {D H P : Type 0} → (D → Device) → (H → Device) → (P → Device) → D → H → P → ℕ → TreeSource → ℕ → H → LaidTree → Type 0
MeasuresBy data_state hash_state parity_state d h p first source roots h' = Measures (parts_by data_state hash_state parity_state d h p first source roots) (hash_state h')

abbrev pub IsUnmeasuredBy : {D H P : Type 0} → (D → Device) → (H → Device) → (P → Device) → D → H → P → ℕ → TreeSource → ℕ → FecFault → Type 0
IsUnmeasuredBy data_state hash_state parity_state d h p first source roots = IsUnmeasured (IsStateOf hash_state) (parts_by data_state hash_state parity_state d h p first source roots)

abbrev pub PrintsParity : {D H P W : Type 0} → Layout → (D → Device) → (H → Device) → (P → Device) → ImagePair D H → P → (W → Option (List ℕ)) → CountedRecord W → CountedRecord W → Type 0
PrintsParity l data_state hash_state parity_state two parity contents writer writer' =
    ChecksParity l (data_state two.«data») (hash_state two.hash) (parity_state parity) (contents writer.inner) (contents writer'.inner)

abbrev pub FailsToCheckParity : {D H P W : Type 0} → Layout → (D → Device) → (H → Device) → (P → Device) → ImagePair D H → P → (W → Option (List ℕ)) → CountedRecord W → CountedRecord W → FecFault → Type 0
FailsToCheckParity l data_state hash_state parity_state two parity contents writer writer' =
    IsParityEnd (IsStateOf data_state) (IsStateOf hash_state) (IsStateOf parity_state) l (data_state two.«data») (hash_state two.hash) (parity_state parity) (contents writer.inner) (contents writer'.inner) writer'.failed

abbrev pub VerifiesOpen : {D W : Type 0} → (D → Device) → ThreeImages D → FecVerifyWords → SoughtTree → (W → Option (List ℕ)) → CountedRecord W → CountedRecord W → Type 0
VerifiesOpen state three words sought contents writer writer' = VerifiesThree state three (fec_verify_record words) sought (contents writer.inner) (contents writer'.inner)

abbrev pub FailsToVerifyOpen : {D W : Type 0} → (D → Device) → ThreeImages D → FecVerifyWords → SoughtTree → (W → Option (List ℕ)) → CountedRecord W → CountedRecord W → FecFault → Type 0
FailsToVerifyOpen state three words sought contents writer writer' = IsVerifyThreeEnd state three (fec_verify_record words) sought (contents writer.inner) (contents writer'.inner) writer'.failed
