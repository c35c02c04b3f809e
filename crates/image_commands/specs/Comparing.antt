-- What the comparison of two devices that are open prints, and how it ends early.
use Rattle.std.specs.Prelude.{◌≡◌, ◌≢◌, ℕ, Bool, List, codes, Option}
use Rattle.std.specs.Io.KnownBytes.{Appends}
use Rattle.block_device.specs.Device.{Device}
use Rattle.program_io.specs.Counted.{CountedRecord}
use Rattle.verity_format.specs.declared.tree.VerityTree.{VerityTree}
use Rattle.verity_format.specs.declared.verifying.Verdict.{Verdict}
use Rattle.verity_format.specs.declared.verifying.Verdict.TheVariants.{Matches}
use Rattle.verity_format.specs.Blocks.{IsOnlyRead}
use Rattle.verity_format.specs.Verifying.{IsTreeFound, IsTreeVerifyCause}
use Rattle.image_commands.specs.declared.comparing.ImagePair.{ImagePair}
use Rattle.image_commands.specs.declared.fault.ImageFault.{ImageFault}
use Rattle.image_commands.specs.declared.fault.ImageFault.TheVariants.{Differs, Verify}
use Rattle.image_commands.specs.Endings.{IsLineUnwritten}
use Rattle.image_commands.specs.Offsets.{verdict_from}

-- how two differ: the verdict counts from the beginning of HASH, which has so many hash blocks before the hash image
pub record IsCountedDifference (tree : VerityTree) (ahead : ℕ) (data_dev hash_dev data_dev' hash_dev' : Device) (root : List ℕ) (verdict : Verdict) : Type 0 where
  pub found : Verdict
  pub other : found ≢ Matches
  pub is_found : IsTreeFound tree.shape tree.salt data_dev hash_dev data_dev' hash_dev' root found
  pub is : verdict ≡ verdict_from ahead found

-- the two weren't compared, they differ, or the line can't be written
abbrev pub IsComparedEnd : VerityTree → ℕ → Device → Device → Device → Device → List ℕ → Bool → ImageFault → Type 0
IsComparedEnd tree ahead data_dev hash_dev data_dev' hash_dev' root failed (Verify fault) = IsTreeVerifyCause tree.shape data_dev hash_dev data_dev' hash_dev' fault
IsComparedEnd tree ahead data_dev hash_dev data_dev' hash_dev' root failed (Differs verdict) = IsCountedDifference tree ahead data_dev hash_dev data_dev' hash_dev' root verdict
IsComparedEnd tree ahead data_dev hash_dev data_dev' hash_dev' root failed fault = IsLineUnwritten failed fault

-- ---- calls, by what a proof sees of the devices

abbrev pub OnlyReadsImages : {D H : Type 0} → (D → Device) → (H → Device) → ImagePair D H → ImagePair D H → Type 0
OnlyReadsImages data_state hash_state two two' = IsOnlyRead (data_state two.data) (data_state two'.data) × IsOnlyRead (hash_state two.hash) (hash_state two'.hash)

abbrev pub FindsMatches : {D H W : Type 0} → (D → Device) → (H → Device) → ImagePair D H → ImagePair D H → (W → Option (List ℕ)) → CountedRecord W → CountedRecord W → VerityTree → List ℕ → Type 0
FindsMatches data_state hash_state two two' contents writer writer' tree root =
    IsTreeFound tree.shape tree.salt (data_state two.data) (hash_state two.hash) (data_state two'.data) (hash_state two'.hash) root Matches
    × Appends (contents writer.inner) (contents writer'.inner) (codes "matches\n")

abbrev pub FailsToCompare : {D H W : Type 0} → (D → Device) → (H → Device) → ImagePair D H → ImagePair D H → CountedRecord W → VerityTree → ℕ → List ℕ → ImageFault → Type 0
FailsToCompare data_state hash_state two two' writer' tree ahead root =
    IsComparedEnd tree ahead (data_state two.data) (hash_state two.hash) (data_state two'.data) (hash_state two'.hash) root writer'.failed
