-- What `diff` prints, and how it ends.
use Rattle.std.specs.Prelude.{◌≡◌, ◌⊎◌, ◌==◌, ◌&&◌, ℕ, Bool, true, false, List, [], ◌++◌, codes, decimal, Option, Some, None}
use Rattle.std.specs.Io.KnownBytes.{Appends}
use Rattle.allocation.specs.Refusal.{IsOutOfMemory}
use Rattle.block_device.specs.Device.{Device}
use Rattle.program_io.specs.Counted.{CountedRecord}
use Rattle.program_io.specs.JsonLines.{json_line}
use Rattle.runs.specs.declared.line.Line.{Line}
use Rattle.runs.specs.declared.listing.KeptLines.{KeptLines}
use Rattle.runs.specs.Lines.{lines_text}
use Rattle.tree_difference.specs.declared.fault.DifferenceFault.{DifferenceFault}
use Rattle.tree_difference.specs.declared.fault.DifferenceFault.TheVariants as difference_fault
use Rattle.tree_difference.specs.declared.difference.Totals.{Totals}
use Rattle.tree_difference.specs.declared.trees.TreePair.{TreePair}
use Rattle.tree_difference.specs.Comparisons.{DifferenceWorld, IsReported, difference_world}
use Rattle.tree_difference.specs.Differences.{IsDifference, IsDifferenceCause, trees_of}
use Rattle.verity_commands.specs.declared.tree_fault.TreeFault.{TreeFault}
use Rattle.verity_commands.specs.declared.tree_fault.TreeFault.TheVariants.{Trees, Differs, Write}
use Rattle.verity_commands.specs.declared.paths.TwoHashes.{TwoHashes}
use Rattle.verity_commands.specs.Objects.{difference_json}

-- `same N changed N removed N added N`
unfoldable pub difference_totals : Totals → List ℕ
difference_totals t = codes "same " ++ (decimal t.same ++ (codes " changed " ++ (decimal t.changed ++ (codes " " ++ (codes "removed " ++ (decimal t.removed ++ (codes " added " ++ (decimal t.added ++ codes "\n"))))))))

-- no block is changed, removed or added
abbrev pub is_unchanged : Totals → Bool
is_unchanged t = (t.changed == 0) && ((t.removed == 0) && (t.added == 0))

-- the trees were compared, their runs and totals printed, and this says whether they are the same
pub record SaysSame (w : DifferenceWorld) (pair : TreePair) (most : Option ℕ) (same : Bool) : Type 0 where
  pub totals : Totals
  pub between : Option (List ℕ)
  pub difference : IsDifference (record w { printed' = between }) pair most totals
  pub printed_are : Appends between w.printed' (difference_totals totals)
  pub is : is_unchanged totals ≡ same

-- the trees were compared, and one object printed, of the lines and totals that are printed without `--json`
pub record SaysSameObject (w : DifferenceWorld) (pair : TreePair) (most : Option ℕ) (same : Bool) : Type 0 where
  pub totals : Totals
  pub lines : List Line
  pub difference : IsDifference (record w { printed = Some []; printed' = Some (lines_text lines) }) pair most totals
  pub printed_are : Appends w.printed w.printed' (json_line (difference_json lines totals))
  pub is : is_unchanged totals ≡ same

-- as an object, or as lines
abbrev pub SaysDifference : Bool → DifferenceWorld → TreePair → Option ℕ → Bool → Type 0
SaysDifference true w pair most same = SaysSameObject w pair most same
SaysDifference false w pair most same = SaysSame w pair most same

-- a line that isn't kept in memory is want of it
abbrev pub unkept_difference : DifferenceFault → DifferenceFault
unkept_difference difference_fault.Write = difference_fault.NoMemory
unkept_difference difference_fault.NoMemory = difference_fault.NoMemory
unkept_difference (difference_fault.Image which fault) = difference_fault.Image which fault
unkept_difference (difference_fault.Unaligned which) = difference_fault.Unaligned which
unkept_difference (difference_fault.Unpinned which mismatch) = difference_fault.Unpinned which mismatch
unkept_difference (difference_fault.Unlike field) = difference_fault.Unlike field
unkept_difference (difference_fault.Hash which level number) = difference_fault.Hash which level number

-- why two images aren't compared, where lines are kept in memory: room for one line may have been refused
abbrev pub IsTreesCause : Device → Device → Device → Device → TreePair → DifferenceFault → Type 0
IsTreesCause first second first' second' pair difference_fault.NoMemory = IsDifferenceCause (difference_world first second first' second' None None) pair false difference_fault.NoMemory ⊎ IsOutOfMemory 1
IsTreesCause first second first' second' pair fault = IsDifferenceCause (difference_world first second first' second' None None) pair false fault

-- the trees were compared, and then memory ran out for the JSON values
pub record LacksDiffObject (w : DifferenceWorld) (pair : TreePair) (most : Option ℕ) (fault : DifferenceFault) : Type 0 where
  pub totals : Totals
  pub lines : List Line
  pub difference : IsDifference (record w { printed = Some []; printed' = Some (lines_text lines) }) pair most totals
  pub is : fault ≡ difference_fault.NoMemory

-- why the trees aren't compared, or no object made; with `--json` nothing was printed before, else the lines of what was compared
-- before
abbrev pub IsUncompared : Bool → DifferenceWorld → TreePair → Option ℕ → Bool → DifferenceFault → Type 0
IsUncompared true w pair most failed fault = (IsTreesCause w.first w.second w.first' w.second' pair fault ⊎ LacksDiffObject w pair most fault) × (w.printed' ≡ w.printed)
IsUncompared false w pair most failed fault = IsDifferenceCause w pair failed fault × IsReported (trees_of pair) w most fault

-- they differ, or why they aren't compared, or a line can't be written
abbrev pub IsDiffEnd : Bool → DifferenceWorld → TreePair → Option ℕ → Bool → TreeFault → Type 0
IsDiffEnd json w pair most failed Differs = SaysDifference json w pair most false
IsDiffEnd json w pair most failed (Trees fault) = IsUncompared json w pair most failed fault
IsDiffEnd json w pair most failed Write = failed ≡ true
IsDiffEnd json w pair most failed fault = ⊥

-- ---- as a call sees them: what a proof sees of devices or a writer, and these before and after

-- the devices of two images before and after, and what was printed
abbrev pub two_devices : {D : Type 0} → (D → Device) → TwoHashes D → TwoHashes D → Option (List ℕ) → Option (List ℕ) → DifferenceWorld
two_devices state two two' old new = difference_world (state two.first.device) (state two.second.device) (state two'.first.device) (state two'.second.device) old new

-- two hash images, and the lines kept in memory
abbrev pub listed_diff : {D : Type 0} → (D → Device) → TwoHashes D → TwoHashes D → KeptLines → KeptLines → DifferenceWorld
listed_diff state two two' kept kept' = two_devices state two two' (Some (lines_text kept.lines.items)) (Some (lines_text kept'.lines.items))

abbrev pub FailsToListDiff : {D : Type 0} → (D → Device) → TwoHashes D → TwoHashes D → TreePair → DifferenceFault → Type 0
FailsToListDiff state two two' pair = IsTreesCause (state two.first.device) (state two.second.device) (state two'.first.device) (state two'.second.device) pair

-- two images that are open are the same, and that was printed
abbrev pub FindsSame : {D W : Type 0} → Bool → (D → Device) → TwoHashes D → TwoHashes D → (W → Option (List ℕ)) → CountedRecord W → CountedRecord W → TreePair → Option ℕ → Type 0
FindsSame json state two two' contents writer writer' pair most =
    SaysDifference json (two_devices state two two' (contents writer.inner) (contents writer'.inner)) pair most true

-- they aren't, or that isn't known or printed
abbrev pub FailsDiff : {D W : Type 0} → Bool → (D → Device) → TwoHashes D → TwoHashes D → (W → Option (List ℕ)) → CountedRecord W → CountedRecord W → TreePair → Option ℕ → TreeFault → Type 0
FailsDiff json state two two' contents writer writer' pair most =
    IsDiffEnd json (two_devices state two two' (contents writer.inner) (contents writer'.inner)) pair most writer'.failed
