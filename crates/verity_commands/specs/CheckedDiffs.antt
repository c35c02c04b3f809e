-- What `diff --all` prints, and how it ends.
use Rattle.std.specs.Prelude.{◌≡◌, ◌⊎◌, ℕ, ◌≤◌, Bool, true, false, List, [], Option, Some}
use Rattle.std.specs.Io.KnownBytes.{Appends}
use Rattle.allocation.specs.Refusal.{IsOutOfMemory}
use Rattle.block_device.specs.Device.{Device}
use Rattle.program_io.specs.Counted.{CountedRecord}
use Rattle.program_io.specs.JsonLines.{json_line}
use Rattle.verity_format.specs.declared.verifying.VerifyFault.{VerifyFault}
use Rattle.verity_format.specs.declared.verifying.VerifyFault.TheVariants as verify
use Rattle.verity_format.specs.Image.{tree_sectors}
use Rattle.runs.specs.declared.line.Line.{Line}
use Rattle.runs.specs.declared.listing.KeptLines.{KeptLines}
use Rattle.runs.specs.Lines.{lines_text}
use Rattle.tree_difference.specs.declared.fault.DifferenceFault.{DifferenceFault}
use Rattle.tree_difference.specs.declared.fault.DifferenceFault.TheVariants as difference_fault
use Rattle.tree_difference.specs.declared.fault.Which.TheVariants.{Second}
use Rattle.tree_difference.specs.declared.trees.TreePair.{TreePair}
use Rattle.tree_difference.specs.Comparisons.{DifferenceWorld, IsReported, difference_world}
use Rattle.tree_difference.specs.Differences.{IsDifference, IsDifferenceCause, trees_of}
use Rattle.tree_survey.specs.declared.fault.SurveyFault.{SurveyFault}
use Rattle.tree_survey.specs.declared.fault.SurveyFault.TheVariants as survey_fault
use Rattle.tree_survey.specs.Causes.{IsPathRefused}
use Rattle.tree_survey.specs.Failing.{IsReadOver}
use Rattle.tree_survey.specs.Hashes.{TellsHashes}
use Rattle.tree_survey.specs.Passes.{tree_under}
use Rattle.tree_survey.specs.Surveys.{Tree}
use Rattle.verity_commands.specs.declared.checked_diff.CheckedTotals.{CheckedTotals}
use Rattle.verity_commands.specs.declared.diff.DiffForm.{DiffForm}
use Rattle.verity_commands.specs.declared.paths.TwoHashes.{TwoHashes}
use Rattle.verity_commands.specs.declared.tree_fault.TreeFault.{TreeFault}
use Rattle.verity_commands.specs.declared.tree_fault.TreeFault.TheVariants.{Damaged, Differs, Trees, Write}
use Rattle.verity_commands.specs.Diffs.{difference_totals, is_unchanged, two_devices}
use Rattle.verity_commands.specs.Objects.{checked_json}

-- ---- the second tree checked, and then both compared

-- each hash block of a tree was checked: those that aren't valid were printed
pub record ChecksTree (tree : Tree) (device device' : Device) (printed printed' : Option (List ℕ)) (whole : Bool) : Type 0 where
  pub over : IsReadOver device device'
  pub tells : TellsHashes tree device device' printed printed' whole

-- the second tree was checked, and after that both compared
pub record IsCheckedDifference (w : DifferenceWorld) (pair : TreePair) (most : Option ℕ) (found : CheckedTotals) : Type 0 where
  pub middle : Device
  pub between : Option (List ℕ)
  pub checks : ChecksTree (tree_under pair.second pair.roots.second) w.second middle w.printed between found.whole_tree
  pub difference : IsDifference (record w { second = middle; printed = between }) pair most found.totals

-- room for the hash blocks on a path was refused, or a line can't be written
abbrev pub IsCheckCause : Device → Device → Bool → DifferenceFault → Type 0
IsCheckCause device device' failed difference_fault.NoMemory = IsPathRefused device device'
IsCheckCause device device' failed difference_fault.Write = failed ≡ true
IsCheckCause device device' failed fault = ⊥

-- the comparison ended early, after the check; the lines of what was compared before were reported
pub record EndsComparison (w : DifferenceWorld) (pair : TreePair) (most : Option ℕ) (failed : Bool) (fault : DifferenceFault) : Type 0 where
  pub whole : Bool
  pub middle : Device
  pub between : Option (List ℕ)
  pub checks : ChecksTree (tree_under pair.second pair.roots.second) w.second middle w.printed between whole
  pub cause : IsDifferenceCause (record w { second = middle; printed = between }) pair failed fault
  pub before : IsReported (trees_of pair) (record w { second = middle; printed = between }) most fault

-- why the second tree isn't checked, or the trees aren't compared
abbrev pub IsCheckedCause : DifferenceWorld → TreePair → Option ℕ → Bool → DifferenceFault → Type 0
IsCheckedCause w pair most failed fault = IsCheckCause w.second w.second' failed fault ⊎ EndsComparison w pair most failed fault

-- with which fault `diff` ends if the check does
abbrev pub second_fault : VerifyFault → DifferenceFault
second_fault verify.NoMemory = difference_fault.NoMemory
second_fault fault = difference_fault.Image Second fault

abbrev pub check_fault : SurveyFault → DifferenceFault
check_fault (survey_fault.Image fault) = second_fault fault
check_fault survey_fault.Write = difference_fault.Write

-- why a comparison with checks ends early, whatever was printed
abbrev pub IsSilentCause : Device → Device → Device → Device → TreePair → Option ℕ → DifferenceFault → Type 0
IsSilentCause first second first' second' pair most fault = (old : Option (List ℕ)) × ((new : Option (List ℕ)) × IsCheckedCause (difference_world first second first' second' old new) pair most false fault)

-- why it does if lines are kept in memory: room for one line may have been refused
abbrev pub IsKeptCheckCause : Device → Device → Device → Device → TreePair → Option ℕ → DifferenceFault → Type 0
IsKeptCheckCause first second first' second' pair most difference_fault.NoMemory = IsSilentCause first second first' second' pair most difference_fault.NoMemory ⊎ IsOutOfMemory 1
IsKeptCheckCause first second first' second' pair most fault = IsSilentCause first second first' second' pair most fault

-- ---- what is printed

-- both were done, and the lines and totals printed
pub record SaysLines (w : DifferenceWorld) (pair : TreePair) (most : Option ℕ) (found : CheckedTotals) : Type 0 where
  pub between : Option (List ℕ)
  pub difference : IsCheckedDifference (record w { printed' = between }) pair most found
  pub printed_are : Appends between w.printed' (difference_totals found.totals)

-- the trees were compared and checked, and one object printed, of the lines and totals that are printed without `--json`
pub record SaysOne (w : DifferenceWorld) (pair : TreePair) (most : Option ℕ) (found : CheckedTotals) : Type 0 where
  pub lines : List Line
  pub difference : IsCheckedDifference (record w { printed = Some []; printed' = Some (lines_text lines) }) pair most found
  pub printed_are : Appends w.printed w.printed' (json_line (checked_json lines found.totals))

abbrev pub SaysChecked : Bool → DifferenceWorld → TreePair → Option ℕ → CheckedTotals → Type 0
SaysChecked true w pair most found = SaysOne w pair most found
SaysChecked false w pair most found = SaysLines w pair most found

-- each hash block of the second tree is valid, and no data block differs
abbrev pub IsWholeAndSame : CheckedTotals → Type 0
IsWholeAndSame found = (found.whole_tree ≡ true) × (is_unchanged found.totals ≡ true)

-- `Damaged` if a hash block isn't valid, also if data blocks differ; else `Differs`
abbrev pub IsFoundEnd : CheckedTotals → TreeFault → Type 0
IsFoundEnd found Damaged = found.whole_tree ≡ false
IsFoundEnd found Differs = (found.whole_tree ≡ true) × (is_unchanged found.totals ≡ false)
IsFoundEnd found fault = ⊥

-- what was found was printed, and this holds of it
abbrev pub SaysSuch : Bool → DifferenceWorld → TreePair → Option ℕ → (CheckedTotals → Type 0) → Type 0
SaysSuch json w pair most P = (found : CheckedTotals) × (SaysChecked json w pair most found × P found)

-- both were done, and then memory ran out for the JSON values
pub record LacksCheckedObject (w : DifferenceWorld) (pair : TreePair) (most : Option ℕ) (fault : DifferenceFault) : Type 0 where
  pub found : CheckedTotals
  pub lines : List Line
  pub difference : IsCheckedDifference (record w { printed = Some []; printed' = Some (lines_text lines) }) pair most found
  pub is : fault ≡ difference_fault.NoMemory

-- the lines before a fault, or nothing of an object
abbrev pub IsUnchecked : Bool → DifferenceWorld → TreePair → Option ℕ → Bool → DifferenceFault → Type 0
IsUnchecked true w pair most failed fault = (IsKeptCheckCause w.first w.second w.first' w.second' pair most fault ⊎ LacksCheckedObject w pair most fault) × (w.printed' ≡ w.printed)
IsUnchecked false w pair most failed fault = IsCheckedCause w pair most failed fault

-- why that isn't known, or a line can't be written
abbrev pub IsSayingEnd : Bool → DifferenceWorld → TreePair → Option ℕ → Bool → TreeFault → Type 0
IsSayingEnd json w pair most failed (Trees fault) = IsUnchecked json w pair most failed fault
IsSayingEnd json w pair most failed Write = failed ≡ true
IsSayingEnd json w pair most failed fault = ⊥

-- a hash block isn't valid, or data blocks differ, or that isn't known or printed
abbrev pub IsCheckedEnd : Bool → DifferenceWorld → TreePair → Option ℕ → Bool → TreeFault → Type 0
IsCheckedEnd json w pair most failed Damaged = SaysSuch json w pair most (λ found. IsFoundEnd found Damaged)
IsCheckedEnd json w pair most failed Differs = SaysSuch json w pair most (λ found. IsFoundEnd found Differs)
IsCheckedEnd json w pair most failed fault = IsSayingEnd json w pair most failed fault

-- ---- as a call sees them, as in `Diffs`

-- the second tree fits on its device
abbrev pub FitsSecond : {D : Type 0} → (D → Device) → TwoHashes D → TreePair → Type 0
FitsSecond state two pair = tree_sectors pair.second.shape ≤ (state two.second.device).size

-- why the check of an image's tree ended early
abbrev pub FailsToCheckDevice : {H : Type 0} → (H → Device) → H → H → Bool → DifferenceFault → Type 0
FailsToCheckDevice state h h' failed fault = IsCheckCause (state h) (state h') failed fault

-- two devices, and lines that are kept in memory
abbrev pub kept_world : {D : Type 0} → (D → Device) → TwoHashes D → TwoHashes D → KeptLines → KeptLines → DifferenceWorld
kept_world state two two' kept kept' = two_devices state two two' (Some (lines_text kept.lines.items)) (Some (lines_text kept'.lines.items))

abbrev pub FailsToKeepCheck : {D : Type 0} → (D → Device) → TwoHashes D → TwoHashes D → TreePair → Option ℕ → DifferenceFault → Type 0
FailsToKeepCheck state two two' pair most = IsKeptCheckCause (state two.first.device) (state two.second.device) (state two'.first.device) (state two'.second.device) pair most

-- what was found of two images that are open was printed, or why it wasn't
abbrev pub SaysFound : {D W : Type 0} → Bool → (D → Device) → TwoHashes D → TwoHashes D → (W → Option (List ℕ)) → CountedRecord W → CountedRecord W → TreePair → Option ℕ → CheckedTotals → Type 0
SaysFound json state two two' contents writer writer' pair most found =
    SaysChecked json (two_devices state two two' (contents writer.inner) (contents writer'.inner)) pair most found

abbrev pub FailsToSay : {D W : Type 0} → Bool → (D → Device) → TwoHashes D → TwoHashes D → (W → Option (List ℕ)) → CountedRecord W → CountedRecord W → TreePair → Option ℕ → TreeFault → Type 0
FailsToSay json state two two' contents writer writer' pair most fault =
    IsSayingEnd json (two_devices state two two' (contents writer.inner) (contents writer'.inner)) pair most writer'.failed fault

-- the second's tree is whole and no data block differs, and that was printed
abbrev pub FindsWhole : {D W : Type 0} → (D → Device) → TwoHashes D → TwoHashes D → (W → Option (List ℕ)) → CountedRecord W → CountedRecord W → TreePair → DiffForm → Type 0
FindsWhole state two two' contents writer writer' pair form =
    SaysSuch form.json (two_devices state two two' (contents writer.inner) (contents writer'.inner)) pair form.most IsWholeAndSame

-- it isn't, or they differ, or that isn't known or printed
abbrev pub FailsCheck : {D W : Type 0} → (D → Device) → TwoHashes D → TwoHashes D → (W → Option (List ℕ)) → CountedRecord W → CountedRecord W → TreePair → DiffForm → TreeFault → Type 0
FailsCheck state two two' contents writer writer' pair form fault =
    IsCheckedEnd form.json (two_devices state two two' (contents writer.inner) (contents writer'.inner)) pair form.most writer'.failed fault
