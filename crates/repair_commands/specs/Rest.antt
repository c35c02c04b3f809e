-- The report on an image after its repair.
use Rattle.std.specs.Prelude.{◌≡◌, ℕ, Bool, true, false, List, Option, Result, Ok, Err}
use Rattle.charts.specs.declared.form.ReportForm.TheVariants.{Lines}
use Rattle.std.specs.Io.KnownBytes.{Appends}
use Rattle.block_device.specs.Device.{Device}
use Rattle.program_io.specs.Counted.{CountedRecord}
use Rattle.verity_commands.specs.declared.tree_fault.TreeFault.{TreeFault}
use Rattle.verity_commands.specs.declared.tree_fault.TreeFault.TheVariants.{Write}
use Rattle.verity_commands.specs.Surveyed.{SurveyedDevices, surveyed_devices}
use Rattle.verity_commands.specs.Surveys.{IsSurveyEnd, SaysSurvey, survey_totals}
use Rattle.tree_repair.specs.declared.fault.RepairFault.{RepairFault}
use Rattle.tree_repair.specs.declared.outcome.Outcome.{Outcome}
use Rattle.tree_repair.specs.declared.outcome.Outcome.TheVariants.{Partly, Whole}
use Rattle.tree_repair.specs.declared.repair.Plan.{Plan}
use Rattle.tree_survey.specs.declared.counts.Totals.{Totals}
use Rattle.tree_survey.specs.Passes.{Pass, pass}
use Rattle.repair_commands.specs.Endings.{ending_fault}
use Rattle.repair_commands.specs.OnlyRead.{IsReadAlone, read_only}

-- so many data blocks, all of them valid
abbrev pub all_good_totals : ℕ → Totals
all_good_totals count = record { good = count; changed = 0; unknown = 0 }

-- What is known of an image after a repair. `false`: not all hash blocks on the path to the last data block verified before the
-- repair, so one of them may hold something after its last used entry, which only a scan reports.
abbrev pub known_by : Bool → Outcome → Outcome
known_by true outcome = outcome
known_by false outcome = Partly

-- the states of both devices
abbrev pub states_of : {D H : Type 0} → (D → Device) → (H → Device) → D → H → SurveyedDevices
states_of data_state hash_state data_dev hash_dev = surveyed_devices (data_state data_dev) (hash_state hash_dev)

-- both devices were only read, so that what was synced stays so
pub record IsScanned (t t' : SurveyedDevices) : Type 0 where
  pub data_read : IsReadAlone t.data_dev t'.data_dev
  pub hash_read : IsReadAlone t.hash_dev t'.hash_dev

-- a scan of both devices, which may not be written, and what was printed
abbrev pub scan_of : SurveyedDevices → SurveyedDevices → Option (List ℕ) → Option (List ℕ) → Pass
scan_of t t' old new = pass (read_only t.data_dev) (read_only t.hash_dev) (read_only t'.data_dev) (read_only t'.hash_dev) old new

-- If all of the image is known to be valid, the totals were printed, and no device was accessed. Otherwise the image was scanned as
-- by `verify --all`, and all of it is valid.
abbrev pub TellsRest : Outcome → Plan → SurveyedDevices → SurveyedDevices → Option (List ℕ) → Option (List ℕ) → Type 0
TellsRest (Whole count) plan t t' old new = (t' ≡ t) × Appends old new (survey_totals (all_good_totals count))
TellsRest Partly plan t t' old new = IsScanned t t' × SaysSurvey plan.tree (scan_of t t' old new) plan.root true

-- the totals couldn't be printed; or the image couldn't be scanned, or not all of it is valid
abbrev pub IsRestEnd : Outcome → Plan → SurveyedDevices → SurveyedDevices → Option (List ℕ) → Option (List ℕ) → Bool → TreeFault → Type 0
IsRestEnd (Whole count) plan t t' old new failed fault = (t' ≡ t) × ((fault ≡ Write) × (failed ≡ true))
IsRestEnd Partly plan t t' old new failed fault = IsScanned t t' × IsSurveyEnd Lines plan.tree (scan_of t t' old new) plan.root failed fault

-- after a repair to the end
abbrev pub Tells : Result Outcome RepairFault → Bool → Plan → SurveyedDevices → SurveyedDevices → Option (List ℕ) → Option (List ℕ) → Type 0
Tells (Ok found) whole plan t t' old new = TellsRest (known_by whole found) plan t t' old new
Tells (Err fault) whole plan t t' old new = ⊥

-- or after a repair that ended early: no device was accessed, and nothing was printed
abbrev pub IsUntold : Result Outcome RepairFault → Bool → Plan → SurveyedDevices → SurveyedDevices → Option (List ℕ) → Option (List ℕ) → Bool → TreeFault → Type 0
IsUntold (Ok found) whole plan t t' old new failed fault = IsRestEnd (known_by whole found) plan t t' old new failed fault
IsUntold (Err cause) whole plan t t' old new failed fault = (fault ≡ ending_fault cause) × ((t' ≡ t) × (new ≡ old))

-- ---- in terms of two devices, those that are returned, and a writer before and after

abbrev pub TellsOf : {D H W : Type 0} → (D → Device) → (H → Device) → D × H → D → H → Result Outcome RepairFault → Bool → Plan → (W → Option (List ℕ)) → CountedRecord W → CountedRecord W → Type 0
TellsOf data_state hash_state devices d h ended whole plan contents before behind =
    Tells ended whole plan (states_of data_state hash_state devices.0 devices.1) (states_of data_state hash_state d h) (contents before.inner) (contents behind.inner)

abbrev pub IsUntoldOf : {D H W : Type 0} → (D → Device) → (H → Device) → D × H → D → H → Result Outcome RepairFault → Bool → Plan → (W → Option (List ℕ)) → CountedRecord W → CountedRecord W → TreeFault → Type 0
IsUntoldOf data_state hash_state devices d h ended whole plan contents before behind =
    IsUntold ended whole plan (states_of data_state hash_state devices.0 devices.1) (states_of data_state hash_state d h) (contents before.inner) (contents behind.inner) behind.failed

abbrev pub IsRestTold : {D H W : Type 0} → (D → Device) → (H → Device) → D × H → D → H → Outcome → Plan → (W → Option (List ℕ)) → CountedRecord W → CountedRecord W → Type 0
IsRestTold data_state hash_state devices d h outcome plan contents before behind =
    TellsRest outcome plan (states_of data_state hash_state devices.0 devices.1) (states_of data_state hash_state d h) (contents before.inner) (contents behind.inner)

abbrev pub IsRestUntold : {D H W : Type 0} → (D → Device) → (H → Device) → D × H → D → H → Outcome → Plan → (W → Option (List ℕ)) → CountedRecord W → CountedRecord W → TreeFault → Type 0
IsRestUntold data_state hash_state devices d h outcome plan contents before behind =
    IsRestEnd outcome plan (states_of data_state hash_state devices.0 devices.1) (states_of data_state hash_state d h) (contents before.inner) (contents behind.inner) behind.failed

-- a scan of two devices of any type, by their states
abbrev pub SaysLines : {D H W : Type 0} → (D → Device) → (H → Device) → D → H → D → H → Plan → (W → Option (List ℕ)) → CountedRecord W → CountedRecord W → Type 0
SaysLines data_state hash_state d h d' h' plan contents before behind =
    SaysSurvey plan.tree (pass (data_state d) (hash_state h) (data_state d') (hash_state h') (contents before.inner) (contents behind.inner)) plan.root true

abbrev pub IsLinesEnd : {D H W : Type 0} → (D → Device) → (H → Device) → D → H → D → H → Plan → (W → Option (List ℕ)) → CountedRecord W → CountedRecord W → TreeFault → Type 0
IsLinesEnd data_state hash_state d h d' h' plan contents before behind =
    IsSurveyEnd Lines plan.tree (pass (data_state d) (hash_state h) (data_state d') (hash_state h') (contents before.inner) (contents behind.inner)) plan.root behind.failed
