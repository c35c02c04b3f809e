-- The repair by the tree of a release.
use Rattle.std.specs.Prelude.{◌≡◌, Bool, true, false, List, ℕ, Option, None}
use Rattle.block_device.specs.Device.{Device}
use Rattle.program_io.specs.Counted.{CountedRecord}
use Rattle.repair_commands.specs.declared.counters.Counters.{Counters}
use Rattle.repair_commands.specs.Commands.{EndsCounted, EndsOnDevices, RepairsCounted, RepairsDevices}
use Rattle.tree_repair.specs.declared.repair.Plan.{Plan}
use Rattle.tree_repair.specs.Worlds.{RepairWorld}
use Rattle.verity_commands.specs.declared.tree_fault.TreeFault.{TreeFault}
use Rattle.verity_commands.specs.Surveyed.{SurveyedDevices, surveyed_devices}

-- The image was repaired by the tree of the release, all blocks are valid in the end, and what was written is synced; nothing was
-- printed. The pin fixes the tree, so no scan is needed for entries after the last used ones.
abbrev pub RepairsSilently : Plan → RepairWorld → SurveyedDevices → Type 0
RepairsSilently plan w t' = RepairsDevices plan true w t' None None

-- What `repair` prints was printed, or nothing with `--json`; this was counted.
abbrev pub RepairsAloud : Bool → Plan → RepairWorld → SurveyedDevices → Option (List ℕ) → Option (List ℕ) → Counters → Type 0
RepairsAloud true plan w t' old new counters = RepairsCounted plan true w t' None None counters × (new ≡ old)
RepairsAloud false plan w t' old new counters = RepairsCounted plan true w t' old new counters

-- it ended early, or not all blocks are valid
abbrev pub EndsSilently : Plan → RepairWorld → SurveyedDevices → TreeFault → Type 0
EndsSilently plan w t' fault = (unheard : Bool) × EndsOnDevices plan true w t' None None unheard fault

abbrev pub EndsSilentlyCounted : Plan → RepairWorld → SurveyedDevices → Counters → TreeFault → Type 0
EndsSilentlyCounted plan w t' counters fault = (unheard : Bool) × EndsCounted plan true w t' None None unheard counters fault

-- what `repair` prints was printed, or nothing with `--json`; this was counted
abbrev pub EndsAloud : Bool → Plan → RepairWorld → SurveyedDevices → Option (List ℕ) → Option (List ℕ) → Bool → Counters → TreeFault → Type 0
EndsAloud true plan w t' old new failed counters fault = EndsSilentlyCounted plan w t' counters fault × (new ≡ old)
EndsAloud false plan w t' old new failed counters fault = EndsCounted plan true w t' old new failed counters fault

-- ---- in terms of the devices that are returned, and a writer before and after

abbrev pub AreRepairedAloud : {D H W : Type 0} → (D → Device) → (H → Device) → RepairWorld → Plan → Bool → D → H → Counters → (W → Option (List ℕ)) → CountedRecord W → CountedRecord W → Type 0
AreRepairedAloud data_state hash_state w plan json d h counters contents before behind =
    RepairsAloud json plan w (surveyed_devices (data_state d) (hash_state h)) (contents before.inner) (contents behind.inner) counters

abbrev pub AreUnrepairedAloud : {D H W : Type 0} → (D → Device) → (H → Device) → RepairWorld → Plan → Bool → D → H → Counters → (W → Option (List ℕ)) → CountedRecord W → CountedRecord W → TreeFault → Type 0
AreUnrepairedAloud data_state hash_state w plan json d h counters contents before behind =
    EndsAloud json plan w (surveyed_devices (data_state d) (hash_state h)) (contents before.inner) (contents behind.inner) behind.failed counters

abbrev pub AreRepairedSilently : {D H : Type 0} → (D → Device) → (H → Device) → RepairWorld → Plan → D → H → Counters → Type 0
AreRepairedSilently data_state hash_state w plan d h counters = RepairsCounted plan true w (surveyed_devices (data_state d) (hash_state h)) None None counters

abbrev pub AreUnrepairedSilently : {D H : Type 0} → (D → Device) → (H → Device) → RepairWorld → Plan → D → H → Counters → TreeFault → Type 0
AreUnrepairedSilently data_state hash_state w plan d h counters fault = EndsSilentlyCounted plan w (surveyed_devices (data_state d) (hash_state h)) counters fault
