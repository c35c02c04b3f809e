-- What the commands on hash trees print by their words, and how they end early.
use Rattle.std.specs.Prelude.{ℕ, ◌/◌, Bool, List, Option}
use Rattle.block_device.specs.Device.{Device}
use Rattle.command_line.specs.declared.words.diff.DiffWords.{DiffWords}
use Rattle.command_line.specs.declared.words.tree_verify.TreeVerifyWords.{TreeVerifyWords}
use Rattle.command_line.specs.declared.words.verify.VerifyWords.{VerifyWords}
use Rattle.command_line.specs.words.Diff.{DiffRecord, diff_record}
use Rattle.command_line.specs.words.TreeVerify.{TreeVerifyRecord, tree_verify_record}
use Rattle.command_line.specs.words.Verify.{VerifyRecord, verify_record}
use Rattle.program_io.specs.Counted.{CountedRecord}
use Rattle.image_pin.specs.declared.trusted.TrustedRoot.{TrustedRoot}
use Rattle.image_commands.specs.declared.tree_source.SoughtTree.{SoughtTree}
use Rattle.image_commands.specs.Places.{TwoPlaces}
use Rattle.image_commands.specs.TreeSources.{stored_source}
use Rattle.image_files.specs.Opener.{Calls, Opener, calls}
use Rattle.verity_commands.specs.declared.diff.DiffForm.{DiffForm}
use Rattle.verity_commands.specs.declared.tree_fault.TreeFault.{TreeFault}
use Rattle.verity_commands.specs.declared.tree_pair.SoughtTrees.{SoughtTrees}
use Rattle.verity_commands.specs.DiffImages.{DiffsPlaces, IsPlacesEnd}
use Rattle.verity_commands.specs.Openings.{BothPlaces}
use Rattle.verity_commands.specs.Surveys.{IsSurveyFilesEnd, PrintsGood}

-- ---- `diff`

abbrev pub diff_places : DiffRecord → BothPlaces
diff_places d = record {
  paths = record { first_path = d.old_path; second_path = d.new_path };
  starts = record { first = d.old_offset / 512; second = d.new_offset / 512 };
}

abbrev pub diff_form : DiffRecord → DiffForm
diff_form d = record { most = d.runs; json = d.json; all = d.all }

abbrev pub DiffsTrees : {S D : Type 0} → Calls S D → DiffRecord → SoughtTrees → Option (List ℕ) → Option (List ℕ) → Type 0
DiffsTrees w d sought old new = DiffsPlaces w (diff_places d) sought (diff_form d) old new

abbrev pub IsDiffWordsEnd : {S D : Type 0} → Calls S D → DiffRecord → SoughtTrees → Option (List ℕ) → Option (List ℕ) → Bool → TreeFault → Type 0
IsDiffWordsEnd w d sought old new failed fault = IsPlacesEnd w (diff_places d) sought (diff_form d) old new failed fault

-- ---- `verify --all`

abbrev pub survey_at : VerifyRecord → TwoPlaces
survey_at v = record { paths = record { data_path = v.data_path; hash_path = v.hash_path }; first = v.hash_offset / 512 }

abbrev pub SurveysAt : {S D : Type 0} → Calls S D → VerifyRecord → TrustedRoot → Option (List ℕ) → Option (List ℕ) → Type 0
SurveysAt w v trusted old new = PrintsGood v.form w (survey_at v) (stored_source trusted) old new

abbrev pub IsSurveyWordsEnd : {S D : Type 0} → Calls S D → VerifyRecord → TrustedRoot → Option (List ℕ) → Option (List ℕ) → Bool → TreeFault → Type 0
IsSurveyWordsEnd w v trusted old new failed fault = IsSurveyFilesEnd v.form w (survey_at v) (stored_source trusted) old new failed fault

-- without a superblock
abbrev pub tree_survey_at : TreeVerifyRecord → TwoPlaces
tree_survey_at v = record { paths = record { data_path = v.data_path; hash_path = v.hash_path }; first = v.hash_offset / 512 }

abbrev pub SurveysTreeAt : {S D : Type 0} → Calls S D → TreeVerifyRecord → SoughtTree → Option (List ℕ) → Option (List ℕ) → Type 0
SurveysTreeAt w v sought old new = PrintsGood v.form w (tree_survey_at v) sought old new

abbrev pub IsTreeSurveyEnd : {S D : Type 0} → Calls S D → TreeVerifyRecord → SoughtTree → Option (List ℕ) → Option (List ℕ) → Bool → TreeFault → Type 0
IsTreeSurveyEnd w v sought old new failed fault = IsSurveyFilesEnd v.form w (tree_survey_at v) sought old new failed fault

-- ---- as a call sees them, by the program's own words

abbrev pub DiffsByWords : {S D W : Type 0} → Opener S D → (D → Device) → S → S → (W → Option (List ℕ)) → CountedRecord W → CountedRecord W → DiffWords → SoughtTrees → Type 0
DiffsByWords relations state images images' contents writer writer' words sought = DiffsTrees (calls relations state images images') (diff_record words) sought (contents writer.inner) (contents writer'.inner)

abbrev pub FailsDiffByWords : {S D W : Type 0} → Opener S D → (D → Device) → S → S → (W → Option (List ℕ)) → CountedRecord W → CountedRecord W → DiffWords → SoughtTrees → TreeFault → Type 0
FailsDiffByWords relations state images images' contents writer writer' words sought = IsDiffWordsEnd (calls relations state images images') (diff_record words) sought (contents writer.inner) (contents writer'.inner) writer'.failed

abbrev pub SurveysByWords : {S D W : Type 0} → Opener S D → (D → Device) → S → S → (W → Option (List ℕ)) → CountedRecord W → CountedRecord W → VerifyWords → TrustedRoot → Type 0
SurveysByWords relations state images images' contents writer writer' words trusted = SurveysAt (calls relations state images images') (verify_record words) trusted (contents writer.inner) (contents writer'.inner)

abbrev pub FailsSurveyByWords : {S D W : Type 0} → Opener S D → (D → Device) → S → S → (W → Option (List ℕ)) → CountedRecord W → CountedRecord W → VerifyWords → TrustedRoot → TreeFault → Type 0
FailsSurveyByWords relations state images images' contents writer writer' words trusted = IsSurveyWordsEnd (calls relations state images images') (verify_record words) trusted (contents writer.inner) (contents writer'.inner) writer'.failed

abbrev pub SurveysTreeByWords : {S D W : Type 0} → Opener S D → (D → Device) → S → S → (W → Option (List ℕ)) → CountedRecord W → CountedRecord W → TreeVerifyWords → SoughtTree → Type 0
SurveysTreeByWords relations state images images' contents writer writer' words sought = SurveysTreeAt (calls relations state images images') (tree_verify_record words) sought (contents writer.inner) (contents writer'.inner)

abbrev pub FailsTreeSurvey : {S D W : Type 0} → Opener S D → (D → Device) → S → S → (W → Option (List ℕ)) → CountedRecord W → CountedRecord W → TreeVerifyWords → SoughtTree → TreeFault → Type 0
FailsTreeSurvey relations state images images' contents writer writer' words sought = IsTreeSurveyEnd (calls relations state images images') (tree_verify_record words) sought (contents writer.inner) (contents writer'.inner) writer'.failed
