-- What `verify --all` prints, and how it ends.
use Rattle.std.specs.Prelude.{◌≡◌, ◌⊎◌, ℕ, ◌==◌, ◌&&◌, Bool, true, false, List, [], ◌++◌, codes, decimal, Option, Some}
use Rattle.std.specs.Io.KnownBytes.{Appends}
use Rattle.allocation.specs.Refusal.{IsOutOfMemory}
use Rattle.block_device.specs.Device.{Device}
use Rattle.program_io.specs.Counted.{CountedRecord}
use Rattle.image_pin.specs.declared.finding.NoTree.{NoTree}
use Rattle.image_pin.specs.declared.finding.NoTree.TheVariants as no_tree
use Rattle.image_commands.specs.declared.paths.TwoImages.{TwoImages}
use Rattle.image_commands.specs.declared.places.Bounds.{Bounds}
use Rattle.image_commands.specs.declared.tree_source.NoSource.{NoSource}
use Rattle.image_commands.specs.declared.tree_source.NoSource.TheVariants as no_source
use Rattle.image_commands.specs.declared.tree_source.SoughtTree.{SoughtTree}
use Rattle.image_commands.specs.declared.tree_source.TreeSource.{TreeSource}
use Rattle.image_commands.specs.TreeSources.{IsNoTreeOf, IsTreeOf, may_seek}
use Rattle.image_commands.specs.Openings.{FailsToOpenTwo, OpensTwo, TwoPaths}
use Rattle.image_commands.specs.Places.{IsPartState, TwoPlaces, before, behind, data_end}
use Rattle.image_files.specs.Opener.{Calls, Opener, calls}
use Rattle.program_io.specs.JsonLines.{json_line}
use Rattle.tree_shape.specs.Shape.{ShapeRecord}
use Rattle.verity_format.specs.declared.tree.VerityTree.{VerityTree}
use Rattle.verity_format.specs.declared.verifying.VerifyFault.TheVariants as verify
use Rattle.runs.specs.declared.line.Line.{Line}
use Rattle.runs.specs.declared.listing.KeptLines.{KeptLines}
use Rattle.runs.specs.Lines.{lines_text}
use Rattle.tree_survey.specs.declared.counts.Totals.{Totals}
use Rattle.tree_survey.specs.declared.fault.SurveyFault.{SurveyFault}
use Rattle.tree_survey.specs.declared.fault.SurveyFault.TheVariants.{Image}
use Rattle.tree_survey.specs.declared.fault.SurveyFault.TheVariants as survey_fault
use Rattle.tree_survey.specs.declared.survey.Survey.{Survey as Found}
use Rattle.tree_survey.specs.Causes.{IsSurveyCause}
use Rattle.tree_survey.specs.Passes.{IsSurvey, Pass, pass}
use Rattle.verity_commands.specs.declared.tree_fault.TreeFault.{TreeFault}
use Rattle.verity_commands.specs.declared.tree_fault.TreeFault.TheVariants.{Damaged, NoShape, Open, Survey, Unaligned, Unpinned, Write}
use Rattle.verity_commands.specs.declared.survey.SurveyOrder.{SurveyOrder}
use Rattle.charts.specs.Charts.{chart_text}
use Rattle.charts.specs.declared.form.ReportForm.{ReportForm}
use Rattle.charts.specs.declared.form.ReportForm.TheVariants.{Chart, Lines, Object}
use Rattle.verity_commands.specs.Objects.{survey_json}
use Rattle.verity_commands.specs.SurveyCharts.{damage_mark}
use Rattle.verity_commands.specs.Surveyed.{SurveyedDevices}

-- `good N changed N unknown N`
unfoldable pub survey_totals : Totals → List ℕ
survey_totals t = codes "good " ++ (decimal t.good ++ (codes " changed " ++ (decimal t.changed ++ (codes " unknown " ++ (decimal t.unknown ++ codes "\n")))))

-- the lines, a map of all data blocks, and the totals
abbrev pub charted_survey : VerityTree → List Line → Totals → List ℕ
charted_survey tree lines totals = lines_text lines ++ (chart_text (damage_mark lines) tree.shape.blocks ++ survey_totals totals)

-- no data block is changed or unknown, and all hash blocks are good
abbrev pub is_all_good : Found → Bool
is_all_good found = (found.totals.changed == 0) && ((found.totals.unknown == 0) && found.whole_tree)

-- the image was scanned, its lines and totals were printed, and the flag says whether all of it is good
pub record SaysSurvey (tree : VerityTree) (w : Pass) (root : List ℕ) (good : Bool) : Type 0 where
  pub found : Found
  pub between : Option (List ℕ)
  pub survey : IsSurvey tree (record w { printed' = between }) root found
  pub printed_are : Appends between w.printed' (survey_totals found.totals)
  pub is : is_all_good found ≡ good

-- the image was scanned, and one object printed, of the lines and totals that are printed without `--json`
pub record SaysObject (tree : VerityTree) (w : Pass) (root : List ℕ) (good : Bool) : Type 0 where
  pub found : Found
  pub lines : List Line
  pub survey : IsSurvey tree (record w { printed = Some []; printed' = Some (lines_text lines) }) root found
  pub printed_are : Appends w.printed w.printed' (json_line (survey_json lines found.totals))
  pub is : is_all_good found ≡ good

-- the image was scanned, and the lines, a map and the totals were printed at the end
pub record SaysChart (tree : VerityTree) (w : Pass) (root : List ℕ) (good : Bool) : Type 0 where
  pub found : Found
  pub lines : List Line
  pub survey : IsSurvey tree (record w { printed = Some []; printed' = Some (lines_text lines) }) root found
  pub printed_are : Appends w.printed w.printed' (charted_survey tree lines found.totals)
  pub is : is_all_good found ≡ good

-- as an object, with a map, or as lines
abbrev pub SaysFound : ReportForm → VerityTree → Pass → List ℕ → Bool → Type 0
SaysFound Object tree w root good = SaysObject tree w root good
SaysFound Chart tree w root good = SaysChart tree w root good
SaysFound Lines tree w root good = SaysSurvey tree w root good

-- a line that isn't kept in memory is want of it
abbrev pub unkept_survey : SurveyFault → SurveyFault
unkept_survey survey_fault.Write = Image verify.NoMemory
unkept_survey (Image fault) = Image fault

-- why an image isn't scanned, if lines are kept in memory: room for one line may have been refused
abbrev pub IsKeptCause : ShapeRecord → Device → Device → Device → Device → SurveyFault → Type 0
IsKeptCause shape data_dev hash_dev data_dev' hash_dev' (Image verify.NoMemory) = IsSurveyCause shape data_dev hash_dev data_dev' hash_dev' false (Image verify.NoMemory) ⊎ IsOutOfMemory 1
IsKeptCause shape data_dev hash_dev data_dev' hash_dev' fault = IsSurveyCause shape data_dev hash_dev data_dev' hash_dev' false fault

-- the image was scanned, and then memory ran out for the JSON values
pub record LacksSurveyObject (tree : VerityTree) (w : Pass) (root : List ℕ) (fault : SurveyFault) : Type 0 where
  pub found : Found
  pub lines : List Line
  pub survey : IsSurvey tree (record w { printed = Some []; printed' = Some (lines_text lines) }) root found
  pub is : fault ≡ Image verify.NoMemory

-- why an image isn't scanned, or no object made; nothing was printed before if lines are kept in memory
abbrev pub IsUnseen : ReportForm → VerityTree → Pass → List ℕ → Bool → SurveyFault → Type 0
IsUnseen Object tree w root failed fault = (IsKeptCause tree.shape w.data_dev w.hash_dev w.data_dev' w.hash_dev' fault ⊎ LacksSurveyObject tree w root fault) × (w.printed' ≡ w.printed)
IsUnseen Chart tree w root failed fault = IsKeptCause tree.shape w.data_dev w.hash_dev w.data_dev' w.hash_dev' fault × (w.printed' ≡ w.printed)
IsUnseen Lines tree w root failed fault = IsSurveyCause tree.shape w.data_dev w.hash_dev w.data_dev' w.hash_dev' failed fault

-- a part of the image isn't good, or why the image isn't scanned, or a line can't be written
abbrev pub IsSurveyEnd : ReportForm → VerityTree → Pass → List ℕ → Bool → TreeFault → Type 0
IsSurveyEnd form tree w root failed Damaged = SaysFound form tree w root false
IsSurveyEnd form tree w root failed (Survey fault) = IsUnseen form tree w root failed fault
IsSurveyEnd form tree w root failed Write = failed ≡ true
IsSurveyEnd form tree w root failed fault = ⊥

-- ---- a place for the hash image in its file

-- the tree was found by its source, and the image scanned by it; `Data` and `Hash` hold of what calls left
pub record SurveysPlaced (form : ReportForm) (Data Hash : Device → Type 0) (data_dev hash_dev : Device) (end first : ℕ) (sought : SoughtTree) (old new : Option (List ℕ)) : Type 0 where
  pub tree : VerityTree
  pub read_dev : Device
  pub data_dev' : Device
  pub hash_dev' : Device
  pub left : Hash read_dev × Data data_dev' × Hash hash_dev'
  pub found : IsTreeOf sought.source (before data_dev end).size (behind hash_dev first) first read_dev tree
  pub says : SaysFound form tree (pass (before data_dev end) read_dev data_dev' hash_dev' old new) sought.root true

-- with which fault a command ends without a tree
abbrev pub no_tree_fault : NoTree → TreeFault
no_tree_fault (no_tree.Unread fault) = Survey (Image fault)
no_tree_fault no_tree.Unaligned = Unaligned
no_tree_fault (no_tree.Unpinned mismatch) = Unpinned mismatch

abbrev pub no_source_fault : NoSource → TreeFault
no_source_fault (no_source.Stored cause) = no_tree_fault cause
no_source_fault no_source.Shape = NoShape

-- there is no superblock at that sector, it differs from the pin, or no hash block begins there; or no tree has the options' shape
pub record IsSurveyWithout (Hash : Device → Type 0) (sectors : ℕ) (hash_dev : Device) (first : ℕ) (source : TreeSource) (fault : TreeFault) : Type 0 where
  pub cause : NoSource
  pub hash_dev' : Device
  pub left : Hash hash_dev'
  pub none : IsNoTreeOf source sectors (behind hash_dev first) first hash_dev' cause
  pub is : fault ≡ no_source_fault cause

pub record EndsPlacedSurvey (form : ReportForm) (Data Hash : Device → Type 0) (data_dev hash_dev : Device) (end first : ℕ) (sought : SoughtTree) (old new : Option (List ℕ)) (failed : Bool) (fault : TreeFault) : Type 0 where
  pub tree : VerityTree
  pub read_dev : Device
  pub data_dev' : Device
  pub hash_dev' : Device
  pub left : Hash read_dev × Data data_dev' × Hash hash_dev'
  pub found : IsTreeOf sought.source (before data_dev end).size (behind hash_dev first) first read_dev tree
  pub ends : IsSurveyEnd form tree (pass (before data_dev end) read_dev data_dev' hash_dev' old new) sought.root failed fault

abbrev pub IsPlacedSurveyEnd : ReportForm → (Device → Type 0) → (Device → Type 0) → Device → Device → ℕ → ℕ → SoughtTree → Option (List ℕ) → Option (List ℕ) → Bool → TreeFault → Type 0
IsPlacedSurveyEnd form Data Hash data_dev hash_dev end first sought old new failed fault =
    (IsSurveyWithout Hash (before data_dev end).size hash_dev first sought.source fault × (new ≡ old)) ⊎ EndsPlacedSurvey form Data Hash data_dev hash_dev end first sought old new failed fault

-- ---- of images that were opened

abbrev pub survey_places : SurveyOrder → TwoPlaces
survey_places p = record { paths = record { data_path = p.data.now; hash_path = p.hash.now }; first = p.hash_first }

pub record PrintsGood {S D : Type 0} (form : ReportForm) (w : Calls S D) (places : TwoPlaces) (sought : SoughtTree) (old new : Option (List ℕ)) : Type 0 where
  pub two : TwoImages D
  pub aligned : may_seek sought.source places.first ≡ true
  pub opened : OpensTwo w places.paths false two
  pub surveys : SurveysPlaced form (IsPartState w.state) (IsPartState w.state) (w.state two.data.device) (w.state two.hash.device) (data_end two places.first) places.first sought old new

pub record EndsTreeSurvey {S D : Type 0} (form : ReportForm) (w : Calls S D) (places : TwoPlaces) (sought : SoughtTree) (old new : Option (List ℕ)) (failed : Bool) (fault : TreeFault) : Type 0 where
  pub two : TwoImages D
  pub opened : OpensTwo w places.paths false two
  pub ends : IsPlacedSurveyEnd form (IsPartState w.state) (IsPartState w.state) (w.state two.data.device) (w.state two.hash.device) (data_end two places.first) places.first sought old new failed fault

-- one of the two isn't opened
abbrev pub IsImageUnopened : {S D : Type 0} → Calls S D → TwoPaths → TreeFault → Type 0
IsImageUnopened w paths (Open file) = FailsToOpenTwo w paths false file
IsImageUnopened w paths fault = ⊥

-- no hash block of the options' tree begins there, and nothing was opened
pub record IsSurveyUnplaced {S D : Type 0} (w : Calls S D) (places : TwoPlaces) (source : TreeSource) (fault : TreeFault) : Type 0 where
  pub unaligned : may_seek source places.first ≡ false
  pub is : fault ≡ Unaligned
  pub same : w.new ≡ w.old

-- one of these, and nothing is printed, or it ends so
abbrev pub IsSurveyFilesEnd : {S D : Type 0} → ReportForm → Calls S D → TwoPlaces → SoughtTree → Option (List ℕ) → Option (List ℕ) → Bool → TreeFault → Type 0
IsSurveyFilesEnd form w places sought old new failed fault =
    (IsSurveyUnplaced w places sought.source fault × (new ≡ old)) ⊎ ((IsImageUnopened w places.paths fault × (new ≡ old)) ⊎ EndsTreeSurvey form w places sought old new failed fault)

-- ---- as a call sees them, as in `Diffs`

-- the two devices of an image, and what was printed
abbrev pub gone_over : SurveyedDevices → SurveyedDevices → Option (List ℕ) → Option (List ℕ) → Pass
gone_over image image' old new = pass image.data_dev image.hash_dev image'.data_dev image'.hash_dev old new

-- the two devices of an image, and the lines kept in memory
abbrev pub listed_survey : SurveyedDevices → SurveyedDevices → KeptLines → KeptLines → Pass
listed_survey image image' kept kept' = gone_over image image' (Some (lines_text kept.lines.items)) (Some (lines_text kept'.lines.items))

abbrev pub FailsToListSurvey : VerityTree → SurveyedDevices → SurveyedDevices → SurveyFault → Type 0
FailsToListSurvey tree image image' = IsKeptCause tree.shape image.data_dev image.hash_dev image'.data_dev image'.hash_dev

-- all of the image is good, and that was printed
abbrev pub FindsGood : {W : Type 0} → ReportForm → VerityTree → SurveyedDevices → SurveyedDevices → (W → Option (List ℕ)) → CountedRecord W → CountedRecord W → List ℕ → Type 0
FindsGood form tree image image' contents writer writer' root = SaysFound form tree (gone_over image image' (contents writer.inner) (contents writer'.inner)) root true

-- it isn't, or that isn't known or printed
abbrev pub FailsSurvey : {W : Type 0} → ReportForm → VerityTree → SurveyedDevices → SurveyedDevices → (W → Option (List ℕ)) → CountedRecord W → CountedRecord W → List ℕ → TreeFault → Type 0
FailsSurvey form tree image image' contents writer writer' root = IsSurveyEnd form tree (gone_over image image' (contents writer.inner) (contents writer'.inner)) root writer'.failed

-- the survey of the data before their end and of the hash image that begins at a sector
abbrev pub SurveysBehind : {D H W : Type 0} → (D → Device) → (H → Device) → D × H → (W → Option (List ℕ)) → CountedRecord W → CountedRecord W → Bounds → SoughtTree → ReportForm → Type 0
SurveysBehind data_state hash_state devices contents writer writer' bounds sought form =
    SurveysPlaced form (IsPartState data_state) (IsPartState hash_state) (data_state devices.0) (hash_state devices.1) bounds.end bounds.first sought (contents writer.inner) (contents writer'.inner)

abbrev pub FailsToSurveyBehind : {D H W : Type 0} → (D → Device) → (H → Device) → D × H → (W → Option (List ℕ)) → CountedRecord W → CountedRecord W → Bounds → SoughtTree → ReportForm → TreeFault → Type 0
FailsToSurveyBehind data_state hash_state devices contents writer writer' bounds sought form =
    IsPlacedSurveyEnd form (IsPartState data_state) (IsPartState hash_state) (data_state devices.0) (hash_state devices.1) bounds.end bounds.first sought (contents writer.inner) (contents writer'.inner) writer'.failed

-- two images
abbrev pub SurveysImages : {S D W : Type 0} → Opener S D → (D → Device) → S → S → (W → Option (List ℕ)) → CountedRecord W → CountedRecord W → SurveyOrder → SoughtTree → Type 0
SurveysImages relations state images images' contents writer writer' order sought =
    PrintsGood order.form (calls relations state images images') (survey_places order) sought (contents writer.inner) (contents writer'.inner)

abbrev pub FailsToSurvey : {S D W : Type 0} → Opener S D → (D → Device) → S → S → (W → Option (List ℕ)) → CountedRecord W → CountedRecord W → SurveyOrder → SoughtTree → TreeFault → Type 0
FailsToSurvey relations state images images' contents writer writer' order sought =
    IsSurveyFilesEnd order.form (calls relations state images images') (survey_places order) sought (contents writer.inner) (contents writer'.inner) writer'.failed
