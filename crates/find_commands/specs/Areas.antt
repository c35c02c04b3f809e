-- The JSON areas of LUKS2 headers, read after a search, and the segments that they show.
use Rattle.std.specs.Prelude.{◌≡◌, ◌⊎◌, ℕ, ◌*◌, ◌++◌, Bool, true, false, List, [], ◌∷◌, length, map, Option, Some, None, IsUtf8}
use Rattle.block_device.specs.Call.{IsCall, Read}
use Rattle.block_device.specs.Device.{Device}
use Rattle.partition_table.specs.Labels.{before_zero}
use Rattle.program_io.specs.JsonLines.{json_line}
use Rattle.serde_json.specs.Data.{Data, null}
use Rattle.serde_json.specs.Read.{read}
use Rattle.stack_recovery.specs.declared.recovery.Counts.{Counts}
use Rattle.find_commands.specs.declared.area.AreaFault.{AreaFault}
use Rattle.find_commands.specs.declared.area.AreaFault.TheVariants.{Device as DeviceFailed, NoMemory}
use Rattle.find_commands.specs.declared.finding.Finding.{Finding}
use Rattle.find_commands.specs.Luks.{area_first, area_sectors, has_area}
use Rattle.find_commands.specs.Objects.{found_json, segments_json, shown_json}

-- the value of a text, if it is a JSON text in UTF-8
abbrev pub IsJson : List ℕ → Option Data → Type 0
IsJson text (Some value) = IsUtf8 text × (read text ≡ Some value)
IsJson text None = IsUtf8 text → read text ≡ None

-- the segments that a text states
pub record StatesSegments (text : List ℕ) (segments : Data) : Type 0 where
  pub value : Option Data
  pub parsed : IsJson text value
  pub are : segments ≡ segments_json value

-- what the bytes of an area show: its text ends before the first zero byte
abbrev pub ShowsSegments : List ℕ → Data → Type 0
ShowsSegments area segments = StatesSegments (before_zero area) segments

-- one call was made, a read of so many sectors
abbrev pub CallsRead : {D : Type 0} → (D → Device) → ℕ → ℕ → D → D → Bool → Type 0
CallsRead state first count old new ok = (bytes : List ℕ) × (length bytes ≡ 512 * count) × IsCall (state old) (Read first bytes ok) (state new)

-- why an area isn't read: the one call failed, or none was made since memory was refused
abbrev pub MissesArea : {D : Type 0} → (D → Device) → ℕ → ℕ → D → D → AreaFault → Type 0
MissesArea state first count old new DeviceFailed = CallsRead state first count old new false
MissesArea state first count old new NoMemory = new ≡ old

-- no call was made, or that one
abbrev pub TriesArea : {D : Type 0} → (D → Device) → ℕ → ℕ → D → D → Type 0
TriesArea state first count old new = (new ≡ old) ⊎ ((ok : Bool) × CallsRead state first count old new ok)

-- so many sectors were read by one call, and this is what they show; null if the call failed
pub record ReadsSegments {D : Type 0} (state : D → Device) (first count : ℕ) (old new : D) (segments : Data) : Type 0 where
  pub bytes : List ℕ
  pub size : length bytes ≡ 512 * count
  pub call : IsCall (state old) (Read first bytes true) (state new)
  pub shows : ShowsSegments bytes segments

abbrev pub SeeksSegments : {D : Type 0} → (D → Device) → ℕ → ℕ → D → D → Data → Type 0
SeeksSegments state first count old new segments =
    ReadsSegments state first count old new segments ⊎ ((segments ≡ null) × MissesArea state first count old new DeviceFailed)

-- a thing has no area, and nothing was read
abbrev pub LacksArea : {D : Type 0} → (D → Device) → Finding → D → D → Data → Type 0
LacksArea state f old new segments = (has_area (state old).size f ≡ false) × (new ≡ old) × (segments ≡ null)

-- the segments that a thing shows
abbrev pub FindsSegments : {D : Type 0} → (D → Device) → Finding → D → D → Data → Type 0
FindsSegments state f old new segments =
    LacksArea state f old new segments ⊎ ((has_area (state old).size f ≡ true) × SeeksSegments state (area_first f) (area_sectors f) old new segments)

-- At most the area of a thing was read.
abbrev pub TriesSegments : {D : Type 0} → (D → Device) → Finding → D → D → Type 0
TriesSegments state f old new = (new ≡ old) ⊎ ((has_area (state old).size f ≡ true) × TriesArea state (area_first f) (area_sectors f) old new)

-- those of these things, one after another
abbrev pub FindsEach : {D : Type 0} → (D → Device) → D → List (Finding × Data) → D → Type 0
FindsEach state old [] new = new ≡ old
FindsEach {D = D} state old (shown ∷ more) new = (next : D) × FindsSegments state shown.0 old next shown.1 × FindsEach state next more new

-- of the first of these things
abbrev pub TriesNext : {D : Type 0} → (D → Device) → List Finding → D → D → Type 0
TriesNext state [] old new = new ≡ old
TriesNext state (f ∷ more) old new = TriesSegments state f old new

-- The segments of the first things were sought, and then at most the area of the next one was read.
pub record SeeksSome {D : Type 0} (state : D → Device) (old : D) (found : List Finding) (new : D) : Type 0 where
  pub shown : List (Finding × Data)
  pub rest : List Finding
  pub are : map (λ s. s.0) shown ++ rest ≡ found
  pub between : D
  pub finds : FindsEach state old shown between
  pub next : TriesNext state rest between new

-- these values state things and the segments that they show
pub record StatesFindings {D : Type 0} (state : D → Device) (old : D) (found : List Finding) (new : D) (values : List Data) : Type 0 where
  pub shown : List (Finding × Data)
  pub are : map (λ s. s.0) shown ≡ found
  pub finds : FindsEach state old shown new
  pub values_are : values ≡ map shown_json shown

-- a value states them, with the counts of the search
pub record StatesFound {D : Type 0} (state : D → Device) (old : D) (found : List Finding) (new : D) (counts : Counts) (value : Data) : Type 0 where
  pub shown : List (Finding × Data)
  pub are : map (λ s. s.0) shown ≡ found
  pub finds : FindsEach state old shown new
  pub value_is : value ≡ found_json shown counts

-- a line does
pub record StatesLine {D : Type 0} (state : D → Device) (old : D) (found : List Finding) (new : D) (counts : Counts) (line : List ℕ) : Type 0 where
  pub shown : List (Finding × Data)
  pub are : map (λ s. s.0) shown ≡ found
  pub finds : FindsEach state old shown new
  pub line_is : line ≡ json_line (found_json shown counts)
