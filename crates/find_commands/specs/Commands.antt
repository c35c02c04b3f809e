-- What `find` prints, and how it ends early.
use Rattle.std.specs.Prelude.{◌≡◌, ◌⊎◌, ℕ, ◌++◌, Bool, true, false, List, length, map, Option}
use Rattle.std.specs.Io.KnownBytes.{Appends}
use Rattle.allocation.specs.Refusal.{IsOutOfMemory}
use Rattle.block_device.specs.Call.{Call, Calls, IsCall}
use Rattle.block_device.specs.Device.{Device}
use Rattle.program_io.specs.Counted.{CountedRecord}
use Rattle.program_io.specs.JsonLines.{json_line}
use Rattle.serde_json.specs.Data.{Data}
use Rattle.command_line.specs.declared.words.find.FindWords.{FindWords}
use Rattle.command_line.specs.words.Find.{FindRecord, find_record}
use Rattle.image_files.specs.declared.placed_image.PlacedImage.{PlacedImage}
use Rattle.image_files.specs.Opener.{Calls as Openings, Opener, calls}
use Rattle.image_files.specs.OpenPlaces.{OpensPlace, RefusesPlace}
use Rattle.stack_files.specs.declared.stack_fault.StackFault.TheVariants as stack_fault
use Rattle.stack_recovery.specs.declared.recovery.Counts.{Counts}
use Rattle.scan_commands.specs.CountedPasses.{unrestored}
use Rattle.scan_commands.specs.Counting.{counts_text, has_missing}
use Rattle.scan_commands.specs.declared.recovering_fault.RecoveringFault.{RecoveringFault}
use Rattle.scan_commands.specs.declared.recovering_fault.RecoveringFault.TheVariants.{Lost, LostAsSaid, NoMemory, Stack, Write}
use Rattle.find_commands.specs.declared.finding.Finding.{Finding}
use Rattle.find_commands.specs.declared.listing.ListFault.{ListFault}
use Rattle.find_commands.specs.declared.listing.ListFault.TheVariants as list_fault
use Rattle.find_commands.specs.Areas.{FindsEach, SeeksSome}
use Rattle.find_commands.specs.Findings.{findings_in}
use Rattle.find_commands.specs.Lines.{found_lines}
use Rattle.find_commands.specs.Objects.{found_json}
use Rattle.find_commands.specs.Searches.{AreInOrder, read_counts, shown}

-- what a call does to what a proof sees of a device
abbrev pub SeenDoes : {D : Type 0} → (D → Device) → D → Call → D → Type 0
SeenDoes state old call new = IsCall (state old) call (state new)

-- Each sector of a device was read or is lost. These things are what the sectors show, with these counts.
pub record FindsThings {D : Type 0} (state : D → Device) (old new : D) (found : List Finding) (counts : Counts) : Type 0 where
  pub calls : List Call
  pub made : Calls (SeenDoes state) old calls new
  pub order : AreInOrder 0 calls
  pub whole : length (shown calls) ≡ (state old).size
  pub found_are : found ≡ findings_in (shown calls)
  pub counted : counts ≡ read_counts (shown calls)

-- a device before and after a search, and what was printed
pub record Printing (D : Type 0) : Type 0 where
  pub device : D
  pub device' : D
  pub printed : Option (List ℕ)
  pub printed' : Option (List ℕ)

abbrev pub printing : {D : Type 0} → D → D → Option (List ℕ) → Option (List ℕ) → Printing D
printing device device' printed printed' = record { device = device; device' = device'; printed = printed; printed' = printed' }

-- a text of what was found was printed
pub record PrintsFound {D : Type 0} (state : D → Device) (text : List Finding → Counts → List ℕ) (o : Printing D) (counts : Counts) : Type 0 where
  pub found : List Finding
  pub finds : FindsThings state o.device o.device' found counts
  pub text_is : Appends o.printed o.printed' (text found counts)

-- The object was printed: after the search of the device, the segments of its LUKS2 headers were sought.
pub record PrintsObject {D : Type 0} (state : D → Device) (o : Printing D) (counts : Counts) : Type 0 where
  pub searched : D
  pub found : List Finding
  pub shown : List (Finding × Data)
  pub finds : FindsThings state o.device searched found counts
  pub are : map (λ s. s.0) shown ≡ found
  pub segments : FindsEach state searched shown o.device'
  pub text_is : Appends o.printed o.printed' (json_line (found_json shown counts))

-- the lines; with the counts
abbrev pub found_lines_text : List Finding → Counts → List ℕ
found_lines_text found counts = found_lines found

abbrev pub found_whole_text : List Finding → Counts → List ℕ
found_whole_text found counts = found_lines found ++ counts_text (unrestored counts)

-- no sector is lost
abbrev pub PrintsWhole : {D : Type 0} → (D → Device) → (List Finding → Counts → List ℕ) → Printing D → Type 0
PrintsWhole state text o = (counts : Counts) × (has_missing counts ≡ false) × PrintsFound state text o counts

abbrev pub PrintsWholeObject : {D : Type 0} → (D → Device) → Printing D → Type 0
PrintsWholeObject state o = (counts : Counts) × (has_missing counts ≡ false) × PrintsObject state o counts

-- sectors are lost
abbrev pub PrintsLossyObject : {D : Type 0} → (D → Device) → Printing D → Type 0
PrintsLossyObject state o = (counts : Counts) × (has_missing counts ≡ true) × PrintsObject state o counts

-- with these counts, which the end of the command prints
pub record LosesSome {D : Type 0} (state : D → Device) (o : Printing D) (counts : Counts) : Type 0 where
  pub some : has_missing counts ≡ true
  pub prints : PrintsFound state found_lines_text o counts

-- Nothing was printed: room for a finding was refused, or a search found all, and memory ran out for the object, maybe before all
-- segments were sought.
pub record LacksFindMemory {D : Type 0} (state : D → Device) (o : Printing D) : Type 0 where
  pub quiet : o.printed' ≡ o.printed
  pub cause : IsOutOfMemory 1 ⊎ ((found : List Finding) × (counts : Counts) × (searched : D) × FindsThings state o.device searched found counts × SeeksSome state searched found o.device')

-- how a search ends early, or with lost sectors
abbrev pub IsFoundLinesEnd : {D : Type 0} → (D → Device) → Printing D → Bool → RecoveringFault → Type 0
IsFoundLinesEnd state o failed (Lost counts) = LosesSome state o counts.sectors × (counts ≡ unrestored counts.sectors)
IsFoundLinesEnd state o failed Write = failed ≡ true
IsFoundLinesEnd state o failed fault = ⊥

abbrev pub IsFoundObjectEnd : {D : Type 0} → (D → Device) → Printing D → Bool → RecoveringFault → Type 0
IsFoundObjectEnd state o failed LostAsSaid = PrintsLossyObject state o
IsFoundObjectEnd state o failed NoMemory = LacksFindMemory state o
IsFoundObjectEnd state o failed Write = failed ≡ true
IsFoundObjectEnd state o failed fault = ⊥

-- a finding isn't received
abbrev pub list_end : ListFault → RecoveringFault
list_end list_fault.NoMemory = NoMemory
list_end list_fault.Write = Write

-- ---- by the form

abbrev pub PrintsFoundForm : {D : Type 0} → Bool → (D → Device) → Printing D → Type 0
PrintsFoundForm false state o = PrintsWhole state found_whole_text o
PrintsFoundForm true state o = PrintsWholeObject state o

abbrev pub IsFoundEnd : {D : Type 0} → Bool → (D → Device) → Printing D → Bool → RecoveringFault → Type 0
IsFoundEnd false state o failed fault = IsFoundLinesEnd state o failed fault
IsFoundEnd true state o failed fault = IsFoundObjectEnd state o failed fault

-- ---- of the image that a place names, which is only read

pub record FindsInPlace {S D : Type 0} (w : Openings S D) (f : FindRecord) (old new : Option (List ℕ)) : Type 0 where
  pub image : PlacedImage D
  pub device' : D
  pub opened : OpensPlace w f.place false image
  pub prints : PrintsFoundForm f.json w.state (printing image.device device' old new)

pub record EndsInPlace {S D : Type 0} (w : Openings S D) (f : FindRecord) (old new : Option (List ℕ)) (failed : Bool) (fault : RecoveringFault) : Type 0 where
  pub image : PlacedImage D
  pub device' : D
  pub opened : OpensPlace w f.place false image
  pub ends : IsFoundEnd f.json w.state (printing image.device device' old new) failed fault

-- it isn't opened
abbrev pub IsPlaceUnopened : {S D : Type 0} → Openings S D → FindRecord → RecoveringFault → Type 0
IsPlaceUnopened w f (Stack (stack_fault.Open file)) = RefusesPlace w f.place false file
IsPlaceUnopened w f fault = ⊥

abbrev pub IsFindEnd : {S D : Type 0} → Openings S D → FindRecord → Option (List ℕ) → Option (List ℕ) → Bool → RecoveringFault → Type 0
IsFindEnd w f old new failed fault = (IsPlaceUnopened w f fault × (new ≡ old)) ⊎ EndsInPlace w f old new failed fault

-- ---- as a call sees them

abbrev pub PrintsFoundLines : {D W : Type 0} → (D → Device) → D → D → (W → Option (List ℕ)) → CountedRecord W → CountedRecord W → Type 0
PrintsFoundLines state device device' contents writer writer' = PrintsWhole state found_whole_text (printing device device' (contents writer.inner) (contents writer'.inner))

abbrev pub EndsFoundLines : {D W : Type 0} → (D → Device) → D → D → (W → Option (List ℕ)) → CountedRecord W → CountedRecord W → RecoveringFault → Type 0
EndsFoundLines state device device' contents writer writer' = IsFoundLinesEnd state (printing device device' (contents writer.inner) (contents writer'.inner)) writer'.failed

abbrev pub PrintsFoundObject : {D W : Type 0} → (D → Device) → D → D → (W → Option (List ℕ)) → CountedRecord W → CountedRecord W → Type 0
PrintsFoundObject state device device' contents writer writer' = PrintsWholeObject state (printing device device' (contents writer.inner) (contents writer'.inner))

abbrev pub EndsFoundObject : {D W : Type 0} → (D → Device) → D → D → (W → Option (List ℕ)) → CountedRecord W → CountedRecord W → RecoveringFault → Type 0
EndsFoundObject state device device' contents writer writer' = IsFoundObjectEnd state (printing device device' (contents writer.inner) (contents writer'.inner)) writer'.failed

abbrev pub PrintsInForm : {D W : Type 0} → (D → Device) → D → D → (W → Option (List ℕ)) → CountedRecord W → CountedRecord W → Bool → Type 0
PrintsInForm state device device' contents writer writer' json = PrintsFoundForm json state (printing device device' (contents writer.inner) (contents writer'.inner))

abbrev pub EndsInForm : {D W : Type 0} → (D → Device) → D → D → (W → Option (List ℕ)) → CountedRecord W → CountedRecord W → Bool → RecoveringFault → Type 0
EndsInForm state device device' contents writer writer' json = IsFoundEnd json state (printing device device' (contents writer.inner) (contents writer'.inner)) writer'.failed

abbrev pub FindsByWords : {S D W : Type 0} → Opener S D → (D → Device) → S → S → (W → Option (List ℕ)) → CountedRecord W → CountedRecord W → FindWords → Type 0
FindsByWords relations state images images' contents writer writer' words = FindsInPlace (calls relations state images images') (find_record words) (contents writer.inner) (contents writer'.inner)

abbrev pub EndsFind : {S D W : Type 0} → Opener S D → (D → Device) → S → S → (W → Option (List ℕ)) → CountedRecord W → CountedRecord W → FindWords → RecoveringFault → Type 0
EndsFind relations state images images' contents writer writer' words = IsFindEnd (calls relations state images images') (find_record words) (contents writer.inner) (contents writer'.inner) writer'.failed
