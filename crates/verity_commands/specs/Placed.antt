-- What `verify`, `dump` and `table` print, and how they end early.
use Rattle.std.specs.Borrow.{Bor}
use Rattle.std.specs.Prelude.{◌≡◌, ◌⊎◌, ℕ, ◌/◌, Bool, true, List, Option, None}
use Rattle.block_device.specs.Device.{Device}
use Rattle.program_io.specs.Counted.{CountedRecord}
use Rattle.command_line.specs.declared.words.dump.DumpWords.{DumpWords}
use Rattle.command_line.specs.declared.words.table.TableWords.{TableWords}
use Rattle.command_line.specs.declared.words.verify.VerifyWords.{VerifyWords}
use Rattle.command_line.specs.FormatOptions.{text_of}
use Rattle.command_line.specs.words.Dump.{DumpRecord, dump_record}
use Rattle.command_line.specs.words.Table.{TableRecord, table_record}
use Rattle.command_line.specs.words.Verify.{VerifyRecord, verify_record}
use Rattle.image_commands.specs.declared.fault.ImageFault.{ImageFault}
use Rattle.image_commands.specs.declared.table.LineWords.{LineWords}
use Rattle.image_pin.specs.declared.trusted.TrustedRoot.{TrustedRoot}
use Rattle.image_pin.specs.Finding.{is_aligned}
use Rattle.image_commands.specs.PlacedImages.{IsDumpImageEnd, IsPlacedImageEnd, PrintsPlacedSuper, RefusesDumpOf, RefusesLine}
use Rattle.image_commands.specs.SuperblockJson.{dump_text}
use Rattle.image_commands.specs.TableLines.{placed_line}
use Rattle.image_commands.specs.declared.tree_source.SoughtTree.{SoughtTree}
use Rattle.image_commands.specs.Verifying.{IsMatchesEnd, PrintsMatches}
use Rattle.image_files.specs.Opener.{Calls, Opener, calls}
use Rattle.verity_commands.specs.declared.verity_fault.VerityFault.{VerityFault}
use Rattle.verity_commands.specs.Endings.{IsImageEnd, IsVerityQuiet}
use Rattle.verity_commands.specs.Places.{IsTrustedEnd, TellsTrusted, image_places}
use Rattle.verity_commands.specs.Trees.{TellsStored}

-- `verify`: the root was told, or the pin that holds it, and then the images compared
pub record VerifiesAt {S D : Type 0} (w : Calls S D) (v : VerifyRecord) (old new : Option (List ℕ)) : Type 0 where
  pub between : S
  pub found : SoughtTree
  pub told : TellsStored (record w { new = between }) v.root found
  pub matches : PrintsMatches (record w { old = between }) (image_places v.data_path v.hash_path v.hash_offset) found old new

pub record EndsVerified {S D : Type 0} (w : Calls S D) (v : VerifyRecord) (failed : Bool) (fault : ImageFault) : Type 0 where
  pub between : S
  pub found : SoughtTree
  pub told : TellsStored (record w { new = between }) v.root found
  pub ends : IsMatchesEnd (record w { old = between }) (image_places v.data_path v.hash_path v.hash_offset) found failed fault

-- `table`: the root was told, or the pin that holds it, and then a line of the superblock printed, or a whole entry
pub record PrintsEntry {S D : Type 0} (w : Calls S D) (t : TableRecord) (old new : Option (List ℕ)) : Type 0 where
  pub between : S
  pub words : LineWords
  pub name : Option (Bor (List ℕ))
  pub told : TellsTrusted (record w { new = between }) t.root words.root.now
  pub names : (words.data_name.now ≡ t.data_name) × (words.hash_name.now ≡ t.hash_name)
  pub entry : text_of name ≡ t.name
  pub prints : PrintsPlacedSuper (record w { old = between }) t.hash_path (t.hash_offset / 512) words.root.now.pin (λ s. is_aligned (t.hash_offset / 512) s.hash_block) (λ s. placed_line name s words (t.hash_offset / 512)) old new

pub record EndsEntry {S D : Type 0} (w : Calls S D) (t : TableRecord) (failed : Bool) (fault : ImageFault) : Type 0 where
  pub between : S
  pub found : TrustedRoot
  pub told : TellsTrusted (record w { new = between }) t.root found
  pub ends : IsPlacedImageEnd (record w { old = between }) t.hash_path (t.hash_offset / 512) found.pin (RefusesLine (t.hash_offset / 512) t.data_name t.hash_name found) failed fault

abbrev pub IsEntryEnd : {S D : Type 0} → Calls S D → TableRecord → Bool → ImageFault → Type 0
IsEntryEnd w t failed fault = IsTrustedEnd w t.root fault ⊎ EndsEntry w t failed fault

-- ---- each by its words

abbrev pub IsSaidVerifyEnd : {S D : Type 0} → Calls S D → VerifyRecord → Option (List ℕ) → Option (List ℕ) → Bool → VerityFault → Type 0
IsSaidVerifyEnd w v old new failed fault = (IsImageEnd (IsTrustedEnd w v.root) fault ⊎ IsImageEnd (EndsVerified w v failed) fault) × IsVerityQuiet fault old new

abbrev pub DumpsAt : {S D : Type 0} → Calls S D → DumpRecord → Option (List ℕ) → Option (List ℕ) → Type 0
DumpsAt w d old new = PrintsPlacedSuper w d.hash_path (d.hash_offset / 512) None (λ s. true) (dump_text d.form) old new

abbrev pub IsDumpEnd : {S D : Type 0} → Calls S D → DumpRecord → Option (List ℕ) → Option (List ℕ) → Bool → VerityFault → Type 0
IsDumpEnd w d old new failed fault = IsImageEnd (IsDumpImageEnd w d.hash_path (d.hash_offset / 512) (RefusesDumpOf (d.hash_offset / 512) d.form) failed) fault × IsVerityQuiet fault old new

abbrev pub IsTableEnd : {S D : Type 0} → Calls S D → TableRecord → Option (List ℕ) → Option (List ℕ) → Bool → VerityFault → Type 0
IsTableEnd w t old new failed fault = IsImageEnd (IsEntryEnd w t failed) fault × IsVerityQuiet fault old new

-- ---- as a call sees them, by the program's own words

abbrev pub VerifiesByWords : {S D W : Type 0} → Opener S D → (D → Device) → S → S → (W → Option (List ℕ)) → CountedRecord W → CountedRecord W → VerifyWords → Type 0
VerifiesByWords relations state images images' contents writer writer' words = VerifiesAt (calls relations state images images') (verify_record words) (contents writer.inner) (contents writer'.inner)

abbrev pub FailsToVerifyByWords : {S D W : Type 0} → Opener S D → (D → Device) → S → S → (W → Option (List ℕ)) → CountedRecord W → CountedRecord W → VerifyWords → VerityFault → Type 0
FailsToVerifyByWords relations state images images' contents writer writer' words = IsSaidVerifyEnd (calls relations state images images') (verify_record words) (contents writer.inner) (contents writer'.inner) writer'.failed

abbrev pub DumpsByWords : {S D W : Type 0} → Opener S D → (D → Device) → S → S → (W → Option (List ℕ)) → CountedRecord W → CountedRecord W → DumpWords → Type 0
DumpsByWords relations state images images' contents writer writer' words = DumpsAt (calls relations state images images') (dump_record words) (contents writer.inner) (contents writer'.inner)

abbrev pub FailsToDump : {S D W : Type 0} → Opener S D → (D → Device) → S → S → (W → Option (List ℕ)) → CountedRecord W → CountedRecord W → DumpWords → VerityFault → Type 0
FailsToDump relations state images images' contents writer writer' words = IsDumpEnd (calls relations state images images') (dump_record words) (contents writer.inner) (contents writer'.inner) writer'.failed

abbrev pub PrintsByWords : {S D W : Type 0} → Opener S D → (D → Device) → S → S → (W → Option (List ℕ)) → CountedRecord W → CountedRecord W → TableWords → Type 0
PrintsByWords relations state images images' contents writer writer' words = PrintsEntry (calls relations state images images') (table_record words) (contents writer.inner) (contents writer'.inner)

abbrev pub FailsToPrintTable : {S D W : Type 0} → Opener S D → (D → Device) → S → S → (W → Option (List ℕ)) → CountedRecord W → CountedRecord W → TableWords → VerityFault → Type 0
FailsToPrintTable relations state images images' contents writer writer' words = IsTableEnd (calls relations state images images') (table_record words) (contents writer.inner) (contents writer'.inner) writer'.failed
