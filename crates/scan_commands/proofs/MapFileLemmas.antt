-- Map files that are read.
use Rattle.std.proofs.Common.{◌≡◌, ℕ, Bool, true, false, List, length, Ok, refl, sym, ap, ◌∙◌, subst, inr}
use Rattle.std.proofs.lemmas.List.{length-replicate}
use Rattle.block_device.specs.declared.open_fault.OpenFault.{OpenFault}
use Rattle.block_device.specs.declared.open_fault.OpenFault.TheVariants as open_fault
use Rattle.scan_commands.specs.declared.rescue_fault.PassFault.{PassFault}
use Rattle.scan_commands.specs.declared.rescue_fault.PassFault.TheVariants as rescue
use Rattle.image_files.specs.declared.images.FileText.{FileText}
use Rattle.image_files.specs.OpenPlaces.{is_missing}
use Rattle.image_files.specs.Opener.{Calls}
use Rattle.rescue_map.specs.declared.kind.MapKind.{MapKind}
use Rattle.rescue_map.specs.declared.text.ParsedMap.{ParsedMap}
use Rattle.rescue_map.specs.declared.status.Status.{Status}
use Rattle.rescue_map.specs.declared.status.Status.TheVariants.{Untried}
use Rattle.rescue_map.specs.Kinds.{kind_of}
use Rattle.rescue_map.specs.Maps.{marks}
use Rattle.rescue_map.specs.MapText.{map_of}
use Rattle.rescue_map.proofs.lemmas.RunLemmas.{statuses-length}
use Rattle.scan_commands.specs.MapFiles.{Continues, IsMapOfText, IsMapUnread, IsTextUnread, IsUnread, TellsMap, continues}

-- a map that marks no sector has all sectors
pub unread-size : (sectors : ℕ) (made : ParsedMap) → IsUnread sectors made → length (marks made.map) ≡ sectors
unread-size sectors made unread = sym (statuses-length made.map) ∙ ap length unread.0 ∙ length-replicate {A = Status} sectors Untried

pub missing-is : (f : OpenFault) → is_missing f ≡ true → f ≡ open_fault.NotFound
missing-is open_fault.NotFound e = refl
missing-is open_fault.NotAllowed e = cc
missing-is open_fault.TooLarge e = cc
missing-is open_fault.OtherFault e = cc
missing-is open_fault.NoMemory e = cc
missing-is open_fault.SameFile e = cc
missing-is open_fault.InUse e = cc

-- the file has a text, which isn't read
pub unread-told : {S D : Type 0} (w : Calls S D) (path : List ℕ) (sectors : ℕ) (text : FileText) (fault : PassFault) → TellsMap w path text → IsTextUnread text.bytes.items sectors fault → IsMapUnread w path sectors fault
unread-told w path sectors text rescue.NoMemory told unread = (inr (text, told), unread)
unread-told w path sectors text (rescue.NoMap fault) told unread = (text, told, unread)
unread-told w path sectors text (rescue.Unread fault) told unread = absurd unread
unread-told w path sectors text rescue.TooLong told unread = absurd unread
unread-told w path sectors text rescue.Output told unread = absurd unread
unread-told w path sectors text (rescue.Unwritten fault) told unread = absurd unread

-- ---- the map of a text

pub text-continued : (kind : MapKind) (text : List ℕ) (sectors : ℕ) (read : ParsedMap) → map_of sectors text ≡ Ok read → continues kind (kind_of text) ≡ true → IsMapOfText kind text sectors read
text-continued kind text sectors read says goes = record {
  read = read;
  says = says;
  begins = subst (λ (b : Bool). Continues b sectors read read) (sym goes) refl;
}

pub text-begun : (kind : MapKind) (text : List ℕ) (sectors : ℕ) (read made : ParsedMap) → map_of sectors text ≡ Ok read → continues kind (kind_of text) ≡ false → IsUnread sectors made → IsMapOfText kind text sectors made
text-begun kind text sectors read made says goes unread = record {
  read = read;
  says = says;
  begins = subst (λ (b : Bool). Continues b sectors read made) (sym goes) unread;
}
