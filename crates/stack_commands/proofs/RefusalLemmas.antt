-- Refusals with numbers from 18 on are in the list.
use Rattle.std.proofs.Common.{◌≡◌, ◌++◌, ℕ, List, Some, inl, inr, refl, arith}
use Rattle.std.specs.Prelude.{◌<◌, ◌⊎◌, codes, decimal}
use Rattle.std.specs.Fmt.{digits}
use Rattle.fec_area.specs.declared.writing.ParityFault.{ParityFault}
use Rattle.fec_area.specs.declared.writing.ParityFault.TheVariants as parity
use Rattle.fec_commands.specs.FaultTexts.{parity_text}
use Rattle.image_files.specs.declared.texts.ReplaceFault.{ReplaceFault}
use Rattle.image_files.specs.declared.texts.ReplaceFault.TheVariants as replace
use Rattle.image_pin.specs.declared.fault.PinFault.{PinFault}
use Rattle.image_pin.specs.declared.fault.PinFault.TheVariants as pin
use Rattle.image_pin.specs.declared.mismatch.Mismatch.{Mismatch}
use Rattle.image_pin.specs.declared.mismatch.Mismatch.TheVariants as mismatch
use Rattle.image_pin.specs.Faults.{fault_name, fault_number}
use Rattle.image_pin.specs.Mismatches.{mismatch_name, mismatch_number}
use Rattle.image_pin.specs.Names.{name_text}
use Rattle.io_fault_text.specs.Paths.{shown_path}
use Rattle.io_fault_text.specs.Refusals.{HaveOwnNumbers, IsNumbered, refusal_name, refusals}
use Rattle.io_fault_text.specs.Texts.{kind_then}
use Rattle.linux_rules.specs.declared.refusal.LinuxKind.{LinuxKind}
use Rattle.linux_rules.specs.declared.refusal.LinuxKind.TheVariants as linux
use Rattle.linux_rules.specs.Kinds.{linux_name, linux_number}
use Rattle.rescue_map.specs.declared.fault.MapFault.{MapFault}
use Rattle.rescue_map.specs.declared.fault.MapFault.TheVariants as map_fault
use Rattle.scan_commands.specs.MapTexts.{no_map_text, unreplaced_text}
use Rattle.stack_rules.specs.FaultKinds.{load_name, load_number}
use Rattle.stack_rules.specs.declared.refusal.LoadKind.{LoadKind}
use Rattle.stack_rules.specs.declared.refusal.LoadKind.TheVariants as loads
use Rattle.tree_difference.specs.declared.fault.Unlike.{Unlike}
use Rattle.tree_difference.specs.declared.fault.Unlike.TheVariants as unlike
use Rattle.verity_commands.specs.Texts.{pin_fault_text, unwritten_pin_text}
use Rattle.verity_commands.specs.TreeFaultTexts.{unlike_text, which_name}
use Rattle.stack_commands.specs.Refusals.{AreFileLines, AreImageLines, AreNumbered, IsListed}

-- a line with a number and name of the list
row : (number : ℕ) (name rest : List ℕ) → refusal_name number ≡ Some name → IsNumbered (codes "refused " ++ kind_then number name rest)
row number name rest own = record { number = number; name = name; rest = rest; own = inr own; is = refl }

load-rows : (kind : LoadKind) → (load_number kind < 18) ⊎ (refusal_name (load_number kind) ≡ Some (load_name kind))
unfolding refusals
load-rows loads.DuplicateName = inl (omega arith)
load-rows loads.TooMany = inl (omega arith)
load-rows loads.NoSuchDevice = inl (omega arith)
load-rows loads.StandsOnItself = inl (omega arith)
load-rows loads.ZeroLength = inl (omega arith)
load-rows loads.Gap = inl (omega arith)
load-rows loads.TooLarge = inl (omega arith)
load-rows loads.StripesDontDivide = inl (omega arith)
load-rows loads.BeyondDevice = inl (omega arith)
load-rows loads.LineBeyondTree = inl (omega arith)
load-rows loads.TreeBeyondDevice = inl (omega arith)
load-rows loads.NeedsReadOnly = inl (omega arith)
load-rows loads.LowerReadOnly = inl (omega arith)
load-rows loads.TooDeep = inl (omega arith)
load-rows loads.CostTooLarge = inl (omega arith)
load-rows loads.UnitDoesntDivide = inl (omega arith)
load-rows loads.IvOffset = inl (omega arith)
load-rows loads.ParityDoesntCover = inr refl

linux-rows : (kind : LinuxKind) → refusal_name (linux_number kind) ≡ Some (linux_name kind)
unfolding refusals
linux-rows linux.LinuxSize = refl
linux-rows linux.VerityBesideOthers = refl
linux-rows linux.SmallBlock = refl
linux-rows linux.BeginBeyondDevice = refl
linux-rows linux.PartBlock = refl
linux-rows linux.DividedBlock = refl
linux-rows linux.UnitStart = refl
linux-rows linux.DividedChunk = refl
linux-rows linux.PartSize = refl

pin-rows : (fault : PinFault) → refusal_name (fault_number fault) ≡ Some (fault_name fault)
unfolding refusals
pin-rows pin.Header = refl
pin-rows pin.Line = refl
pin-rows pin.Unknown = refl
pin-rows (pin.Repeated name) = refl
pin-rows (pin.Missing name) = refl
pin-rows (pin.Value name) = refl
pin-rows pin.TooLong = refl

mismatch-rows : (found : Mismatch) → refusal_name (mismatch_number found) ≡ Some (mismatch_name found)
unfolding refusals
mismatch-rows mismatch.DataBlockSize = refl
mismatch-rows mismatch.HashBlockSize = refl
mismatch-rows mismatch.DataBlocks = refl
mismatch-rows mismatch.Salt = refl

map-lines : (fault : MapFault) → IsListed (no_map_text fault)
unfolding refusals
map-lines map_fault.NoMemory = inl refl
map-lines map_fault.Status = inr (row 24 (codes "MapStatus") (codes "\n") refl)
map-lines map_fault.Block = inr (row 25 (codes "MapBlock") (codes "\n") refl)
map-lines map_fault.PartSector = inr (row 26 (codes "MapPartSector") (codes "\n") refl)
map-lines map_fault.Gap = inr (row 27 (codes "MapGap") (codes "\n") refl)
map-lines map_fault.Overlap = inr (row 28 (codes "MapOverlap") (codes "\n") refl)
map-lines map_fault.Size = inr (row 29 (codes "MapSize") (codes "\n") refl)

unreplaced-lines : (fault : ReplaceFault) → IsListed (unreplaced_text fault)
unfolding refusals
unreplaced-lines replace.NoMemory = inl refl
unreplaced-lines replace.Write = inr (row 31 (codes "MapWrite") (codes "\n") refl)
unreplaced-lines replace.Sync = inr (row 32 (codes "MapSync") (codes "\n") refl)
unreplaced-lines replace.Rename = inr (row 33 (codes "MapRename") (codes "\n") refl)

pin-lines : (fault : PinFault) → IsNumbered (pin_fault_text fault)
unfolding refusals
pin-lines pin.Header = row 36 (codes "PinHeader") (codes "\n") refl
pin-lines pin.Line = row 37 (codes "PinLine") (codes "\n") refl
pin-lines pin.Unknown = row 38 (codes "PinUnknown") (codes "\n") refl
pin-lines (pin.Repeated name) = row 39 (codes "PinRepeated") (codes " " ++ (name_text name ++ codes "\n")) refl
pin-lines (pin.Missing name) = row 40 (codes "PinMissing") (codes " " ++ (name_text name ++ codes "\n")) refl
pin-lines (pin.Value name) = row 41 (codes "PinValue") (codes " " ++ (name_text name ++ codes "\n")) refl
pin-lines pin.TooLong = row 42 (codes "PinTooLong") (codes "\n") refl

unwritten-lines : (fault : ReplaceFault) → IsListed (unwritten_pin_text fault)
unfolding refusals
unwritten-lines replace.NoMemory = inl refl
unwritten-lines replace.Write = inr (row 43 (codes "PinWrite") (codes "\n") refl)
unwritten-lines replace.Sync = inr (row 44 (codes "PinSync") (codes "\n") refl)
unwritten-lines replace.Rename = inr (row 45 (codes "PinRename") (codes "\n") refl)

-- the lines that are texts as a whole
parity-needed : (rest : List ℕ) → IsNumbered (codes "refused 48 FecTooSmall needed " ++ rest)
unfolding refusals digits
parity-needed rest = record { number = 48; name = codes "FecTooSmall"; rest = codes " needed " ++ rest; own = inr refl; is = refl }

parity-lines : (fault : ParityFault) → IsListed (parity_text fault)
unfolding refusals digits
parity-lines (parity.TooSmall needed) = inr (parity-needed (decimal needed ++ codes "\n"))
parity-lines parity.ReadOnly = inr (record { number = 49; name = codes "FecReadOnly"; rest = codes "\n"; own = inr refl; is = refl })
parity-lines parity.Device = inr (record { number = 50; name = codes "FecDevice"; rest = codes "\n"; own = inr refl; is = refl })
parity-lines parity.NoMemory = inl refl

unlike-lines : (fault : Unlike) → IsNumbered (unlike_text fault)
unfolding refusals digits
unlike-lines unlike.DataBlockSize = record { number = 20; name = codes "OtherDataBlockSize"; rest = codes "\n"; own = inr refl; is = refl }
unlike-lines unlike.HashBlockSize = record { number = 21; name = codes "OtherHashBlockSize"; rest = codes "\n"; own = inr refl; is = refl }
unlike-lines unlike.Salt = record { number = 22; name = codes "OtherSalt"; rest = codes "\n"; own = inr refl; is = refl }

outside-line : (rest : List ℕ) → IsNumbered (codes "refused 23 OutsideFile " ++ rest)
unfolding refusals digits
outside-line rest = record { number = 23; name = codes "OutsideFile"; rest = codes " " ++ rest; own = inr refl; is = refl }

unaligned-line : (rest : List ℕ) → IsNumbered (codes "refused 18 Unaligned " ++ rest)
unfolding refusals digits
unaligned-line rest = record { number = 18; name = codes "Unaligned"; rest = codes " " ++ rest; own = inr refl; is = refl }

file-lines : AreFileLines
unfolding refusals digits
file-lines = record {
  map = map-lines;
  map_length = row 30 (codes "MapTooLong") (codes "\n") refl;
  map_unwritten = unreplaced-lines;
  parity = parity-lines;
  parity_blocks = record { number = 47; name = codes "OtherBlockSizes"; rest = codes "\n"; own = inr refl; is = refl };
  pin = pin-lines;
  pin_unwritten = unwritten-lines;
}

image-lines : AreImageLines
unfolding refusals digits
image-lines = record {
  unlike = unlike-lines;
  unaligned = record { number = 18; name = codes "Unaligned"; rest = codes "\n"; own = inr refl; is = refl };
  overlap = record { number = 34; name = codes "DataOverlapsTree"; rest = codes "\n"; own = inr refl; is = refl };
  root = record { number = 19; name = codes "RootText"; rest = codes "\n"; own = inr refl; is = refl };
  tree = record { number = 18; name = codes "Unaligned"; rest = codes "\n"; own = inr refl; is = refl };
  compared = λ which. unaligned-line (which_name which ++ codes "\n");
  unused = record { number = 60; name = codes "UnusedEntries"; rest = codes "\n"; own = inr refl; is = refl };
  outside = λ path. outside-line (shown_path path ++ codes "\n");
}

pub are-numbered : HaveOwnNumbers → AreNumbered
are-numbered own = record { own = own; loads = load-rows; linux = linux-rows; pin = pin-rows; unpinned = mismatch-rows; files = file-lines; images = image-lines }
