-- What `table --fec` does and prints, and how it ends early.
use Rattle.std.specs.Borrow.{Bor}
use Rattle.std.specs.Prelude.{◌≡◌, ◌⊎◌, ℕ, ◌/◌, ◌≤◌, ◌++◌, ◌&&◌, nat_le, Bool, false, true, List, Option, Some, codes}
use Rattle.std.specs.Io.KnownBytes.{Appends}
use Rattle.allocation.specs.Refusal.{IsOutOfMemory}
use Rattle.block_device.specs.Device.{Device}
use Rattle.program_io.specs.Counted.{CountedRecord}
use Rattle.command_line.specs.declared.option_words.OptionWords.{OptionWords}
use Rattle.command_line.specs.declared.words.fec_table.FecTableWords.{FecTableWords}
use Rattle.command_line.specs.FormatOptions.{OptionTexts, option_texts, text_of}
use Rattle.command_line.specs.words.FecTable.{FecTableRecord, fec_table_record}
use Rattle.dm_table.specs.declared.parity.Parity.{Parity}
use Rattle.fec_area.specs.declared.layout.Layout.{Layout}
use Rattle.fec_area.specs.Layouts.{IsLayout, IsLayoutOf, covered_blocks}
use Rattle.image_commands.specs.declared.fault.ImageFault.{ImageFault}
use Rattle.image_commands.specs.declared.fault.ImageFault.TheVariants.{Verify}
use Rattle.image_commands.specs.declared.tree_source.SoughtTree.{SoughtTree}
use Rattle.image_commands.specs.declared.tree_source.TreeSource.{TreeSource}
use Rattle.image_commands.specs.Endings.{IsCommonEnd}
use Rattle.image_commands.specs.Places.{IsPartState, behind, tree_start}
use Rattle.image_commands.specs.TableLines.{entry_head}
use Rattle.image_commands.specs.TreeSources.{IsNoTreeOf, IsSourceRefused, IsTreeOf}
use Rattle.image_files.specs.declared.opening.UnopenedFile.{UnopenedFile}
use Rattle.image_files.specs.declared.placed_image.PlacedImage.{PlacedImage}
use Rattle.image_files.specs.Opener.{Calls, Opener, calls}
use Rattle.image_files.specs.OpenPlaces.{OpensPlace, RefusesPlace}
use Rattle.tree_shape.specs.Shape.{ShapeRecord, area_blocks}
use Rattle.verity_commands.specs.declared.verity_fault.VerityFault.TheVariants.{Image, Usage}
use Rattle.verity_format.specs.declared.verifying.VerifyFault.TheVariants.{TooSmall}
use Rattle.verity_format.specs.Line.{LineNames, text_room, verity_text}
use Rattle.fec_commands.specs.declared.fault.FecFault.{FecFault}
use Rattle.fec_commands.specs.declared.fault.FecFault.TheVariants.{Verity}
use Rattle.fec_commands.specs.declared.image.LaidTree.{LaidTree}
use Rattle.fec_commands.specs.Commands.{EndsUnaligned, EndsUnsought, SeeksThen, TreeWords}
use Rattle.fec_commands.specs.FecFaults.{no_source_fault, unopened}
use Rattle.fec_commands.specs.Layings.{HasOtherSizes, is_roots}
use Rattle.fec_commands.specs.Verifying.{IsFecQuiet}

-- ---- a hash image that begins at a sector of its file, and the source of its tree

-- the layout is valid, and the tree begins at the hash image's first block or after a superblock there
pub record IsLaid (laid : LaidTree) : Type 0 where
  pub layout : IsLayout laid.layout
  pub start : laid.tree.shape.start ≤ 1

-- all blocks of the tree are covered, from the first one on
abbrev pub covers_tree : Layout → ShapeRecord → Bool
covers_tree l shape = nat_le shape.start l.hash_first && nat_le (area_blocks shape) l.hash_blocks

-- the tree is that of its source, and the layout that of this tree, which covers all data and hash blocks
pub record LaysLine (hash_dev : Device) (first : ℕ) (source : TreeSource) (roots : ℕ) (hash_dev' : Device) (laid : LaidTree) : Type 0 where
  pub tree_of : IsTreeOf source 0 hash_dev first hash_dev' laid.tree
  pub is : IsLayoutOf laid.tree.shape hash_dev.size roots laid.layout
  pub valid : IsLaid laid
  pub covers : covers_tree laid.layout laid.tree.shape ≡ true

-- the hash image ends before the tree
pub record IsTreeShort (hash_dev : Device) (first : ℕ) (source : TreeSource) (roots : ℕ) (hash_dev' : Device) (fault : FecFault) : Type 0 where
  pub laid : LaidTree
  pub tree_of : IsTreeOf source 0 hash_dev first hash_dev' laid.tree
  pub layout : IsLayoutOf laid.tree.shape hash_dev.size roots laid.layout
  pub short : covers_tree laid.layout laid.tree.shape ≡ false
  pub is : fault ≡ Verity (Image (Verify TooSmall))

-- why there is no such layout
abbrev pub IsLineUnlaid : Device → ℕ → TreeSource → ℕ → Device → FecFault → Type 0
IsLineUnlaid hash_dev first source roots hash_dev' fault =
    IsSourceRefused no_source_fault (IsNoTreeOf source 0 hash_dev first hash_dev') fault
    ⊎ (HasOtherSizes 0 hash_dev first source hash_dev' fault ⊎ IsTreeShort hash_dev first source roots hash_dev' fault)

-- ---- the line

-- the sector of the hash image, and the source of its tree
abbrev pub table_tree : FecTableRecord → TreeWords
table_tree t = record { no_superblock = t.no_superblock; root = t.table.root; first = t.table.hash_offset / 512 }

-- the parity covers the blocks of the layout, and begins with its device
abbrev pub line_parity : FecTableRecord → LaidTree → Parity
line_parity t laid = record { device = t.fec.device; roots = t.fec.roots; blocks = covered_blocks laid.layout; start = 0 }

abbrev pub laid_names : FecTableRecord → LaidTree → LineNames
laid_names t laid = record { data_name = t.table.data_name; hash_name = t.table.hash_name; parity = Some (line_parity t laid) }

-- the hash block of the file at which the tree begins
abbrev pub laid_start : FecTableRecord → LaidTree → ℕ
laid_start t laid = tree_start (t.table.hash_offset / 512) laid.tree.shape.hash_block laid.tree.shape.start

abbrev pub laid_text : FecTableRecord → LaidTree → List ℕ → List ℕ
laid_text t laid root = verity_text laid.tree (laid_names t laid) root (laid_start t laid)

-- no allocation for that line is larger, in bytes
abbrev pub laid_room : FecTableRecord → LaidTree → List ℕ → ℕ
laid_room t laid root = text_room laid.tree (laid_names t laid) root (laid_start t laid)

-- the line was written, or with a name the whole entry
pub record SaysLaid (t : FecTableRecord) (laid : LaidTree) (root : List ℕ) (old new : Option (List ℕ)) : Type 0 where
  pub name : Option (Bor (List ℕ))
  pub entry : text_of name ≡ t.table.name
  pub printed : Appends old new (entry_head name ++ (laid_text t laid root ++ codes "\n"))

-- ---- `Left` holds of a device that calls left: it is a part of one of its type

-- the tree was found, the layout of its parity made, and its line printed
pub record PrintsLaid (Left : Device → Type 0) (device : Device) (t : FecTableRecord) (sought : SoughtTree) (old new : Option (List ℕ)) : Type 0 where
  pub laid : LaidTree
  pub read_dev : Device
  pub left : Left read_dev
  pub lays : LaysLine (behind device (t.table.hash_offset / 512)) (t.table.hash_offset / 512) sought.source t.fec.roots read_dev laid
  pub says : SaysLaid t laid sought.root old new

-- there is no such layout
abbrev pub LacksLayout : (Device → Type 0) → Device → FecTableRecord → SoughtTree → FecFault → Type 0
LacksLayout Left device t sought fault =
    (read_dev : Device) × Left read_dev × IsLineUnlaid (behind device (t.table.hash_offset / 512)) (t.table.hash_offset / 512) sought.source t.fec.roots read_dev fault

-- room for its line was refused, or the line can't be written
pub record EndsLaid (Left : Device → Type 0) (device : Device) (t : FecTableRecord) (sought : SoughtTree) (failed : Bool) (fault : FecFault) : Type 0 where
  pub laid : LaidTree
  pub read_dev : Device
  pub left : Left read_dev
  pub lays : LaysLine (behind device (t.table.hash_offset / 512)) (t.table.hash_offset / 512) sought.source t.fec.roots read_dev laid
  pub cause : ImageFault
  pub ends : IsCommonEnd (IsOutOfMemory (laid_room t laid sought.root)) failed cause
  pub is : fault ≡ Verity (Image cause)

abbrev pub IsLaidEnd : (Device → Type 0) → Device → FecTableRecord → SoughtTree → Bool → FecFault → Type 0
IsLaidEnd Left device t sought failed fault = LacksLayout Left device t sought fault ⊎ EndsLaid Left device t sought failed fault

-- ---- the whole command

-- the hash image was opened for reading, and the line printed
pub record PrintsSought {S D : Type 0} (t : FecTableRecord) (old new : Option (List ℕ)) (w : Calls S D) (sought : SoughtTree) : Type 0 where
  pub image : PlacedImage D
  pub opened : OpensPlace w t.table.hash_path false image
  pub prints : PrintsLaid (IsPartState w.state) (w.state image.device) t sought old new

-- it can't be opened
pub record IsHashUnopened {S D : Type 0} (t : FecTableRecord) (fault : FecFault) (w : Calls S D) : Type 0 where
  pub file : UnopenedFile
  pub refused : RefusesPlace w t.table.hash_path false file
  pub is : fault ≡ unopened file

-- it was opened, and then the command ended in this fault
pub record EndsTable {S D : Type 0} (t : FecTableRecord) (failed : Bool) (fault : FecFault) (w : Calls S D) (sought : SoughtTree) : Type 0 where
  pub image : PlacedImage D
  pub opened : OpensPlace w t.table.hash_path false image
  pub ends : IsLaidEnd (IsPartState w.state) (w.state image.device) t sought failed fault

abbrev pub IsTableSoughtEnd : {S D : Type 0} → FecTableRecord → Bool → FecFault → Calls S D → SoughtTree → Type 0
IsTableSoughtEnd t failed fault w sought = IsHashUnopened t fault w ⊎ EndsTable t failed fault w sought

-- a codeword can't have so many bytes of parity; nothing was opened
pub record HasNoRoots {S D : Type 0} (w : Calls S D) (t : FecTableRecord) (fault : FecFault) : Type 0 where
  pub roots : is_roots t.fec.roots ≡ false
  pub is : fault ≡ Verity Usage
  pub same : w.new ≡ w.old

abbrev pub PrintsFec : {S D : Type 0} → OptionTexts → Calls S D → FecTableRecord → Option (List ℕ) → Option (List ℕ) → Type 0
PrintsFec texts w t old new = SeeksThen texts w (table_tree t) (PrintsSought t old new)

-- before the hash image was opened, or later; nothing was printed unless the writer failed
abbrev pub IsTableFecEnd : {S D : Type 0} → OptionTexts → Calls S D → FecTableRecord → Option (List ℕ) → Option (List ℕ) → Bool → FecFault → Type 0
IsTableFecEnd texts w t old new failed fault =
    (HasNoRoots w t fault ⊎ (EndsUnsought texts w (table_tree t) fault ⊎ (EndsUnaligned texts w (table_tree t) fault ⊎ SeeksThen texts w (table_tree t) (IsTableSoughtEnd t failed fault))))
    × IsFecQuiet fault old new

-- ---- as a call sees them: a device of any type, the opener and the writer, each before and after, and the program's arguments

abbrev pub IsLineLaid : {H : Type 0} → (H → Device) → H → ℕ → TreeSource → ℕ → H → LaidTree → Type 0
IsLineLaid state hash_dev first source roots hash_dev' = LaysLine (state hash_dev) first source roots (state hash_dev')

abbrev pub IsNoLineLaid : {H : Type 0} → (H → Device) → H → ℕ → TreeSource → ℕ → H → FecFault → Type 0
IsNoLineLaid state hash_dev first source roots hash_dev' = IsLineUnlaid (state hash_dev) first source roots (state hash_dev')

abbrev pub SaysLaidLine : {W : Type 0} → (W → Option (List ℕ)) → CountedRecord W → CountedRecord W → FecTableWords → LaidTree → List ℕ → Type 0
SaysLaidLine contents writer writer' words laid root = SaysLaid (fec_table_record words) laid root (contents writer.inner) (contents writer'.inner)

abbrev pub RefusesLaidLine : FecTableWords → LaidTree → List ℕ → Type 0
RefusesLaidLine words laid root = IsOutOfMemory (laid_room (fec_table_record words) laid root)

abbrev pub PrintsOpen : {H W : Type 0} → (H → Device) → H → FecTableWords → SoughtTree → (W → Option (List ℕ)) → CountedRecord W → CountedRecord W → Type 0
PrintsOpen state hash_dev words sought contents writer writer' =
    PrintsLaid (IsPartState state) (state hash_dev) (fec_table_record words) sought (contents writer.inner) (contents writer'.inner)

abbrev pub FailsToPrintOpen : {H W : Type 0} → (H → Device) → H → FecTableWords → SoughtTree → CountedRecord W → FecFault → Type 0
FailsToPrintOpen state hash_dev words sought writer' = IsLaidEnd (IsPartState state) (state hash_dev) (fec_table_record words) sought writer'.failed

abbrev pub PrintsFecByWords : {S D W : Type 0} → OptionWords → FecTableWords → Opener S D → (D → Device) → S → S → (W → Option (List ℕ)) → CountedRecord W → CountedRecord W → Type 0
PrintsFecByWords options words relations state old new contents writer writer' =
    PrintsFec (option_texts options) (calls relations state old new) (fec_table_record words) (contents writer.inner) (contents writer'.inner)

abbrev pub FailsToPrintFec : {S D W : Type 0} → OptionWords → FecTableWords → Opener S D → (D → Device) → S → S → (W → Option (List ℕ)) → CountedRecord W → CountedRecord W → FecFault → Type 0
FailsToPrintFec options words relations state old new contents writer writer' =
    IsTableFecEnd (option_texts options) (calls relations state old new) (fec_table_record words) (contents writer.inner) (contents writer'.inner) writer'.failed
