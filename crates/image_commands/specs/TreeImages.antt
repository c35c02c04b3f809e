-- What `table` prints of a tree without a superblock, and how it ends early.
use Rattle.std.specs.Prelude.{◌≡◌, ℕ, Bool, true, false, List, Option, None}
use Rattle.std.specs.Borrow.{Bor}
use Rattle.std.specs.Io.KnownBytes.{Appends}
use Rattle.allocation.specs.Refusal.{IsOutOfMemory}
use Rattle.program_io.specs.Counted.{CountedRecord}
use Rattle.tree_shape.specs.Shape.{first_fault}
use Rattle.verity_format.specs.declared.formatting.FormatOptions.{FormatOptions}
use Rattle.verity_format.specs.Line.{line_room}
use Rattle.verity_format.specs.Options.{superblock_with}
use Rattle.verity_format.specs.Superblock.{shape_of}
use Rattle.image_commands.specs.declared.fault.ImageFault.{ImageFault}
use Rattle.image_commands.specs.declared.fault.ImageFault.TheVariants.{Format, Unaligned}
use Rattle.image_commands.specs.declared.table.LineWords.{LineWords}
use Rattle.image_commands.specs.Endings.{IsCommonEnd}
use Rattle.image_pin.specs.Finding.{is_aligned}
use Rattle.image_commands.specs.Places.{tree_start}
use Rattle.image_commands.specs.TableLines.{tree_line}
use Rattle.image_commands.specs.TreePlaces.{HasNoShape}

-- `table --no-superblock`: the line that the words give, of a tree that has a shape and begins at a hash block
pub record PrintsTreeLine (first : ℕ) (name : Option (Bor (List ℕ))) (words : LineWords) (options : FormatOptions) (old new : Option (List ℕ)) : Type 0 where
  pub aligned : is_aligned first options.hash_block ≡ true
  pub shape : first_fault (shape_of (superblock_with options 0)) ≡ None
  pub printed : Appends old new (tree_line name (superblock_with options 0) words first)

-- no allocation for its line is larger, in bytes
abbrev pub tree_room : ℕ → FormatOptions → List ℕ → List ℕ → List ℕ → ℕ
tree_room first options data_name hash_name root = line_room (superblock_with options 0) data_name hash_name root (tree_start first options.hash_block 0)

-- no hash block begins there, no tree has that shape, room of at most that size was refused, or the line can't be written
abbrev pub IsTreeLineEnd : ℕ → ℕ → FormatOptions → Bool → ImageFault → Type 0
IsTreeLineEnd room first options failed Unaligned = is_aligned first options.hash_block ≡ false
IsTreeLineEnd room first options failed (Format fault) = HasNoShape (superblock_with options 0) fault
IsTreeLineEnd room first options failed fault = IsCommonEnd (IsOutOfMemory room) failed fault

-- the line that the words give
abbrev pub SaysTreeLine : {W : Type 0} → (W → Option (List ℕ)) → CountedRecord W → CountedRecord W → ℕ → Option (Bor (List ℕ)) → LineWords → FormatOptions → Type 0
SaysTreeLine contents writer writer' first name words options = PrintsTreeLine first name words options (contents writer.inner) (contents writer'.inner)
