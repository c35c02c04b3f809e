-- The commands of a command line.
use Rattle.std.specs.Prelude.{◌&&◌, ℕ, List, codes, Ok, Option, is_some, if◌then◌else◌}
use Rattle.std.specs.Str.{bytes_eq}
use Rattle.command_line.specs.FormatOptions.{OptionTexts, text_of}
use Rattle.command_line.specs.words.Assemble.{AssembleRecord, assemble_record, assemble_said}
use Rattle.command_line.specs.words.Cat.{CatRecord, cat_record, cat_said}
use Rattle.command_line.specs.words.Copy.{CopyRecord, copy_record, copy_said}
use Rattle.command_line.specs.words.Exports.{ExportsRecord, exports_record, exports_said}
use Rattle.command_line.specs.words.Load.{LoadRecord, load_record, load_said}
use Rattle.command_line.specs.words.Manual.{manual_said}
use Rattle.command_line.specs.words.Nbd.{NbdRecord, nbd_record, nbd_said}
use Rattle.command_line.specs.words.Read.{ReadRecord, read_record, read_said}
use Rattle.command_line.specs.words.Repair.{RepairRecord, repair_record, repair_said}
use Rattle.command_line.specs.words.Scan.{ScanRecord, scan_record, scan_said}
use Rattle.command_line.specs.words.Session.{SessionRecord, session_record, session_said}
use Rattle.command_line.specs.words.Store.{StoreRecord, store_record, store_said}
use Rattle.command_line.specs.words.Update.{UpdateRecord, update_record, update_said}
use Rattle.command_line.specs.words.Write.{WriteRecord, write_record, write_said}
use Rattle.command_line.specs.Misuses.{Reading, misused, refuse_if, said_as, when}
use Rattle.command_line.specs.OptionGroups.{has_fec_value}
use Rattle.command_line.specs.Positional.{no_more}
use Rattle.command_line.specs.declared.misuse.Cause.TheVariants.{Unknown, WithNoSuperblock, WithPin}
use Rattle.command_line.specs.words.FecFormat.{FecFormatRecord, fec_format_record, fec_format_said}
use Rattle.command_line.specs.words.FecTable.{FecTableRecord, fec_table_record, fec_table_said}
use Rattle.command_line.specs.words.FecVerify.{FecVerifyRecord, fec_verify_record, fec_verify_said}
use Rattle.command_line.specs.words.Format.{FormatRecord, format_record, format_said}
use Rattle.command_line.specs.words.Verify.{VerifyRecord, verify_record, verify_said}
use Rattle.command_line.specs.words.Dump.{DumpRecord, dump_record, dump_said}
use Rattle.command_line.specs.words.Table.{TableRecord, table_record, table_said}
use Rattle.command_line.specs.words.Find.{FindRecord, find_record, find_said}
use Rattle.command_line.specs.words.Partitions.{PartitionsRecord, partitions_record, partitions_said}
use Rattle.command_line.specs.words.Diff.{DiffRecord, diff_record, diff_said}
use Rattle.command_line.specs.words.TreeVerify.{TreeVerifyRecord, tree_verify_record, tree_verify_said}
use Rattle.command_line.specs.words.TreeTable.{TreeTableRecord, tree_table_record, tree_table_said}
use Rattle.command_line.specs.declared.invocation.Invocation.{Invocation}
use Rattle.command_line.specs.declared.invocation.Invocation.TheVariants.{Load, Read, Write, Session, Nbd, Exports, Scan, Copy, Cat, Store, Format, Verify, Dump, Table, Partitions, Diff, Repair, Update, Find, Assemble, VerifyTree, TableTree, FormatFec, VerifyFec, TableFec, Manual, Version}

pub data InvocationRecord : Type 0 where
  load : LoadRecord → InvocationRecord
  read : ReadRecord → InvocationRecord
  write : WriteRecord → InvocationRecord
  session : SessionRecord → InvocationRecord
  nbd : NbdRecord → InvocationRecord
  -- `nbd --all`
  exports : ExportsRecord → InvocationRecord
  scan : ScanRecord → InvocationRecord
  copy : CopyRecord → InvocationRecord
  cat : CatRecord → InvocationRecord
  store : StoreRecord → InvocationRecord
  format : FormatRecord → InvocationRecord
  verify : VerifyRecord → InvocationRecord
  dump : DumpRecord → InvocationRecord
  table : TableRecord → InvocationRecord
  partitions : PartitionsRecord → InvocationRecord
  diff : DiffRecord → InvocationRecord
  repair : RepairRecord → InvocationRecord
  update : UpdateRecord → InvocationRecord
  find_in_place : FindRecord → InvocationRecord
  assemble : AssembleRecord → InvocationRecord
  -- `verify --no-superblock`
  verify_tree : TreeVerifyRecord → InvocationRecord
  table_tree : TreeTableRecord → InvocationRecord
  -- `format --fec`
  format_fec : FecFormatRecord → InvocationRecord
  verify_fec : FecVerifyRecord → InvocationRecord
  table_fec : FecTableRecord → InvocationRecord
  -- the name of the command whose page is printed, if there is one
  manual : Option (List ℕ) → InvocationRecord
  version : InvocationRecord

-- the commands on trees without a superblock
unfoldable pub tree_said : List ℕ → OptionTexts → List (List ℕ) → Reading InvocationRecord
tree_said name texts words =
    if bytes_eq name (codes "format") then said_as format (format_said texts words)
    else if bytes_eq name (codes "verify") then said_as verify_tree (tree_verify_said texts words)
    else if bytes_eq name (codes "table") then said_as table_tree (tree_table_said texts words)
    else if bytes_eq name (codes "diff") then said_as diff (diff_said texts words)
    else misused (codes "--no-superblock") Unknown

-- the commands on images with parity
unfoldable pub fec_said : List ℕ → OptionTexts → List (List ℕ) → Reading InvocationRecord
fec_said name texts words =
    if bytes_eq name (codes "format") then said_as format_fec (fec_format_said texts words)
    else if bytes_eq name (codes "verify") then said_as verify_fec (fec_verify_said texts words)
    else if bytes_eq name (codes "table") then said_as table_fec (fec_table_said texts words)
    else misused (codes "--fec") Unknown

-- an image with a pin has a superblock
unfoldable pub pin_allowed : OptionTexts → Reading (Unit {0})
pin_allowed texts = refuse_if (is_some texts.pin && texts.no_superblock) (codes "--no-superblock") WithPin

-- a format writes the file of the root hash only of an image with a superblock
unfoldable pub root_file_allowed : List ℕ → OptionTexts → Reading (Unit {0})
root_file_allowed name texts =
    refuse_if (bytes_eq name (codes "format") && (is_some texts.root_hash_file && texts.no_superblock)) (codes "--root-hash-file") WithNoSuperblock

-- no argument is after `version`
abbrev pub version_said : List (List ℕ) → Reading InvocationRecord
version_said words = said_as (λ none. version) (no_more words)

-- the commands on images, or on nothing
unfoldable pub image_said : List ℕ → OptionTexts → List (List ℕ) → Reading InvocationRecord
image_said name texts words =
    if bytes_eq name (codes "format") then said_as format (format_said texts words)
    else if bytes_eq name (codes "verify") then said_as verify (verify_said texts words)
    else if bytes_eq name (codes "dump") then said_as dump (dump_said texts words)
    else if bytes_eq name (codes "table") then said_as table (table_said texts words)
    else if bytes_eq name (codes "diff") then said_as diff (diff_said texts words)
    else if bytes_eq name (codes "manual") then said_as manual (manual_said words)
    else if bytes_eq name (codes "version") then version_said words
    else misused (codes "COMMAND") Unknown

-- the commands on a device of a stack, `update` and `find`
unfoldable pub device_said : List ℕ → OptionTexts → List (List ℕ) → Reading InvocationRecord
device_said name texts words =
    if bytes_eq name (codes "scan") then said_as scan (scan_said texts words)
    else if bytes_eq name (codes "copy") then said_as copy (copy_said texts words)
    else if bytes_eq name (codes "cat") then said_as cat (cat_said texts words)
    else if bytes_eq name (codes "store") then said_as store (store_said texts words)
    else if bytes_eq name (codes "update") then said_as update (update_said texts words)
    else if bytes_eq name (codes "find") then said_as find_in_place (find_said texts words)
    else image_said name texts words

-- `nbd`, with `--all` or without it
unfoldable pub served_said : OptionTexts → List (List ℕ) → Reading InvocationRecord
served_said texts words = if texts.all then said_as exports (exports_said texts words) else said_as nbd (nbd_said texts words)

-- by a command's name, the values of its options, and its positional arguments
unfoldable pub command_said : List ℕ → OptionTexts → List (List ℕ) → Reading InvocationRecord
command_said name texts words =
    if bytes_eq name (codes "load") then said_as load (load_said texts words)
    else if bytes_eq name (codes "read") then said_as read (read_said texts words)
    else if bytes_eq name (codes "write") then said_as write (write_said texts words)
    else if bytes_eq name (codes "session") then said_as session (session_said texts words)
    else if bytes_eq name (codes "nbd") then served_said texts words
    else device_said name texts words

-- by the same, with `--fec` or `--no-superblock`, or without them, if nothing conflicts with the file of a pin or a root hash
unfoldable pub invocation_said : List ℕ → OptionTexts → List (List ℕ) → Reading InvocationRecord
invocation_said name texts words =
    when (pin_allowed texts) (λ a.
    when (root_file_allowed name texts) (λ b.
    if bytes_eq name (codes "repair") then said_as repair (repair_said texts words)
    else if bytes_eq name (codes "assemble") then said_as assemble (assemble_said texts words)
    else if bytes_eq name (codes "partitions") then said_as partitions (partitions_said texts words)
    else if has_fec_value texts then fec_said name texts words
    else if texts.no_superblock then tree_said name texts words else command_said name texts words))

-- what the program's own value says
abbrev pub invocation_record : Invocation → InvocationRecord
invocation_record (Load w) = load (load_record w)
invocation_record (Read w) = read (read_record w)
invocation_record (Write w) = write (write_record w)
invocation_record (Session w) = session (session_record w)
invocation_record (Nbd w) = nbd (nbd_record w)
invocation_record (Exports w) = exports (exports_record w)
invocation_record (Scan w) = scan (scan_record w)
invocation_record (Copy w) = copy (copy_record w)
invocation_record (Cat w) = cat (cat_record w)
invocation_record (Store w) = store (store_record w)
invocation_record (Format w) = format (format_record w)
invocation_record (Verify w) = verify (verify_record w)
invocation_record (Dump w) = dump (dump_record w)
invocation_record (Table w) = table (table_record w)
invocation_record (Partitions w) = partitions (partitions_record w)
invocation_record (Diff w) = diff (diff_record w)
invocation_record (Repair w) = repair (repair_record w)
invocation_record (Update w) = update (update_record w)
invocation_record (Find w) = find_in_place (find_record w)
invocation_record (Assemble w) = assemble (assemble_record w)
invocation_record (VerifyTree w) = verify_tree (tree_verify_record w)
invocation_record (TableTree w) = table_tree (tree_table_record w)
invocation_record (FormatFec w) = format_fec (fec_format_record w)
invocation_record (VerifyFec w) = verify_fec (fec_verify_record w)
invocation_record (TableFec w) = table_fec (fec_table_record w)
invocation_record (Manual command) = manual (text_of command)
invocation_record Version = version
