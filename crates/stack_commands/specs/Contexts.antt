-- What the functions of the commands that print do with what they are lent (`Context`): it is said of the opener and the writer
-- before the call, and of what the two references hold after it.
use Rattle.std.specs.Prelude.{◌≡◌, ◌⊎◌, ℕ, Bool, true, List, Option, ⊤}
use Rattle.std.specs.Borrow.{Bor, MutBor}
use Rattle.std.specs.Io.KnownBytes.{Appends}
use Rattle.block_device.specs.Device.{Device}
use Rattle.program_io.specs.Counted.{CountedRecord}
use Rattle.command_line.specs.declared.fec_file.FecFile.{FecFile}
use Rattle.command_line.specs.declared.image_copies.ImageCopy.{ImageCopy}
use Rattle.command_line.specs.declared.invocation.Sectors.{Sectors}
use Rattle.command_line.specs.declared.invocation.Transfer.{Transfer}
use Rattle.command_line.specs.declared.words.cat.CatWords.{CatWords}
use Rattle.command_line.specs.declared.words.copy.CopyWords.{CopyWords}
use Rattle.command_line.specs.declared.words.diff.DiffWords.{DiffWords}
use Rattle.command_line.specs.declared.words.load.LoadWords.{LoadWords}
use Rattle.command_line.specs.declared.words.read.ReadWords.{ReadWords}
use Rattle.command_line.specs.declared.words.repair.RepairWords.{RepairWords}
use Rattle.command_line.specs.declared.words.scan.ScanWords.{ScanWords}
use Rattle.command_line.specs.declared.option_words.OptionWords.{OptionWords}
use Rattle.command_line.specs.declared.words.tree_verify.TreeVerifyWords.{TreeVerifyWords}
use Rattle.command_line.specs.declared.words.update.UpdateWords.{UpdateWords}
use Rattle.command_line.specs.declared.words.verify.VerifyWords.{VerifyWords}
use Rattle.command_line.specs.declared.words.write.WriteWords.{WriteWords}
use Rattle.command_line.specs.FecFiles.{fec_record}
use Rattle.command_line.specs.FormatOptions.{option_texts, text_of}
use Rattle.command_line.specs.words.Cat.{cat_record}
use Rattle.command_line.specs.words.Copy.{copy_record}
use Rattle.command_line.specs.words.Diff.{diff_record}
use Rattle.command_line.specs.Bindings.{BindingRecord}
use Rattle.command_line.specs.words.Load.{load_record}
use Rattle.command_line.specs.declared.list_form.ListForm.{ListForm}
use Rattle.command_line.specs.words.Read.{read_record}
use Rattle.command_line.specs.words.Repair.{repair_record}
use Rattle.command_line.specs.words.Scan.{scan_record}
use Rattle.command_line.specs.words.TreeVerify.{tree_verify_record}
use Rattle.command_line.specs.words.Update.{update_record}
use Rattle.command_line.specs.words.Verify.{verify_record}
use Rattle.command_line.specs.words.Write.{write_record}
use Rattle.image_files.specs.Opener.{Calls, Opener, calls}
use Rattle.image_commands.specs.declared.tree_source.SoughtTree.{SoughtTree}
use Rattle.stack_files.specs.Warnings.{Notes}
use Rattle.repair_commands.specs.declared.pair.RepairPlaces.{RepairPlaces}
use Rattle.repair_commands.specs.ByParity.{RepairsByParity}
use Rattle.repair_commands.specs.Commands.{IsRepairEnd, RepairsFiles}
use Rattle.repair_commands.specs.Pairs.{places_of}
use Rattle.transfer_commands.specs.Requests.{read_request, write_request}
use Rattle.transfer_commands.specs.Writes.{NotesPut, PutWords, put_words}
use Rattle.scan_commands.specs.Copies.{NotesCopy}
use Rattle.scan_commands.specs.Scans.{NotesScan}
use Rattle.scan_commands.specs.DeviceLines.{load_text}
use Rattle.stack_files.specs.declared.stack_file.StackFile.{StackFile}
use Rattle.stack_files.specs.OpenStacks.{stack_words}
use Rattle.stack_files.specs.StacksOfTexts.{NotesFile}
use Rattle.stack_rules.specs.Records.{Configuration}
use Rattle.stack_commands.specs.declared.context.Context.{Context}
use Rattle.stack_commands.specs.declared.fault.CommandFault.{CommandFault}
use Rattle.stack_commands.specs.Diffing.{ComparesImages, IsComparingEnd}
use Rattle.stack_commands.specs.Endings.{IsEnd, IsEndAs, IsSilent}
use Rattle.stack_commands.specs.Invocations.{CatNotes, CatsSectors, CopiesSectors, IsCatCommandEnd, IsCopyWordsEnd, IsLoadWordsEnd, IsPageEnd, IsReadWordsEnd, IsScanWordsEnd, IsWriteWordsEnd, ListsDevices, PrintsPage, ReadNotes, ReadsDevice, ScansSectors, WritesDevice, copied, scanned, written_words}
use Rattle.stack_commands.specs.Repairing.{IsParityWordsEnd, IsRepairWordsEnd, RepairsImage}
use Rattle.stack_commands.specs.StackCommands.{IsListEnd, IsReadEnd, IsWriteEnd, PrintsDevices, PrintsReply, PrintsWritten}
use Rattle.stack_commands.specs.Updating.{IsUpdateWordsEnd, UpdatesImage}
use Rattle.stack_commands.specs.Uses.{IsTreesEnd}
use Rattle.stack_commands.specs.Verifying.{ChecksImage, ChecksTree, GoesOverImage, GoesOverTree, IsCheckCommandEnd, IsCheckTreeEnd, IsGoingOverEnd, IsGoingOverTreeEnd}

-- what a context's references lent when it was used
abbrev pub ContextLeft : Type 0 → Type 0 → Type 0
ContextLeft S T = MutBor S × (MutBor (CountedRecord T) × ⊤)

-- the words of functions that are lent a context name these
abbrev transfer_words : StackFile → ℕ → Transfer → PutWords
transfer_words file cache transfer = put_words (stack_words file) cache transfer.source.now (write_request transfer)

-- ---- with a context: `Does..` and the like what is printed, `Ends..` how it ends early

module _ {S D T E : Type 0} (relations : Opener S D) (state : D → Device) (contents : T → Option (List ℕ)) (old : Context S T E) (new : ContextLeft S T) where
  abbrev desk_calls : Calls S D
  desk_calls = calls relations state old.images.now new.0.now

  abbrev desk_before : Option (List ℕ)
  desk_before = contents old.writer.now.inner

  abbrev desk_behind : Option (List ℕ)
  desk_behind = contents new.1.0.now.inner

  abbrev desk_failed : Bool
  desk_failed = new.1.0.now.failed

  -- by the words of a command
  abbrev pub DoesLoad : LoadWords → Notes → Type 0
  DoesLoad words notes = ListsDevices desk_calls (load_record words) desk_before desk_behind notes

  abbrev pub EndsLoad : LoadWords → Notes → CommandFault → Type 0
  EndsLoad words notes = IsLoadWordsEnd desk_calls (load_record words) desk_before desk_behind notes desk_failed

  abbrev pub DoesRead : ReadWords → Type 0
  DoesRead words = ReadsDevice desk_calls (read_record words) desk_before desk_behind

  abbrev pub EndsRead : ReadWords → CommandFault → Type 0
  EndsRead words = IsReadWordsEnd desk_calls (read_record words) desk_before desk_behind desk_failed

  abbrev pub NotesOfRead : ReadWords → Notes → Type 0
  NotesOfRead words = ReadNotes desk_calls (read_record words)

  abbrev pub DoesWrite : WriteWords → Type 0
  DoesWrite words = WritesDevice desk_calls (write_record words) desk_before desk_behind

  abbrev pub EndsWrite : WriteWords → CommandFault → Type 0
  EndsWrite words = IsWriteWordsEnd desk_calls (write_record words) desk_before desk_behind desk_failed

  abbrev pub NotesOfWrite : WriteWords → Notes → Type 0
  NotesOfWrite words = NotesPut desk_calls (written_words (write_record words))

  abbrev pub DoesCat : CatWords → Type 0
  DoesCat words = CatsSectors desk_calls (cat_record words) desk_before desk_behind

  abbrev pub EndsCat : CatWords → CommandFault → Type 0
  EndsCat words = IsCatCommandEnd desk_calls (cat_record words) desk_before desk_behind desk_failed

  abbrev pub NotesOfCat : CatWords → Notes → Type 0
  NotesOfCat words = CatNotes desk_calls (cat_record words)

  abbrev pub DoesScan : ScanWords → Type 0
  DoesScan words = ScansSectors desk_calls (scan_record words) desk_before desk_behind

  abbrev pub EndsScan : ScanWords → CommandFault → Type 0
  EndsScan words = IsScanWordsEnd desk_calls (scan_record words) desk_before desk_behind desk_failed

  abbrev pub NotesOfScan : ScanWords → Notes → Type 0
  NotesOfScan words = NotesScan desk_calls (scanned (scan_record words))

  abbrev pub DoesCopy : CopyWords → Type 0
  DoesCopy words = CopiesSectors desk_calls (copy_record words) desk_before desk_behind

  abbrev pub EndsCopy : CopyWords → CommandFault → Type 0
  EndsCopy words = IsCopyWordsEnd desk_calls (copy_record words) desk_before desk_behind desk_failed

  abbrev pub NotesOfCopy : CopyWords → Notes → Type 0
  NotesOfCopy words = NotesCopy desk_calls (copied (copy_record words))

  abbrev pub DoesVerify : VerifyWords → Type 0
  DoesVerify words = ChecksImage desk_calls (verify_record words) desk_before desk_behind

  abbrev pub EndsVerify : VerifyWords → CommandFault → Type 0
  EndsVerify words = IsCheckCommandEnd desk_calls (verify_record words) desk_before desk_behind desk_failed

  -- with `--all`
  abbrev pub DoesVerifyAll : VerifyWords → Type 0
  DoesVerifyAll words = GoesOverImage desk_calls (verify_record words) desk_before desk_behind

  abbrev pub EndsVerifyAll : VerifyWords → CommandFault → Type 0
  EndsVerifyAll words = IsGoingOverEnd desk_calls (verify_record words) desk_before desk_behind desk_failed

  -- without a superblock
  abbrev pub DoesTreeVerify : TreeVerifyWords → OptionWords → Type 0
  DoesTreeVerify words options = ChecksTree (option_texts options) desk_calls (tree_verify_record words) desk_before desk_behind

  abbrev pub EndsTreeVerify : TreeVerifyWords → OptionWords → CommandFault → Type 0
  EndsTreeVerify words options = IsCheckTreeEnd (option_texts options) desk_calls (tree_verify_record words) desk_before desk_behind desk_failed

  abbrev pub DoesTreeVerifyAll : TreeVerifyWords → OptionWords → Type 0
  DoesTreeVerifyAll words options = GoesOverTree (option_texts options) desk_calls (tree_verify_record words) desk_before desk_behind

  abbrev pub EndsTreeVerifyAll : TreeVerifyWords → OptionWords → CommandFault → Type 0
  EndsTreeVerifyAll words options = IsGoingOverTreeEnd (option_texts options) desk_calls (tree_verify_record words) desk_before desk_behind desk_failed

  abbrev pub DoesDiff : DiffWords → OptionWords → Type 0
  DoesDiff words options = ComparesImages (option_texts options) desk_calls (diff_record words) desk_before desk_behind

  abbrev pub EndsDiff : DiffWords → OptionWords → CommandFault → Type 0
  EndsDiff words options = IsComparingEnd (option_texts options) desk_calls (diff_record words) desk_before desk_behind desk_failed

  abbrev pub DoesRepair : RepairWords → OptionWords → Type 0
  DoesRepair words options = RepairsImage (option_texts options) desk_calls (repair_record words) desk_before desk_behind

  abbrev pub EndsRepair : RepairWords → OptionWords → CommandFault → Type 0
  EndsRepair words options = IsRepairWordsEnd (option_texts options) desk_calls (repair_record words) desk_before desk_behind desk_failed

  -- without parity, and by it
  abbrev pub FixesByCopies : RepairPlaces → List ImageCopy → SoughtTree → Type 0
  FixesByCopies places copies sought = RepairsFiles desk_calls (places_of places) copies sought desk_before desk_behind

  abbrev pub EndsByCopies : RepairPlaces → List ImageCopy → SoughtTree → CommandFault → Type 0
  EndsByCopies places copies sought = IsTreesEnd (IsRepairEnd desk_calls (places_of places) copies sought desk_before desk_behind desk_failed)

  abbrev pub FixesByParity : RepairPlaces → FecFile → List ImageCopy → SoughtTree → Type 0
  FixesByParity places fec copies sought = RepairsByParity desk_calls (places_of places) (fec_record fec) copies sought desk_before desk_behind

  abbrev pub EndsByParity : RepairPlaces → FecFile → List ImageCopy → SoughtTree → CommandFault → Type 0
  EndsByParity places fec copies sought = IsParityWordsEnd desk_calls (places_of places) (fec_record fec) copies sought desk_before desk_behind desk_failed

  abbrev pub DoesUpdate : UpdateWords → Type 0
  DoesUpdate words = UpdatesImage desk_calls (update_record words) desk_before desk_behind

  abbrev pub EndsUpdate : UpdateWords → CommandFault → Type 0
  EndsUpdate words = IsUpdateWordsEnd desk_calls (update_record words) desk_before desk_behind desk_failed

  -- over a stack file
  abbrev pub ListsFile : StackFile → ListForm → Bool → Notes → Type 0
  ListsFile file form linux notes = PrintsDevices form linux desk_calls (stack_words file) notes desk_before desk_behind

  abbrev pub EndsListing : StackFile → ListForm → Bool → Notes → CommandFault → Type 0
  EndsListing file form linux notes = IsListEnd form linux desk_calls (stack_words file) notes desk_failed

  abbrev pub ReadsFile : StackFile → ℕ → Sectors → Type 0
  ReadsFile file cache sectors = PrintsReply desk_calls (stack_words file) cache (read_request sectors) desk_before desk_behind

  abbrev pub EndsReading : StackFile → ℕ → Sectors → CommandFault → Type 0
  EndsReading file cache sectors = IsReadEnd desk_calls (stack_words file) cache (read_request sectors) desk_failed

  abbrev pub NotesOfFile : StackFile → ℕ → Notes → Type 0
  NotesOfFile file cache = NotesFile desk_calls (stack_words file) cache

  abbrev pub WritesFile : StackFile → ℕ → Transfer → Type 0
  WritesFile file cache transfer = PrintsWritten desk_calls (transfer_words file cache transfer) desk_before desk_behind

  abbrev pub EndsWriting : StackFile → ℕ → Transfer → CommandFault → Type 0
  EndsWriting file cache transfer = IsWriteEnd desk_calls (transfer_words file cache transfer) desk_failed

  abbrev pub NotesOfWriting : StackFile → ℕ → Transfer → Notes → Type 0
  NotesOfWriting file cache transfer = NotesPut desk_calls (transfer_words file cache transfer)

-- nothing is written ahead of what ends a command, unless it is the writing that fails
abbrev pub IsSilentOn : {S T E : Type 0} → (T → Option (List ℕ)) → Context S T E → ContextLeft S T → CommandFault → Type 0
IsSilentOn contents old new fault = IsSilent fault (contents old.writer.now.inner) (contents new.1.0.now.inner)

-- ---- with a writer alone

module _ {T : Type 0} (contents : T → Option (List ℕ)) (old new : CountedRecord T) where
  -- the devices of a configuration, as `load` says them
  abbrev pub PrintsConfiguration : Configuration → List BindingRecord → ListForm → Type 0
  PrintsConfiguration config bindings form = Appends (contents old.inner) (contents new.inner) (load_text form config bindings)

  -- the page of a command, or of the program
  abbrev pub ShowsPage : Option (Bor (List ℕ)) → Type 0
  ShowsPage command = PrintsPage (text_of command) (contents old.inner) (contents new.inner)

  abbrev pub EndsPage : Option (Bor (List ℕ)) → CommandFault → Type 0
  EndsPage command = IsPageEnd (text_of command) (contents old.inner) (contents new.inner) new.failed

  -- why a command ended early, with its status, or the status 1 if that can't be written
  abbrev pub IsToldBy : CommandFault → ℕ → Type 0
  IsToldBy fault status = IsEnd fault (contents old.inner) (contents new.inner) status ⊎ ((status ≡ 1) × (new.failed ≡ true))

  -- the text and the status of an end, as an object if one is asked for
  abbrev pub IsToldAs : Bool → CommandFault → ℕ → Type 0
  IsToldAs json fault status = IsEndAs json fault (contents old.inner) (contents new.inner) status ⊎ ((status ≡ 1) × (new.failed ≡ true))
