-- What each command prints if it succeeds, and how it ends early.
use Rattle.std.specs.Io.KnownBytes.{Appends}
use Rattle.std.specs.Prelude.{◌≡◌, ◌⊎◌, ◌≢◌, ℕ, Bool, true, false, codes, List, [], None, Ok, Option, Some, unwrap_or}
use Rattle.command_line.specs.FormatOptions.{OptionTexts}
use Rattle.command_line.specs.Invocations.{InvocationRecord, assemble, cat, copy, diff, dump, exports, find_in_place, format, format_fec, load, manual, nbd, partitions, read, repair, scan, session, store, table, table_fec, table_tree, update, verify, verify_fec, verify_tree, version, write}
use Rattle.command_line.specs.words.Cat.{CatRecord}
use Rattle.command_line.specs.words.Copy.{CopyRecord}
use Rattle.command_line.specs.words.Exports.{ExportsRecord}
use Rattle.command_line.specs.words.Load.{LoadRecord}
use Rattle.command_line.specs.words.Nbd.{NbdRecord}
use Rattle.command_line.specs.words.Read.{ReadRecord}
use Rattle.command_line.specs.words.Scan.{ScanRecord}
use Rattle.command_line.specs.words.Session.{SessionRecord}
use Rattle.command_line.specs.words.Store.{StoreRecord}
use Rattle.command_line.specs.words.Write.{WriteRecord}
use Rattle.program_io.specs.Streams.{Streams}
use Rattle.image_files.specs.Opener.{Calls}
use Rattle.fec_commands.specs.declared.fault.FecFault.{FecFault}
use Rattle.fec_commands.specs.Commands.{IsVerifyFecEnd, VerifiesFec}
use Rattle.fec_commands.specs.Formatting.{FormatsFec, IsFormatFecEnd}
use Rattle.fec_commands.specs.Tables.{IsTableFecEnd, PrintsFec}
use Rattle.manual_pages.specs.Pages.{PageRecord, page_of}
use Rattle.manual_pages.specs.Versions.{version_text}
use Rattle.assemble_commands.specs.Commands.{AssemblesDisk}
use Rattle.assemble_commands.specs.Ends.{IsAssembleEnd}
use Rattle.find_commands.specs.Commands.{FindsInPlace, IsFindEnd}
use Rattle.partition_commands.specs.declared.fault.PartitionsFault.{PartitionsFault}
use Rattle.partition_commands.specs.Invocations.{IsFormQuiet, IsListingEnd, ListsPartitions}
use Rattle.stack_files.specs.Warnings.{Notes}
use Rattle.stack_commands.specs.declared.fault.CommandFault.{CommandFault}
use Rattle.stack_commands.specs.declared.fault.CommandFault.TheVariants.{Fec, Partitions, Usage}
use Rattle.stack_commands.specs.Diffing.{ComparesImages, IsComparingEnd}
use Rattle.stack_commands.specs.Endings.{IsSilent, IsReplyUnwritten}
use Rattle.transfer_commands.specs.Writes.{NotesPut, PutWords, put_words}
use Rattle.request_queue.specs.Requests.{a_read, a_write}
use Rattle.nbd_server.specs.declared.session_end.SessionEnd.{SessionEnd}
use Rattle.scan_commands.specs.Copies.{CopyWords, IsCopyEnd, NotesCopy, PrintsCopy, copy_words}
use Rattle.scan_commands.specs.Scans.{IsScanEnd, NotesScan, PrintsScan, ScanWords, scan_words}
use Rattle.stack_files.specs.NamedDevices.{NotesDevice}
use Rattle.stack_files.specs.StacksOfTexts.{NotesFile}
use Rattle.transfer_commands.specs.StoredFiles.{FileWords, IsFileEnd, NotesTarget, PrintsFileStored, file_words}
use Rattle.transfer_commands.specs.Streaming.{IsBytesEnd, IsStoringEnd, PrintsBytes, PrintsStored}
use Rattle.stack_commands.specs.ManyExports.{IsExportsEnd, ServesExports}
use Rattle.stack_commands.specs.ServiceLog.{Exchange, exchange}
use Rattle.stack_commands.specs.StackCommands.{IsClientEnd, IsListEnd, IsReadEnd, IsServeEnd, IsWriteEnd, NotesLeft, PrintsDevices, PrintsReply, PrintsWritten, ServesClient, ServesSession, ServesWell, device_on, on, source_on}
use Rattle.verity_commands.specs.Formatting.{FormatsAt, IsSaidFormatEnd}
use Rattle.verity_commands.specs.Placed.{DumpsAt, IsDumpEnd, IsTableEnd, PrintsEntry}
use Rattle.verity_commands.specs.Trees.{IsTableTreeEnd, PrintsTreeEntry}
use Rattle.stack_commands.specs.Repairing.{IsRepairWordsEnd, RepairsImage}
use Rattle.stack_commands.specs.Updating.{IsUpdateWordsEnd, UpdatesImage}
use Rattle.stack_commands.specs.Uses.{IsRecoveringEnd, IsStreamEnd, IsVerityEnd, Uses}
use Rattle.stack_commands.specs.Verifying.{ChecksImage, ChecksTree, IsCheckCommandEnd, IsCheckTreeEnd}

-- ---- partitions

abbrev pub IsPartitionsEnd : (PartitionsFault → Type 0) → CommandFault → Type 0
IsPartitionsEnd Ends (Partitions fault) = Ends fault
IsPartitionsEnd Ends fault = ⊥

-- ---- images with parity

abbrev pub IsFecEnd : (FecFault → Type 0) → CommandFault → Type 0
IsFecEnd Ends (Fec fault) = Ends fault
IsFecEnd Ends fault = ⊥

-- ---- the devices of a stack

abbrev pub ListsDevices : {S D : Type 0} → Calls S D → LoadRecord → Option (List ℕ) → Option (List ℕ) → Notes → Type 0
ListsDevices w l old new notes = PrintsDevices l.form l.linux w (on l.stack l.bindings) notes old new

abbrev pub IsLoadWordsEnd : {S D : Type 0} → Calls S D → LoadRecord → Option (List ℕ) → Option (List ℕ) → Notes → Bool → CommandFault → Type 0
IsLoadWordsEnd w l old new notes failed fault = IsListEnd l.form l.linux w (on l.stack l.bindings) notes failed fault × IsSilent fault old new

-- ---- requests

abbrev pub ReadsDevice : {S D : Type 0} → Calls S D → ReadRecord → Option (List ℕ) → Option (List ℕ) → Type 0
ReadsDevice w r old new = PrintsReply w (on r.stack r.bindings) r.cache (a_read r.name r.first r.count) old new

abbrev pub IsReadWordsEnd : {S D : Type 0} → Calls S D → ReadRecord → Option (List ℕ) → Option (List ℕ) → Bool → CommandFault → Type 0
IsReadWordsEnd w r old new failed fault = IsReadEnd w (on r.stack r.bindings) r.cache (a_read r.name r.first r.count) failed fault × IsSilent fault old new

-- what is printed among the errors of the stack that is read
abbrev pub ReadNotes : {S D : Type 0} → Calls S D → ReadRecord → Notes → Type 0
ReadNotes w r = NotesFile w (on r.stack r.bindings) r.cache

abbrev pub written_words : WriteRecord → PutWords
written_words t = put_words (on t.stack t.bindings) t.cache t.source (a_write t.name t.first)

abbrev pub WritesDevice : {S D : Type 0} → Calls S D → WriteRecord → Option (List ℕ) → Option (List ℕ) → Type 0
WritesDevice w t old new = PrintsWritten w (written_words t) old new

abbrev pub IsWriteWordsEnd : {S D : Type 0} → Calls S D → WriteRecord → Option (List ℕ) → Option (List ℕ) → Bool → CommandFault → Type 0
IsWriteWordsEnd w t old new failed fault = IsWriteEnd w (written_words t) failed fault × IsSilent fault old new

-- ---- the lines of the input, and a client that is served one device

abbrev pub ServesInputLines : {S D : Type 0} → Calls S D → SessionRecord → Streams → Streams → Type 0
ServesInputLines w s old new = ServesSession w s.cache s.bindings old new (Ok tt) (Ok tt)

abbrev pub IsSessionWordsEnd : {S D : Type 0} → Calls S D → SessionRecord → Streams → Streams → Bool → CommandFault → Type 0
IsSessionWordsEnd w s old new failed fault = IsServeEnd w s.cache s.bindings old new failed fault

-- what is printed among the errors of the stack that is left
abbrev pub SessionNotes : {S D : Type 0} → Calls S D → SessionRecord → Streams → Streams → Notes → Type 0
SessionNotes w s old new = NotesLeft w s.cache s.bindings old new

abbrev pub ServesNamedDevice : {S D : Type 0} → Calls S D → NbdRecord → Exchange → Type 0
ServesNamedDevice w n x = ServesWell (λ log. (end : SessionEnd) × ServesClient w (device_on n.stack n.name n.cache n.bindings) x log (Ok end) (Ok tt))

abbrev pub IsNbdWordsEnd : {S D : Type 0} → Calls S D → NbdRecord → Exchange → Bool → CommandFault → Type 0
IsNbdWordsEnd w n x failed fault = IsClientEnd w (device_on n.stack n.name n.cache n.bindings) x failed fault

-- ---- bytes of a device

abbrev pub CatsSectors : {S D : Type 0} → Calls S D → CatRecord → Option (List ℕ) → Option (List ℕ) → Type 0
CatsSectors w c old new = PrintsBytes w (device_on c.stack c.name c.cache c.bindings) c.first c.count old new

abbrev pub IsCatCommandEnd : {S D : Type 0} → Calls S D → CatRecord → Option (List ℕ) → Option (List ℕ) → Bool → CommandFault → Type 0
IsCatCommandEnd w c old new failed fault = IsStreamEnd (IsBytesEnd w (device_on c.stack c.name c.cache c.bindings) c.first c.count old new failed) fault

-- what is printed among the errors of the stack whose bytes are written
abbrev pub CatNotes : {S D : Type 0} → Calls S D → CatRecord → Notes → Type 0
CatNotes w c = NotesDevice w (device_on c.stack c.name c.cache c.bindings)

-- the source `-` is the input; another one is a file, and nothing is read of the input then
abbrev pub BySource : StoreRecord → Type 0 → Type 0 → Type 0
BySource s Input File = ((s.source ≡ codes "-") × Input) ⊎ ((s.source ≢ codes "-") × File)

abbrev pub stored_words : StoreRecord → FileWords
stored_words s = file_words (device_on s.stack s.name s.cache s.bindings) s.source s.first

abbrev pub StoresSectors : {S D : Type 0} → Calls S D → StoreRecord → Streams → Streams → Type 0
StoresSectors w s old new = BySource s
    (PrintsStored w (device_on s.stack s.name s.cache s.bindings) s.first old new)
    ((new.input ≡ old.input) × PrintsFileStored w (stored_words s) old.output new.output)

abbrev pub IsStoreCommandEnd : {S D : Type 0} → Calls S D → StoreRecord → Streams → Streams → Bool → CommandFault → Type 0
IsStoreCommandEnd w s old new failed fault = BySource s
    (IsStreamEnd (IsStoringEnd w (device_on s.stack s.name s.cache s.bindings) s.first old new failed) fault)
    ((new.input ≡ old.input) × IsStreamEnd (IsFileEnd w (stored_words s) old.output new.output failed) fault)

-- what is printed among the errors of the stack that is written to
abbrev pub StoreNotes : {S D : Type 0} → Calls S D → StoreRecord → Notes → Type 0
StoreNotes w s notes = BySource s (NotesDevice w (device_on s.stack s.name s.cache s.bindings) notes) (NotesTarget w (stored_words s) notes)

-- ---- a whole device

abbrev pub scanned : ScanRecord → ScanWords
scanned s = scan_words (source_on s.source s.cache false s.bindings) s.map s.retries s.no_scrape s.form

abbrev pub ScansSectors : {S D : Type 0} → Calls S D → ScanRecord → Option (List ℕ) → Option (List ℕ) → Type 0
ScansSectors w s old new = PrintsScan w (scanned s) old new

abbrev pub IsScanWordsEnd : {S D : Type 0} → Calls S D → ScanRecord → Option (List ℕ) → Option (List ℕ) → Bool → CommandFault → Type 0
IsScanWordsEnd w s old new failed fault = IsRecoveringEnd (IsScanEnd w (scanned s) old new failed) fault

abbrev pub copied : CopyRecord → CopyWords
copied c = copy_words (source_on c.source c.cache c.grow c.bindings) c.out c.differing c.map c.retries c.no_scrape

abbrev pub CopiesSectors : {S D : Type 0} → Calls S D → CopyRecord → Option (List ℕ) → Option (List ℕ) → Type 0
CopiesSectors w c old new = PrintsCopy w (copied c) old new

abbrev pub IsCopyWordsEnd : {S D : Type 0} → Calls S D → CopyRecord → Option (List ℕ) → Option (List ℕ) → Bool → CommandFault → Type 0
IsCopyWordsEnd w c old new failed fault = IsRecoveringEnd (IsCopyEnd w (copied c) old new failed) fault

-- ---- a client that is served each device

abbrev pub ServesDevices : {S D : Type 0} → Calls S D → ExportsRecord → Exchange → Type 0
ServesDevices w e x = ServesWell (λ log. (end : SessionEnd) × ServesExports w (on e.stack e.bindings) e.cache x log (Ok end) (Ok tt))

abbrev pub IsExportsWordsEnd : {S D : Type 0} → Calls S D → ExportsRecord → Exchange → Bool → CommandFault → Type 0
IsExportsWordsEnd w e x failed fault = IsExportsEnd w (on e.stack e.bindings) e.cache x failed fault

-- ---- pages of the manual

-- the page of that command, or of the program if none is named
abbrev pub page_wanted : Option (List ℕ) → Option PageRecord
page_wanted command = page_of (unwrap_or command [])

-- it is printed
pub record PrintsPage (command : Option (List ℕ)) (old new : Option (List ℕ)) : Type 0 where
  pub page : PageRecord
  pub wanted : page_wanted command ≡ Some page
  pub printed : Appends old new page.text

-- there is no such page, or it can't be written
abbrev pub IsPageEnd : Option (List ℕ) → Option (List ℕ) → Option (List ℕ) → Bool → CommandFault → Type 0
IsPageEnd command old new failed fault = ((page_wanted command ≡ None) × ((fault ≡ Usage None) × (new ≡ old))) ⊎ IsReplyUnwritten failed fault

-- ---- all of them

-- what a client is sent and what is printed meanwhile, with `--quiet` or without it, and who takes the lines
abbrev pub exchange_of : {S D T G : Type 0} → OptionTexts → Uses S D T G → Exchange
exchange_of texts u = exchange u.old u.new texts.quiet u.notes u.journal

-- what each prints if it succeeds; the texts are the values of `format`'s options
abbrev pub Succeeds : {S D T G : Type 0} → OptionTexts → InvocationRecord → Uses S D T G → Type 0
Succeeds texts (load l) u = ListsDevices u.images l u.old.output u.new.output u.notes
Succeeds texts (read r) u = ReadsDevice u.images r u.old.output u.new.output
Succeeds texts (write t) u = WritesDevice u.images t u.old.output u.new.output
Succeeds texts (session s) u = ServesInputLines u.images s u.old u.new
Succeeds texts (nbd n) u = ServesNamedDevice u.images n (exchange_of texts u)
Succeeds texts (exports e) u = ServesDevices u.images e (exchange_of texts u)
Succeeds texts (scan s) u = ScansSectors u.images s u.old.output u.new.output
Succeeds texts (copy c) u = CopiesSectors u.images c u.old.output u.new.output
Succeeds texts (cat c) u = CatsSectors u.images c u.old.output u.new.output
Succeeds texts (store s) u = StoresSectors u.images s u.old u.new
Succeeds texts (format f) u = FormatsAt texts u.images u.drawing f u.old.output u.new.output
Succeeds texts (verify v) u = ChecksImage u.images v u.old.output u.new.output
Succeeds texts (dump d) u = DumpsAt u.images d u.old.output u.new.output
Succeeds texts (table t) u = PrintsEntry u.images t u.old.output u.new.output
Succeeds texts (partitions p) u = ListsPartitions u.images p u.old.output u.new.output u.notes
Succeeds texts (diff d) u = ComparesImages texts u.images d u.old.output u.new.output
Succeeds texts (repair r) u = RepairsImage texts u.images r u.old.output u.new.output
Succeeds texts (update p) u = UpdatesImage u.images p u.old.output u.new.output
Succeeds texts (find_in_place f) u = FindsInPlace u.images f u.old.output u.new.output
Succeeds texts (assemble a) u = AssemblesDisk u.images u.drawing a u.old.output u.new.output
Succeeds texts (verify_tree v) u = ChecksTree texts u.images v u.old.output u.new.output
Succeeds texts (table_tree t) u = PrintsTreeEntry texts u.images t u.old.output u.new.output
Succeeds texts (format_fec f) u = FormatsFec texts u.images u.drawing f u.old.output u.new.output
Succeeds texts (verify_fec v) u = VerifiesFec texts u.images v u.old.output u.new.output
Succeeds texts (table_fec t) u = PrintsFec texts u.images t u.old.output u.new.output
Succeeds texts (manual command) u = PrintsPage command u.old.output u.new.output × (u.images.new ≡ u.images.old)
Succeeds texts version u = Appends u.old.output u.new.output version_text × (u.images.new ≡ u.images.old)

-- how each ends early, where the last but one says whether the writer failed
abbrev pub FailsCommand : {S D T G : Type 0} → OptionTexts → InvocationRecord → Uses S D T G → Bool → CommandFault → Type 0
FailsCommand texts (load l) u failed fault = IsLoadWordsEnd u.images l u.old.output u.new.output u.notes failed fault
FailsCommand texts (read r) u failed fault = IsReadWordsEnd u.images r u.old.output u.new.output failed fault
FailsCommand texts (write t) u failed fault = IsWriteWordsEnd u.images t u.old.output u.new.output failed fault
FailsCommand texts (session s) u failed fault = IsSessionWordsEnd u.images s u.old u.new failed fault
FailsCommand texts (nbd n) u failed fault = IsNbdWordsEnd u.images n (exchange_of texts u) failed fault
FailsCommand texts (exports e) u failed fault = IsExportsWordsEnd u.images e (exchange_of texts u) failed fault
FailsCommand texts (scan s) u failed fault = IsScanWordsEnd u.images s u.old.output u.new.output failed fault
FailsCommand texts (copy c) u failed fault = IsCopyWordsEnd u.images c u.old.output u.new.output failed fault
FailsCommand texts (cat c) u failed fault = IsCatCommandEnd u.images c u.old.output u.new.output failed fault
FailsCommand texts (store s) u failed fault = IsStoreCommandEnd u.images s u.old u.new failed fault
FailsCommand texts (format f) u failed fault = IsVerityEnd (IsSaidFormatEnd texts u.images u.drawing f u.old.output u.new.output failed) fault
FailsCommand texts (verify v) u failed fault = IsCheckCommandEnd u.images v u.old.output u.new.output failed fault
FailsCommand texts (dump d) u failed fault = IsVerityEnd (IsDumpEnd u.images d u.old.output u.new.output failed) fault
FailsCommand texts (table t) u failed fault = IsVerityEnd (IsTableEnd u.images t u.old.output u.new.output failed) fault
FailsCommand texts (partitions p) u failed fault = IsPartitionsEnd (λ end. IsListingEnd u.images p failed u.notes end × IsFormQuiet p.form u.old.output u.new.output end) fault
FailsCommand texts (diff d) u failed fault = IsComparingEnd texts u.images d u.old.output u.new.output failed fault
FailsCommand texts (repair r) u failed fault = IsRepairWordsEnd texts u.images r u.old.output u.new.output failed fault
FailsCommand texts (update p) u failed fault = IsUpdateWordsEnd u.images p u.old.output u.new.output failed fault
FailsCommand texts (find_in_place f) u failed fault = IsRecoveringEnd (IsFindEnd u.images f u.old.output u.new.output failed) fault
FailsCommand texts (assemble a) u failed fault = IsFecEnd (IsAssembleEnd u.images u.drawing a u.old.output u.new.output failed) fault
FailsCommand texts (verify_tree v) u failed fault = IsCheckTreeEnd texts u.images v u.old.output u.new.output failed fault
FailsCommand texts (table_tree t) u failed fault = IsVerityEnd (IsTableTreeEnd texts u.images t u.old.output u.new.output failed) fault
FailsCommand texts (format_fec f) u failed fault = IsFecEnd (IsFormatFecEnd texts u.images u.drawing f u.old.output u.new.output failed) fault
FailsCommand texts (verify_fec v) u failed fault = IsFecEnd (IsVerifyFecEnd texts u.images v u.old.output u.new.output failed) fault
FailsCommand texts (table_fec t) u failed fault = IsFecEnd (IsTableFecEnd texts u.images t u.old.output u.new.output failed) fault
FailsCommand texts (manual command) u failed fault = IsPageEnd command u.old.output u.new.output failed fault × (u.images.new ≡ u.images.old)
FailsCommand texts version u failed fault = IsReplyUnwritten failed fault × (u.images.new ≡ u.images.old)

-- while it runs, a command on a stack prints among the errors only that no signature is checked, `partitions` the warnings of its table,
-- `nbd` lines on its service, and every other command nothing; the rows of `load`, `partitions` and `nbd` speak of what these print
abbrev pub AreCommandNotes : {S D T G : Type 0} → InvocationRecord → Uses S D T G → Type 0
AreCommandNotes (load l) u = Unit {0}
AreCommandNotes (partitions p) u = Unit {0}
AreCommandNotes (nbd n) u = Unit {0}
AreCommandNotes (exports e) u = Unit {0}
AreCommandNotes (read r) u = ReadNotes u.images r u.notes
AreCommandNotes (write t) u = NotesPut u.images (written_words t) u.notes
AreCommandNotes (session s) u = SessionNotes u.images s u.old u.new u.notes
AreCommandNotes (scan s) u = NotesScan u.images (scanned s) u.notes
AreCommandNotes (copy c) u = NotesCopy u.images (copied c) u.notes
AreCommandNotes (cat c) u = CatNotes u.images c u.notes
AreCommandNotes (store s) u = StoreNotes u.images s u.notes
AreCommandNotes invocation u = u.notes.new ≡ u.notes.old
