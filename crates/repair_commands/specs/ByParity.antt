-- What `repair --fec FILE` does to files, and how it ends.
use Rattle.std.specs.Prelude.{◌≡◌, ◌⊎◌, ℕ, Bool, true, List, Option}
use Rattle.block_device.specs.Device.{Device}
use Rattle.program_io.specs.Counted.{CountedRecord}
use Rattle.command_line.specs.declared.image_copies.ImageCopy.{ImageCopy}
use Rattle.command_line.specs.declared.fec_file.FecFile.{FecFile}
use Rattle.command_line.specs.FecFiles.{FecRecord, fec_record}
use Rattle.image_commands.specs.declared.tree_source.SoughtTree.{SoughtTree}
use Rattle.image_commands.specs.TreeSources.{may_seek}
use Rattle.image_files.specs.declared.opening.UnopenedFile.{UnopenedFile}
use Rattle.image_files.specs.Opener.{Calls, Opener, calls}
use Rattle.verity_commands.specs.declared.tree_fault.TreeFault.{TreeFault}
use Rattle.verity_commands.specs.declared.tree_fault.TreeFault.TheVariants.{Open}
use Rattle.tree_repair.specs.declared.fault.RepairFault.{RepairFault}
use Rattle.tree_repair.specs.declared.outcome.Outcome.{Outcome}
use Rattle.tree_repair.specs.declared.repair.Plan.{Plan}
use Rattle.tree_repair.specs.Worlds.{RepairWorld}
use Rattle.verity_format.specs.Blocks.{IsOnlyRead}
use Rattle.repair_commands.specs.declared.fault.ParityRepairFault.{ParityRepairFault}
use Rattle.repair_commands.specs.declared.fault.ParityRepairFault.TheVariants.{Tree}
use Rattle.repair_commands.specs.declared.found_tree.FoundTree.{FoundTree}
use Rattle.repair_commands.specs.declared.opening.Opened.{Opened}
use Rattle.repair_commands.specs.declared.pair.RepairPlaces.{RepairPlaces}
use Rattle.repair_commands.specs.declared.parity.LaidParity.{LaidParity}
use Rattle.repair_commands.specs.declared.parity.Parity.{Parity}
use Rattle.repair_commands.specs.Commands.{EndsEarly, GivesBack, IsRepairUnplaced, Mending, MendsAndTells, MendsHalf, PassesOpened, RefusesOpened, opened_world, plan_of}
use Rattle.repair_commands.specs.Mends.{MendsInPasses, parity_use}
use Rattle.repair_commands.specs.Openings.{FailsToOpenCopies, OpensAll}
use Rattle.repair_commands.specs.Pairs.{Places, places_of}
use Rattle.repair_commands.specs.Parity.{FailsToOpenParity, IsUnlaid, LaysAcross, OpensParity}

-- the parity device was only read, and this holds of it as it was and as the calls left it
pub record IsByParity {D : Type 0} (state : D → Device) (device : D) (P : D → D → Type 0) : Type 0 where
  pub device' : D
  pub read : IsOnlyRead (state device) (state device')
  pub holds : P device device'

-- a repair from copies and by parity, in passes
abbrev pub MendsByParity : {D : Type 0} → (D → Device) → Plan → LaidParity D → RepairWorld → Option (List ℕ) → Mending Outcome
MendsByParity state plan laid w old = λ mid between outcome. IsByParity state laid.device (λ device device'. MendsInPasses plan laid.layout (state device) (state device') w mid old between outcome)

-- such a repair that ended early
abbrev pub MendsHalfByParity : {D : Type 0} → (D → Device) → Plan → LaidParity D → RepairWorld → Option (List ℕ) → Bool → Mending RepairFault
MendsHalfByParity state plan laid w old failed = λ mid between cause. IsByParity state laid.device (λ device device'. MendsHalf plan (parity_use state laid.layout device device') w old failed mid between cause)

-- the open images were repaired, what is still lost was reported, and both parts were closed
abbrev pub MendsOpenedByParity : {S D : Type 0} → Calls S D → Places → Opened D → FoundTree → LaidParity D → Option (List ℕ) → Option (List ℕ) → Type 0
MendsOpenedByParity w p o found laid old new =
    GivesBack w p o.parts (MendsAndTells (MendsByParity w.state (plan_of p found) laid (opened_world w.state o) old) found.whole (plan_of p found) new)

-- this ended early, and both parts were closed
abbrev pub EndsOpenedByParity : {S D : Type 0} → Calls S D → Places → Opened D → FoundTree → LaidParity D → Option (List ℕ) → Option (List ℕ) → Bool → TreeFault → Type 0
EndsOpenedByParity w p o found laid old new failed fault =
    GivesBack w p o.parts (EndsEarly (MendsByParity w.state (plan_of p found) laid (opened_world w.state o) old) (MendsHalfByParity w.state (plan_of p found) laid (opened_world w.state o) old failed) found.whole (plan_of p found) new failed fault)

-- the images and the copies were opened, and then the parity file; the tree was found
pub record IsReadyByParity {S D : Type 0} (w : Calls S D) (p : Places) (fec : FecRecord) (copies : List ImageCopy) (sought : SoughtTree) (o : Opened D) (parity : Parity D) (found : FoundTree) : Type 0 where
  pub between : S
  pub before : Opened D
  pub opens : OpensAll (record w { new = between }) p copies before
  pub parity_opens : OpensParity (record w { old = between }) p.write before fec parity
  pub passes : PassesOpened w.state p.first sought before o found

-- The layout of the parity was determined. The image was repaired by the tree that was found, reported and closed.
pub record RepairsByParity {S D : Type 0} (w : Calls S D) (p : Places) (fec : FecRecord) (copies : List ImageCopy) (sought : SoughtTree) (old new : Option (List ℕ)) : Type 0 where
  pub between : S
  pub opened : Opened D
  pub parity : Parity D
  pub found : FoundTree
  pub laid : LaidParity D
  pub ready : IsReadyByParity (record w { new = between }) p fec copies sought opened parity found
  pub lays : LaysAcross w.state w.state found.tree.shape opened.pair parity laid
  pub mends : MendsOpenedByParity (record w { old = between }) p opened found laid old new
  pub aligned : may_seek sought.source p.first ≡ true

-- ---- how the command ends early

-- no hash block of the options' tree begins there, and nothing was opened or printed
pub record EndsUnplacedByParity {S D : Type 0} (w : Calls S D) (p : Places) (sought : SoughtTree) (old new : Option (List ℕ)) (fault : ParityRepairFault) : Type 0 where
  pub cause : TreeFault
  pub unplaced : IsRepairUnplaced w p sought old new cause
  pub is : fault ≡ Tree cause

-- an image or a copy can't be opened, and nothing was written or printed
pub record EndsUnopenedByParity {S D : Type 0} (w : Calls S D) (p : Places) (copies : List ImageCopy) (old new : Option (List ℕ)) (fault : ParityRepairFault) : Type 0 where
  pub cause : TreeFault
  pub fails : FailsToOpenCopies w p copies cause
  pub quiet : new ≡ old
  pub is : fault ≡ Tree cause

-- the parity file can't be opened
pub record EndsWithoutParity {S D : Type 0} (w : Calls S D) (p : Places) (fec : FecRecord) (copies : List ImageCopy) (old new : Option (List ℕ)) (fault : ParityRepairFault) : Type 0 where
  pub between : S
  pub opened : Opened D
  pub file : UnopenedFile
  pub opens : OpensAll (record w { new = between }) p copies opened
  pub fails : FailsToOpenParity (record w { old = between }) p.write opened fec file
  pub quiet : new ≡ old
  pub is : fault ≡ Tree (Open file)

-- all files are open, and the image is refused before anything is written or printed
pub record EndsRefusedByParity {S D : Type 0} (w : Calls S D) (p : Places) (fec : FecRecord) (copies : List ImageCopy) (sought : SoughtTree) (old new : Option (List ℕ)) (fault : ParityRepairFault) : Type 0 where
  pub between : S
  pub before : Opened D
  pub opened : Opened D
  pub parity : Parity D
  pub opens : OpensAll (record w { new = between }) p copies before
  pub parity_opens : OpensParity (record w { old = between }) p.write before fec parity
  pub cause : TreeFault
  pub refuses : RefusesOpened w.state p.first sought before opened cause
  pub quiet : new ≡ old
  pub is : fault ≡ Tree cause

-- the image isn't refused, and there is no layout of the parity; nothing was written or printed
pub record EndsUnlaid {S D : Type 0} (w : Calls S D) (p : Places) (fec : FecRecord) (copies : List ImageCopy) (sought : SoughtTree) (old new : Option (List ℕ)) (fault : ParityRepairFault) : Type 0 where
  pub opened : Opened D
  pub parity : Parity D
  pub found : FoundTree
  pub ready : IsReadyByParity w p fec copies sought opened parity found
  pub unlaid : IsUnlaid found.tree.shape (w.state opened.pair.data_image.device) (w.state opened.pair.hash_image.device) (w.state parity.device) parity.roots fault
  pub quiet : new ≡ old

-- there is a layout, and the repair ended early, or not all of the image is valid
pub record EndsUnmendedByParity {S D : Type 0} (w : Calls S D) (p : Places) (fec : FecRecord) (copies : List ImageCopy) (sought : SoughtTree) (old new : Option (List ℕ)) (failed : Bool) (fault : ParityRepairFault) : Type 0 where
  pub between : S
  pub opened : Opened D
  pub parity : Parity D
  pub found : FoundTree
  pub laid : LaidParity D
  pub ready : IsReadyByParity (record w { new = between }) p fec copies sought opened parity found
  pub lays : LaysAcross w.state w.state found.tree.shape opened.pair parity laid
  pub cause : TreeFault
  pub ends : EndsOpenedByParity (record w { old = between }) p opened found laid old new failed cause
  pub is : fault ≡ Tree cause

abbrev pub IsParityRepairEnd : {S D : Type 0} → Calls S D → Places → FecRecord → List ImageCopy → SoughtTree → Option (List ℕ) → Option (List ℕ) → Bool → ParityRepairFault → Type 0
IsParityRepairEnd w p fec copies sought old new failed fault =
    EndsUnplacedByParity w p sought old new fault ⊎ (EndsUnopenedByParity w p copies old new fault ⊎ (EndsWithoutParity w p fec copies old new fault
    ⊎ (EndsRefusedByParity w p fec copies sought old new fault ⊎ (EndsUnlaid w p fec copies sought old new fault ⊎ EndsUnmendedByParity w p fec copies sought old new failed fault))))

-- ---- in terms of an opener, a writer before and after, and the arguments

abbrev pub IsPairMendedByFec : {S D W : Type 0} → Opener S D → (D → Device) → S → S → RepairPlaces → Opened D → FoundTree → LaidParity D → (W → Option (List ℕ)) → CountedRecord W → CountedRecord W → Type 0
IsPairMendedByFec relations state old new places o found laid contents before behind =
    MendsOpenedByParity (calls relations state old new) (places_of places) o found laid (contents before.inner) (contents behind.inner)

abbrev pub IsPairUnmendedByFec : {S D W : Type 0} → Opener S D → (D → Device) → S → S → RepairPlaces → Opened D → FoundTree → LaidParity D → (W → Option (List ℕ)) → CountedRecord W → CountedRecord W → TreeFault → Type 0
IsPairUnmendedByFec relations state old new places o found laid contents before behind =
    EndsOpenedByParity (calls relations state old new) (places_of places) o found laid (contents before.inner) (contents behind.inner) behind.failed

abbrev pub AreRepairedByFec : {S D W : Type 0} → Opener S D → (D → Device) → S → S → RepairPlaces → FecFile → List ImageCopy → SoughtTree
    → (W → Option (List ℕ)) → CountedRecord W → CountedRecord W → Type 0
AreRepairedByFec relations state old new places fec copies sought contents before behind =
    RepairsByParity (calls relations state old new) (places_of places) (fec_record fec) copies sought (contents before.inner) (contents behind.inner)

abbrev pub AreUnrepairedByFec : {S D W : Type 0} → Opener S D → (D → Device) → S → S → RepairPlaces → FecFile → List ImageCopy → SoughtTree
    → (W → Option (List ℕ)) → CountedRecord W → CountedRecord W → ParityRepairFault → Type 0
AreUnrepairedByFec relations state old new places fec copies sought contents before behind =
    IsParityRepairEnd (calls relations state old new) (places_of places) (fec_record fec) copies sought (contents before.inner) (contents behind.inner) behind.failed
