-- A text that takes the place of a file's: which calls are made, and in which order.
use Rattle.std.specs.Prelude.{◌≡◌, ◌⊎◌, ◌<◌, ◌+◌, ◌++◌, ◌==◌, ℕ, List, Result, Ok, Err, codes, decimal, length, string_bytes, if◌then◌else◌}
use Rattle.allocation.specs.Refusal.{IsOutOfMemory}
use Rattle.image_files.specs.declared.calls.CallFault.{CallFault}
use Rattle.image_files.specs.declared.calls.CreateFault.TheVariants.{Exists, Failed}
use Rattle.image_files.specs.declared.draft.Draft.{Draft}
use Rattle.image_files.specs.declared.texts.ReplaceFault.{ReplaceFault}
use Rattle.image_files.specs.declared.texts.ReplaceFault.TheVariants.{NoMemory, Write, Sync, Rename}
use Rattle.image_files.specs.Calls.{FileRelations, IsNoDraft}

-- the names under which a text may be written before it takes a file's place
abbrev pub beside : List ℕ → ℕ → List ℕ
beside target number = if number == 0 then target ++ codes ".dmstack-new" else target ++ (codes ".dmstack-new-" ++ decimal number)

-- the path was resolved, and a file created exclusively beside what it names
pub record IsDraft {S F : Type 0} (r : FileRelations S F) (old : S) (path : List ℕ) (draft : Draft F) (new : S) : Type 0 where
  pub between : S
  pub number : ℕ
  pub resolved : r.resolves old path (Ok (string_bytes draft.target)) between
  pub name_is : string_bytes draft.name ≡ beside (string_bytes draft.target) number
  pub created : r.creates between (string_bytes draft.name) (string_bytes draft.target) (Ok draft.file) new

-- the text was written into the draft, and the draft was then synced
pub record IsFilled {S F : Type 0} (r : FileRelations S F) (old : S) (draft : Draft F) (bytes : List ℕ) (new : S) : Type 0 where
  pub between : S
  pub file : F
  pub written : r.writes old draft.file bytes (Ok tt) file between
  pub synced : r.syncs between file (Ok tt) new

-- it was written and synced, and then took the file's place
pub record IsPlaced {S F : Type 0} (r : FileRelations S F) (old : S) (draft : Draft F) (bytes : List ℕ) (new : S) : Type 0 where
  pub between : S
  pub filled : IsFilled r old draft bytes between
  pub renamed : r.renames between (string_bytes draft.name) (string_bytes draft.target) (Ok tt) new

-- it can't be written
pub record IsUnwritten {S F : Type 0} (r : FileRelations S F) (old : S) (draft : Draft F) (bytes : List ℕ) (new : S) : Type 0 where
  pub file : F
  pub fault : CallFault
  pub failed : r.writes old draft.file bytes (Err fault) file new

-- it was written, and can't be synced
pub record IsUnsynced {S F : Type 0} (r : FileRelations S F) (old : S) (draft : Draft F) (bytes : List ℕ) (new : S) : Type 0 where
  pub between : S
  pub file : F
  pub fault : CallFault
  pub written : r.writes old draft.file bytes (Ok tt) file between
  pub failed : r.syncs between file (Err fault) new

-- it was written and synced, and can't take the file's place
pub record IsUnrenamed {S F : Type 0} (r : FileRelations S F) (old : S) (draft : Draft F) (bytes : List ℕ) (new : S) : Type 0 where
  pub between : S
  pub fault : CallFault
  pub filled : IsFilled r old draft bytes between
  pub failed : r.renames between (string_bytes draft.name) (string_bytes draft.target) (Err fault) new

-- why the text isn't written and synced in a draft
abbrev pub IsUnfilled : {S F : Type 0} → FileRelations S F → S → Draft F → List ℕ → ReplaceFault → S → Type 0
IsUnfilled r old draft bytes Write new = IsUnwritten r old draft bytes new
IsUnfilled r old draft bytes Sync new = IsUnsynced r old draft bytes new
IsUnfilled r old draft bytes Rename new = ⊥
IsUnfilled r old draft bytes NoMemory new = ⊥

-- why a text in a draft doesn't take the file's place
abbrev pub IsUnplaced : {S F : Type 0} → FileRelations S F → S → Draft F → List ℕ → ReplaceFault → S → Type 0
IsUnplaced r old draft bytes Write new = IsUnwritten r old draft bytes new
IsUnplaced r old draft bytes Sync new = IsUnsynced r old draft bytes new
IsUnplaced r old draft bytes Rename new = IsUnrenamed r old draft bytes new
IsUnplaced r old draft bytes NoMemory new = ⊥

-- the text took the file's place, and the folder was synced
pub record IsReplaced {S F : Type 0} (r : FileRelations S F) (old : S) (path bytes : List ℕ) (new : S) : Type 0 where
  pub draft : Draft F
  pub begun : S
  pub placed : S
  pub is_draft : IsDraft r old path draft begun
  pub is_placed : IsPlaced r begun draft bytes placed
  pub listed : r.lists placed (string_bytes draft.target) (Ok tt) new

-- as many names are tried
abbrev pub most_names : ℕ
most_names = 64

-- the first names beside a target are taken, each found by a call that changed nothing
abbrev pub AreTaken : {S F : Type 0} → FileRelations S F → S → List ℕ → ℕ → Type 0
AreTaken r s target count = (number : ℕ) → number < count → r.creates s (beside target number) target (Err Exists) s

-- all names beside a target are taken, or a file of the first name that isn't can't be created
abbrev pub HasNoName : {S F : Type 0} → FileRelations S F → S → List ℕ → Type 0
HasNoName r s target =
    AreTaken r s target most_names ⊎ ((number : ℕ) × AreTaken r s target number × r.creates s (beside target number) target (Err Failed) s)

-- why no file was created beside a target: an allocation for its name was refused, or the file system created none
abbrev pub IsUncreated : {S F : Type 0} → FileRelations S F → S → List ℕ → ReplaceFault → Type 0
IsUncreated r s target NoMemory = IsOutOfMemory (length target + 40)
IsUncreated r s target Write = HasNoName r s target
IsUncreated r s target Sync = ⊥
IsUncreated r s target Rename = ⊥

-- no file was created: the path wasn't resolved, or no file created beside what it names
pub record IsUndrafted {S F : Type 0} (r : FileRelations S F) (old : S) (path : List ℕ) (fault : ReplaceFault) (new : S) : Type 0 where
  pub fault_is : IsNoDraft fault
  pub cause : ((new ≡ old) × r.resolves old path (Err fault) new) ⊎ ((target : List ℕ) × r.resolves old path (Ok target) new × IsUncreated r new target fault)

-- the draft was removed, since its text doesn't take the file's place
pub record IsWithdrawn {S F : Type 0} (r : FileRelations S F) (old : S) (path bytes : List ℕ) (fault : ReplaceFault) (new : S) : Type 0 where
  pub draft : Draft F
  pub begun : S
  pub failed : S
  pub is_draft : IsDraft r old path draft begun
  pub is_unplaced : IsUnplaced r begun draft bytes fault failed
  pub removed : r.removes failed (string_bytes draft.name) new

-- the text took the file's place, and the folder can't be synced
pub record IsUnlisted {S F : Type 0} (r : FileRelations S F) (old : S) (path bytes : List ℕ) (fault : ReplaceFault) (new : S) : Type 0 where
  pub draft : Draft F
  pub begun : S
  pub placed : S
  pub cause : CallFault
  pub fault_is : fault ≡ Sync
  pub is_draft : IsDraft r old path draft begun
  pub is_placed : IsPlaced r begun draft bytes placed
  pub failed : r.lists placed (string_bytes draft.target) (Err cause) new

-- what a replacement leaves
abbrev pub Replaces : {S F : Type 0} → FileRelations S F → S → List ℕ → List ℕ → Result (Unit {0}) ReplaceFault → S → Type 0
Replaces r old path bytes (Ok done) new = IsReplaced r old path bytes new
Replaces r old path bytes (Err fault) new =
    IsUndrafted r old path fault new ⊎ (IsWithdrawn r old path bytes fault new ⊎ IsUnlisted r old path bytes fault new)

-- a draft was created, and removed again
pub record IsTried {S F : Type 0} (r : FileRelations S F) (old : S) (path : List ℕ) (new : S) : Type 0 where
  pub draft : Draft F
  pub begun : S
  pub is_draft : IsDraft r old path draft begun
  pub removed : r.removes begun (string_bytes draft.name) new

-- what a trial leaves
abbrev pub Tries : {S F : Type 0} → FileRelations S F → S → List ℕ → Result (Unit {0}) ReplaceFault → S → Type 0
Tries r old path (Ok done) new = IsTried r old path new
Tries r old path (Err fault) new = IsUndrafted r old path fault new
