-- Paths that lead to one place, be there a file or not.
use Rattle.std.specs.Prelude.{◌≡◌, ◌⊎◌, ℕ, Bool, true, List, Result, Ok, Err}
use Rattle.block_device.specs.declared.open_fault.OpenFault.TheVariants.{NoMemory}
use Rattle.block_device.specs.FileCalls.{IsUnsaidOfPath}
use Rattle.image_files.specs.Calls.{FileRelations}
use Rattle.image_files.specs.declared.opening.UnopenedFile.{UnopenedFile}
use Rattle.image_files.specs.declared.texts.ReplaceFault.{ReplaceFault}
use Rattle.image_files.specs.declared.texts.ReplaceFault.TheVariants as replace_fault
use Rattle.image_files.specs.Opener.{Calls}

-- the calls are one that found whether two paths lead to one place, as equal ones do
pub record Compares {S D : Type 0} (w : Calls S D) (path other : List ℕ) (one : Bool) : Type 0 where
  pub compared : w.relations.compares w.old path other (Ok one) w.new
  pub equal : path ≡ other → one ≡ true

-- or one that ran out of memory
pub record FailsToCompare {S D : Type 0} (w : Calls S D) (path other : List ℕ) (file : UnopenedFile) : Type 0 where
  pub is : (file.fault ≡ NoMemory) × (file.path.now ≡ path)
  pub failed : w.relations.compares w.old path other (Err NoMemory) w.new

-- a path was resolved, or can't be
abbrev pub Resolves : {C F : Type 0} → FileRelations C F → C → List ℕ → C → Type 0
Resolves r old path new = (outcome : Result (List ℕ) ReplaceFault) × r.resolves old path outcome new

-- both paths were resolved, or the first alone, or none, as of equal ones
abbrev pub ResolvesAtMost : {C F : Type 0} → FileRelations C F → C → List ℕ → List ℕ → C → Type 0
ResolvesAtMost {C} r old path other new = (new ≡ old) ⊎ (Resolves r old path new ⊎ ((between : C) × Resolves r old path between × Resolves r between other new))

-- memory ran out: a call that resolves the first path or the second one said so, or a call on a folder that was reached
abbrev pub IsPlaceUnknown : {C F : Type 0} → FileRelations C F → C → List ℕ → List ℕ → C → Type 0
IsPlaceUnknown {C} r old path other new =
    r.resolves old path (Err replace_fault.NoMemory) new
    ⊎ (((between : C) × Resolves r old path between × r.resolves between other (Err replace_fault.NoMemory) new) ⊎ ((folder : List ℕ) × IsUnsaidOfPath folder NoMemory))
