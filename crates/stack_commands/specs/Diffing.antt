-- What `diff` prints of two images, and how it ends early.
use Rattle.std.specs.Prelude.{◌≡◌, ◌⊎◌, ℕ, Bool, List, Option}
use Rattle.command_line.specs.FormatOptions.{OptionTexts}
use Rattle.command_line.specs.words.Diff.{DiffRecord}
use Rattle.image_files.specs.Opener.{Calls}
use Rattle.verity_commands.specs.declared.tree_fault.TreeFault.{TreeFault}
use Rattle.verity_commands.specs.declared.tree_pair.SoughtTrees.{SoughtTrees}
use Rattle.verity_commands.specs.Invocations.{DiffsTrees, IsDiffWordsEnd}
use Rattle.verity_commands.specs.SoughtTrees.{AreUntold, TellsBoth}
use Rattle.stack_commands.specs.declared.fault.CommandFault.{CommandFault}
use Rattle.stack_commands.specs.Uses.{IsTreesEnd, IsVerityEnd}

-- each tree and its root were told, and then both images compared by them
pub record ComparesImages {S D : Type 0} (texts : OptionTexts) (w : Calls S D) (d : DiffRecord) (old new : Option (List ℕ)) : Type 0 where
  pub between : S
  pub sought : SoughtTrees
  pub told : TellsBoth texts (record w { new = between }) d sought
  pub compared : DiffsTrees (record w { old = between }) d sought old new

-- they were told, and then the images differ, or aren't compared
pub record EndsComparing {S D : Type 0} (texts : OptionTexts) (w : Calls S D) (d : DiffRecord) (old new : Option (List ℕ)) (failed : Bool) (fault : TreeFault) : Type 0 where
  pub between : S
  pub sought : SoughtTrees
  pub told : TellsBoth texts (record w { new = between }) d sought
  pub ends : IsDiffWordsEnd (record w { old = between }) d sought old new failed fault

-- that, or one isn't told, and nothing is printed
abbrev pub IsComparingEnd : {S D : Type 0} → OptionTexts → Calls S D → DiffRecord → Option (List ℕ) → Option (List ℕ) → Bool → CommandFault → Type 0
IsComparingEnd texts w d old new failed fault =
    (IsVerityEnd (AreUntold texts w d) fault × (new ≡ old)) ⊎ IsTreesEnd (EndsComparing texts w d old new failed) fault
