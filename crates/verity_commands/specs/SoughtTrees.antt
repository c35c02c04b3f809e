-- What the arguments of `diff` state: the source of each tree, and its root hash.
use Rattle.std.specs.Prelude.{◌⊎◌}
use Rattle.block_device.specs.Device.{Device}
use Rattle.command_line.specs.declared.option_words.OptionWords.{OptionWords}
use Rattle.command_line.specs.declared.words.diff.DiffWords.{DiffWords}
use Rattle.command_line.specs.FormatOptions.{OptionTexts, option_texts}
use Rattle.command_line.specs.words.Diff.{DiffRecord, diff_record}
use Rattle.image_commands.specs.declared.tree_source.SoughtTree.{SoughtTree}
use Rattle.image_files.specs.Opener.{Calls, Opener, calls}
use Rattle.verity_commands.specs.declared.tree_pair.SoughtTrees.{SoughtTrees}
use Rattle.verity_commands.specs.declared.verity_fault.VerityFault.{VerityFault}
use Rattle.verity_commands.specs.Trees.{IsEitherUntold, TellsEither}

-- Both trees are stated by the same options, or each by its superblock. Each root hash is an argument, or it or its pin was read from
-- a file, that of the first tree first.
pub record TellsBoth {S D : Type 0} (texts : OptionTexts) (w : Calls S D) (d : DiffRecord) (sought : SoughtTrees) : Type 0 where
  pub between : S
  pub first_told : TellsEither texts (record w { new = between }) d.no_superblock d.old_root sought.first
  pub second_told : TellsEither texts (record w { old = between }) d.no_superblock d.new_root sought.second

-- the first tree and its root were told, and not the second
pub record IsSecondUntold {S D : Type 0} (texts : OptionTexts) (w : Calls S D) (d : DiffRecord) (fault : VerityFault) : Type 0 where
  pub between : S
  pub first : SoughtTree
  pub first_told : TellsEither texts (record w { new = between }) d.no_superblock d.old_root first
  pub ends : IsEitherUntold texts (record w { old = between }) d.no_superblock d.new_root fault

abbrev pub AreUntold : {S D : Type 0} → OptionTexts → Calls S D → DiffRecord → VerityFault → Type 0
AreUntold texts w d fault = IsEitherUntold texts w d.no_superblock d.old_root fault ⊎ IsSecondUntold texts w d fault

-- ---- as a call sees them

abbrev pub SeeksBoth : {S D : Type 0} → Opener S D → (D → Device) → S → S → OptionWords → DiffWords → SoughtTrees → Type 0
SeeksBoth relations state images images' options words = TellsBoth (option_texts options) (calls relations state images images') (diff_record words)

abbrev pub FailsToSeekBoth : {S D : Type 0} → Opener S D → (D → Device) → S → S → OptionWords → DiffWords → VerityFault → Type 0
FailsToSeekBoth relations state images images' options words = AreUntold (option_texts options) (calls relations state images images') (diff_record words)
