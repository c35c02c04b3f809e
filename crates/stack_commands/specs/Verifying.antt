-- What `verify` prints if the image is good, and how it ends early; with `--all` the image is scanned whole.
use Rattle.std.specs.Prelude.{◌≡◌, ◌⊎◌, ℕ, Bool, true, false, List, Option}
use Rattle.command_line.specs.FormatOptions.{OptionTexts}
use Rattle.command_line.specs.words.TreeVerify.{TreeVerifyRecord}
use Rattle.command_line.specs.words.Verify.{VerifyRecord}
use Rattle.image_commands.specs.declared.tree_source.SoughtTree.{SoughtTree}
use Rattle.image_pin.specs.declared.trusted.TrustedRoot.{TrustedRoot}
use Rattle.image_files.specs.Opener.{Calls}
use Rattle.verity_commands.specs.declared.tree_fault.TreeFault.{TreeFault}
use Rattle.verity_commands.specs.Invocations.{IsSurveyWordsEnd, IsTreeSurveyEnd, SurveysAt, SurveysTreeAt}
use Rattle.verity_commands.specs.Endings.{IsImageEnd}
use Rattle.verity_commands.specs.Placed.{IsSaidVerifyEnd, VerifiesAt}
use Rattle.verity_commands.specs.Places.{IsTrustedEnd, TellsTrusted}
use Rattle.verity_commands.specs.Trees.{IsTreeUntold, IsVerifyTreeEnd, TellsTree, VerifiesSaidTree}
use Rattle.stack_commands.specs.declared.fault.CommandFault.{CommandFault}
use Rattle.stack_commands.specs.Uses.{IsTreesEnd, IsVerityEnd}

-- the root was told, or the pin that holds it, and then each block of the image was found good under it, and their number printed
pub record GoesOverImage {S D : Type 0} (w : Calls S D) (v : VerifyRecord) (old new : Option (List ℕ)) : Type 0 where
  pub between : S
  pub found : TrustedRoot
  pub told : TellsTrusted (record w { new = between }) v.root found
  pub gone_over : SurveysAt (record w { old = between }) v found old new

-- the root was given, or the pin that holds it, and then the image isn't scanned to its end, or some of its blocks aren't good
pub record EndsGoingOver {S D : Type 0} (w : Calls S D) (v : VerifyRecord) (old new : Option (List ℕ)) (failed : Bool) (fault : TreeFault) : Type 0 where
  pub between : S
  pub found : TrustedRoot
  pub told : TellsTrusted (record w { new = between }) v.root found
  pub ends : IsSurveyWordsEnd (record w { old = between }) v found old new failed fault

-- that, or the root isn't told, and nothing is printed
abbrev pub IsGoingOverEnd : {S D : Type 0} → Calls S D → VerifyRecord → Option (List ℕ) → Option (List ℕ) → Bool → CommandFault → Type 0
IsGoingOverEnd w v old new failed fault =
    (IsVerityEnd (IsImageEnd (IsTrustedEnd w v.root)) fault × (new ≡ old)) ⊎ IsTreesEnd (EndsGoingOver w v old new failed) fault

abbrev pub ChecksImage : {S D : Type 0} → Calls S D → VerifyRecord → Option (List ℕ) → Option (List ℕ) → Type 0
ChecksImage w v old new = ((v.all ≡ true) × GoesOverImage w v old new) ⊎ ((v.all ≡ false) × VerifiesAt w v old new)

abbrev pub IsCheckCommandEnd : {S D : Type 0} → Calls S D → VerifyRecord → Option (List ℕ) → Option (List ℕ) → Bool → CommandFault → Type 0
IsCheckCommandEnd w v old new failed fault = ((v.all ≡ true) × IsGoingOverEnd w v old new failed fault) ⊎ ((v.all ≡ false) × IsVerityEnd (IsSaidVerifyEnd w v old new failed) fault)

-- ---- without a superblock

-- the tree that the options state and its root were told, and then each block of the image was found valid under it, and their number
-- printed
pub record GoesOverTree {S D : Type 0} (texts : OptionTexts) (w : Calls S D) (v : TreeVerifyRecord) (old new : Option (List ℕ)) : Type 0 where
  pub between : S
  pub sought : SoughtTree
  pub told : TellsTree texts (record w { new = between }) v.root sought
  pub gone_over : SurveysTreeAt (record w { old = between }) v sought old new

-- they were told, and then the image isn't scanned to its end, or some of its blocks aren't valid
pub record EndsGoingOverTree {S D : Type 0} (texts : OptionTexts) (w : Calls S D) (v : TreeVerifyRecord) (old new : Option (List ℕ)) (failed : Bool) (fault : TreeFault) : Type 0 where
  pub between : S
  pub sought : SoughtTree
  pub told : TellsTree texts (record w { new = between }) v.root sought
  pub ends : IsTreeSurveyEnd (record w { old = between }) v sought old new failed fault

-- that, or they aren't told, and nothing is printed
abbrev pub IsGoingOverTreeEnd : {S D : Type 0} → OptionTexts → Calls S D → TreeVerifyRecord → Option (List ℕ) → Option (List ℕ) → Bool → CommandFault → Type 0
IsGoingOverTreeEnd texts w v old new failed fault =
    (IsVerityEnd (IsTreeUntold texts w v.root) fault × (new ≡ old)) ⊎ IsTreesEnd (EndsGoingOverTree texts w v old new failed) fault

abbrev pub ChecksTree : {S D : Type 0} → OptionTexts → Calls S D → TreeVerifyRecord → Option (List ℕ) → Option (List ℕ) → Type 0
ChecksTree texts w v old new = ((v.all ≡ true) × GoesOverTree texts w v old new) ⊎ ((v.all ≡ false) × VerifiesSaidTree texts w v old new)

abbrev pub IsCheckTreeEnd : {S D : Type 0} → OptionTexts → Calls S D → TreeVerifyRecord → Option (List ℕ) → Option (List ℕ) → Bool → CommandFault → Type 0
IsCheckTreeEnd texts w v old new failed fault =
    ((v.all ≡ true) × IsGoingOverTreeEnd texts w v old new failed fault) ⊎ ((v.all ≡ false) × IsVerityEnd (IsVerifyTreeEnd texts w v old new failed) fault)
