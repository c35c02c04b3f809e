-- What holds for the chains that were found, as long as the leaves are unchanged.
use Rattle.std.specs.Prelude.{ℕ, List, All}
use Rattle.hash_tree.specs.Chain.{ChainRecord}
use Rattle.block_device.specs.Device.{Device}
use Rattle.dm_table.specs.declared.verity.Verity.{Verity}
use Rattle.dm_table.specs.declared.table.Line.{Line}
use Rattle.dm_table.specs.declared.table.Target.{Target}
use Rattle.dm_table.specs.declared.table.Target.TheVariants.{Verity as verity_target}
use Rattle.stack_rules.specs.Records.{Configuration}
use Rattle.stack_rules.specs.Lines.{IsLine}
use Rattle.stack_meaning.specs.Agreement.{AgreesOn}
use Rattle.stack_meaning.specs.Leaves.{steady_images, AreSteady}
use Rattle.stack_meaning.specs.Outcomes.{Images, Outcome}
use Rattle.stack_meaning.specs.Blocks.{verified_block}
use Rattle.stack_meaning.specs.Found.{FoundRecord}
use Rattle.stack_meaning.specs.Meaning.{none_said, said_by_name}
use Rattle.stack_meaning.specs.Beneath.{below}
use Rattle.stack_meaning.specs.TargetMeaning.{keeps_as}
use Rattle.stack_meaning.specs.MeaningOf.{meaning_of}
use Rattle.stack_meaning.specs.targets.Verity.{sources_over}
pub use Rattle.stack_meaning.specs.LeavesBeneath.{target_leaves}
pub use Rattle.stack_meaning.specs.targets.Verity.{IsOfVerity}

-- data block i of a `verity` line over these images
abbrev pub verity_block : Configuration → Images → Verity → ℕ → Outcome
verity_block c images v i = verified_block v (sources_over (below none_said (said_by_name c) (verity_target v)) images) i

-- the leaves of a line with this target are steady, and of what is stored on them or may be restored in place of a block no two share a digest
pub record AreCertain (c : Configuration) (target : Target) (leaves : List Device) : Type 0 where
  pub steady : AreSteady (target_leaves c target) leaves
  pub agrees : AgreesOn c (target_leaves c target) (steady_images leaves)

-- what holds for a chain that belongs to a line with this target
abbrev pub LineKeeps : Configuration → List Device → Target → ChainRecord → Type 0
LineKeeps c leaves target chain = keeps_as (meaning_of target).meant (below none_said (said_by_name c) target) (AreCertain c target) leaves chain

-- what holds for a chain that was found: its line exists, and the chain has the property that this line guarantees
pub record IsKept (c : Configuration) (leaves : List Device) (x : FoundRecord) : Type 0 where
  pub line : Line
  pub is : IsLine c x.device x.line line
  pub keeps : LineKeeps c leaves line.target x.chain

abbrev pub AllKept : Configuration → List Device → List FoundRecord → Type 0
AllKept c leaves found = All (IsKept c leaves) found
