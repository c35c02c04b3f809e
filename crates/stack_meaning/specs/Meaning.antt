-- The semantics of a stack: those of each sector, derived from those of the sectors below it.
use Rattle.std.specs.Prelude.{ℕ, List}
use Rattle.stack_rules.specs.declared.lower.Lower.{Lower}
use Rattle.stack_rules.specs.Records.{Configuration}
use Rattle.stack_rules.specs.Descend.{by_name}
use Rattle.stack_meaning.specs.Sectors.{OnLine, by_sector}
use Rattle.stack_meaning.specs.Outcomes.{Images, Outcome}
use Rattle.stack_meaning.specs.Beneath.{beneath, below, said_or}
use Rattle.stack_meaning.specs.TargetMeaning.{said_as}
use Rattle.stack_meaning.specs.MeaningOf.{meaning_of}
pub use Rattle.stack_meaning.specs.Said.{Said, leaf_said, none_said}
pub use Rattle.stack_meaning.specs.targets.Zero.{zero_said}
pub use Rattle.stack_meaning.specs.targets.Error.{error_said}
pub use Rattle.stack_meaning.specs.targets.Crypt.{crypt_said}
pub use Rattle.stack_meaning.specs.targets.Verity.{IsShown, content_part, verity_said}

-- the semantics of sector s of a line, given those of the sectors of the devices that the line names
abbrev pub line_said : OnLine Said
line_said at d l target s = said_as (meaning_of target).meant (said_or none_said at (beneath target s)) (below none_said at target) d l s

-- the semantics of sector s of a leaf or device
abbrev pub said_at : Configuration → Lower → ℕ → Said
said_at c = by_sector c none_said leaf_said line_said

-- the semantics of sectors by device name
abbrev pub said_by_name : Configuration → List ℕ → ℕ → Said
said_by_name c = by_name c (λ t. none_said) (said_at c)

-- the meaning of sector s over the leaves' images
abbrev pub sector : Configuration → Images → Lower → ℕ → Outcome
sector c images lower s = (said_at c lower s).means images
