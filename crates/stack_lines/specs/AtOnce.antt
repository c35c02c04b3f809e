-- Data blocks of a verity line that can be read at once.
use Rattle.std.specs.Prelude.{◌≡◌, ℕ, ◌/◌, ◌<◌, ◌≤◌, List, All}
use Rattle.stack_rules.specs.Records.{Configuration}
use Rattle.stack_rules.specs.Trees.{block_sectors}
use Rattle.stack_meaning.specs.Found.{FoundRecord}
use Rattle.stack_lines.specs.Clear.{IsClear}
use Rattle.stack_lines.specs.declared.source.Source.{Source}
use Rattle.stack_lines.specs.declared.source.VerityPart.{VerityPart}
use Rattle.stack_lines.specs.declared.source.Source.TheVariants.{Below, Units, UnitPart, Zeros, Fails, Block, Blocks}

-- each chain of line l of device d is that of a block before block i
abbrev pub AreBefore : ℕ → ℕ → ℕ → List FoundRecord → Type 0
AreBefore d l i found = All (λ x. x.device ≡ d → x.line ≡ l → x.chain.index < i) found

-- the first n sectors of a part of a verity line, which are whole data blocks: no sector of the data device meets a fault, and
-- no chain of them or of later ones was found
pub record GoAtOnce (c : Configuration) (x : VerityPart) (n : ℕ) (found : List FoundRecord) : Type 0 where
  pub few : n ≤ 2048
  pub clear : IsClear c x.data
  pub before : AreBefore x.device.0 x.line (x.first / block_sectors x.verity.now) found

-- what must hold of a run of a source, so that it can be read
abbrev pub CanGo : Configuration → Source → ℕ → List FoundRecord → Type 0
CanGo c (Below lower first) n found = Unit {0}
CanGo c (Units b) n found = Unit {0}
CanGo c (UnitPart b) n found = Unit {0}
CanGo c Zeros n found = Unit {0}
CanGo c Fails n found = Unit {0}
CanGo c (Block x) n found = Unit {0}
CanGo c (Blocks x) n found = GoAtOnce c x n found
