-- What the lines of a device say of its sectors before they are read: they are zeros, or a read of them ignores blocks of
-- zeros.
use Rattle.std.specs.Prelude.{◌≡◌, ◌≢◌, ◌⊎◌, ◌<◌, ◌≤◌, ◌+◌, ◌-◌, ℕ, Bool, true, false, List, Some, Ok, if◌then◌else◌}
use Rattle.dm_table.specs.declared.verity.Verity.{Verity}
use Rattle.dm_table.specs.declared.table.Line.{Line}
use Rattle.dm_table.specs.declared.table.Target.{Target}
use Rattle.dm_table.specs.declared.table.Target.TheVariants.{Zero, Verity as verity_target}
use Rattle.stack_rules.specs.declared.lower.Lower.{Lower}
use Rattle.stack_rules.specs.declared.lower.Lower.TheVariants.{Leaf as leaf}
use Rattle.stack_rules.specs.Lines.{IsLine}
use Rattle.stack_rules.specs.Names.{mapped, named}
use Rattle.stack_rules.specs.Records.{Configuration}
use Rattle.stack_meaning.specs.Beneath.{HandsOn, beneath}
use Rattle.stack_meaning.specs.Found.{FoundRecord}
use Rattle.stack_meaning.specs.Meaning.{Said}
use Rattle.stack_meaning.specs.Outcomes.{Images, zero_sector}
use Rattle.stack_lines.specs.declared.source.Source.{Source}
use Rattle.stack_lines.specs.declared.source.Source.TheVariants.{Below, Units, UnitPart, Zeros, Fails, Block, Blocks}
use Rattle.nbd_server.specs.declared.extent.Extent.{Extent}
use Rattle.nbd_server.specs.declared.extent.ExtentKind.{ExtentKind}
use Rattle.nbd_server.specs.declared.extent.ExtentKind.TheVariants as known

-- a sector means zeros over any images, and is never read as anything else, whatever the backing devices return
pub record ReadsAsZeros (said : Said) : Type 0 where
  pub means : (images : Images) → said.means images ≡ Ok zero_sector
  pub may : (chains : List FoundRecord) (bytes : List ℕ) → said.may chains bytes → bytes ≡ zero_sector

-- n sectors from the first on are zeros
abbrev pub AreZeros : (ℕ → Said) → ℕ → ℕ → Type 0
AreZeros said first n = (j : ℕ) → j < n → ReadsAsZeros (said (first + j))

-- sector s of device d is on that line
pub record LiesOnLine (c : Configuration) (d s : ℕ) (line : Line) : Type 0 where
  pub number : ℕ
  pub is : IsLine c d number line
  pub start : line.start ≤ s
  pub ends : s < line.start + line.length

-- the kind of the sectors of a line that doesn't pass sectors through unchanged
abbrev pub verity_kind : Verity → ExtentKind
verity_kind v = if v.ignore_zero_blocks then known.IgnoresZeros else known.Unknown

abbrev pub own_kind : Target → ExtentKind
own_kind Zero = known.Zeros
own_kind (verity_target v) = verity_kind v
own_kind target = known.Unknown

-- The kind of a sector: that of the line that it is on, or of the sector that it is mapped to. Nothing is known of a backing
-- device.
pub data HasKind (c : Configuration) : Lower → ℕ → ExtentKind → Type 0 where
  by_leaf : {l s : ℕ} → HasKind c (leaf l) s known.Unknown
  by_line : {d s : ℕ} {line : Line} {kind : ExtentKind} → LiesOnLine c d s line → (HandsOn line.target → ⊥) → own_kind line.target ≡ kind → HasKind c (mapped d) s kind
  by_lower : {d s at : ℕ} {line : Line} {name : List ℕ} {lower : Lower} {kind : ExtentKind} → LiesOnLine c d s line → HandsOn line.target → beneath line.target (s - line.start) ≡ Some (name, at)
      → named c name ≡ Some lower → HasKind c lower at kind → HasKind c (mapped d) s kind

-- the two kinds are equal
abbrev pub is_same_kind : ExtentKind → ExtentKind → Bool
is_same_kind known.Zeros known.Zeros = true
is_same_kind known.IgnoresZeros known.IgnoresZeros = true
is_same_kind known.Unknown known.Unknown = true
is_same_kind a b = false

-- At least one sector and at most `most`, each of the extent's kind. Sectors of the kind `Zeros` are zeros.
pub record IsToldExtent (said : ℕ → Said) (Has : ℕ → ExtentKind → Type 0) (first most : ℕ) (extent : Extent) : Type 0 where
  pub some : 0 < extent.count
  pub few : extent.count ≤ most
  pub zeros : extent.kind ≡ known.Zeros → AreZeros said first extent.count
  pub kind : (j : ℕ) → j < extent.count → Has (first + j) extent.kind

-- a sector is of another kind
abbrev pub HasOtherKind : (ℕ → ExtentKind → Type 0) → ExtentKind → ℕ → Type 0
HasOtherKind Has kind s = (other : ExtentKind) × (other ≢ kind) × Has s other

-- the most runs that are joined to the extents of one reply
abbrev pub most_runs : ℕ
most_runs = 65536

-- an extent ends with the sectors that were asked for, where no more runs may be joined, or before a sector of another kind
abbrev pub EndsExtent : (ℕ → ExtentKind → Type 0) → ℕ → ℕ → Extent → ℕ → Type 0
EndsExtent Has first most extent rest = (extent.count ≡ most) ⊎ ((rest ≡ 0) ⊎ HasOtherKind Has extent.kind (first + extent.count))

-- an extent that is as long as it can be if it joins at most so many runs, of which `rest` are left
pub record IsWholeExtent (said : ℕ → Said) (Has : ℕ → ExtentKind → Type 0) (first most runs : ℕ) (extent : Extent) (rest : ℕ) : Type 0 where
  pub told : IsToldExtent said Has first most extent
  pub ends : EndsExtent Has first most extent rest
  pub joined : runs ≤ extent.count + rest

-- ---- the sectors of a source

-- the kind of sector j of a source
abbrev pub SourceHas : Configuration → Source → ℕ → ExtentKind → Type 0
SourceHas c (Below lower first) j kind = HasKind c lower (first + j) kind
SourceHas c (Units b) j kind = kind ≡ known.Unknown
SourceHas c (UnitPart b) j kind = kind ≡ known.Unknown
SourceHas c Zeros j kind = kind ≡ known.Zeros
SourceHas c Fails j kind = kind ≡ known.Unknown
SourceHas c (Block x) j kind = kind ≡ verity_kind x.verity.now
SourceHas c (Blocks x) j kind = kind ≡ verity_kind x.verity.now
