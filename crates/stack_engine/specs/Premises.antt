-- What each call of a read or a write depends on, on its way down to the leaves.
use Rattle.std.specs.Prelude.{ℕ, ◌/◌, List, length}
use Rattle.block_device.specs.Device.{Device}
use Rattle.stack_rules.specs.Records.{Configuration}
use Rattle.stack_lines.specs.declared.source.Source.{Source}
use Rattle.stack_meaning.specs.Found.{FoundRecord}
use Rattle.stack_meaning.specs.Kept.{AllKept}
use Rattle.stack_lines.specs.AtOnce.{CanGo}
use Rattle.stack_lines.specs.Sources.{SourceHolds}
use Rattle.stack_lines.specs.Writing.{AreSectors, SourceMayWrite}
use Rattle.stack_lines.specs.Caches.{StackCache}
use Rattle.stack_engine.specs.Stacks.{IsStack}

-- the bytes of whole sectors, at least one, which the source has
pub record FitsIn (c : Configuration) (source : Source) (bytes : List ℕ) : Type 0 where
  pub sectors : AreSectors bytes
  pub holds : SourceHolds c source (length bytes / 512)

-- a buffer can be filled from the source, where those chains were found before
pub record CanRead (c : Configuration) (leaves : List Device) (cache : StackCache) (found : List FoundRecord) (source : Source) (buffer : List ℕ) : Type 0 where
  pub stack : IsStack c leaves cache
  pub kept : AllKept c leaves found
  pub fits : FitsIn c source buffer
  pub can_go : CanGo c source (length buffer / 512) found

-- those bytes can be written to the source
pub record CanWrite (c : Configuration) (leaves : List Device) (cache : StackCache) (source : Source) (bytes : List ℕ) : Type 0 where
  pub stack : IsStack c leaves cache
  pub allowed : SourceMayWrite c source
  pub fits : FitsIn c source bytes
