-- The data block in which a sector lies.
use Rattle.std.specs.Prelude.{ℕ, ◌+◌, ◌/◌, List, Option, Some, None}
use Rattle.dm_table.specs.declared.table.Target.{Target}
use Rattle.dm_table.specs.declared.table.Target.TheVariants.{Linear, Striped, Zero, Error, Crypt, Verity, Unstriped}
use Rattle.stack_rules.specs.declared.lower.Lower.{Lower}
use Rattle.stack_rules.specs.Records.{Configuration}
use Rattle.stack_rules.specs.Trees.{block_sectors}
use Rattle.stack_meaning.specs.Beneath.{beneath, said_or}
use Rattle.stack_meaning.specs.Sectors.{OnLine, by_sector}
use Rattle.stack_lines.specs.declared.source.CryptPart.{CryptPart}
use Rattle.stack_lines.specs.declared.source.Source.{Source}
use Rattle.stack_lines.specs.declared.source.VerityPart.{VerityPart}
use Rattle.nbd_server.specs.declared.data_block.DataBlock.{DataBlock}
use Rattle.stack_lines.specs.declared.source.Source.TheVariants.{Below, Units, UnitPart, Zeros, Fails, Block, Blocks}

-- The data block in which sector s of a line lies: a block of the line itself if it is a `verity` line, otherwise that of the sector
-- beneath, where `at` gives those of the devices that the line names.
abbrev pub line_block : OnLine (Option DataBlock)
line_block at d l (Linear base) s = said_or None at (beneath (Linear base) s)
line_block at d l (Striped chunk bases) s = said_or None at (beneath (Striped chunk bases) s)
line_block at d l Zero s = None
line_block at d l Error s = None
line_block at d l (Crypt line) s = said_or None at (beneath (Crypt line) s)
line_block at d l (Verity line) s = Some (record { device = d; line = l; number = s / block_sectors line })
line_block at d l (Unstriped line) s = said_or None at (beneath (Unstriped line) s)

-- The data block in which sector s of a leaf or device lies: of the first verity line on its way down. There is none if there is no
-- such line.
abbrev pub sector_block : Configuration → Lower → ℕ → Option DataBlock
sector_block c = by_sector c None (λ i s. None) line_block

-- ---- that of the first sector of a run

abbrev pub part_block : VerityPart → DataBlock
part_block x = record { device = x.device.0; line = x.line; number = x.first / block_sectors x.verity.now }

abbrev pub unit_block : Configuration → CryptPart → Option DataBlock
unit_block c u = sector_block c u.lower (u.units.offset + u.first)

abbrev pub source_block : Configuration → Source → Option DataBlock
source_block c (Below lower first) = sector_block c lower first
source_block c (Units u) = unit_block c u
source_block c (UnitPart u) = unit_block c u
source_block c Zeros = None
source_block c Fails = None
source_block c (Block x) = Some (part_block x)
source_block c (Blocks x) = Some (part_block x)
