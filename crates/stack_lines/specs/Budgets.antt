-- What a read of some sectors costs by the units and the data blocks that it touches, each of them once.
use Rattle.std.specs.Prelude.{ℕ, ◌+◌, ◌*◌, ◌≤◌, List}
use Rattle.block_device.specs.Device.{Device}
use Rattle.stack_rules.specs.declared.lower.Lower.{Lower}
use Rattle.stack_rules.specs.Records.{Configuration}
use Rattle.stack_rules.specs.Descend.{by_name, line_read_cost, read_cost}
use Rattle.stack_meaning.specs.Beneath.{beneath, said_or}
use Rattle.stack_meaning.specs.Leaves.{reads_of}
use Rattle.stack_meaning.specs.MeaningOf.{meaning_of}
use Rattle.stack_meaning.specs.Sectors.{OnLine}
use Rattle.stack_meaning.specs.Units.{per_unit}
use Rattle.stack_lines.specs.declared.source.CryptPart.{CryptPart}
use Rattle.stack_lines.specs.declared.source.Source.{Source}
use Rattle.stack_lines.specs.declared.source.VerityPart.{VerityPart}
use Rattle.stack_lines.specs.Prices.{Pricing, Prices, price_as, priced, crypt_price, part_price, source_price}

-- what a run costs that is handed on, by what it costs beneath; of another line it costs once what one of its sectors does
abbrev pub line_price : Configuration → OnLine (ℕ → ℕ)
line_price c at d l target s n =
    price_as (meaning_of target).meant (said_or (λ n. 0) at (beneath target s)) (line_read_cost (by_name c 0 (read_cost c)) target) n

-- of a leaf each sector costs one, and a unit is read whole
abbrev pub read_prices : Configuration → Prices
read_prices c = record { leaf = λ n. n; line = line_price c; unit = λ read at units s n. per_unit units * read }

-- The leaf sectors that are read for n sectors from s on, at most. Sectors of one unit of a `crypt` line, or of one data
-- block of a `verity` line, cost together what one of them does: one unit, or one data block with its hash blocks.
abbrev pub budget : Configuration → Lower → Pricing
budget c = priced c (read_prices c)

-- what reads have counted is at most so much more
abbrev pub ReadsAtMost : ℕ → List Device → List Device → Type 0
ReadsAtMost most old new = reads_of new ≤ reads_of old + most

-- ---- where the sectors come from

abbrev pub part_budget : Configuration → VerityPart → ℕ → ℕ
part_budget c = part_price c (read_prices c)

abbrev pub crypt_budget : Configuration → CryptPart → ℕ → ℕ
crypt_budget c = crypt_price c (read_prices c)

-- of the first n sectors of a source
abbrev pub source_budget : Configuration → Source → ℕ → ℕ
source_budget c = source_price c (read_prices c)
