-- What a write of some sectors costs by the units that it touches: the leaf sectors that are written, and those that
-- are read for it, each counted by itself.
use Rattle.std.specs.Prelude.{ℕ, ◌+◌, ◌*◌, ◌≤◌, nat_lt, List, Option, Some, None, if◌then◌else◌}
use Rattle.block_device.specs.Device.{Device}
use Rattle.dm_table.specs.declared.crypt.Crypt.{Crypt}
use Rattle.stack_rules.specs.declared.lower.Lower.{Lower}
use Rattle.stack_rules.specs.Records.{Configuration}
use Rattle.stack_rules.specs.Descend.{by_name, read_cost}
use Rattle.stack_rules.specs.Units.{crypt_of}
use Rattle.stack_meaning.specs.declared.units.CryptUnits.{CryptUnits}
use Rattle.stack_meaning.specs.Beneath.{beneath, said_or}
use Rattle.stack_meaning.specs.Leaves.{reads_of, writes_of}
use Rattle.stack_meaning.specs.MeaningOf.{meaning_of}
use Rattle.stack_meaning.specs.Sectors.{OnLine}
use Rattle.stack_meaning.specs.Units.{units_of, per_unit, unit_first}
use Rattle.stack_lines.specs.declared.source.CryptPart.{CryptPart}
use Rattle.stack_lines.specs.declared.source.Source.{Source}
use Rattle.stack_lines.specs.Prices.{Pricing, Prices, price_as, priced, crypt_price, source_price}

-- which of the leaves' counters is meant
pub data Counter : Type 0 where
  of_reads : Counter
  of_writes : Counter

abbrev pub counter_sum : Counter → List Device → ℕ
counter_sum of_reads = reads_of
counter_sum of_writes = writes_of

-- it has counted at most so much more
abbrev pub CountsAtMost : Counter → ℕ → List Device → List Device → Type 0
CountsAtMost k most old new = counter_sum k new ≤ counter_sum k old + most

-- n sectors of a leaf are written, and none is read
abbrev pub leaf_count : Counter → ℕ → ℕ
leaf_count of_reads n = 0
leaf_count of_writes n = n

-- where so much is read for one sector beneath, a unit that is read costs what any of its sectors does
abbrev pub change_count : Counter → ℕ → CryptUnits → ℕ
change_count of_reads read units = per_unit units * read
change_count of_writes read units = 0

-- A unit that is touched is put once, whole, for what its sectors beneath cost together. Where not all of it is written
-- it is read before.
abbrev pub unit_count : Counter → ℕ → Pricing → CryptUnits → Pricing
unit_count k read at units s n =
    (if nat_lt n (per_unit units) then change_count k read units else 0) + at (unit_first units s) (per_unit units)

-- a line that neither hands on nor encrypts touches no leaf
abbrev pub own_count : Configuration → Counter → (List ℕ → Pricing) → Option Crypt → Pricing
own_count c k at None s n = 0
own_count c k at (Some crypt) s n = unit_count k (by_name c 0 (read_cost c) crypt.base.device) (at crypt.base.device) (units_of crypt) s n

abbrev pub line_count : Configuration → Counter → OnLine (ℕ → ℕ)
line_count c k at d l target s n = price_as (meaning_of target).meant (said_or (λ n. 0) at (beneath target s)) (own_count c k at (crypt_of target) s n) n

abbrev pub write_prices : Configuration → Counter → Prices
write_prices c k = record { leaf = leaf_count k; line = line_count c k; unit = unit_count k }

-- The leaf sectors that are read, or those that are written, for a write of n sectors from s on, at most.
abbrev pub write_budget : Configuration → Counter → Lower → Pricing
write_budget c k = priced c (write_prices c k)

-- ---- where the sectors go

abbrev pub crypt_write_budget : Configuration → Counter → CryptPart → ℕ → ℕ
crypt_write_budget c k = crypt_price c (write_prices c k)

-- of the first n sectors of a source
abbrev pub source_write_budget : Configuration → Counter → Source → ℕ → ℕ
source_write_budget c k = source_price c (write_prices c k)
