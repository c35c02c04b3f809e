-- What some sectors of a device cost, if each run of them has a price.
use Rattle.std.specs.Prelude.{ℕ, zero, suc, ◌+◌, Bool, List, if◌then◌else◌}
use Rattle.stack_rules.specs.declared.lower.Lower.{Lower}
use Rattle.stack_rules.specs.declared.lower.Lower.TheVariants.{Leaf as leaf, Device as device}
use Rattle.stack_rules.specs.Records.{Configuration}
use Rattle.stack_rules.specs.Descend.{descend, by_name, read_cost}
use Rattle.stack_meaning.specs.declared.units.CryptUnits.{CryptUnits}
use Rattle.stack_meaning.specs.Puts.{together, in_one_run, in_unit}
use Rattle.stack_meaning.specs.Sectors.{OnLine, sector_rule}
use Rattle.stack_meaning.specs.TargetMeaning.{Meant, handed, own}
use Rattle.dm_table.specs.declared.table.Target.TheVariants.{Verity as verity_target}
use Rattle.stack_lines.specs.declared.source.CryptPart.{CryptPart}
use Rattle.stack_lines.specs.declared.source.Source.{Source}
use Rattle.stack_lines.specs.declared.source.VerityPart.{VerityPart}
use Rattle.stack_lines.specs.declared.source.Source.TheVariants.{Below, Units, UnitPart, Zeros, Fails, Block, Blocks}

-- ---- runs

-- what n sectors from one on cost
abbrev pub Pricing : Type 0
Pricing = ℕ → ℕ → ℕ

-- a run from sector s on that has k sectors more, and n sectors after it, where those that go down together are one run
abbrev pub run_and_behind : (ℕ → Bool) → Pricing → ℕ → ℕ → ℕ → ℕ
run_and_behind together price s k zero = price s (suc k)
run_and_behind together price s k (suc n) =
    if together (s + k) then run_and_behind together price s (suc k) n
    else price s (suc k) + run_and_behind together price (s + suc k) 0 n

-- n sectors from s on, each of their runs at its price
abbrev pub by_runs : (ℕ → Bool) → Pricing → Pricing
by_runs together price s zero = 0
by_runs together price s (suc n) = run_and_behind together price s 0 n

-- ---- devices

-- what n sectors of a leaf cost, and what n sectors of a line do that go down together, where at says it of those beneath
pub record Prices : Type 0 where
  pub leaf : ℕ → ℕ
  pub line : OnLine (ℕ → ℕ)
  -- what sectors of one unit do, by what a read of one sector beneath costs, and by what n sectors beneath do
  pub unit : ℕ → Pricing → CryptUnits → Pricing

-- a run that is handed on costs what it does beneath; one of another line what is said of it
abbrev pub price_as : Meant → (ℕ → ℕ) → ℕ → ℕ → ℕ
price_as handed beneath once n = beneath n
price_as (own m) beneath once n = once

-- a device's sectors cost what each run of them does
abbrev pub price_rule : Configuration → Prices → (Lower → Pricing) → Lower → Pricing
price_rule c p below (leaf i) s n = p.leaf n
price_rule c p below (device d) s n = by_runs (in_one_run c d.0) (sector_rule c (λ n. 0) (λ i s n. n) p.line below (device d)) s n

-- what n sectors from s of a leaf or device on cost
abbrev pub priced : Configuration → Prices → Lower → Pricing
priced c p = descend (λ s n. 0) (price_rule c p)

abbrev pub priced_by_name : Configuration → Prices → List ℕ → Pricing
priced_by_name c p = by_name c (λ s n. 0) (priced c p)

-- ---- where the sectors come from and go to

-- of a part of a verity line
abbrev pub part_price : Configuration → Prices → VerityPart → ℕ → ℕ
part_price c p x n = by_runs (together (verity_target x.verity.now)) (p.line (priced_by_name c p) x.device.0 x.line (verity_target x.verity.now)) x.first n

-- of a part of a crypt line
abbrev pub crypt_price : Configuration → Prices → CryptPart → ℕ → ℕ
crypt_price c p u n = by_runs (in_unit u.units) (p.unit (read_cost c u.lower) (priced c p u.lower) u.units) u.first n

-- of the first n sectors of a source
abbrev pub source_price : Configuration → Prices → Source → ℕ → ℕ
source_price c p (Below lower first) n = priced c p lower first n
source_price c p (Units u) n = crypt_price c p u n
source_price c p (UnitPart u) n = crypt_price c p u n
source_price c p Zeros n = 0
source_price c p Fails n = 0
source_price c p (Block x) n = part_price c p x n
source_price c p (Blocks x) n = part_price c p x n
