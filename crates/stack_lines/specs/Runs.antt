-- The longest runs of sectors, of at most so many.
use Rattle.std.specs.Prelude.{ℕ, ◌+◌, ◌-◌, ◌<◌, ◌≤◌, min}
use Rattle.dm_table.specs.declared.table.Target.{Target}
use Rattle.stack_rules.specs.Records.{Configuration}
use Rattle.stack_lines.specs.declared.source.Run.{Run}
use Rattle.stack_lines.specs.declared.source.Source.{Source}
use Rattle.stack_lines.specs.declared.source.Source.TheVariants.{Below, Units, UnitPart, Zeros, Fails, Block, Blocks}
use Rattle.stack_meaning.specs.Puts.{together, in_one_run}
use Rattle.stack_meaning.specs.Units.{per_unit}
use Rattle.stack_lines.specs.Sources.{HasTarget, ComeFrom, EndsRun, IsServed}

-- line l of device d has that target, and n sectors from its sector w on, at least one
pub record HasLineSectors (c : Configuration) (d l : ℕ) (target : Target) (w n : ℕ) : Type 0 where
  pub has : HasTarget c d l target (w + n)
  pub some : 0 < n

-- n sectors of a source are all of at most so many that it can have: of whole units there is no further one
abbrev pub HasAllUnits : Source → ℕ → ℕ → Type 0
HasAllUnits (Below lower first) most n = Unit {0}
HasAllUnits (Units u) most n = most < n + per_unit u.units
HasAllUnits (UnitPart u) most n = Unit {0}
HasAllUnits Zeros most n = Unit {0}
HasAllUnits Fails most n = Unit {0}
HasAllUnits (Block b) most n = Unit {0}
HasAllUnits (Blocks b) most n = Unit {0}

-- the longest run of a line of that target, its device's and its own number at hand, from its sector w on, of at most
-- so many sectors
pub record IsRunOfLine (c : Configuration) (at : ℕ × ℕ) (target : Target) (w limit : ℕ) (run : Run) : Type 0 where
  pub come : ComeFrom c at target w run.count run.source
  pub some : 0 < run.count
  pub most : run.count ≤ limit
  pub longest : EndsRun (together target) w limit run.count
  pub units : HasAllUnits run.source limit run.count

-- the longest run of device d from its sector s on, of at most so many sectors
pub record IsRunAt (c : Configuration) (d s limit : ℕ) (run : Run) : Type 0 where
  pub served : IsServed c d s run.count run.source
  pub some : 0 < run.count
  pub most : run.count ≤ limit
  pub longest : EndsRun (in_one_run c d) s limit run.count
  pub units : HasAllUnits run.source (min limit (served.line.start + served.line.length - s)) run.count
