-- `crypt`: encrypted units of one device.
use Rattle.std.specs.Prelude.{[], ◌∷◌, ◌*◌, ◌%◌, ◌==◌, not, Some}
use Rattle.dm_table.specs.declared.crypt.Crypt.{Crypt}
use Rattle.stack_rules.specs.declared.refusal.LoadKind.TheVariants.{UnitDoesntDivide, IvOffset}
use Rattle.stack_rules.specs.TargetRules.{TargetRules, bare, range_from, cost_at}
use Rattle.stack_rules.specs.Units.{unit_sectors, unit_write_cost}

abbrev pub crypt : Crypt → TargetRules
crypt line = record bare {
  bases = line.base ∷ [];
  lies = λ s. Some (0, s);
  ranges = λ len. range_from len line.base ∷ [];
  faults = λ len. (UnitDoesntDivide, not (len % unit_sectors line == 0)) ∷ (IvOffset, not (line.iv_offset % unit_sectors line == 0)) ∷ [];
  read_cost = λ costs. unit_sectors line * cost_at costs 0;
  write_cost = λ reads costs. unit_write_cost (unit_sectors line) (cost_at reads 0) (cost_at costs 0);
  key = Some line.key;
}
