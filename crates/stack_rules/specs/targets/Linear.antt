-- `linear`: sectors of one device, from an offset on.
use Rattle.std.specs.Prelude.{[], ◌∷◌, Some}
use Rattle.dm_table.specs.declared.table.Base.{Base}
use Rattle.stack_rules.specs.TargetRules.{TargetRules, bare, range_from}

abbrev pub linear : Base → TargetRules
linear base = record bare {
  bases = base ∷ [];
  lies = λ s. Some (0, s);
  ranges = λ len. range_from len base ∷ [];
}
