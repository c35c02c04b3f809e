-- `striped`: chunks on n devices in turn. Chunk k is chunk k / n, from the offset on, of device k % n.
use Rattle.std.specs.Prelude.{ℕ, ◌+◌, ◌*◌, ◌/◌, ◌%◌, ◌==◌, not, List, [], ◌∷◌, length, map, Some}
use Rattle.dm_table.specs.declared.table.Base.{Base}
use Rattle.stack_rules.specs.declared.refusal.LoadKind.TheVariants.{StripesDontDivide}
use Rattle.stack_rules.specs.TargetRules.{TargetRules, bare, range_from}

abbrev pub striped : ℕ → List Base → TargetRules
striped chunk bases = record bare {
  bases = bases;
  lies = λ s. Some (s / chunk % length bases, s / chunk / length bases * chunk + s % chunk);
  ranges = λ len. map (range_from (len / length bases)) bases;
  faults = λ len. (StripesDontDivide, not (len % (length bases * chunk) == 0)) ∷ [];
}
