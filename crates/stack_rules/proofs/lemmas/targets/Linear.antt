-- The laws of `linear`.
use Rattle.std.proofs.Common.{Some}
use Rattle.dm_table.specs.declared.table.Base.{Base}
use Rattle.stack_rules.specs.targets.Linear.{linear}
use Rattle.stack_rules.proofs.lemmas.CostLaws.{dearest-laws}
use Rattle.stack_rules.proofs.lemmas.TargetLaws.{TargetLaws}

pub linear-laws : (base : Base) → TargetLaws (linear base)
linear-laws base = record { ranges = λ P len all. (all.0, tt); tree = λ P all. tt; asked = λ len. tt; costs = dearest-laws (λ s. Some (0, s)) }
