-- What holds of each sector of the devices that a line names holds of what its bases say.
use Rattle.std.proofs.Common.{ℕ, zero, suc, ◌+◌, List, [], ◌∷◌, map, Option, Some, None}
use Rattle.std.specs.Prelude.{slice_get, option_map, option_and_then}
use Rattle.std.specs.List.{AllByRecursion}
use Rattle.dm_table.specs.declared.table.Base.{Base}
use Rattle.dm_table.specs.declared.table.Target.{Target}
use Rattle.stack_rules.specs.Names.{names}
use Rattle.stack_rules.specs.RulesOf.{rules_of}
use Rattle.stack_meaning.specs.Beneath.{on_base, beneath, below, said_or}
use Rattle.stack_meaning.specs.Said.{Said, none_said}

module _ (P : Said → Type 0) (none : P none_said) (at : List ℕ → ℕ → Said) where
  base-each : (bases : List Base) (k : ℕ) (place : Base → ℕ) → AllByRecursion (λ name. (t : ℕ) → P (at name t)) (map (λ base. base.device) bases)
      → P (said_or none_said at (option_map (λ base. (base.device, place base)) (slice_get bases k)))
  base-each [] k place all = none
  base-each (base ∷ bases) zero place all = all.0 (place base)
  base-each (base ∷ bases) (suc k) place all = base-each bases k place all.1

  -- of the sector on which one of the line lies
  pub beneath-each : (target : Target) (s : ℕ) → AllByRecursion (λ name. (t : ℕ) → P (at name t)) (names target) → P (said_or none_said at (beneath target s))
  beneath-each target s all = go ((rules_of target).lies s)
    where
      go : (o : Option (ℕ × ℕ)) → P (said_or none_said at (option_and_then (on_base (rules_of target).bases) o))
      go None = none
      go (Some p) = base-each (rules_of target).bases p.0 (λ base. base.offset + p.1) all

  -- of each sector of each base
  pub below-each : (target : Target) → AllByRecursion (λ name. (t : ℕ) → P (at name t)) (names target) → (i t : ℕ) → P (below none_said at target i t)
  below-each target all i t = base-each (rules_of target).bases i (λ base. t) all
