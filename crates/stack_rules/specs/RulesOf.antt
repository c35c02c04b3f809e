-- The rules of each target: the only case distinction by target.
use Rattle.dm_table.specs.declared.table.Target.{Target}
use Rattle.dm_table.specs.declared.table.Target.TheVariants as targets
use Rattle.stack_rules.specs.TargetRules.{TargetRules}
use Rattle.stack_rules.specs.targets.Linear.{linear}
use Rattle.stack_rules.specs.targets.Striped.{striped}
use Rattle.stack_rules.specs.targets.Zero.{zero}
use Rattle.stack_rules.specs.targets.Error.{error}
use Rattle.stack_rules.specs.targets.Crypt.{crypt}
use Rattle.stack_rules.specs.targets.Verity.{verity}
use Rattle.stack_rules.specs.targets.Unstriped.{unstriped}

abbrev pub rules_of : Target → TargetRules
rules_of (targets.Linear base) = linear base
rules_of (targets.Striped chunk bases) = striped chunk bases
rules_of targets.Zero = zero
rules_of targets.Error = error
rules_of (targets.Crypt line) = crypt line
rules_of (targets.Verity line) = verity line
rules_of (targets.Unstriped line) = unstriped line
