-- `zero`: reads return zeros.
use Rattle.stack_rules.specs.TargetRules.{TargetRules, bare}

abbrev pub zero : TargetRules
zero = bare
