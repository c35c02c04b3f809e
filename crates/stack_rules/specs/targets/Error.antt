-- `error`: all reads and writes fail.
use Rattle.stack_rules.specs.TargetRules.{TargetRules, bare}

abbrev pub error : TargetRules
error = bare
