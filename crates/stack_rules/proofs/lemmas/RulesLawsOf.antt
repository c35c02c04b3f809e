-- The laws of a target: the one match on its kinds.
use Rattle.dm_table.specs.declared.table.Target.{Target}
use Rattle.dm_table.specs.declared.table.Target.TheVariants as targets
use Rattle.stack_rules.specs.RulesOf.{rules_of}
use Rattle.stack_rules.proofs.lemmas.TargetLaws.{TargetLaws, bare-laws}
use Rattle.stack_rules.proofs.lemmas.targets.Linear.{linear-laws}
use Rattle.stack_rules.proofs.lemmas.targets.Striped.{striped-laws}
use Rattle.stack_rules.proofs.lemmas.targets.Crypt.{crypt-laws}
use Rattle.stack_rules.proofs.lemmas.targets.Verity.{verity-laws}
use Rattle.stack_rules.proofs.lemmas.targets.Unstriped.{unstriped-laws}

pub rules-laws : (target : Target) → TargetLaws (rules_of target)
rules-laws (targets.Linear base) = linear-laws base
rules-laws (targets.Striped chunk bases) = striped-laws chunk bases
rules-laws targets.Zero = bare-laws
rules-laws targets.Error = bare-laws
rules-laws (targets.Crypt line) = crypt-laws line
rules-laws (targets.Verity line) = verity-laws line
rules-laws (targets.Unstriped line) = unstriped-laws line
