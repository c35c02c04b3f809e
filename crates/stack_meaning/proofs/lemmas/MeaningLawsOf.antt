-- The laws of what a target means: the one match on its kinds.
use Rattle.dm_table.specs.declared.table.Target.{Target}
use Rattle.dm_table.specs.declared.table.Target.TheVariants.{Linear, Striped, Zero, Error, Crypt, Verity, Unstriped}
use Rattle.stack_meaning.specs.MeaningOf.{meaning_of}
use Rattle.stack_meaning.proofs.lemmas.MeaningLaws.{MeantLaws}
use Rattle.stack_meaning.proofs.lemmas.targets.Zero.{zero-laws}
use Rattle.stack_meaning.proofs.lemmas.targets.Error.{error-laws}
use Rattle.stack_meaning.proofs.lemmas.targets.Crypt.{crypt-laws}
use Rattle.stack_meaning.proofs.lemmas.targets.Verity.{verity-laws}

pub meaning-laws : (target : Target) → MeantLaws target (meaning_of target).meant
meaning-laws (Linear base) = tt
meaning-laws (Striped chunk bases) = tt
meaning-laws Zero = zero-laws
meaning-laws Error = error-laws
meaning-laws (Crypt line) = crypt-laws line
meaning-laws (Verity line) = verity-laws line
meaning-laws (Unstriped line) = tt
