-- The meaning of each target: the only case distinction by target.
use Rattle.dm_table.specs.declared.table.Target.{Target}
use Rattle.dm_table.specs.declared.table.Target.TheVariants.{Linear, Striped, Zero, Error, Crypt, Verity, Unstriped}
use Rattle.stack_meaning.specs.TargetMeaning.{TargetMeaning}
use Rattle.stack_meaning.specs.targets.Mapped.{mapped_meaning, whole, in_chunk}
use Rattle.stack_meaning.specs.targets.Zero.{zero_meaning}
use Rattle.stack_meaning.specs.targets.Error.{error_meaning}
use Rattle.stack_meaning.specs.targets.Crypt.{crypt_meaning}
use Rattle.stack_meaning.specs.targets.Verity.{verity_meaning}

abbrev pub meaning_of : Target → TargetMeaning
meaning_of (Linear base) = mapped_meaning whole
meaning_of (Striped chunk bases) = mapped_meaning (in_chunk chunk)
meaning_of Zero = zero_meaning
meaning_of Error = error_meaning
meaning_of (Crypt line) = crypt_meaning line
meaning_of (Verity line) = verity_meaning line
meaning_of (Unstriped line) = mapped_meaning (in_chunk line.chunk)
