-- The arguments of an `unstriped` line as they are printed.
use Rattle.std.specs.Prelude.{List, [], ◌∷◌, decimal}
use Rattle.dm_table.specs.Words.{Word}
use Rattle.dm_table.specs.declared.unstriped.Unstriped.{Unstriped}

unfoldable pub unstriped_words : Unstriped → List Word
unstriped_words line = decimal line.stripes ∷ decimal line.chunk ∷ decimal line.stripe ∷ line.base.device ∷ decimal line.base.offset ∷ []
