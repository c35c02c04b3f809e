use Rattle.dm_table.proofs.lemmas.NameLengthLemmas.{options-length}
use Rattle.dm_table.proofs.crypt.Crypt.try_clone.Goals as goal

pub try_clone-requires-2 : goal.try_clone-requires-2
try_clone-requires-2 c = options-length c.args.self.now.options c.requires.options
