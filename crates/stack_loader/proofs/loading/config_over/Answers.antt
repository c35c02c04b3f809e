use Rattle.std.proofs.Common.{sym}
use Rattle.stack_loader.proofs.LeafLemmas.{leaves-sound}
use Rattle.stack_loader.proofs.loading.config_over.Goals as goal

pub new-requires : goal.new-requires
new-requires c = leaves-sound c.args.leaves.items (rw c.as_slice.ensures.value at (sym c.in-None.ensures))
