use Rattle.std.proofs.Common.{ℕ}
use Rattle.std.proofs.lemmas.List.{take-replicate}
use Rattle.stack_loader.proofs.zero_digests.digest_of_zeros.Goals as goal

pub returns : goal.returns
returns c = rw (take-replicate {X = ℕ} c.args.verity.now.data_block 4096 0 c.requires) at c.digest.ensures
