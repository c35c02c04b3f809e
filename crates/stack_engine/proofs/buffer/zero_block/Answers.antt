use Rattle.std.proofs.Common.{ℕ, length, replicate, arith}
use Rattle.std.proofs.lemmas.List.{take-replicate, length-replicate}
use Rattle.stack_meaning.specs.Memory.{largest_allocation}
use Rattle.stack_engine.proofs.RefusedLemmas.{refused-within}
use Rattle.stack_engine.proofs.buffer.zero_block.Goals as goal

pub returns-clause-ok : goal.returns-clause-ok
returns-clause-ok c = rw (take-replicate {X = ℕ} c.args.size 4096 0 c.requires) at c.copied.ensures.ok

pub returns-clause-err : goal.returns-clause-err
returns-clause-err c =
    let zeros = replicate {A = ℕ} c.args.size 0 in
    refused-within c.copied.result (length zeros) largest_allocation (omega (arith, length-replicate {A = ℕ} c.args.size 0, c.requires)) (rw (take-replicate {X = ℕ} c.args.size 4096 0 c.requires) at c.copied.ensures.err)
