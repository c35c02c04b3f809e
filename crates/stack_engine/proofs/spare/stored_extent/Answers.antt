use Rattle.std.proofs.Common.{◌%◌, ℕ, sym, subst, arith}
use Rattle.stack_lines.specs.Covered.{HasRound}
use Rattle.stack_engine.proofs.LostBlockLemmas.{block-round, parity-few, parity-stored, rounds-some}
use Rattle.stack_engine.proofs.spare.stored_extent.Goals as goal

pub nonzero_rem-round : goal.nonzero_rem-round
nonzero_rem-round c =
    omega (arith, c.round_count.ensures.value, rounds-some c.args.config.now c.args.verity.now c.args.tree.now c.args.index c.requires.loaded c.requires.block c.in-Some.parity c.in-Some.is)

pub parity_start-requires-clause-round : goal.parity_start-requires-clause-round
parity_start-requires-clause-round c =
    let v = c.args.verity.now in
    let tree = c.args.tree.now in
    subst (λ (k : ℕ). HasRound c.args.config.now v c.in-Some.parity tree (c.args.index % k)) (sym c.round_count.ensures.value)
    (block-round c.args.config.now v tree c.args.index c.requires.loaded c.requires.block c.in-Some.parity c.in-Some.is)

pub overflow_mul-result : goal.overflow_mul-result
overflow_mul-result c =
    omega (arith, parity-few c.args.config.now c.args.verity.now c.args.tree.now c.args.index c.requires.loaded c.requires.block c.in-Some.parity c.in-Some.is)

pub returns-in-None-parity-clause-some : goal.returns-in-None-parity-clause-some
returns-in-None-parity-clause-some c q has =
    absurd (parity-stored c.args.config.now c.args.verity.now c.args.tree.now c.args.index c.requires.loaded c.requires.block q has c.in-None-parity.is)

pub returns-in-Some-parity-clause-few : goal.returns-in-Some-parity-clause-few
returns-in-Some-parity-clause-few c =
    parity-few c.args.config.now c.args.verity.now c.args.tree.now c.args.index c.requires.loaded c.requires.block c.in-Some.parity c.in-Some.is
