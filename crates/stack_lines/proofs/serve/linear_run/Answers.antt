use Rattle.std.proofs.Common.{◌+◌, ◌≤◌, ◌^◌, refl, arith}
use Rattle.stack_lines.proofs.StripeLemmas.{linear-small, linear-lies}
use Rattle.stack_lines.proofs.serve.linear_run.Goals as goal

pub overflow_add-first : goal.overflow_add-first
overflow_add-first c =
    let small : c.args.base.now.offset + c.args.within + c.args.count ≤ 2 ^ 54 = linear-small c.args.config.now c.args.d.0 c.args.line c.args.base.now c.args.within c.args.count c.requires.loaded c.requires.line in
    omega (arith, small)

pub returns-clause-come : goal.returns-clause-come
returns-clause-come c =
    (tt, linear-lies c.args.config.now c.args.d.0 c.args.line c.args.base.now c.args.within c.args.count c.requires.loaded c.requires.line c.lower-lower.result c.lower-lower.ensures, λ j h. refl)
