use Rattle.std.proofs.Common.{ℕ, sym, subst, inl, arith}
use Rattle.stack_lines.specs.Sources.{ComeFrom}
use Rattle.dm_table.specs.declared.table.Target.{Target}
use Rattle.stack_lines.proofs.RunEndLemmas.{all-units}
use Rattle.stack_lines.proofs.serve.line_run.Goals as goal

pub returns-in-Linear : goal.returns-in-Linear
returns-in-Linear c =
    let config = c.args.config.now in
    let n : ℕ = c.args.count in
    let run = c.linear_run in
    record {
      come = subst (λ (k : ℕ). ComeFrom config (c.args.d.0, c.args.number) c.args.line.now.target c.args.within k run.result.source) (sym run.ensures.count)
          (subst (λ (t : Target). ComeFrom config (c.args.d.0, c.args.number) t c.args.within n run.result.source) (sym c.in-Linear.is) run.ensures.come);
      some = omega (arith, run.ensures.count, c.requires.line.some);
      most = omega (arith, run.ensures.count);
      longest = inl run.ensures.count;
      units = all-units run.result.source c.args.count run.result.count run.ensures.count;
    }
