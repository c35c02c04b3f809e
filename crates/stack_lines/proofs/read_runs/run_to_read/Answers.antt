use Rattle.std.proofs.Common.{◌≡◌, ℕ, sym, subst, arith}
use Rattle.stack_rules.specs.Trees.{block_sectors}
use Rattle.stack_meaning.specs.Puts.{in_one_run}
use Rattle.stack_lines.specs.declared.source.Source.TheVariants.{Block}
use Rattle.stack_lines.specs.Sources.{EndsRun, IsServed}
use Rattle.stack_lines.proofs.lemmas.ReadRunLemmas.{first-served, first-ends}
use Rattle.stack_lines.proofs.lemmas.VerityLineLemmas.{data-whole}
use Rattle.stack_lines.proofs.read_runs.run_to_read.Goals as goal

pub returns-then-go_at_once-clause-run : goal.returns-then-go_at_once-clause-run
returns-then-go_at_once-clause-run c =
    let run = c.run_at-run in
    record {
      served = subst (IsServed c.args.config.now c.args.d.0 c.args.sector run.result.count) c.in-Blocks.is run.ensures.served;
      some = run.ensures.some;
      most = run.ensures.most;
      longest = run.ensures.longest;
      units = tt;
    }

pub returns-else-go_at_once-clause-run : goal.returns-else-go_at_once-clause-run
returns-else-go_at_once-clause-run c =
    let config = c.args.config.now in
    let x = c.in-Blocks.part in
    let run = c.run_at-run in
    let served = subst (IsServed config c.args.d.0 c.args.sector run.result.count) c.in-Blocks.is run.ensures.served in
    let first = first-served config c.args.d.0 c.args.sector run.result.count x run.ensures.some served in
    let several = (data-whole config x.device.0 x.line x.verity.now c.requires.loaded served.come.3.of.is).some in
    let few : c.from.result ≡ block_sectors x.verity.now = c.from.ensures in
    record {
      served = subst (λ (k : ℕ). IsServed config c.args.d.0 c.args.sector k (Block x)) (sym few) first.1;
      some = omega (arith, few, several);
      most = omega (arith, few, first.0, run.ensures.most);
      longest = subst (λ (k : ℕ). EndsRun (in_one_run config c.args.d.0) c.args.sector c.args.most k) (sym few)
          (first-ends config c.args.d.0 c.args.sector run.result.count c.args.most x run.ensures.some served several);
      units = tt;
    }
