use Rattle.std.proofs.Common.{◌≡◌, ◌+◌, ◌-◌, ◌<◌, ℕ, min, List, length, get_or, Some, refl, sym, ap, ◌∙◌, subst, arith}
use Rattle.std.specs.Prelude.{slice_get}
use Rattle.std.proofs.lemmas.Option.{slice_get_read, slice_get_within}
use Rattle.dm_table.specs.declared.table.Line.{Line}
use Rattle.stack_rules.specs.Names.{lines_of}
use Rattle.stack_meaning.specs.Puts.{together}
use Rattle.stack_lines.specs.Runs.{HasAllUnits}
use Rattle.stack_lines.specs.Sources.{ComeFrom, EndsRun}
use Rattle.stack_lines.proofs.RunEndLemmas.{run-served, run-longest}
use Rattle.stack_lines.proofs.serve.run_at.Goals as goal

-- the line at a number
line_is : (lines all : List Line) (n : ℕ) (line on : Line) → lines ≡ all → line ≡ get_or lines n line → slice_get all n ≡ Some on → line ≡ on
line_is lines all n line on same is at =
    let low : n < length lines = omega (arith, slice_get_within all n on at, ap (λ (l : List Line). length l) same) in
    let there : slice_get lines n ≡ Some line = slice_get_read lines (length lines) n line refl low is in
    let both : Some line ≡ Some on = sym there ∙ ap (λ (l : List Line). slice_get l n) same ∙ at in
    cc

pub returns : goal.returns
returns c =
    let on = c.line_at-place.ensures in
    let run = c.line_run in
    let same : c.index-lines-number.result ≡ on.line = line_is c.lines-lines.result.now (lines_of c.args.config.now c.args.d.0) c.line_at-place.result.0 c.index-lines-number.result on.line (c.lines-lines.ensures.value ∙ c.table.ensures) c.index-lines-number.is on.at in
    let left : c.line_at-place.result.1 ≡ on.line.start + on.line.length - c.args.sector = omega (arith, on.ends) in
    let room : c.min-count.result ≡ min c.args.most (on.line.start + on.line.length - c.args.sector) = c.min-count.ensures ∙ ap (λ (k : ℕ). min c.args.most k) left in
    record {
      served = run-served c.args.config.now c.args.d.0 c.args.sector c.line_at-place.result.0 c.line_at-place.result.1 on run.result.count run.result.source (omega (arith, run.ensures.most, c.min-count.ensures))
          (subst (λ (line : Line). ComeFrom c.args.config.now (c.args.d.0, c.line_at-place.result.0) line.target (c.args.sector - line.start) run.result.count run.result.source) same run.ensures.come);
      some = run.ensures.some;
      most = omega (arith, run.ensures.most, c.min-count.ensures);
      longest = run-longest c.args.config.now c.args.d.0 c.args.sector c.line_at-place.result.0 c.line_at-place.result.1 on c.args.most c.min-count.result run.result.count c.min-count.ensures run.ensures.some run.ensures.most
          (subst (λ (line : Line). EndsRun (together line.target) (c.args.sector - line.start) c.min-count.result run.result.count) same run.ensures.longest);
      units = subst (λ (k : ℕ). HasAllUnits run.result.source k run.result.count) room run.ensures.units;
    }
