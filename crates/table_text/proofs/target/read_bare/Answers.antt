use Rattle.std.proofs.Common.{Err, ap, sym, ◌∙◌}
use Rattle.dm_table.specs.Lines.{bare_at}
use Rattle.table_text.proofs.ReadLemmas.{exit_kind}
use Rattle.table_text.proofs.target.read_bare.Goals as goal

pub returns-in_err-end : goal.returns-in_err-end
unfolding bare_at
returns-in_err-end c =
    let many = c.in_err-end.ensures in
    exit_kind _ _ _ c.from_residual.ensures.1 (ap (bare_at c.args.target) many.1.2 ∙ ap Err (sym many.0))

pub returns : goal.returns
unfolding bare_at
returns c = ap (bare_at c.args.target) c.in_ok-end.ensures
