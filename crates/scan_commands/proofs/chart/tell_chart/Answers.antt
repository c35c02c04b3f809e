use Rattle.std.proofs.Common.{inl, refl, sym, ◌∙◌}
use Rattle.std.proofs.lemmas.Result.{IfErr-weaker, on_ok_weaker}
use Rattle.scan_commands.specs.Counting.{listed_by}
use Rattle.scan_commands.specs.Reports.{kept_text}
use Rattle.scan_commands.specs.declared.recovering_fault.RecoveringFault.TheVariants.{Write}
use Rattle.scan_commands.proofs.ChartLemmas.{chart-end, writes-then}
use Rattle.scan_commands.proofs.OpeningLemmas.{err-from}
use Rattle.scan_commands.proofs.ReportLemmas.{all-kept, one-unkept}
use Rattle.scan_commands.proofs.chart.tell_chart.Goals as goal

pub returns-then-is_some-clause-err : goal.returns-then-is_some-clause-err
returns-then-is_some-clause-err g c = (one-unkept c.args.kept.now (sym c.is_some.ensures ∙ c.if-is_some.true), refl)

pub returns-in_err-say_charted-clause-err : goal.returns-in_err-say_charted-clause-err
returns-in_err-say_charted-clause-err g c =
    err-from c.from_residual.result _ Write c.from_residual.ensures.1 (all-kept c.args.kept.now (sym c.is_some.ensures ∙ c.if-is_some.false), c.in_err-say_charted.ensures.failed)

pub returns-clause-ok : goal.returns-clause-ok
returns-clause-ok g c = on_ok_weaker c.tell_counts.result (λ told.
    (all-kept c.args.kept.now (sym c.is_some.ensures ∙ c.if-is_some.false), told.1.0, writes-then _ _ _ _ _ (rw c.as_slice.ensures.value at c.in_ok-say_charted.ensures.ok) told.1.1)) c.tell_counts.ensures.ok

pub returns-clause-err : goal.returns-clause-err
returns-clause-err g c = IfErr-weaker c.tell_counts.result _ _ (λ fault ends.
    chart-end _ (kept_text c.args.kept.now) (listed_by g.W.Write.contents c.say_charted.new.writer) _ _ _ fault (all-kept c.args.kept.now (sym c.is_some.ensures ∙ c.if-is_some.false)) (rw c.as_slice.ensures.value at c.in_ok-say_charted.ensures.ok) ends) c.tell_counts.ensures.err
