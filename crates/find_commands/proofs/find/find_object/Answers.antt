use Rattle.std.proofs.Common.{List, inr, refl, sym, subst, ◌∙◌}
use Rattle.std.specs.Prelude.{string_bytes}
use Rattle.scan_commands.specs.declared.recovering_fault.RecoveringFault.TheVariants.{NoMemory, Write}
use Rattle.find_commands.specs.declared.finding.Finding.{Finding}
use Rattle.find_commands.specs.Areas.{SeeksSome}
use Rattle.find_commands.specs.Searches.{search_sides}
use Rattle.find_commands.proofs.EndingLemmas.{err-from, kept-found, object-stopped, prints-object}
use Rattle.find_commands.proofs.find.find_object.Goals as goal

pub returns-in-Err-clause-err : goal.returns-in-Err-clause-err
returns-in-Err-clause-err g c =
    object-stopped g.D.BlockDev.state c.args.device.now c.find_in.new.device (g.W.Write.contents c.args.writer.now.inner) c.args.writer.now.failed c.in-Err.fault c.list_end.result c.list_end.ensures c.in-Err.ensures.err.refused

pub returns-in_err-line-clause-err : goal.returns-in_err-line-clause-err
returns-in_err-line-clause-err g c =
    let old = search_sides c.args.device.now c.new-kept.result in
    let new = search_sides c.find_in.new.device c.find_in.new.list in
    err-from c.from_residual.result _ NoMemory c.from_residual.ensures.1 (record {
      quiet = refl;
      cause = inr (c.find_in.new.list.findings.items, c.in-Ok.counts, c.find_in.new.device, kept-found g.D.BlockDev.state g.D.BlockDev.does old new c.in-Ok.counts c.new-kept.ensures c.in-Ok.ensures.ok, subst (λ (found : List Finding). SeeksSome g.D.BlockDev.state c.find_in.new.device found c.found_line.new.device) c.as_slice.ensures.value c.in_err-line.ensures.calls);
    })

pub returns-in_err-put-clause-err : goal.returns-in_err-put-clause-err
returns-in_err-put-clause-err g c = err-from c.from_residual-in_err-put.result _ Write c.from_residual-in_err-put.ensures.1 c.in_err-put.ensures.writes.failed

pub returns-then-has_missing-clause-err : goal.returns-then-has_missing-clause-err
returns-then-has_missing-clause-err g c =
    let old = search_sides c.args.device.now c.new-kept.result in
    let new = search_sides c.find_in.new.device c.find_in.new.list in
    let contents = g.W.Write.contents in (
      c.in-Ok.counts,
      sym c.has_missing.ensures ∙ c.if-has_missing.true,
      prints-object g.D.BlockDev.state c.args.device.now c.find_in.new.device c.found_line.new.device (contents c.args.writer.now.inner) _ c.find_in.new.list.findings.items _ c.in-Ok.counts
          (string_bytes c.in_ok-line.line) _ (kept-found g.D.BlockDev.state g.D.BlockDev.does old new c.in-Ok.counts c.new-kept.ensures c.in-Ok.ensures.ok) c.as_slice.ensures.value c.in_ok-line.ensures.ok c.as_bytes.ensures.value
          c.in_ok-put.ensures.writes.ok,
    )

pub returns-clause-ok : goal.returns-clause-ok
returns-clause-ok g c =
    let old = search_sides c.args.device.now c.new-kept.result in
    let new = search_sides c.find_in.new.device c.find_in.new.list in
    let contents = g.W.Write.contents in (
      c.in-Ok.counts,
      sym c.has_missing.ensures ∙ c.if-has_missing.false,
      prints-object g.D.BlockDev.state c.args.device.now c.find_in.new.device c.found_line.new.device (contents c.args.writer.now.inner) _ c.find_in.new.list.findings.items _ c.in-Ok.counts
          (string_bytes c.in_ok-line.line) _ (kept-found g.D.BlockDev.state g.D.BlockDev.does old new c.in-Ok.counts c.new-kept.ensures c.in-Ok.ensures.ok) c.as_slice.ensures.value c.in_ok-line.ensures.ok c.as_bytes.ensures.value
          c.in_ok-put.ensures.writes.ok,
    )
