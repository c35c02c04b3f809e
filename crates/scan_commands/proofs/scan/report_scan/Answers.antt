use Rattle.std.proofs.Common.{inl, inr, refl}
use Rattle.std.proofs.lemmas.Result.{IfErr-weaker, on_ok_weaker}
use Rattle.std.specs.Prelude.{option_map}
use Rattle.image_files.specs.Opener.{calls}
use Rattle.scan_commands.specs.MapFiles.{map_path_of}
use Rattle.scan_commands.specs.declared.recovering_fault.RecoveringFault.TheVariants.{Pass}
use Rattle.scan_commands.specs.Counting.{listed_by}
use Rattle.scan_commands.specs.Passes.{retried_of}
use Rattle.scan_commands.specs.Reports.{kept_text}
use Rattle.scan_commands.proofs.OpeningLemmas.{err-from}
use Rattle.scan_commands.proofs.PassLemmas.{passes-by, stops-by}
use Rattle.scan_commands.proofs.ReportLemmas.{none-kept}
use Rattle.scan_commands.proofs.scan.report_scan.Goals as goal

pub returns-in_err-counts-in-Lines-clause-err : goal.returns-in_err-counts-in-Lines-clause-err
returns-in_err-counts-in-Lines-clause-err g c = rw c.in-Lines.is (
    err-from c.from_residual.result _ (Pass c.in_err-counts-in-Lines.field-0.0) c.from_residual.ensures.1
    (inl (record {
      before = listed_by g.W.Write.contents c.args.writer.now;
      told = listed_by g.W.Write.contents c.count_pass.new.listing;
      begun = refl;
      stopped = stops-by (calls g.I.Images.relations g.I.Dev.BlockDev.state c.args.images.now c.count_pass.new.images) (option_map map_path_of c.map_at-map.result) _ (retried_of c.args.passing.now) _ c.in_err-counts-in-Lines.field-0.0 c.map_at-map.ensures c.in_err-counts-in-Lines.ensures.err;
      kept = refl;
    })))

pub returns-in_ok-counts-in-Lines-clause-ok : goal.returns-in_ok-counts-in-Lines-clause-ok
returns-in_ok-counts-in-Lines-clause-ok g c = rw c.in-Lines.is (on_ok_weaker c.tell_counts.result (λ told. record {
  counts = c.in_ok-counts-in-Lines.counts;
  before = listed_by g.W.Write.contents c.args.writer.now;
  told = _;
  begun = refl;
  done = passes-by _ _ _ _ _ _ c.map_at-map.ensures c.in_ok-counts-in-Lines.ensures.ok;
  reported = told;
}) c.tell_counts.ensures.ok)

pub returns-in_ok-counts-in-Lines-clause-err : goal.returns-in_ok-counts-in-Lines-clause-err
returns-in_ok-counts-in-Lines-clause-err g c = rw c.in-Lines.is (IfErr-weaker c.tell_counts.result _ _ (λ fault ends. inr (record {
  counts = c.in_ok-counts-in-Lines.counts;
  before = listed_by g.W.Write.contents c.args.writer.now;
  told = _;
  begun = refl;
  done = passes-by _ _ _ _ _ _ c.map_at-map.ensures c.in_ok-counts-in-Lines.ensures.ok;
  ends = ends;
})) c.tell_counts.ensures.err)

pub returns-in_err-charted-in-Chart-clause-err : goal.returns-in_err-charted-in-Chart-clause-err
returns-in_err-charted-in-Chart-clause-err g c = rw c.in-Chart.is (
    err-from c.from_residual-in_err-charted-in-Chart.result _ (Pass c.in_err-charted-in-Chart.field-0.0) c.from_residual-in_err-charted-in-Chart.ensures.1
    (inl (record {
      before = kept_text c.new-runs.result;
      told = kept_text c.count_pass-in-Chart.new.listing;
      begun = none-kept _ _ c.new-runs.ensures.runs c.new-runs.ensures.refused;
      stopped = stops-by (calls g.I.Images.relations g.I.Dev.BlockDev.state c.args.images.now c.count_pass-in-Chart.new.images) (option_map map_path_of c.map_at-map.result) _ (retried_of c.args.passing.now) _ c.in_err-charted-in-Chart.field-0.0 c.map_at-map.ensures c.in_err-charted-in-Chart.ensures.err;
      kept = refl;
    })))

pub returns-in_ok-charted-in-Chart-clause-ok : goal.returns-in_ok-charted-in-Chart-clause-ok
returns-in_ok-charted-in-Chart-clause-ok g c = rw c.in-Chart.is (on_ok_weaker c.tell_chart.result (λ told. record {
  counts = c.in_ok-charted-in-Chart.charted;
  before = kept_text c.new-runs.result;
  told = _;
  begun = none-kept _ _ c.new-runs.ensures.runs c.new-runs.ensures.refused;
  done = passes-by _ _ _ _ _ _ c.map_at-map.ensures c.in_ok-charted-in-Chart.ensures.ok;
  reported = told;
}) c.tell_chart.ensures.ok)

pub returns-in_ok-charted-in-Chart-clause-err : goal.returns-in_ok-charted-in-Chart-clause-err
returns-in_ok-charted-in-Chart-clause-err g c = rw c.in-Chart.is (IfErr-weaker c.tell_chart.result _ _ (λ fault ends. inr (record {
  counts = c.in_ok-charted-in-Chart.charted;
  before = kept_text c.new-runs.result;
  told = _;
  begun = none-kept _ _ c.new-runs.ensures.runs c.new-runs.ensures.refused;
  done = passes-by _ _ _ _ _ _ c.map_at-map.ensures c.in_ok-charted-in-Chart.ensures.ok;
  ends = ends;
})) c.tell_chart.ensures.err)

pub returns-in_err-found-in-Object-clause-err : goal.returns-in_err-found-in-Object-clause-err
returns-in_err-found-in-Object-clause-err g c = rw c.in-Object.is (
    err-from c.from_residual-in_err-found-in-Object.result _ (Pass c.in_err-found-in-Object.field-0.0) c.from_residual-in_err-found-in-Object.ensures.1
    (inl (record {
      before = kept_text c.new-kept.result;
      told = kept_text c.count_pass-in-Object.new.listing;
      begun = none-kept _ _ c.new-kept.ensures.runs c.new-kept.ensures.refused;
      stopped = stops-by (calls g.I.Images.relations g.I.Dev.BlockDev.state c.args.images.now c.count_pass-in-Object.new.images) (option_map map_path_of c.map_at-map.result) _ (retried_of c.args.passing.now) _ c.in_err-found-in-Object.field-0.0 c.map_at-map.ensures c.in_err-found-in-Object.ensures.err;
      kept = refl;
    })))

pub returns-in_ok-found-in-Object-clause-ok : goal.returns-in_ok-found-in-Object-clause-ok
returns-in_ok-found-in-Object-clause-ok g c = rw c.in-Object.is (on_ok_weaker c.tell_object.result (λ told. record {
  counts = c.in_ok-found-in-Object.found;
  before = kept_text c.new-kept.result;
  told = _;
  begun = none-kept _ _ c.new-kept.ensures.runs c.new-kept.ensures.refused;
  done = passes-by _ _ _ _ _ _ c.map_at-map.ensures c.in_ok-found-in-Object.ensures.ok;
  reported = told;
}) c.tell_object.ensures.ok)

pub returns-in_ok-found-in-Object-clause-err : goal.returns-in_ok-found-in-Object-clause-err
returns-in_ok-found-in-Object-clause-err g c = rw c.in-Object.is (IfErr-weaker c.tell_object.result _ _ (λ fault ends. inr (record {
  counts = c.in_ok-found-in-Object.found;
  before = kept_text c.new-kept.result;
  told = _;
  begun = none-kept _ _ c.new-kept.ensures.runs c.new-kept.ensures.refused;
  done = passes-by _ _ _ _ _ _ c.map_at-map.ensures c.in_ok-found-in-Object.ensures.ok;
  ends = ends;
})) c.tell_object.ensures.err)
