use Rattle.charts.specs.declared.form.ReportForm.TheVariants.{Lines}
use Rattle.std.proofs.Common.{ap, sym, true}
use Rattle.std.proofs.Math.Path.{subst₂}
use Rattle.std.proofs.lemmas.Result.{IfErr-weaker, on_ok_weaker}
use Rattle.verity_commands.specs.Surveyed.{SurveyedDevices}
use Rattle.verity_commands.specs.Surveys.{IsSurveyEnd, SaysSurvey}
use Rattle.repair_commands.specs.Rest.{scan_of}
use Rattle.repair_commands.proofs.ScanLemmas.{flags-known, read-alone, two-same}
use Rattle.repair_commands.proofs.rest.scan_known.Goals as goal

pub new-data-requires : goal.new-data-requires
new-data-requires g c = λ former is. flags-known _ _ former c.requires.0 is

pub new-hash-requires : goal.new-hash-requires
new-hash-requires g c = λ former is. flags-known _ _ former c.requires.1 is

pub returns-clause-ok : goal.returns-clause-ok
returns-clause-ok g c =
    let plan = c.args.plan.now in
    let old = g.W.Write.contents c.args.writer.now.inner in
    let new = g.W.Write.contents c.say_lines-told.new.writer.inner in
    let data_was = ap g.D.BlockDev.state c.new-data.ensures in
    let hash_was = ap g.H.BlockDev.state c.new-hash.ensures in
    let data_is = ap g.D.BlockDev.state (sym c.into_inner-data_after.ensures.value) in
    let hash_is = ap g.H.BlockDev.state (sym c.into_inner-hash_after.ensures.value) in
    on_ok_weaker c.say_lines-told.result
    (λ says. (
      record {
        data_read = read-alone _ _ _ _ data_was data_is c.say_lines-told.ensures.data (c.into_inner-data_after.ensures.kept _ c.requires.0);
        hash_read = read-alone _ _ _ _ hash_was hash_is c.say_lines-told.ensures.hash (c.into_inner-hash_after.ensures.kept _ c.requires.1);
      },
      subst₂ (λ (t t' : SurveyedDevices). SaysSurvey plan.tree (scan_of t t' old new) plan.root true) (two-same _ _ _ _ data_was hash_was) (two-same _ _ _ _ data_is hash_is) says,
    ))
    c.say_lines-told.ensures.ok

pub returns-clause-err : goal.returns-clause-err
returns-clause-err g c =
    let plan = c.args.plan.now in
    let old = g.W.Write.contents c.args.writer.now.inner in
    let new = g.W.Write.contents c.say_lines-told.new.writer.inner in
    let failed = c.say_lines-told.new.writer.failed in
    let data_was = ap g.D.BlockDev.state c.new-data.ensures in
    let hash_was = ap g.H.BlockDev.state c.new-hash.ensures in
    let data_is = ap g.D.BlockDev.state (sym c.into_inner-data_after.ensures.value) in
    let hash_is = ap g.H.BlockDev.state (sym c.into_inner-hash_after.ensures.value) in
    IfErr-weaker c.say_lines-told.result _ _
    (λ fault ends. (
      record {
        data_read = read-alone _ _ _ _ data_was data_is c.say_lines-told.ensures.data (c.into_inner-data_after.ensures.kept _ c.requires.0);
        hash_read = read-alone _ _ _ _ hash_was hash_is c.say_lines-told.ensures.hash (c.into_inner-hash_after.ensures.kept _ c.requires.1);
      },
      subst₂ (λ (t t' : SurveyedDevices). IsSurveyEnd Lines plan.tree (scan_of t t' old new) plan.root failed fault) (two-same _ _ _ _ data_was hash_was) (two-same _ _ _ _ data_is hash_is) ends,
    ))
    c.say_lines-told.ensures.err
