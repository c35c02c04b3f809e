use Rattle.std.proofs.Common.{ℕ, ap, inl, inr, refl}
use Rattle.std.proofs.Math.Path.{subst₃}
use Rattle.std.proofs.lemmas.Result.{IfErr-weaker, on_ok_weaker}
use Rattle.block_device.specs.Device.{Device}
use Rattle.image_commands.specs.Places.{IsPartState}
use Rattle.verity_commands.specs.declared.tree_fault.TreeFault.TheVariants.{Open}
use Rattle.verity_commands.proofs.OpeningLemmas.{err-from}
use Rattle.verity_commands.proofs.SurveyLemmas.{survey-as}
use Rattle.verity_commands.specs.Surveys.{IsPlacedSurveyEnd, SurveysPlaced}
use Rattle.verity_commands.proofs.survey.survey_images.Goals as goal

pub returns-then-not-may_seek-clause-err : goal.returns-then-not-may_seek-clause-err
returns-then-not-may_seek-clause-err g c = inl (record { unaligned = cc (c.if-not-may_seek.ensures); is = refl; same = refl }, refl)

pub returns-in_err-two-clause-err : goal.returns-in_err-two-clause-err
returns-in_err-two-clause-err g c =
    err-from c.from_residual.result _ (Open c.in_err-two.field-0.0) c.from_residual.ensures.1 (inr (inl (c.in_err-two.ensures.err, refl)))

pub returns-clause-ok : goal.returns-clause-ok
returns-clause-ok g c =
    let state = g.I.Dev.BlockDev.state in
    let watched = c.watch-devices in
    let old = g.W.Write.contents c.args.writer.now.inner in
    let new = g.W.Write.contents c.survey_behind.new.writer.inner in
    on_ok_weaker c.survey_behind.result
    (λ done. record {
      two = c.in_ok-two.two;
      aligned = cc (c.if-not-may_seek.ensures);
      opened = c.in_ok-two.ensures.ok;
      surveys = subst₃ (λ (d h : Device) (end : ℕ). SurveysPlaced c.args.order.form (IsPartState state) (IsPartState state) d h end c.args.order.hash_first c.args.sought.now old new) (ap state watched.ensures.data) (ap state watched.ensures.hash) c.data_end-end.ensures (record {
        tree = done.tree;
        read_dev = done.read_dev;
        data_dev' = done.data_dev';
        hash_dev' = done.hash_dev';
        left = (done.left.0, (done.left.1.0.inner, done.left.1.1), done.left.2);
        found = done.found;
        says = done.says;
      });
    })
    c.survey_behind.ensures.ok

pub returns-clause-err : goal.returns-clause-err
returns-clause-err g c =
    let state = g.I.Dev.BlockDev.state in
    let watched = c.watch-devices in
    let old = g.W.Write.contents c.args.writer.now.inner in
    let new = g.W.Write.contents c.survey_behind.new.writer.inner in
    IfErr-weaker c.survey_behind.result _ _
    (λ fault ends. inr (inr (record {
      two = c.in_ok-two.two;
      opened = c.in_ok-two.ensures.ok;
      ends = subst₃ (λ (d h : Device) (end : ℕ). IsPlacedSurveyEnd c.args.order.form (IsPartState state) (IsPartState state) d h end c.args.order.hash_first c.args.sought.now old new c.survey_behind.new.writer.failed fault) (ap state watched.ensures.data) (ap state watched.ensures.hash) c.data_end-end.ensures
          (survey-as ends (λ device left. (left.0.inner, left.1)));
    })))
    c.survey_behind.ensures.err
