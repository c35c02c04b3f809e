use Rattle.std.proofs.Common.{◌≡◌, ℕ, ap, inl, inr, refl, subst, true, ◌∙◌}
use Rattle.std.proofs.Math.Path.{subst₂}
use Rattle.std.proofs.lemmas.Result.{IfErr-weaker, on_ok_weaker}
use Rattle.block_device.specs.Device.{Device}
use Rattle.device_adapters.specs.Windows.{windowed}
use Rattle.image_commands.specs.Places.{before}
use Rattle.image_commands.specs.TreeSources.{IsNoTreeOf, IsTreeOf}
use Rattle.tree_survey.specs.Passes.{pass}
use Rattle.verity_commands.specs.Surveys.{IsSurveyEnd, SaysFound, no_source_fault}
use Rattle.verity_commands.proofs.OpeningLemmas.{err-from}
use Rattle.verity_commands.proofs.survey.survey_behind.Goals as goal

pub returns-in_err-tree-clause-err : goal.returns-in_err-tree-clause-err
returns-in_err-tree-clause-err g c =
    let first = c.args.bounds.first in
    let data_dev : Device = before (g.D.BlockDev.state c.args.devices.0) c.args.bounds.end in
    let size : c.sectors-sectors.result ≡ data_dev.size = c.sectors-sectors.ensures.size ∙ ap (λ (d : Device). d.size) c.place_parts-two.ensures.data in
    let new = c.seek_tree.new.hash_dev in
    let after = windowed (g.H.BlockDev.state new.inner) new.part in
    let cause = c.in_err-tree.field-0.0 in
    err-from c.from_residual.result _ (no_source_fault cause) c.from_residual.ensures.1 (inl (
      record {
        cause = cause;
        hash_dev' = after;
        left = (new.inner, (new.part, refl));
        none = subst₂ (λ (n : ℕ) (v : Device). IsNoTreeOf c.args.sought.now.source n v first after cause) size c.place_parts-two.ensures.hash c.in_err-tree.ensures.err;
        is = refl;
      },
      refl,
    ))

pub returns-clause-ok : goal.returns-clause-ok
returns-clause-ok g c =
    let first = c.args.bounds.first in
    let root = c.args.sought.now.root in
    let tree = c.in_ok-tree.tree in
    let data_dev : Device = before (g.D.BlockDev.state c.args.devices.0) c.args.bounds.end in
    let size : c.sectors-sectors.result ≡ data_dev.size = c.sectors-sectors.ensures.size ∙ ap (λ (d : Device). d.size) c.place_parts-two.ensures.data in
    let read = c.seek_tree.new.hash_dev in
    let read_dev = windowed (g.H.BlockDev.state read.inner) read.part in
    let two = c.say_survey.new.image in
    let data_new = windowed (g.D.BlockDev.state two.«data».inner) two.«data».part in
    let hash_new = windowed (g.H.BlockDev.state two.hash.inner) two.hash.part in
    let old = g.W.Write.contents c.args.writer.now.inner in
    let printed = g.W.Write.contents c.say_survey.new.writer.inner in
    on_ok_weaker c.say_survey.result
    (λ done. record {
      tree = tree;
      read_dev = read_dev;
      data_dev' = data_new;
      hash_dev' = hash_new;
      left = ((read.inner, (read.part, refl)), (two.«data».inner, (two.«data».part, refl)), (two.hash.inner, (two.hash.part, refl)));
      found = subst₂ (λ (n : ℕ) (v : Device). IsTreeOf c.args.sought.now.source n v first read_dev tree) size c.place_parts-two.ensures.hash c.in_ok-tree.ensures.ok;
      says = subst (λ (v : Device). SaysFound c.args.form tree (pass v read_dev data_new hash_new old printed) root true) c.place_parts-two.ensures.data done;
    })
    c.say_survey.ensures.ok

pub returns-clause-err : goal.returns-clause-err
returns-clause-err g c =
    let first = c.args.bounds.first in
    let root = c.args.sought.now.root in
    let tree = c.in_ok-tree.tree in
    let data_dev : Device = before (g.D.BlockDev.state c.args.devices.0) c.args.bounds.end in
    let size : c.sectors-sectors.result ≡ data_dev.size = c.sectors-sectors.ensures.size ∙ ap (λ (d : Device). d.size) c.place_parts-two.ensures.data in
    let read = c.seek_tree.new.hash_dev in
    let read_dev = windowed (g.H.BlockDev.state read.inner) read.part in
    let two = c.say_survey.new.image in
    let data_new = windowed (g.D.BlockDev.state two.«data».inner) two.«data».part in
    let hash_new = windowed (g.H.BlockDev.state two.hash.inner) two.hash.part in
    let failed = c.say_survey.new.writer.failed in
    let old = g.W.Write.contents c.args.writer.now.inner in
    let printed = g.W.Write.contents c.say_survey.new.writer.inner in
    IfErr-weaker c.say_survey.result _ _
    (λ fault ends. inr (record {
      tree = tree;
      read_dev = read_dev;
      data_dev' = data_new;
      hash_dev' = hash_new;
      left = ((read.inner, (read.part, refl)), (two.«data».inner, (two.«data».part, refl)), (two.hash.inner, (two.hash.part, refl)));
      found = subst₂ (λ (n : ℕ) (v : Device). IsTreeOf c.args.sought.now.source n v first read_dev tree) size c.place_parts-two.ensures.hash c.in_ok-tree.ensures.ok;
      ends = subst (λ (v : Device). IsSurveyEnd c.args.form tree (pass v read_dev data_new hash_new old printed) root failed fault) c.place_parts-two.ensures.data ends;
    }))
    c.say_survey.ensures.err
