use Rattle.std.proofs.Common.{◌≡◌, ◌∙◌, ℕ, ap, inl, inr, refl, subst}
use Rattle.std.proofs.Math.Path.{subst₂}
use Rattle.std.proofs.lemmas.Result.{IfErr-weaker, on_ok_weaker}
use Rattle.block_device.specs.Device.{Device}
use Rattle.device_adapters.specs.Windows.{windowed}
use Rattle.verity_format.specs.declared.verifying.Verdict.TheVariants.{Matches}
use Rattle.verity_format.specs.Verifying.{IsTreeFound}
use Rattle.image_commands.specs.Comparing.{IsComparedEnd}
use Rattle.image_commands.specs.Finding.{no_source_fault}
use Rattle.image_commands.specs.Places.{before, tree_start}
use Rattle.image_commands.specs.TreeSources.{IsNoTreeOf, IsTreeOf}
use Rattle.image_commands.proofs.OpeningLemmas.{err-from}
use Rattle.image_commands.proofs.verifying.compare_behind.Goals as goal

pub returns-in_err-tree-clause-err : goal.returns-in_err-tree-clause-err
returns-in_err-tree-clause-err g c =
    let first = c.args.bounds.first in
    let data_dev : Device = before (g.D.BlockDev.state c.args.devices.0) c.args.bounds.end in
    let size : c.sectors-sectors.result ≡ data_dev.size = c.sectors-sectors.ensures.size ∙ ap (λ (d : Device). d.size) c.place_parts-two.ensures.data in
    let new = c.seek_tree.new.hash_dev in
    let after = windowed (g.H.BlockDev.state new.inner) new.part in
    let cause = c.in_err-tree.field-0.0 in
    err-from c.from_residual.result _ (no_source_fault cause) c.from_residual.ensures.1
    (inl (record {
      cause = cause;
      hash_dev' = after;
      left = (new.inner, (new.part, refl));
      none = subst₂ (λ (n : ℕ) (v : Device). IsNoTreeOf c.args.sought.now.source n v first after cause) size c.place_parts-two.ensures.hash c.in_err-tree.ensures.err;
      is = refl;
    }))

pub returns-clause-ok : goal.returns-clause-ok
returns-clause-ok g c =
    let first = c.args.bounds.first in
    let tree = c.in_ok-tree.tree in
    let data_dev : Device = before (g.D.BlockDev.state c.args.devices.0) c.args.bounds.end in
    let size : c.sectors-sectors.result ≡ data_dev.size = c.sectors-sectors.ensures.size ∙ ap (λ (d : Device). d.size) c.place_parts-two.ensures.data in
    let read = c.seek_tree.new.hash_dev in
    let read_dev = windowed (g.H.BlockDev.state read.inner) read.part in
    let data_new = windowed (g.D.BlockDev.state c.compare.new.two.data.inner) c.compare.new.two.data.part in
    let hash_new = windowed (g.H.BlockDev.state c.compare.new.two.hash.inner) c.compare.new.two.hash.part in
    on_ok_weaker c.compare.result
    (λ done. record {
      tree = tree;
      read_dev = read_dev;
      data_dev' = data_new;
      hash_dev' = hash_new;
      left = ((read.inner, (read.part, refl)), (c.compare.new.two.data.inner, (c.compare.new.two.data.part, refl)), (c.compare.new.two.hash.inner, (c.compare.new.two.hash.part, refl)));
      stated = subst₂ (λ (n : ℕ) (v : Device). IsTreeOf c.args.sought.now.source n v first read_dev tree) size c.place_parts-two.ensures.hash c.in_ok-tree.ensures.ok;
      found = subst (λ (v : Device). IsTreeFound tree.shape tree.salt v read_dev data_new hash_new c.args.sought.now.root Matches) c.place_parts-two.ensures.data done.0;
      printed = done.1;
    })
    c.compare.ensures.ok

pub returns-clause-err : goal.returns-clause-err
returns-clause-err g c =
    let first = c.args.bounds.first in
    let root = c.args.sought.now.root in
    let tree = c.in_ok-tree.tree in
    let data_dev : Device = before (g.D.BlockDev.state c.args.devices.0) c.args.bounds.end in
    let size : c.sectors-sectors.result ≡ data_dev.size = c.sectors-sectors.ensures.size ∙ ap (λ (d : Device). d.size) c.place_parts-two.ensures.data in
    let read = c.seek_tree.new.hash_dev in
    let read_dev = windowed (g.H.BlockDev.state read.inner) read.part in
    let data_new = windowed (g.D.BlockDev.state c.compare.new.two.data.inner) c.compare.new.two.data.part in
    let hash_new = windowed (g.H.BlockDev.state c.compare.new.two.hash.inner) c.compare.new.two.hash.part in
    let ahead : c.tree_start-ahead.result ≡ tree_start first tree.shape.hash_block 0 = c.tree_start-ahead.ensures ∙ ap (λ (n : ℕ). tree_start first n 0) c.hash_block-size.ensures.value in
    IfErr-weaker c.compare.result _ _
    (λ fault ends. inr (record {
      tree = tree;
      read_dev = read_dev;
      data_dev' = data_new;
      hash_dev' = hash_new;
      left = ((read.inner, (read.part, refl)), (c.compare.new.two.data.inner, (c.compare.new.two.data.part, refl)), (c.compare.new.two.hash.inner, (c.compare.new.two.hash.part, refl)));
      stated = subst₂ (λ (n : ℕ) (v : Device). IsTreeOf c.args.sought.now.source n v first read_dev tree) size c.place_parts-two.ensures.hash c.in_ok-tree.ensures.ok;
      ends = subst₂ (λ (a : ℕ) (v : Device). IsComparedEnd tree a v read_dev data_new hash_new root c.compare.new.writer.failed fault) ahead c.place_parts-two.ensures.data ends;
    }))
    c.compare.ensures.err
