use Rattle.std.proofs.Common.{◌≡◌, ◌∙◌, ℕ, true, false, inl, inr, refl, subst, sym}
use Rattle.fec_area.specs.Layouts.{IsLayoutOf}
use Rattle.fec_commands.specs.FecFaults.{no_source_fault}
use Rattle.fec_commands.proofs.EndingLemmas.{err-from}
use Rattle.fec_commands.proofs.TableLemmas.{source-start}
use Rattle.fec_commands.proofs.table.lay_line.Goals as goal

pub returns-in_err-tree-clause-err : goal.returns-in_err-tree-clause-err
returns-in_err-tree-clause-err g c =
    let cause = c.in_err-tree.field-0.0 in
    err-from c.from_residual.result _ (no_source_fault cause) c.from_residual.ensures.1 (inl (cause, c.in_err-tree.ensures.err, refl))

pub returns-in-None-clause-err : goal.returns-in-None-clause-err
returns-in-None-clause-err g c =
    inr (inl (record { tree = c.in_ok-tree.tree; tree_of = c.in_ok-tree.ensures.ok; differ = c.in-None.ensures.none; is = refl }))

pub returns-else-covers_tree-clause-err : goal.returns-else-covers_tree-clause-err
returns-else-covers_tree-clause-err g c =
    let l = c.in-Some.layout in
    let tree = c.in_ok-tree.tree in
    let size = c.sectors.ensures.size ∙ c.seek_tree.ensures.read.same.size in
    inr (inr (record {
      laid = record { tree = tree; layout = l };
      tree_of = c.in_ok-tree.ensures.ok;
      layout = subst (λ (n : ℕ). IsLayoutOf tree.shape n c.args.roots l) size c.in-Some.ensures.some;
      short = sym c.covers_tree.ensures ∙ c.if-covers_tree.false;
      is = refl;
    }))

pub returns-then-covers_tree-clause-ok : goal.returns-then-covers_tree-clause-ok
returns-then-covers_tree-clause-ok g c =
    let l = c.in-Some.layout in
    let tree = c.in_ok-tree.tree in
    let hash_dev = g.H.BlockDev.state c.args.hash_dev.now in
    let read_dev = g.H.BlockDev.state c.seek_tree.new.hash_dev in
    let size = c.sectors.ensures.size ∙ c.seek_tree.ensures.read.same.size in
    record {
      tree_of = c.in_ok-tree.ensures.ok;
      is = subst (λ (n : ℕ). IsLayoutOf tree.shape n c.args.roots l) size c.in-Some.ensures.some;
      valid = record { layout = c.in-Some.ensures.valid; start = source-start c.args.source.now 0 hash_dev c.args.first read_dev tree c.in_ok-tree.ensures.ok };
      covers = sym c.covers_tree.ensures ∙ c.if-covers_tree.true;
    }
