use Rattle.std.proofs.Common.{ℕ, arith, inl, inr, refl, subst, ◌∙◌}
use Rattle.fec_area.specs.Layouts.{IsLayoutOf}
use Rattle.image_commands.specs.TreeSources.{IsNoTreeOf, IsTreeOf}
use Rattle.fec_commands.specs.FecFaults.{no_source_fault}
use Rattle.fec_commands.proofs.EndingLemmas.{err-from}
use Rattle.fec_commands.proofs.LayingLemmas.{laid-on}
use Rattle.fec_commands.proofs.image.lay_out.Goals as goal

pub returns-in_err-tree-clause-err : goal.returns-in_err-tree-clause-err
returns-in_err-tree-clause-err g c =
    let hash_dev = g.H.BlockDev.state c.args.hash_dev.now in
    let read_dev = g.H.BlockDev.state c.seek_tree.new.hash_dev in
    let cause = c.in_err-tree.field-0.0 in
    let none = subst (λ (n : ℕ). IsNoTreeOf c.args.source.now n hash_dev c.args.first read_dev cause) c.sectors-sectors.ensures.size c.in_err-tree.ensures.err in
    err-from c.from_residual.result _ (no_source_fault cause) c.from_residual.ensures.1 (inl (cause, none, refl))

pub returns-then-sectors-data_sectors-clause-err : goal.returns-then-sectors-data_sectors-clause-err
returns-then-sectors-data_sectors-clause-err g c =
    let hash_dev = g.H.BlockDev.state c.args.hash_dev.now in
    let read_dev = g.H.BlockDev.state c.seek_tree.new.hash_dev in
    let tree = c.in_ok-tree.tree in
    inr (inl (record {
      tree = tree;
      tree_of = subst (λ (n : ℕ). IsTreeOf c.args.source.now n hash_dev c.args.first read_dev tree) c.sectors-sectors.ensures.size c.in_ok-tree.ensures.ok;
      short = omega arith;
      is = refl;
    }))

pub returns-in-Some-clause-ok : goal.returns-in-Some-clause-ok
returns-in-Some-clause-ok g c =
    let l = c.in-Some.layout in
    let tree = c.in_ok-tree.tree in
    let sectors = c.sectors.result in
    let hash_dev = g.H.BlockDev.state c.args.hash_dev.now in
    let read_dev = g.H.BlockDev.state c.seek_tree.new.hash_dev in
    record {
      tree_of = subst (λ (n : ℕ). IsTreeOf c.args.source.now n hash_dev c.args.first read_dev tree) c.sectors-sectors.ensures.size c.in_ok-tree.ensures.ok;
      is = subst (λ (n : ℕ). IsLayoutOf tree.shape n c.args.roots l) (c.sectors.ensures.size ∙ c.seek_tree.ensures.read.same.size) c.in-Some.ensures.some;
      laid_on = laid-on tree.shape sectors c.args.roots l (g.D.BlockDev.state c.args.data_dev.now) read_dev c.in-Some.ensures.some c.in-Some.ensures.valid (omega arith) (omega arith);
    }

pub returns-in-None-clause-err : goal.returns-in-None-clause-err
returns-in-None-clause-err g c =
    let hash_dev = g.H.BlockDev.state c.args.hash_dev.now in
    let read_dev = g.H.BlockDev.state c.seek_tree.new.hash_dev in
    let tree = c.in_ok-tree.tree in
    inr (inr (record {
      tree = tree;
      tree_of = subst (λ (n : ℕ). IsTreeOf c.args.source.now n hash_dev c.args.first read_dev tree) c.sectors-sectors.ensures.size c.in_ok-tree.ensures.ok;
      differ = c.in-None.ensures.none;
      is = refl;
    }))
