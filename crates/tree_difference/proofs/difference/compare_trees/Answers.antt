use Rattle.std.proofs.Common.{◌≡◌, List, ℕ, Option, ap, ◌∙◌, arith, subst}
use Rattle.std.proofs.lemmas.Result.{IfErr-weaker}
use Rattle.block_device.specs.Device.{Device}
use Rattle.verity_format.proofs.lemmas.DeviceLemmas.{only_read-then}
use Rattle.tree_difference.specs.declared.trees.TreePair.{TreePair}
use Rattle.tree_difference.specs.declared.walk.Walk.{Walk}
use Rattle.tree_difference.specs.Comparisons.{Compares, IsReported, ReadsDiffering, difference_world}
use Rattle.tree_difference.specs.Differences.{HaveTrees, trees_in, trees_of}
use Rattle.tree_difference.specs.Trees.{Trees}
use Rattle.tree_difference.proofs.DifferenceLemmas.{aligned-read, aligned-read-second, can-compare, compares-was, comparison-cause, have-trees, reads-was, same-trees, walk-cause}
use Rattle.tree_difference.proofs.ErrLemmas.{err-from, ok-both}
use Rattle.tree_difference.specs.declared.fault.DifferenceFault.TheVariants.{NoMemory}
use Rattle.tree_difference.proofs.ReportLemmas.{reported-none, reported-was}
use Rattle.tree_difference.proofs.RefusalLemmas.{can-on, refused-cause, refused-first}
use Rattle.tree_difference.proofs.RootLemmas.{first-cause, second-cause}
use Rattle.tree_difference.proofs.difference.compare_trees.Goals as goal

pub returns-in_err-check_pair-clause-err : goal.returns-in_err-check_pair-clause-err
returns-in_err-check_pair-clause-err g c =
    let fault = c.in_err-check_pair.field-0.0 in
    err-from c.from_residual.result _ fault c.from_residual.ensures.1
    (refused-cause c.args.pair.now (g.D.BlockDev.state c.args.first.now) (g.E.BlockDev.state c.args.second.now) c.sectors-one.result c.sectors-two.result
    (g.L.Listing.told c.args.listing.now) (g.L.Listing.told c.args.listing.now) (g.L.Listing.failed c.args.listing.now) fault c.sectors-one.ensures.size c.sectors-two.ensures.size c.in_err-check_pair.ensures.err)

pub returns-in_err-check_pair-clause-before : goal.returns-in_err-check_pair-clause-before
returns-in_err-check_pair-clause-before g c =
    let fault = c.in_err-check_pair.field-0.0 in
    err-from c.from_residual.result _ fault c.from_residual.ensures.1
    (reported-none (trees_of c.args.pair.now) _ _ _ _ (g.L.Listing.told c.args.listing.now) c.args.most fault
    (refused-first c.args.pair.now c.sectors-one.result c.sectors-two.result fault c.in_err-check_pair.ensures.err))

pub check_root_block-requires : goal.check_root_block-requires
check_root_block-requires g c = omega (arith, c.in_ok-check_pair.ensures.ok.first_fits, c.sectors-one.ensures.size)

pub check_root_block-requires-2 : goal.check_root_block-requires-2
check_root_block-requires-2 g c = omega (arith, c.in_ok-check_pair.ensures.ok.second_fits, c.sectors-two.ensures.size)

pub returns-in_err-check_root_block-clause-err : goal.returns-in_err-check_root_block-clause-err
returns-in_err-check_root_block-clause-err g c =
    let fault = c.in_err-check_root_block.field-0.0 in
    err-from c.from_residual-in_err-check_root_block.result _ fault c.from_residual-in_err-check_root_block.ensures.1
    (first-cause c.args.pair.now (g.D.BlockDev.state c.args.first.now) (g.D.BlockDev.state c.check_root_block.new.device) (g.E.BlockDev.state c.args.second.now)
    (g.L.Listing.told c.args.listing.now) (g.L.Listing.told c.args.listing.now) (g.L.Listing.failed c.args.listing.now) fault c.in_err-check_root_block.ensures.err)

pub returns-in_err-check_root_block-2-clause-err : goal.returns-in_err-check_root_block-2-clause-err
returns-in_err-check_root_block-2-clause-err g c =
    let fault = c.in_err-check_root_block-2.field-0.0 in
    err-from c.from_residual-in_err-check_root_block-2.result _ fault c.from_residual-in_err-check_root_block-2.ensures.1
    (second-cause c.args.pair.now (g.D.BlockDev.state c.args.first.now) (g.D.BlockDev.state c.check_root_block.new.device) (g.E.BlockDev.state c.args.second.now)
    (g.L.Listing.told c.args.listing.now) (g.L.Listing.told c.args.listing.now) (g.L.Listing.failed c.args.listing.now) (g.E.BlockDev.state c.check_root_block-2.new.device) fault
    c.in_ok-check_root_block.ensures.ok.1.failures c.in_err-check_root_block-2.ensures.err)

pub align-requires : goal.align-requires
align-requires g c =
    let can = can-on c.args.pair.now (g.D.BlockDev.state c.args.first.now) (g.E.BlockDev.state c.args.second.now) c.sectors-one.result c.sectors-two.result c.sectors-one.ensures.size c.sectors-two.ensures.size c.in_ok-check_pair.ensures.ok in
    have-trees c.args.pair.now c.in_ok-walk.walk (g.D.BlockDev.state c.args.first.now) (g.D.BlockDev.state c.check_root_block.new.device) (g.E.BlockDev.state c.args.second.now) (g.E.BlockDev.state c.check_root_block-2.new.device)
    c.in_ok-walk.ensures.ok can c.begin.ensures.valid c.check_root_block.ensures.read.same.size c.check_root_block-2.ensures.read.same.size

pub returns-in_err-align-clause-err : goal.returns-in_err-align-clause-err
returns-in_err-align-clause-err g c =
    err-from c.from_residual-in_err-align.result _ c.in_err-align.field-0.0 c.from_residual-in_err-align.ensures.1
    (walk-cause c.args.pair.now c.in_ok-walk.walk (g.D.BlockDev.state c.args.first.now) (g.D.BlockDev.state c.check_root_block.new.device) (g.E.BlockDev.state c.args.second.now) (g.E.BlockDev.state c.check_root_block-2.new.device)
    (g.D.BlockDev.state c.align.new.first) (g.E.BlockDev.state c.align.new.second) (g.L.Listing.told c.args.listing.now) (g.L.Listing.told c.args.listing.now) (g.L.Listing.failed c.args.listing.now)
    c.in_ok-walk.ensures.ok.trees c.check_root_block.ensures.read c.check_root_block-2.ensures.read
    c.in_ok-check_root_block.ensures.ok.1.failures c.in_ok-check_root_block-2.ensures.ok.1.failures
    c.in_err-align.field-0.0 c.in_err-align.ensures.err)

pub compare-requires : goal.compare-requires
compare-requires g c =
    let can = can-on c.args.pair.now (g.D.BlockDev.state c.args.first.now) (g.E.BlockDev.state c.args.second.now) c.sectors-one.result c.sectors-two.result c.sectors-one.ensures.size c.sectors-two.ensures.size c.in_ok-check_pair.ensures.ok in
    let d : Device = g.D.BlockDev.state c.check_root_block.new.device in
    let e : Device = g.E.BlockDev.state c.check_root_block-2.new.device in
    let have : HaveTrees c.in_ok-walk.walk d e =
    have-trees c.args.pair.now c.in_ok-walk.walk (g.D.BlockDev.state c.args.first.now) d (g.E.BlockDev.state c.args.second.now) e
    c.in_ok-walk.ensures.ok can c.begin.ensures.valid c.check_root_block.ensures.read.same.size c.check_root_block-2.ensures.read.same.size in
    can-compare c.in_ok-walk.walk c.align.new.walk d e (g.D.BlockDev.state c.align.new.first) (g.E.BlockDev.state c.align.new.second) have c.in_ok-align.ensures.ok

pub returns-clause-ok : goal.returns-clause-ok
returns-clause-ok g c =
    let pair : TreePair = c.args.pair.now in
    let w : Walk = c.in_ok-walk.walk in
    let w' : Walk = c.align.new.walk in
    let t : Trees = trees_of pair in
    let d0 : Device = g.D.BlockDev.state c.args.first.now in
    let e0 : Device = g.E.BlockDev.state c.args.second.now in
    let d1 : Device = g.D.BlockDev.state c.check_root_block.new.device in
    let e1 : Device = g.E.BlockDev.state c.check_root_block-2.new.device in
    let d2 : Device = g.D.BlockDev.state c.align.new.first in
    let e2 : Device = g.E.BlockDev.state c.align.new.second in
    let d3 : Device = g.D.BlockDev.state c.compare.new.first in
    let e3 : Device = g.E.BlockDev.state c.compare.new.second in
    let old : Option (List ℕ) = g.L.Listing.told c.args.listing.now in
    let new : Option (List ℕ) = g.L.Listing.told c.compare.new.listing in
    let aligned = c.in_ok-align.ensures.ok in
    let can = can-on pair (g.D.BlockDev.state c.args.first.now) (g.E.BlockDev.state c.args.second.now) c.sectors-one.result c.sectors-two.result c.sectors-one.ensures.size c.sectors-two.ensures.size c.in_ok-check_pair.ensures.ok in
    let have : HaveTrees w d1 e1 = have-trees pair w d0 d1 e0 e1 c.in_ok-walk.ensures.ok can c.begin.ensures.valid c.check_root_block.ensures.read.same.size c.check_root_block-2.ensures.read.same.size in
    let is : trees_in w' ≡ t = same-trees w w' d1 e1 d2 e2 have aligned ∙ c.in_ok-walk.ensures.ok.trees in
    ok-both c.compare.result _ _ _ c.compare.ensures.ok c.compare.ensures.reads (λ totals found reads. record {
      can = can;
      first_root = c.in_ok-check_root_block.ensures.ok.0;
      second_root = c.in_ok-check_root_block-2.ensures.ok.0;
      compares = compares-was t d0 e0 d2 e2 d3 e3 old new c.args.most totals (only_read-then c.check_root_block.ensures.read aligned.first.full.read) (only_read-then c.check_root_block-2.ensures.read aligned.second.full.read)
          (subst (λ (x : Trees). Compares x (difference_world d2 e2 d3 e3 old new) c.args.most totals) is found);
      reads = reads-was t d0 e0 d2 e2 d3 e3 old new _ _
          (aligned-read w w' d0 d1 d2 e1 e2 pair.first.shape t c.in_ok-check_root_block.ensures.ok.1 (ap (λ (x : Trees). x.first) c.in_ok-walk.ensures.ok.trees) c.in_ok-walk.ensures.ok.levels aligned)
          (aligned-read-second w w' e0 d1 d2 e1 e2 pair.second.shape t c.in_ok-check_root_block-2.ensures.ok.1 (ap (λ (x : Trees). x.second) c.in_ok-walk.ensures.ok.trees) c.in_ok-walk.ensures.ok.levels aligned)
          (subst (λ (x : Trees). ReadsDiffering x (difference_world d2 e2 d3 e3 old new) 0 0) is reads);
    })

pub returns-clause-err : goal.returns-clause-err
returns-clause-err g c =
    let pair : TreePair = c.args.pair.now in
    let w : Walk = c.in_ok-walk.walk in
    let d1 : Device = g.D.BlockDev.state c.check_root_block.new.device in
    let e1 : Device = g.E.BlockDev.state c.check_root_block-2.new.device in
    let d2 : Device = g.D.BlockDev.state c.align.new.first in
    let e2 : Device = g.E.BlockDev.state c.align.new.second in
    let aligned = c.in_ok-align.ensures.ok in
    let can = can-on pair (g.D.BlockDev.state c.args.first.now) (g.E.BlockDev.state c.args.second.now) c.sectors-one.result c.sectors-two.result c.sectors-one.ensures.size c.sectors-two.ensures.size c.in_ok-check_pair.ensures.ok in
    let have : HaveTrees w d1 e1 =
    have-trees pair w (g.D.BlockDev.state c.args.first.now) d1 (g.E.BlockDev.state c.args.second.now) e1 c.in_ok-walk.ensures.ok can c.begin.ensures.valid c.check_root_block.ensures.read.same.size c.check_root_block-2.ensures.read.same.size in
    IfErr-weaker c.compare.result _ _
    (λ fault cause. comparison-cause pair c.align.new.walk (g.D.BlockDev.state c.args.first.now) d2 (g.E.BlockDev.state c.args.second.now) e2 (g.D.BlockDev.state c.compare.new.first) (g.E.BlockDev.state c.compare.new.second)
    (g.L.Listing.told c.args.listing.now) (g.L.Listing.told c.compare.new.listing) (g.L.Listing.failed c.compare.new.listing)
    (same-trees w c.align.new.walk d1 e1 d2 e2 have aligned ∙ c.in_ok-walk.ensures.ok.trees)
    (only_read-then c.check_root_block.ensures.read aligned.first.full.read) (only_read-then c.check_root_block-2.ensures.read aligned.second.full.read)
    (aligned.first.full.failures ∙ c.in_ok-check_root_block.ensures.ok.1.failures) (aligned.second.full.failures ∙ c.in_ok-check_root_block-2.ensures.ok.1.failures) fault cause)
    c.compare.ensures.err

pub returns-in_err-check_root_block-clause-before : goal.returns-in_err-check_root_block-clause-before
returns-in_err-check_root_block-clause-before g c =
    let fault = c.in_err-check_root_block.field-0.0 in
    err-from c.from_residual-in_err-check_root_block.result _ fault c.from_residual-in_err-check_root_block.ensures.1
    (reported-none (trees_of c.args.pair.now) _ _ _ _ (g.L.Listing.told c.args.listing.now) c.args.most fault c.in_err-check_root_block.ensures.first)

pub returns-in_err-check_root_block-2-clause-before : goal.returns-in_err-check_root_block-2-clause-before
returns-in_err-check_root_block-2-clause-before g c =
    let fault = c.in_err-check_root_block-2.field-0.0 in
    err-from c.from_residual-in_err-check_root_block-2.result _ fault c.from_residual-in_err-check_root_block-2.ensures.1
    (reported-none (trees_of c.args.pair.now) _ _ _ _ (g.L.Listing.told c.args.listing.now) c.args.most fault c.in_err-check_root_block-2.ensures.first)

pub returns-in_err-walk-clause-before : goal.returns-in_err-walk-clause-before
returns-in_err-walk-clause-before g c =
    err-from c.from_residual-in_err-walk.result _ NoMemory c.from_residual-in_err-walk.ensures.1
    (reported-none (trees_of c.args.pair.now) _ _ _ _ (g.L.Listing.told c.args.listing.now) c.args.most NoMemory tt)

pub returns-in_err-align-clause-before : goal.returns-in_err-align-clause-before
returns-in_err-align-clause-before g c =
    let fault = c.in_err-align.field-0.0 in
    err-from c.from_residual-in_err-align.result _ fault c.from_residual-in_err-align.ensures.1
    (reported-none (trees_of c.args.pair.now) _ _ _ _ (g.L.Listing.told c.args.listing.now) c.args.most fault c.in_err-align.ensures.first)

pub returns-clause-before : goal.returns-clause-before
returns-clause-before g c =
    let pair : TreePair = c.args.pair.now in
    let w : Walk = c.in_ok-walk.walk in
    let w' : Walk = c.align.new.walk in
    let d0 : Device = g.D.BlockDev.state c.args.first.now in
    let e0 : Device = g.E.BlockDev.state c.args.second.now in
    let d1 : Device = g.D.BlockDev.state c.check_root_block.new.device in
    let e1 : Device = g.E.BlockDev.state c.check_root_block-2.new.device in
    let d2 : Device = g.D.BlockDev.state c.align.new.first in
    let e2 : Device = g.E.BlockDev.state c.align.new.second in
    let d3 : Device = g.D.BlockDev.state c.compare.new.first in
    let e3 : Device = g.E.BlockDev.state c.compare.new.second in
    let old : Option (List ℕ) = g.L.Listing.told c.args.listing.now in
    let new : Option (List ℕ) = g.L.Listing.told c.compare.new.listing in
    let aligned = c.in_ok-align.ensures.ok in
    let can = can-on pair (g.D.BlockDev.state c.args.first.now) (g.E.BlockDev.state c.args.second.now) c.sectors-one.result c.sectors-two.result c.sectors-one.ensures.size c.sectors-two.ensures.size c.in_ok-check_pair.ensures.ok in
    let have : HaveTrees w d1 e1 = have-trees pair w d0 d1 e0 e1 c.in_ok-walk.ensures.ok can c.begin.ensures.valid c.check_root_block.ensures.read.same.size c.check_root_block-2.ensures.read.same.size in
    let is : trees_in w' ≡ trees_of pair = same-trees w w' d1 e1 d2 e2 have aligned ∙ c.in_ok-walk.ensures.ok.trees in
    IfErr-weaker c.compare.result _ _
    (λ fault before. reported-was (trees_of pair) d0 e0 d2 e2 d3 e3 old new c.args.most fault
    (only_read-then c.check_root_block.ensures.read aligned.first.full.read) (only_read-then c.check_root_block-2.ensures.read aligned.second.full.read)
    (subst (λ (x : Trees). IsReported x (difference_world d2 e2 d3 e3 old new) c.args.most fault) is before))
    c.compare.ensures.before
