use Rattle.std.proofs.Common.{◌≡◌, ◌-◌, ◌+◌, ℕ, arith, sym, subst, ap, ◌∙◌}
use Rattle.tree_shape.specs.Shape.{levels}
use Rattle.tree_survey.proofs.SayingLemmas.{IsSayingTree, saying-none, tree-all, tree-next}
use Rattle.tree_survey.proofs.hashes.say_hashes.Goals as goal

pub levels-preserved : goal.levels-preserved
levels-preserved g c =
    let l : ℕ = c.levels.level - 1 in
    let above : c.levels.level ≡ l + 1 = omega (arith, c.levels-test.true) in
    record {
      few = omega (arith, c.levels.invariant.few);
      said = subst (IsSayingTree c.args.path.now c.say_level.new.path (g.H.BlockDev.state c.args.device.now) (g.H.BlockDev.state c.say_level.new.device) l (g.L.Listing.told c.args.listing.now) (g.L.Listing.told c.say_level.new.listing))
          (sym c.both-whole.ensures)
          (tree-next c.args.path.now c.levels.path c.say_level.new.path (g.H.BlockDev.state c.args.device.now) (g.H.BlockDev.state c.levels.device) (g.H.BlockDev.state c.say_level.new.device)
          c.levels.level l (g.L.Listing.told c.args.listing.now) (g.L.Listing.told c.levels.listing) (g.L.Listing.told c.say_level.new.listing) c.levels.whole c.in_ok-good.good above
          c.levels.invariant.said c.say_level.ensures.over c.in_ok-good.ensures.ok);
    }

pub returns-clause-ok : goal.returns-clause-ok
returns-clause-ok g c =
    tree-all c.args.path.now c.levels.path (g.H.BlockDev.state c.args.device.now) (g.H.BlockDev.state c.levels.device) c.levels.level (g.L.Listing.told c.args.listing.now) (g.L.Listing.told c.levels.listing) c.levels.whole
    (omega (arith, c.levels-test.false)) c.levels.invariant.said

pub levels-init : goal.levels-init
levels-init g c = record {
  few = omega arith;
  said = saying-none c.args.path.now (g.H.BlockDev.state c.args.device.now) c.levels-level.result (g.L.Listing.told c.args.listing.now)
      (c.levels-level.ensures.value ∙ ap levels c.requires.shape_is);
}
