use Rattle.std.proofs.Common.{◌≡◌, ◌-◌, ◌*◌, ◌/◌, ℕ, ap, subst, sym}
use Rattle.block_device.specs.Device.{Device}
use Rattle.tree_shape.specs.Shape.{levels}
use Rattle.tree_path.specs.Path.{PathRecord}
use Rattle.tree_path.specs.Steps.{HasReadAtMost}
use Rattle.tree_survey.specs.Hashes.{tree_of_path}
use Rattle.tree_survey.specs.Passes.{tree_under}
use Rattle.tree_survey.specs.Surveys.{Tree}
use Rattle.tree_survey.specs.Unused.{AreZeroFrom, IsReadDown, IsUnusedFound, last_data}
use Rattle.tree_survey.proofs.SurveyLemmas.{tree-of}
use Rattle.tree_survey.proofs.UnusedLemmas.{unused-found}
use Rattle.tree_survey.proofs.unused.read_unused.Goals as goal

pub returns-clause-ok : goal.returns-clause-ok
returns-clause-ok g c =
    let d : Device = g.H.BlockDev.state c.args.hash_dev.now in
    let d' : Device = g.H.BlockDev.state c.read_down-good.new.device in
    let t : Tree = tree_under c.args.tree.now c.args.root.now in
    let good : ℕ = c.read_down-good.result in
    let zeros = c.are_zero_from-zeros.result in
    let q : PathRecord = c.read_down-good.new.path in
    let tree : tree_of_path c.in_ok-path.path ≡ t = tree-of c.args.tree.now c.args.root.now c.in_ok-path.path c.in_ok-path.ensures.ok in
    let last : c.blocks-last.result - 1 ≡ last_data t = ap (λ (n : ℕ). n - 1) c.blocks-last.ensures.value in
    let down : IsReadDown t d d' (last_data t) good q =
    subst (λ (i : ℕ). IsReadDown t d d' i good q) last (subst (λ (u : Tree). IsReadDown u d d' (c.blocks-last.result - 1) good q) tree c.read_down-good.ensures.down) in
    record {
      over = c.read_down-good.ensures.over;
      few = subst (λ (u : Tree). HasReadAtMost d (levels u.shape * (u.shape.hash_block / 512)) d') tree c.read_down-good.ensures.asked;
      found_is = subst (IsUnusedFound t d d') (sym c.found_from.ensures)
          (unused-found t d d' good q down zeros (subst (λ (i : ℕ). AreZeroFrom q i good zeros) last c.are_zero_from-zeros.ensures));
    }
