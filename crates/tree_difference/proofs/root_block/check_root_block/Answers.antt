use Rattle.std.proofs.Common.{◌≡◌, ◌-◌, ◌∙◌, ℕ, ap}
use Rattle.std.proofs.Math.Path.{subst₂}
use Rattle.std.proofs.lemmas.Result.{IfErr-weaker, on_ok_weaker}
use Rattle.block_device.specs.Device.{Device}
use Rattle.tree_shape.specs.Shape.{levels}
use Rattle.verity_format.specs.declared.tree.VerityTree.{VerityTree}
use Rattle.tree_path.specs.Path.{IsPathOf, PathRecord}
use Rattle.tree_path.specs.Steps.{IsDown, steps}
use Rattle.tree_difference.specs.Causes.{IsWayCause}
use Rattle.tree_difference.specs.RootBlocks.{root_level}
use Rattle.tree_difference.proofs.ReportLemmas.{first-block}
use Rattle.tree_difference.proofs.RootLemmas.{root-cause, root-full, root-read}
use Rattle.tree_difference.proofs.root_block.check_root_block.Goals as goal

pub returns-clause-ok : goal.returns-clause-ok
returns-clause-ok g c =
    let t : VerityTree = c.args.tree.now in
    let p : PathRecord = c.in_ok-path.path in
    let q : PathRecord = c.read_down.new.path in
    let d : Device = g.H.BlockDev.state c.args.device.now in
    let d' : Device = g.H.BlockDev.state c.read_down.new.device in
    let is : IsPathOf t.shape t.salt c.args.root p = c.in_ok-path.ensures.ok in
    let top : c.levels-top.result ≡ levels t.shape = c.levels-top.ensures.value in
    let low : c.saturating_sub.result ≡ root_level t.shape = c.saturating_sub.ensures ∙ ap (λ (n : ℕ). n - 1) top in
    on_ok_weaker c.read_down.result
    (λ down.
    let moved = subst₂ (λ (n m : ℕ). IsDown (steps p q d d' 0 n) m m) top low down in
    (root-read t.shape t.salt c.args.root p q d d' is moved, root-full t.shape t.salt c.args.root p q d d' is moved))
    c.read_down.ensures.ok

pub returns-clause-err : goal.returns-clause-err
returns-clause-err g c =
    let t : VerityTree = c.args.tree.now in
    let p : PathRecord = c.in_ok-path.path in
    let q : PathRecord = c.read_down.new.path in
    let d : Device = g.H.BlockDev.state c.args.device.now in
    let d' : Device = g.H.BlockDev.state c.read_down.new.device in
    let is : IsPathOf t.shape t.salt c.args.root p = c.in_ok-path.ensures.ok in
    let top : c.levels-top.result ≡ levels t.shape = c.levels-top.ensures.value in
    let low : c.saturating_sub.result ≡ root_level t.shape = c.saturating_sub.ensures ∙ ap (λ (n : ℕ). n - 1) top in
    IfErr-weaker c.read_down.result _ _
    (λ fault cause. root-cause t c.args.root p q d d' c.args.which fault is c.blocks-blocks.ensures.valid
    (subst₂ (λ (n m : ℕ). IsWayCause (steps p q d d' 0 n) c.args.which m fault) top low cause))
    c.read_down.ensures.err

pub returns-clause-first : goal.returns-clause-first
returns-clause-first g c =
    IfErr-weaker c.read_down.result _ _
    (λ fault cause. first-block c.in_ok-path.path c.read_down.new.path (g.H.BlockDev.state c.args.device.now) (g.H.BlockDev.state c.read_down.new.device) c.levels-top.result c.saturating_sub.result c.args.which fault cause)
    c.read_down.ensures.err
