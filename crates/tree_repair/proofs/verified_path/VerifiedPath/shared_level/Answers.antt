use Rattle.std.proofs.Common.{◌≡◌, ◌+◌, ◌∙◌, ap, arith, subst, sym}
use Rattle.tree_shape.specs.Shape.{ShapeRecord, IsShape, ancestor, levels}
use Rattle.tree_path.proofs.lemmas.PathLemmas.{leads-higher}
use Rattle.tree_repair.proofs.VerifiedPathLemmas.{leads-shared, leads-top}
use Rattle.tree_repair.proofs.verified_path.VerifiedPath.shared_level.Goals as goal

pub returns-then-block_on_path-clause-leads : goal.returns-then-block_on_path-clause-leads
returns-then-block_on_path-clause-leads c =
    let v = c.args.self.now in
    let l = c.levels.level in
    let i = c.args.index in
    let alike : ancestor c.args.shape.now (l + 1) v.index ≡ ancestor c.args.shape.now (l + 1) i =
    sym c.block_on_path-in-levels.ensures.value ∙ sym c.if-block_on_path.true ∙ c.block_on_path.ensures.value in
    leads-shared v.path v.index i l (subst IsShape (sym c.requires.shape) c.requires.place.valid)
    (subst (λ (s : ShapeRecord). ancestor s (l + 1) v.index ≡ ancestor s (l + 1) i) (sym c.requires.shape) alike)
    (leads-higher v.path v.index v.height l c.levels.invariant.low v.leads)

pub returns-clause-leads : goal.returns-clause-leads
returns-clause-leads c = leads-top c.args.self.now.path c.args.index c.levels-levels.result (omega (arith, c.levels-levels.ensures.value, ap levels c.requires.shape))
