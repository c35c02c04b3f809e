use Rattle.std.proofs.Common.{◌<◌, arith, ap, sym, ◌∙◌, length}
use Rattle.std.proofs.lemmas.List.{length-map}
use Rattle.tree_shape.specs.Digests.{digest_in}
use Rattle.tree_shape.specs.Shape.{levels}
use Rattle.tree_path.specs.Seen.{seen_path}
use Rattle.tree_path.proofs.MemoryLemmas.{read-is, read-sized}
use Rattle.tree_path.proofs.lemmas.PathLemmas.{digest_on-below, digest_on-top}
use Rattle.tree_path.proofs.path.TreePath.digest_at.Goals as goal

pub returns-then-level-levels : goal.returns-then-level-levels
returns-then-level-levels c =
    rw (← c.self.view_is) (sym (digest_on-top (seen_path c.self.inside) c.args.index c.args.level (c.if-level-levels.true ∙ c.levels.ensures.value)))

pub digest_in-requires : goal.digest_in-requires
digest_in-requires c =
    let few = rw (← c.self.view_is) at c.requires in
    let blocks = c.self.inside.blocks.items in
    let inside : c.args.level < length blocks = omega (arith, few, c.if-level-levels.false, c.levels.ensures.value, c.self.invariant.count, length-map blocks (λ b. b.items)) in
    let size = read-sized blocks c.self.inside.shape.hash_block c.args.level c.index.result.now c.self.invariant.sized c.index.ensures inside in
    omega (arith, c.slot_on_path-slot.ensures.inside, size, ap length c.deref.ensures.value)

pub returns : goal.returns
returns c =
    let few = rw (← c.self.view_is) at c.requires in
    let blocks = c.self.inside.blocks.items in
    let low : c.args.level < levels c.self.inside.shape = omega (arith, few, c.if-level-levels.false, c.levels.ensures.value) in
    let inside : c.args.level < length blocks = omega (arith, low, c.self.invariant.count, length-map blocks (λ b. b.items)) in
    rw (← c.self.view_is)
    (c.digest_in.ensures ∙ ap (λ b. digest_in b c.slot_on_path-slot.result) (c.deref.ensures.value ∙ read-is blocks c.args.level c.index.result.now c.index.ensures inside)
    ∙ ap (digest_in _) c.slot_on_path-slot.ensures.value ∙ sym (digest_on-below (seen_path c.self.inside) c.args.index c.args.level low))
