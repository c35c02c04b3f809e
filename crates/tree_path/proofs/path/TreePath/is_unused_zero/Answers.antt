use Rattle.std.proofs.Common.{◌≡◌, ◌+◌, ◌*◌, ◌==◌, ◌<◌, ℕ, List, arith, ap, ◌∙◌, drop, length}
use Rattle.std.specs.List.{list_all}
use Rattle.std.proofs.lemmas.List.{length-map}
use Rattle.tree_shape.specs.Shape.{ancestor}
use Rattle.tree_path.specs.Unused.{is_unused_zero, used_entries}
use Rattle.tree_path.proofs.MemoryLemmas.{read-is, read-sized}
use Rattle.tree_path.proofs.path.TreePath.is_unused_zero.Goals as goal

pub is_zero_after-requires : goal.is_zero_after-requires
is_zero_after-requires c =
    let low = rw (← c.self.view_is) at c.requires.level in
    let blocks = c.self.inside.blocks.items in
    let inside : c.args.level < length blocks = omega (arith, low, c.self.invariant.count, length-map blocks (λ b. b.items)) in
    let size = read-sized blocks c.self.inside.shape.hash_block c.args.level c.index.result.now c.self.invariant.sized c.index.ensures inside in
    omega (arith, c.used_entries-used.ensures.inside, size, ap length c.deref.ensures.value)

pub returns : goal.returns
unfolding is_unused_zero
returns c =
    let s = c.self.inside.shape in
    let low = rw (← c.self.view_is) at c.requires.level in
    let blocks = c.self.inside.blocks.items in
    let inside : c.args.level < length blocks = omega (arith, low, c.self.invariant.count, length-map blocks (λ b. b.items)) in
    let used : c.used_entries-used.result ≡ used_entries s c.args.level (ancestor s (c.args.level + 1) c.args.index) =
    c.used_entries-used.ensures.value ∙ ap (used_entries s c.args.level) c.block_on_path-number.ensures.value in
    rw (← c.self.view_is)
    (c.is_zero_after.ensures ∙ ap (λ (n : ℕ). list_all (λ b. b == 0) (drop (32 * n) c.deref.result.now)) used
    ∙ ap (λ (x : List ℕ). list_all (λ b. b == 0) (drop (32 * used_entries s c.args.level (ancestor s (c.args.level + 1) c.args.index)) x)) (c.deref.ensures.value ∙ read-is blocks c.args.level c.index.result.now c.index.ensures inside))
