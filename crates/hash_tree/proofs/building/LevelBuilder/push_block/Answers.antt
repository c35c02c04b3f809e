use Rattle.std.specs.Prelude.{is_some}
use Rattle.std.proofs.Common.{◌≡◌, ◌+◌, ◌-◌, ◌/◌, length, sym, ap, ◌∙◌, arith, subst, List, ℕ}
use Rattle.std.proofs.lemmas.List.{with_items_is}
use Rattle.std.specs.Vec.{with_items}
use Rattle.hash_tree.specs.Building.{LevelRecord, BuilderRecord, grow_block, HaveRoom}
use Rattle.hash_tree.proofs.lemmas.BuilderLemmas.{HaveRoom-most}
use Rattle.hash_tree.proofs.lemmas.BlockwiseLemmas.{length-grow_block, HaveRoom-block, pushed_block-is, completed_block-is}
use Rattle.hash_tree.proofs.building.LevelBuilder.push_block.Goals as goal

pub returns-in-Err-clause-some : goal.returns-in-Err-clause-some
returns-in-Err-clause-some c = rw (completed_block-is c.args.self.now c.args.block.now c.args.digest, ← c.self.view_is, ← c.deref_mut.ensures.value) c.rise_block.ensures.some

pub returns-in-Ok-clause-some : goal.returns-in-Ok-clause-some
returns-in-Ok-clause-some c = rw (completed_block-is c.args.self.now c.args.block.now c.args.digest, ← c.self.view_is, ← c.deref_mut.ensures.value) c.rise_block.ensures.some

-- the levels after the block
levels : (c : goal.After-self-in-Ok-1) → (with_items c.self.inside.levels c.rise_block.new.levels).items
    ≡ (grow_block c.self.inside.hash_block c.self.inside.salt c.self.inside.levels.items c.self.inside.root c.args.block.now c.args.digest).levels
levels c =
    let i = c.self.inside in
    let made : c.rise_block.new.levels ≡ (grow_block i.hash_block i.salt i.levels.items i.root c.args.block.now c.args.digest).levels =
    c.in-Ok.ensures.levels ∙ ap (λ ls. (grow_block i.hash_block i.salt ls i.root c.args.block.now c.args.digest).levels) c.deref_mut.ensures.value in
    let count : length c.rise_block.new.levels ≡ length i.levels.items =
    ap length made ∙ length-grow_block i.hash_block i.salt i.levels.items i.root c.args.block.now c.args.digest in
    with_items_is i.levels c.rise_block.new.levels (omega (arith, count, i.levels.ok.0)) ∙ made

pub invariant_of-self : goal.invariant_of-self
invariant_of-self c = λ well.
    let i = c.self.inside in
    let n = i.left - i.hash_block / 32 in
    let size = rw (← c.self.view_is) at c.requires.some in
    let left = rw (← c.self.view_is) at c.requires.left in
    let room : HaveRoom (n + 1) i.levels.items = HaveRoom-most i.left (n + 1) i.levels.items (omega (arith, size, left)) (c.self.invariant well) in
    subst (HaveRoom n) (sym (levels c)) (HaveRoom-block i.hash_block i.salt n i.levels.items i.root c.args.block.now c.args.digest room)

pub returns-in-Ok-clause-ok : goal.returns-in-Ok-clause-ok
returns-in-Ok-clause-ok c =
    let i = c.self.inside in
    let made : List LevelRecord → List ℕ → BuilderRecord = λ ls r. record { hash_block = i.hash_block; salt = i.salt; left = i.left - i.hash_block / 32; failed = is_some i.refused; levels = ls; root = r } in
    let root : c.rise_block.new.root ≡ (grow_block i.hash_block i.salt i.levels.items i.root c.args.block.now c.args.digest).root =
    c.in-Ok.ensures.root ∙ ap (λ ls. (grow_block i.hash_block i.salt ls i.root c.args.block.now c.args.digest).root) c.deref_mut.ensures.value in (
      rw (pushed_block-is c.args.self.now c.args.block.now c.args.digest, ← c.self.view_is)
          (ap (λ ls. made ls c.rise_block.new.root) (levels c) ∙ ap (made (grow_block i.hash_block i.salt i.levels.items i.root c.args.block.now c.args.digest).levels) root),
      rw (completed_block-is c.args.self.now c.args.block.now c.args.digest, ← c.self.view_is, ← c.deref_mut.ensures.value) c.in-Ok.ensures.out,
    )
