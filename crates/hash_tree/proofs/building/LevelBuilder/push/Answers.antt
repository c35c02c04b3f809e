use Rattle.std.specs.Prelude.{is_some}
use Rattle.std.proofs.Common.{◌≡◌, ◌<◌, ◌+◌, ◌-◌, length, sym, ap, ◌∙◌, arith, subst, List, ℕ}
use Rattle.std.proofs.lemmas.List.{with_items_is}
use Rattle.std.specs.Vec.{with_items}
use Rattle.hash_tree.specs.Building.{LevelRecord, BuilderRecord, grow, HaveRoom}
use Rattle.hash_tree.proofs.lemmas.BuilderLemmas.{length-grow, HaveRoom-grow, pushed-one, completed-one}
use Rattle.hash_tree.proofs.building.LevelBuilder.push.Goals as goal

pub returns-in-Err-clause-some : goal.returns-in-Err-clause-some
returns-in-Err-clause-some c = rw (completed-one c.args.self.now c.args.digest, ← c.self.view_is, ← c.deref_mut.ensures.value) c.rise.ensures.some

pub returns-in-Ok-clause-some : goal.returns-in-Ok-clause-some
returns-in-Ok-clause-some c = rw (completed-one c.args.self.now c.args.digest, ← c.self.view_is, ← c.deref_mut.ensures.value) c.rise.ensures.some

-- the levels after the digest
levels : (c : goal.After-self-in-Ok-1) → (with_items c.self.inside.levels c.rise.new.levels).items ≡ (grow c.self.inside.hash_block c.self.inside.salt c.self.inside.levels.items c.self.inside.root c.args.digest).levels
levels c =
    let made : c.rise.new.levels ≡ (grow c.self.inside.hash_block c.self.inside.salt c.self.inside.levels.items c.self.inside.root c.args.digest).levels =
    c.in-Ok.ensures.levels ∙ ap (λ ls. (grow c.self.inside.hash_block c.self.inside.salt ls c.self.inside.root c.args.digest).levels) c.deref_mut.ensures.value in
    let count : length c.rise.new.levels ≡ length c.self.inside.levels.items =
    ap length made ∙ length-grow c.self.inside.hash_block c.self.inside.salt c.self.inside.levels.items c.self.inside.root c.args.digest in
    with_items_is c.self.inside.levels c.rise.new.levels (omega (arith, count, c.self.inside.levels.ok.0)) ∙ made

pub invariant_of-self : goal.invariant_of-self
invariant_of-self c = λ well.
    let left = c.self.inside.left in
    let asked = rw (← c.self.view_is) at c.requires in
    let some : 0 < left = asked well in
    let one : left ≡ left - 1 + 1 = omega (arith, some) in
    let room : HaveRoom (left - 1 + 1) c.self.inside.levels.items = subst (λ n. HaveRoom n c.self.inside.levels.items) one (c.self.invariant well) in
    subst (HaveRoom (left - 1)) (sym (levels c)) (HaveRoom-grow c.self.inside.hash_block c.self.inside.salt (left - 1) c.self.inside.levels.items c.self.inside.root c.args.digest room)

pub returns-in-Ok-clause-ok : goal.returns-in-Ok-clause-ok
returns-in-Ok-clause-ok c =
    let i = c.self.inside in
    let made : List LevelRecord → List ℕ → BuilderRecord = λ ls r. record { hash_block = i.hash_block; salt = i.salt; left = i.left - 1; failed = is_some i.refused; levels = ls; root = r } in
    let root : c.rise.new.root ≡ (grow i.hash_block i.salt i.levels.items i.root c.args.digest).root =
    c.in-Ok.ensures.root ∙ ap (λ ls. (grow i.hash_block i.salt ls i.root c.args.digest).root) c.deref_mut.ensures.value in (
      rw (pushed-one c.args.self.now c.args.digest, ← c.self.view_is)
          (ap (λ ls. made ls c.rise.new.root) (levels c) ∙ ap (made (grow i.hash_block i.salt i.levels.items i.root c.args.digest).levels) root),
      rw (completed-one c.args.self.now c.args.digest, ← c.self.view_is, ← c.deref_mut.ensures.value) c.in-Ok.ensures.out,
    )
