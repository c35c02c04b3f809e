use Rattle.std.proofs.Common.{rules, ◌≡◌, ◌++◌, ◌∷◌, [], suc, ap, ◌∙◌, arith, refl}
use Rattle.std.proofs.lemmas.Result.{on_ok_weaker}
use Rattle.hash_tree.specs.Building.{LevelRecord}
use Rattle.hash_tree.proofs.lemmas.GrowLemmas.{HasSome-more, put-more, cons-same}
use Rattle.hash_tree.proofs.lemmas.BlockwiseLemmas.{grow_block-none, grow_block-same}
use Rattle.hash_tree.proofs.building.grouping.rise_block.Goals as goal

pub returns-in_default-clause-levels : goal.returns-in_default-clause-levels
returns-in_default-clause-levels c = rw (grow_block-none c.args.hash_block c.args.salt.now c.args.levels.now c.args.root.now c.args.block.now c.args.coming c.in_default.ensures.cases) refl

pub returns-in_default-clause-root : goal.returns-in_default-clause-root
returns-in_default-clause-root c = rw (grow_block-none c.args.hash_block c.args.salt.now c.args.levels.now c.args.root.now c.args.block.now c.args.coming c.in_default.ensures.cases) refl

pub returns-in_default-clause-out : goal.returns-in_default-clause-out
returns-in_default-clause-out c = rw (grow_block-none c.args.hash_block c.args.salt.now c.args.levels.now c.args.root.now c.args.block.now c.args.coming c.in_default.ensures.cases) (search rules)

pub rise-requires : goal.rise-requires
rise-requires c =
    let all = rw c.in-Some.ensures.cases.0 at c.requires in
    λ k d inside. all (suc k) d (omega (arith, inside))

pub returns-clause-levels : goal.returns-clause-levels
returns-clause-levels c =
    let same = grow_block-same c.args.hash_block c.args.salt.now c.args.levels.now c.in-Some.level.now c.in-Some.above.now c.args.root.now c.args.block.now c.args.coming c.in-Some.ensures.cases.0 in
    on_ok_weaker c.rise.result (λ made. rw same (cons-same _ _ _ _ (rw (← c.level.view_is) refl) made)) c.rise.ensures.levels

pub returns-clause-root : goal.returns-clause-root
returns-clause-root c =
    let same = grow_block-same c.args.hash_block c.args.salt.now c.args.levels.now c.in-Some.level.now c.in-Some.above.now c.args.root.now c.args.block.now c.args.coming c.in-Some.ensures.cases.0 in
    on_ok_weaker c.rise.result (λ made. rw same made) c.rise.ensures.root

pub returns-clause-out : goal.returns-clause-out
returns-clause-out c =
    let same = grow_block-same c.args.hash_block c.args.salt.now c.args.levels.now c.in-Some.level.now c.in-Some.above.now c.args.root.now c.args.block.now c.args.coming c.in-Some.ensures.cases.0 in
    let put : c.push.new.v.items ≡ c.args.out.now.items ++ record { block = c.in-Some.level.now.next; bytes = c.args.block.now } ∷ [] =
    c.in_ok-push.ensures.ok
    ∙ ap (λ (l : LevelRecord). c.args.out.now.items ++ record { block = l.next; bytes = c.in_ok-bytes.bytes.items } ∷ []) c.level.view_is
    ∙ ap (λ bytes. c.args.out.now.items ++ record { block = c.in-Some.level.now.next; bytes = bytes } ∷ []) c.in_ok-bytes.ensures.ok in
    on_ok_weaker c.rise.result (λ made. rw same (put-more c.args.out.now.items c.push.new.v.items c.rise.new.out.items _ _ put made)) c.rise.ensures.out

pub returns-clause-some : goal.returns-clause-some
returns-clause-some c =
    let same = grow_block-same c.args.hash_block c.args.salt.now c.args.levels.now c.in-Some.level.now c.in-Some.above.now c.args.root.now c.args.block.now c.args.coming c.in-Some.ensures.cases.0 in
    let put : c.push.new.v.items ≡ c.args.out.now.items ++ record { block = c.in-Some.level.now.next; bytes = c.args.block.now } ∷ [] =
    c.in_ok-push.ensures.ok
    ∙ ap (λ (l : LevelRecord). c.args.out.now.items ++ record { block = l.next; bytes = c.in_ok-bytes.bytes.items } ∷ []) c.level.view_is
    ∙ ap (λ bytes. c.args.out.now.items ++ record { block = c.in-Some.level.now.next; bytes = bytes } ∷ []) c.in_ok-bytes.ensures.ok in
    rw same (HasSome-more c.args.out.now.items c.push.new.v.items c.rise.new.out.items _ _ put c.rise.ensures.some)
