use Rattle.std.proofs.Common.{rules, ◌≡◌, ◌++◌, ◌∷◌, [], List, ℕ, Some, None, sym, ap, ◌∙◌, arith, eqb-true}
use Rattle.std.proofs.lemmas.Bool.{eqb-false}
use Rattle.std.proofs.lemmas.Result.{on_ok_weaker}
use Rattle.std.specs.Option.{unwrap_or}
use Rattle.tree_shape.specs.Digests.{digest}
use Rattle.hash_tree.specs.Building.{LevelRecord, close, Closed}
use Rattle.hash_tree.proofs.lemmas.GrowLemmas.{close-none, close-empty, close-begun, HasSome-more, put-more}
use Rattle.hash_tree.proofs.building.+close_up.Goals as goal

pub returns-in_default-clause-root : goal.returns-in_default-clause-root
returns-in_default-clause-root t c = rw (close-none c.args.hash_block c.args.salt.now c.args.levels.now c.args.root c.args.coming c.in_default.ensures.cases) c.unwrap_or.ensures

pub returns-in_default-clause-out : goal.returns-in_default-clause-out
returns-in_default-clause-out t c = rw (close-none c.args.hash_block c.args.salt.now c.args.levels.now c.args.root c.args.coming c.in_default.ensures.cases) (search rules)

empty : (t : ℕ) (c : goal.After-drop-bytes-then-is_empty t) → close c.args.hash_block c.args.salt.now c.args.levels.now c.args.root c.args.coming ≡ close c.args.hash_block c.args.salt.now c.in-Some.above.now c.args.root None
empty t c =
    let v = c.extend.new.bytes in
    let is : v.items ≡ c.in-Some.level.now.bytes ++ unwrap_or c.args.coming [] =
    c.in_ok-extend.ensures.ok ∙ ap (λ v. v.items ++ unwrap_or c.args.coming []) c.replace-bytes.ensures.value ∙ ap (λ (l : LevelRecord). l.bytes ++ unwrap_or c.args.coming []) c.level.view_is in
    let none = eqb-true _ 0 (sym c.is_empty.ensures ∙ c.if-is_empty.true) in
    ap (λ ls. close c.args.hash_block c.args.salt.now ls c.args.root c.args.coming) c.in-Some.ensures.cases.0
    ∙ close-empty c.args.hash_block c.args.salt.now c.in-Some.level.now c.in-Some.above.now c.args.root v.items c.args.coming is (omega (arith, none, v.ok.0))

pub returns-then-is_empty-clause-root : goal.returns-then-is_empty-clause-root
returns-then-is_empty-clause-root t c = rw (empty t c) c.close_up.ensures.root

pub returns-then-is_empty-clause-out : goal.returns-then-is_empty-clause-out
returns-then-is_empty-clause-out t c = rw (empty t c) c.close_up.ensures.out

pub returns-then-is_empty-clause-some : goal.returns-then-is_empty-clause-some
returns-then-is_empty-clause-some t c = rw (empty t c) c.close_up.ensures.some

begun : (t : ℕ) (c : goal.After-levels-3-1 t) → close c.args.hash_block c.args.salt.now c.args.levels.now c.args.root c.args.coming ≡ record {
  root = (close c.args.hash_block c.args.salt.now c.in-Some.above.now c.args.root (Some c.digest-next.result)).root;
  placed = record { block = c.in-Some.level.now.next; bytes = c.fill.new.bytes.items } ∷ (close c.args.hash_block c.args.salt.now c.in-Some.above.now c.args.root (Some c.digest-next.result)).placed;
}
begun t c =
    let v = c.extend.new.bytes in
    let size = c.args.hash_block in
    let salt = c.args.salt.now in
    let is : v.items ≡ c.in-Some.level.now.bytes ++ unwrap_or c.args.coming [] =
    c.in_ok-extend.ensures.ok ∙ ap (λ v. v.items ++ unwrap_or c.args.coming []) c.replace-bytes.ensures.value ∙ ap (λ (l : LevelRecord). l.bytes ++ unwrap_or c.args.coming []) c.level.view_is in
    let some = eqb-false _ 0 (sym c.is_empty.ensures ∙ c.if-is_empty.false) in
    let next : digest salt c.fill.new.bytes.items ≡ c.digest-next.result = ap (digest salt) (sym c.deref.ensures.value) ∙ sym c.digest-next.ensures in
    let closed : List ℕ → List ℕ → Closed = λ b d. record {
      root = (close size salt c.in-Some.above.now c.args.root (Some d)).root;
      placed = record { block = c.in-Some.level.now.next; bytes = b } ∷ (close size salt c.in-Some.above.now c.args.root (Some d)).placed;
    } in
    ap (λ ls. close size salt ls c.args.root c.args.coming) c.in-Some.ensures.cases.0
    ∙ close-begun size salt c.in-Some.level.now c.in-Some.above.now c.args.root v.items c.args.coming is (λ none. some (omega (arith, none, v.ok.0)))
    ∙ ap (λ b. closed b (digest salt b)) (sym c.in_ok-fill.ensures.ok)
    ∙ ap (closed c.fill.new.bytes.items) next

put : (t : ℕ) (c : goal.After-levels-3-1 t) → c.push.new.v.items ≡ c.args.out.now.items ++ record { block = c.in-Some.level.now.next; bytes = c.fill.new.bytes.items } ∷ []
put t c = c.in_ok-push.ensures.ok ∙ ap (λ (l : LevelRecord). c.args.out.now.items ++ record { block = l.next; bytes = c.fill.new.bytes.items } ∷ []) c.level.view_is

pub returns-clause-root : goal.returns-clause-root
returns-clause-root t c = rw (begun t c) c.close_up-2.ensures.root

pub returns-clause-out : goal.returns-clause-out
returns-clause-out t c =
    on_ok_weaker c.close_up-2.result
    (λ made. rw (begun t c) (put-more c.args.out.now.items c.push.new.v.items c.close_up-2.new.out.items _ _ (put t c) made))
    c.close_up-2.ensures.out

pub returns-clause-some : goal.returns-clause-some
returns-clause-some t c = rw (begun t c) (HasSome-more c.args.out.now.items c.push.new.v.items c.close_up-2.new.out.items _ _ (put t c) c.close_up-2.ensures.some)
