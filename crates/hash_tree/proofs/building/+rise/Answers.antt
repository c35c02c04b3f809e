use Rattle.std.proofs.Common.{rules, ◌≡◌, ◌++◌, ◌∷◌, [], ℕ, suc, length, sym, ap, ◌∙◌, arith, refl}
use Rattle.std.proofs.lemmas.Result.{on_ok_weaker}
use Rattle.tree_shape.specs.Digests.{digest}
use Rattle.hash_tree.specs.Building.{LevelRecord, grow, done}
use Rattle.hash_tree.proofs.lemmas.GrowLemmas.{grow-none, grow-short, grow-full, HasSome-more, put-more, cons-same}
use Rattle.hash_tree.proofs.building.+rise.Goals as goal

pub returns-in_default-clause-levels : goal.returns-in_default-clause-levels
returns-in_default-clause-levels t c = rw (grow-none c.args.hash_block c.args.salt.now c.args.levels.now c.args.root.now c.args.coming c.in_default.ensures.cases) refl

pub returns-in_default-clause-root : goal.returns-in_default-clause-root
returns-in_default-clause-root t c = rw (grow-none c.args.hash_block c.args.salt.now c.args.levels.now c.args.root.now c.args.coming c.in_default.ensures.cases) refl

pub returns-in_default-clause-out : goal.returns-in_default-clause-out
returns-in_default-clause-out t c = rw (grow-none c.args.hash_block c.args.salt.now c.args.levels.now c.args.root.now c.args.coming c.in_default.ensures.cases) (search rules)

short : (t : ℕ) (c : goal.After-levels-then-len-hash_block-2-1 t) → grow c.args.hash_block c.args.salt.now c.args.levels.now c.args.root.now c.args.coming
    ≡ record { levels = record { next = c.in-Some.level.now.next; bytes = c.in-Some.level.now.bytes ++ c.args.coming } ∷ c.in-Some.above.now; root = c.args.root.now; placed = [] }
short t c =
    let v = c.append.new.bytes in
    let bytes : v.items ≡ c.in-Some.level.now.bytes ++ c.args.coming = c.in_ok-append.ensures.ok ∙ ap (λ (l : LevelRecord). l.bytes ++ c.args.coming) c.level.view_is in
    let size : length v.items ≡ length (c.in-Some.level.now.bytes ++ c.args.coming) = ap length bytes in
    ap (λ ls. grow c.args.hash_block c.args.salt.now ls c.args.root.now c.args.coming) c.in-Some.ensures.cases.0
    ∙ grow-short c.args.hash_block c.args.salt.now c.in-Some.level.now c.in-Some.above.now c.args.root.now c.args.coming (omega (arith, size, v.ok.0, c.len.ensures, c.if-len-hash_block.true))

pub returns-then-len-hash_block-clause-levels : goal.returns-then-len-hash_block-clause-levels
returns-then-len-hash_block-clause-levels t c = rw (short t c, c.in_ok-append.ensures.ok, ← c.level.view_is) refl

pub returns-then-len-hash_block-clause-root : goal.returns-then-len-hash_block-clause-root
returns-then-len-hash_block-clause-root t c = rw (short t c) refl

pub returns-then-len-hash_block-clause-out : goal.returns-then-len-hash_block-clause-out
returns-then-len-hash_block-clause-out t c = rw (short t c) (search rules)

pub rise-requires : goal.rise-requires
rise-requires t c =
    let all = rw c.in-Some.ensures.cases.0 at c.requires in
    (omega (arith, c.decreases, c.in-Some.ensures.cases.1), λ k d inside. all (suc k) d (omega (arith, inside)))

bytes : (t : ℕ) (c : goal.After-levels-3-1 t) → c.replace-bytes.result.items ≡ c.in-Some.level.now.bytes ++ c.args.coming
bytes t c = ap (λ v. v.items) c.replace-bytes.ensures.value ∙ c.in_ok-append.ensures.ok ∙ ap (λ (l : LevelRecord). l.bytes ++ c.args.coming) c.level.view_is

full : (t : ℕ) (c : goal.After-levels-3-1 t) → grow c.args.hash_block c.args.salt.now c.args.levels.now c.args.root.now c.args.coming
    ≡ done c.in-Some.level.now c.replace-bytes.result.items (grow c.args.hash_block c.args.salt.now c.in-Some.above.now c.args.root.now c.digest-next.result)
full t c =
    let v = c.append.new.bytes in
    let size : length v.items ≡ length (c.in-Some.level.now.bytes ++ c.args.coming) = ap length (sym (ap (λ v. v.items) c.replace-bytes.ensures.value) ∙ bytes t c) in
    let next : digest c.args.salt.now c.replace-bytes.result.items ≡ c.digest-next.result = ap (digest c.args.salt.now) (sym c.deref.ensures.value) ∙ sym c.digest-next.ensures in
    ap (λ ls. grow c.args.hash_block c.args.salt.now ls c.args.root.now c.args.coming) c.in-Some.ensures.cases.0
    ∙ grow-full c.args.hash_block c.args.salt.now c.in-Some.level.now c.in-Some.above.now c.args.root.now c.args.coming (omega (arith, size, v.ok.0, c.len.ensures, c.if-len-hash_block.false))
    ∙ ap (λ b. done c.in-Some.level.now b (grow c.args.hash_block c.args.salt.now c.in-Some.above.now c.args.root.now (digest c.args.salt.now b))) (sym (bytes t c))
    ∙ ap (λ d. done c.in-Some.level.now c.replace-bytes.result.items (grow c.args.hash_block c.args.salt.now c.in-Some.above.now c.args.root.now d)) next

put : (t : ℕ) (c : goal.After-levels-3-1 t) → c.push.new.v.items ≡ c.args.out.now.items ++ record { block = c.in-Some.level.now.next; bytes = c.replace-bytes.result.items } ∷ []
put t c = c.in_ok-push.ensures.ok ∙ ap (λ (l : LevelRecord). c.args.out.now.items ++ record { block = l.next; bytes = c.replace-bytes.result.items } ∷ []) c.level.view_is

pub returns-clause-levels : goal.returns-clause-levels
returns-clause-levels t c =
    on_ok_weaker c.rise.result (λ made. rw (full t c) (cons-same _ _ _ _ (rw (c.replace-bytes.ensures.after, c.new.ensures.items, ← c.level.view_is) refl) made)) c.rise.ensures.levels

pub returns-clause-root : goal.returns-clause-root
returns-clause-root t c = on_ok_weaker c.rise.result (λ made. rw (full t c) made) c.rise.ensures.root

pub returns-clause-out : goal.returns-clause-out
returns-clause-out t c =
    on_ok_weaker c.rise.result
    (λ made. rw (full t c) (put-more c.args.out.now.items c.push.new.v.items c.rise.new.out.items _ _ (put t c) made))
    c.rise.ensures.out

pub returns-clause-some : goal.returns-clause-some
returns-clause-some t c = rw (full t c) (HasSome-more c.args.out.now.items c.push.new.v.items c.rise.new.out.items _ _ (put t c) c.rise.ensures.some)
