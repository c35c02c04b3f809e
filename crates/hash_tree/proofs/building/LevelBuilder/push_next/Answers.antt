use Rattle.std.proofs.Common.{◌≡◌, ◌∷◌, [], take, sym, ap, ◌∙◌, subst}
use Rattle.std.proofs.lemmas.List.{take_more}
use Rattle.hash_tree.specs.Building.{completed, HasSome}
use Rattle.hash_tree.proofs.lemmas.BlockwiseLemmas.{HasSome-front}
use Rattle.hash_tree.proofs.building.LevelBuilder.push_next.Goals as goal

pub returns-in_err-push_group-clause-some : goal.returns-in_err-push_group-clause-some
returns-in_err-push_group-clause-some c = HasSome-front c.args.self.now _ c.args.digests.now c.args.out.now.items c.push_group.new.out.items c.push_group.ensures.some

pub returns-then-is_between-clause-some : goal.returns-then-is_between-clause-some
returns-then-is_between-clause-some c = HasSome-front c.args.self.now _ c.args.digests.now c.args.out.now.items c.push_group.new.out.items c.push_group.ensures.some

pub returns-in_err-push-clause-some : goal.returns-in_err-push-clause-some
returns-in_err-push-clause-some c =
    let ds = c.args.digests.now in
    let d = c.index-digests-0.result in
    let first : take 1 ds ≡ d ∷ [] = take_more ds 0 d c.requires.some ∙ ap (λ x. x ∷ []) (sym c.index-digests-0.is) in
    HasSome-front c.args.self.now 1 ds c.args.out.now.items c.push.new.out.items (subst (λ xs. HasSome c.args.out.now.items (completed c.args.self.now xs) c.push.new.out.items) (sym first) c.push.ensures.some)

pub returns-clause-some : goal.returns-clause-some
returns-clause-some c =
    let ds = c.args.digests.now in
    let d = c.index-digests-0.result in
    let first : take 1 ds ≡ d ∷ [] = take_more ds 0 d c.requires.some ∙ ap (λ x. x ∷ []) (sym c.index-digests-0.is) in
    HasSome-front c.args.self.now 1 ds c.args.out.now.items c.push.new.out.items (subst (λ xs. HasSome c.args.out.now.items (completed c.args.self.now xs) c.push.new.out.items) (sym first) c.push.ensures.some)
