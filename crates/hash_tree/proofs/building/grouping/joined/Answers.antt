use Rattle.std.proofs.Common.{◌≡◌, ◌+◌, ◌++◌, ◌∷◌, [], take, sym, ap, ◌∙◌}
use Rattle.std.proofs.lemmas.List.{append-nil, take_more, take_all}
use Rattle.std.proofs.lemmas.List.Folds.{concat-append}
use Rattle.std.specs.List.{concat}
use Rattle.hash_tree.proofs.building.grouping.joined.Goals as goal

pub loop-digest-preserved : goal.loop-digest-preserved
loop-digest-preserved c =
    let i = c.loop-digest.digest-index in
    let ds = c.args.digests.now in
    let d = c.digest-item.result in
    let more : take (i + 1) ds ≡ take i ds ++ d ∷ [] = take_more ds i d c.loop-digest-test.true ∙ ap (λ x. take i ds ++ x ∷ []) (sym c.digest-item.is) in
    c.in_ok-append.ensures.ok
    ∙ ap (λ xs. xs ++ c.as_bytes.result.now) c.loop-digest.invariant
    ∙ ap (λ x. concat (take i ds) ++ x) (c.as_bytes.ensures.value ∙ sym (append-nil d))
    ∙ sym (concat-append (take i ds) (d ∷ []))
    ∙ sym (ap concat more)

pub returns-clause-ok : goal.returns-clause-ok
returns-clause-ok c = c.loop-digest.invariant ∙ ap concat (take_all c.loop-digest.digest-index c.args.digests.now c.loop-digest-test.false)
