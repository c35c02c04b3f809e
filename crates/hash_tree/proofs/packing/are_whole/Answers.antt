use Rattle.std.proofs.Common.{◌≡◌, ◌+◌, ◌++◌, ◌∷◌, [], length, take, sym, ap, ◌∙◌, subst}
use Rattle.std.proofs.lemmas.List.{take_more, take_all}
use Rattle.std.proofs.lemmas.List.Elements.{All-push}
use Rattle.hash_tree.proofs.lemmas.PackingLemmas.{AllOf}
use Rattle.hash_tree.proofs.packing.are_whole.Goals as goal

pub loop-digest-preserved : goal.loop-digest-preserved
loop-digest-preserved c =
    let i = c.loop-digest.digest-index in
    let ds = c.args.digests.now in
    let d = c.digest-item.result in
    let more : take (i + 1) ds ≡ take i ds ++ d ∷ [] = take_more ds i d c.loop-digest-test.true ∙ ap (λ x. take i ds ++ x ∷ []) (sym c.digest-item.is) in
    let size : length d ≡ 32 = ap length (sym c.as_bytes-bytes.ensures.value) ∙ c.as_bytes-bytes.ensures.size in
    subst (AllOf 32) (sym more) (All-push (λ d. length d ≡ 32) (take i ds) d c.loop-digest.invariant size)

pub returns : goal.returns
returns c = subst (AllOf 32) (take_all c.loop-digest.digest-index c.args.digests.now c.loop-digest-test.false) c.loop-digest.invariant
