use Rattle.std.proofs.Common.{◌≡◌, ◌∙◌, arith, subst}
use Rattle.std.specs.Prelude.{IfOk}
use Rattle.reed_solomon.specs.Factors.{AreProducts}
use Rattle.reed_solomon.proofs.ColumnLemmas.{ArePlaces, places-all}
use Rattle.reed_solomon.proofs.columns.parity_products.Goals as goal

pub returns-clause-ok : goal.returns-clause-ok
returns-clause-ok c =
    let items = c.loop-place.places.items in
    let done : c.loop-place.place ≡ 255 = omega (arith, c.loop-place-test.false, c.loop-place.auto.place-end) in
    let all = places-all c.args.parity items c.requires (subst (λ j. ArePlaces c.args.parity items j) done c.loop-place.invariant) in
    subst (λ xs. IfOk c.restoring_products.result (λ v. AreProducts xs v.items)) (c.deref.ensures.value ∙ all) c.restoring_products.ensures.ok
