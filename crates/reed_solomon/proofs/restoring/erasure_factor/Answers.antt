use Rattle.std.proofs.Common.{◌≡◌, length, sym, ap, ◌∙◌, arith}
use Rattle.reed_solomon.specs.Field.{field_product}
use Rattle.reed_solomon.specs.Factors.{erasure_factor}
use Rattle.reed_solomon.specs.Restoring.{weight}
use Rattle.reed_solomon.proofs.CodeLemmas.{weight_place}
use Rattle.reed_solomon.proofs.lemmas.ErasureLemmas.{factor-other, factor-own, inverse-is}
use Rattle.reed_solomon.proofs.restoring.erasure_factor.Goals as goal

pub inverse-requires : goal.inverse-requires
inverse-requires c none = weight_place c.args.lost.now c.args.place (length c.args.lost.now) c.requires.place_in_word c.requires.lost_in_word (sym c.weight-2.ensures ∙ none)

pub returns-then-i-place : goal.returns-then-i-place
returns-then-i-place c = sym (ap (λ j. erasure_factor c.args.lost.now c.args.place j) c.if-i-place.true ∙ factor-own c.args.lost.now c.args.place)

pub returns : goal.returns
returns c =
    let lost = c.args.lost.now in
    let own = weight lost c.args.place (length lost) c.args.place in
    let one : field_product own c.inverse.result ≡ 1 = ap (λ x. field_product x c.inverse.result) (sym c.weight-2.ensures) ∙ c.inverse.ensures in
    let scale = inverse-is own c.inverse.result (omega arith) one in
    cc (c.multiply.ensures, c.weight.ensures, scale, factor-other lost c.args.place c.args.i c.if-i-place.false)
