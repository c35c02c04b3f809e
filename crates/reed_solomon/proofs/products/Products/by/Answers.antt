use Rattle.std.proofs.Common.{◌≡◌, sym, ap, ◌∙◌, arith, get_or, inl, inr}
use Rattle.std.specs.Prelude.{slice_set}
use Rattle.std.proofs.lemmas.Bool.Decides.{eqb_tells}
use Rattle.std.proofs.lemmas.List.{get_or-set_same, get_or-set_other, length-set}
use Rattle.reed_solomon.specs.Field.{field_product}
use Rattle.reed_solomon.proofs.FieldLemmas.{product_one_r}
use Rattle.reed_solomon.proofs.products.Products.by.Goals as goal

pub loop-byte-preserved : goal.loop-byte-preserved
loop-byte-preserved c =
    let at = c.loop-byte.byte in
    let known = c.loop-byte.invariant in (
      length-set c.loop-byte.of at c.multiply.result ∙ known.0,
      λ b h. elim (eqb_tells b at) [
        | inl e ↦
            ap (λ k. get_or (slice_set c.loop-byte.of at c.multiply.result) k 0) e.1
            ∙ get_or-set_same c.loop-byte.of at c.multiply.result 0 (omega (arith, known.0, c.loop-byte-test.true))
            ∙ c.multiply.ensures
            ∙ ap (λ k. field_product c.args.factor k) (sym e.1)
        | inr e ↦
            let apart = e.1 in
            get_or-set_other c.loop-byte.of at b c.multiply.result 0 e.1 ∙ known.1 b (omega (arith, h, apart))
      ],
    )

pub invariant_of-result : goal.invariant_of-result
invariant_of-result c b h =
    let all = c.loop-byte.invariant.1 in
    let one : get_or c.loop-byte.of 1 0 ≡ c.args.factor = all 1 (omega (arith, c.loop-byte-test.false)) ∙ product_one_r c.args.factor c.ranges.factor.fits in
    all b (omega (arith, h, c.loop-byte-test.false)) ∙ ap (λ f. field_product f b) (sym one)

pub returns : goal.returns
returns c = c.loop-byte.invariant.1 1 (omega (arith, c.loop-byte-test.false)) ∙ product_one_r c.args.factor c.ranges.factor.fits
