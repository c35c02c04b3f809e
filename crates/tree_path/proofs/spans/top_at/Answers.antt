use Rattle.std.proofs.Common.{◌<◌, ◌^◌, ◌%◌, arith, ap, ◌∙◌}
use Rattle.tree_shape.specs.Shape.{per_block}
use Rattle.tree_shape.proofs.lemmas.ShapeLemmas.{pow_pos}
use Rattle.tree_path.proofs.lemmas.SpanLemmas.{top-here, top-more, whole-mod}
use Rattle.tree_path.proofs.spans.top_at.Goals as goal

pub returns-then-rest-per_block-ne0 : goal.returns-then-rest-per_block-ne0
returns-then-rest-per_block-ne0 c =
    let p = per_block c.args.shape.now in
    let some : 0 < p = omega (arith, c.per_block-per_block.ensures.many, c.per_block-per_block.ensures.value) in
    let is = rw c.per_block-per_block.ensures.value at c.levels.invariant.is in
    record {
      few = c.levels.invariant.few;
      begins = ap (λ n. n % p ^ c.levels.level) is ∙ whole-mod c.levels.rest (p ^ c.levels.level) (pow_pos p c.levels.level some);
      top = λ low. top-here p c.args.index c.levels.rest c.levels.level some is (rw c.per_block-per_block.ensures.value at c.if-rest-per_block-ne0.true);
    }

pub levels-preserved : goal.levels-preserved
levels-preserved c = record {
  is = top-more c.per_block-per_block.result c.args.index c.levels.rest c.levels.level (omega (arith, c.per_block-per_block.ensures.many)) c.levels.invariant.is c.if-rest-per_block-ne0.false;
  few = omega (arith, c.levels-test.true);
}

pub returns : goal.returns
returns c =
    let p = per_block c.args.shape.now in
    let some : 0 < p = omega (arith, c.per_block-per_block.ensures.many, c.per_block-per_block.ensures.value) in
    let is = rw c.per_block-per_block.ensures.value at c.levels.invariant.is in
    record {
      few = c.levels.invariant.few;
      begins = ap (λ n. n % p ^ c.levels.level) is ∙ whole-mod c.levels.rest (p ^ c.levels.level) (pow_pos p c.levels.level some);
      top = λ low. absurd (omega (arith, low, c.levels-test.false));
    }
