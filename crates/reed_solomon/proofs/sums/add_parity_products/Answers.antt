use Rattle.std.proofs.Common.{◌≡◌, ◌+◌, ◌*◌, ◌<◌, ℕ, length, sym, ap, ◌∙◌, arith}
use Rattle.std.specs.Prelude.{slice_index}
use Rattle.reed_solomon.specs.Field.{field_product, total}
use Rattle.reed_solomon.specs.Sums.{part_combination}
use Rattle.reed_solomon.proofs.CodeLemmas.{total-start, total-next}
use Rattle.reed_solomon.proofs.ColumnLemmas.{added-more}
use Rattle.reed_solomon.proofs.sums.add_parity_products.Goals as goal

pub loop-k-init : goal.loop-k-init
loop-k-init c = sym (total-start (λ k. field_product (slice_index c.args.factors.now k) (slice_index c.args.parity.now (c.loop-c.c * length c.args.factors.now + k))))

pub loop-k-preserved : goal.loop-k-preserved
loop-k-preserved c = cc (total-next (λ k. field_product (slice_index c.args.factors.now k) (slice_index c.args.parity.now (c.loop-c.c * length c.args.factors.now + k))) c.loop-k.k, c.loop-k.invariant, c.multiply-sum.ensures)

pub loop-c-preserved : goal.loop-c-preserved
loop-c-preserved c =
    let factors = c.args.factors.now in
    let products = λ (k : ℕ). field_product (slice_index factors k) (slice_index c.args.parity.now (c.loop-c.c * length factors + k)) in
    let done : c.loop-k.k ≡ length factors = omega arith in
    let value : c.loop-k.sum ≡ part_combination (slice_index factors) (length factors) c.args.parity.now c.loop-c.c = c.loop-k.invariant ∙ ap (λ n. total products n) done in
    let fits : c.loop-c.c < length c.loop-c.sums = omega (arith, c.loop-c-test.true, c.loop-c.auto.sums) in
    added-more c.args.sums.now c.loop-c.sums (part_combination (slice_index factors) (length factors) c.args.parity.now) c.loop-c.c c.loop-k.sum fits value c.loop-c.invariant
