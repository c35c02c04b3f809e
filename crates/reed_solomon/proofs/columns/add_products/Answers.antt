use Rattle.std.proofs.Common.{◌≡◌, ◌+◌, ◌*◌, ◌/◌, ◌%◌, ◌<◌, ℕ, length, arith, subst, bit_xor}
use Rattle.std.specs.Prelude.{slice_index, slice_set}
use Rattle.std.proofs.lemmas.List.{get_or_read}
use Rattle.reed_solomon.specs.Field.{field_product}
use Rattle.reed_solomon.proofs.ColumnLemmas.{AreAdded, added-more, meet, term-at}
use Rattle.reed_solomon.proofs.columns.add_products.Goals as goal

pub loop-k-preserved : goal.loop-k-preserved
loop-k-preserved c =
    let products = c.args.products.now in
    let bytes = c.args.bytes.now in
    let n = length products in
    let i = c.loop-c.c in
    let k = c.loop-k.k in
    let at = i * n + k in
    let inside : at < length bytes * n = meet n i k (length bytes) c.loop-k-test.true c.loop-c-test.true in
    let fits : at < length c.loop-k.sums = omega (arith, inside, c.loop-k.auto.sums, c.requires) in
    let found : c.index-products-k.result ≡ slice_index products k = get_or_read products k c.index-products-k.result c.loop-k-test.true c.index-products-k.is 0 in
    let value : c.times.result ≡ field_product (slice_index products (at % n)) (slice_index bytes (at / n)) = cc (c.times.ensures, found, term-at products bytes i k c.loop-k-test.true) in
    let term = λ (m : ℕ). field_product (slice_index products (m % n)) (slice_index bytes (m / n)) in
    let after = slice_set c.loop-k.sums at (bit_xor (slice_index c.loop-k.sums at) c.times.result) in
    let next : at + 1 ≡ i * n + (k + 1) = omega arith in
    subst (λ (j : ℕ). AreAdded c.args.sums.now after term j) next (added-more c.args.sums.now c.loop-k.sums term at c.times.result fits value c.loop-k.invariant)
