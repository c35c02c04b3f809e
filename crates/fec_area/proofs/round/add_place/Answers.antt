use Rattle.std.proofs.Common.{◌≡◌, ◌+◌, ◌*◌, ◌/◌, ◌%◌, ◌<◌, ◌≤◌, ℕ, true, false, length, subst, sym, ap, ◌∙◌, arith, bit_xor}
use Rattle.std.specs.Prelude.{slice_index}
use Rattle.std.proofs.lemmas.Result.{err_from_is_err_and}
use Rattle.block_device.specs.Call.{DeviceDoes}
use Rattle.reed_solomon.specs.Field.{field_product}
use Rattle.fec_area.specs.Given.{GivesBlock, index_at}
use Rattle.fec_area.specs.Layouts.{covered, covered_blocks, code_rounds}
use Rattle.fec_area.proofs.AskingLemmas.{asked-at, past-asked}
use Rattle.fec_area.specs.Rounds.{IsPlaceAdded}
use Rattle.fec_area.proofs.GivenLemmas.{all-none, all-one, first-one, index-here, index-past}
use Rattle.fec_area.proofs.PlaceLemmas.{place-fits, place-past, products-added}
use Rattle.fec_area.proofs.round.add_place.Goals as goal

pub returns-then-index-covered_blocks-clause-added : goal.returns-then-index-covered_blocks-clause-added
returns-then-index-covered_blocks-clause-added g c one other =
    let l = c.args.code.now.layout.now in
    let a = g.D.BlockDev.state c.args.data_dev.now in
    let b = g.H.BlockDev.state c.args.hash_dev.now in
    let index : c.args.place * c.rounds.result ≡ c.args.place * code_rounds l = ap (λ n. c.args.place * n) c.rounds.ensures.value in
    let past : covered_blocks l ≤ c.args.place * code_rounds l + c.args.round = omega (arith, c.if-index-covered_blocks.true, c.covered_blocks.ensures.value, index) in
    place-past l a.image b.image c.args.code.now.count c.args.code.now.products.now c.args.round c.args.place c.args.sums.now past

pub returns-then-index-covered_blocks-clause-asks : goal.returns-then-index-covered_blocks-clause-asks
returns-then-index-covered_blocks-clause-asks g c =
    let l = c.args.code.now.layout.now in
    let index : c.args.place * c.rounds.result ≡ c.args.place * code_rounds l = ap (λ n. c.args.place * n) c.rounds.ensures.value in
    past-asked l (c.args.place * code_rounds l + c.args.round) (g.D.BlockDev.state c.args.data_dev.now) (g.H.BlockDev.state c.args.hash_dev.now)
    (omega (arith, c.if-index-covered_blocks.true, c.covered_blocks.ensures.value, index))

pub returns-in_err-read_covered-clause-asks : goal.returns-in_err-read_covered-clause-asks
returns-in_err-read_covered-clause-asks g c =
    let l = c.args.code.now.layout.now in
    asked-at l (ap (λ n. c.args.place * n + c.args.round) c.rounds.ensures.value) c.read_covered.ensures.asks

pub returns-clause-asks : goal.returns-clause-asks
returns-clause-asks g c =
    let l = c.args.code.now.layout.now in
    asked-at l (ap (λ n. c.args.place * n + c.args.round) c.rounds.ensures.value) c.read_covered.ensures.asks

pub returns-clause-added : goal.returns-clause-added
returns-clause-added g c one other =
    let l = c.args.code.now.layout.now in
    let a = g.D.BlockDev.state c.args.data_dev.now in
    let b = g.H.BlockDev.state c.args.hash_dev.now in
    let products = c.args.code.now.products.now in
    let count = c.args.code.now.count in
    let place = c.args.place in
    let block = c.read_covered.new.block in
    let old = c.args.sums.now in
    let new = c.add_products.new.sums in
    let first : ℕ = place * count in
    let last : first + count ≤ 255 * count = place-fits place count (omega (arith, c.requires.place)) in
    let fits : first + count ≤ length products = omega (arith, last, c.requires.can.products_are) in
    let all : length new ≡ l.block * count = c.add_products.auto.sums ∙ c.requires.can.sums_are in
    let at : place * c.rounds.result + c.args.round ≡ place * code_rounds l + c.args.round = ap (λ n. place * n + c.args.round) c.rounds.ensures.value in
    let is : block ≡ covered l a.image b.image (place * code_rounds l + c.args.round) = c.in_ok-read_covered.ensures.bytes one other ∙ ap (λ j. covered l a.image b.image j) at in
    let added = products-added products block old new count first l.block fits all c.add_products.ensures in
    record {
      sums = λ m lt. added m lt ∙ ap (λ bytes. bit_xor (slice_index old m) (field_product (slice_index products (first + m % count)) (slice_index bytes (m / count)))) is;
      bytes = λ k. subst (λ bytes. slice_index bytes k < 256) is (c.read_covered.ensures.fits k);
    }

pub returns-in_err-read_covered-clause-sure : goal.returns-in_err-read_covered-clause-sure
returns-in_err-read_covered-clause-sure g c never =
    let p = err_from_is_err_and c.from_residual.result c.from_residual.ensures.1 in
    rw p.1 (c.in_err-read_covered.ensures.sure never)

pub returns-then-index-covered_blocks-clause-given : goal.returns-then-index-covered_blocks-clause-given
returns-then-index-covered_blocks-clause-given g c =
    let asks = DeviceDoes g.D.BlockDev.state g.D.BlockDev.does in
    let does = DeviceDoes g.H.BlockDev.state g.H.BlockDev.does in
    let l = c.args.code.now.layout.now in
    let count = c.args.code.now.count in
    let products = c.args.code.now.products.now in
    let index : c.args.place * c.rounds.result ≡ c.args.place * code_rounds l = ap (λ n. c.args.place * n) c.rounds.ensures.value in
    let past : covered_blocks l ≤ c.args.place * code_rounds l + c.args.round = omega (arith, c.if-index-covered_blocks.true, c.covered_blocks.ensures.value, index) in
    all-none asks does l (index_at l c.args.round c.args.place) (index-past l c.args.round c.args.place past) (λ x y. IsPlaceAdded l x y count products c.args.round c.args.place c.args.sums.now c.args.sums.now)
    (λ x y. place-past l x y count products c.args.round c.args.place c.args.sums.now past) c.args.data_dev.now c.args.hash_dev.now

pub returns-in_err-read_covered-clause-given : goal.returns-in_err-read_covered-clause-given
returns-in_err-read_covered-clause-given g c =
    let p = err_from_is_err_and c.from_residual.result c.from_residual.ensures.1 in
    let asks = DeviceDoes g.D.BlockDev.state g.D.BlockDev.does in
    let does = DeviceDoes g.H.BlockDev.state g.H.BlockDev.does in
    let l = c.args.code.now.layout.now in
    let place = c.args.place in
    let block = c.read_covered.new.block in
    let at : place * c.rounds.result + c.args.round ≡ place * code_rounds l + c.args.round = ap (λ n. place * n + c.args.round) c.rounds.ensures.value in
    let inside : place * code_rounds l + c.args.round < covered_blocks l = omega (arith, c.if-index-covered_blocks.false, c.covered_blocks.ensures.value, at) in
    rw p.1
    (first-one asks does l (index_at l c.args.round place) (place * code_rounds l + c.args.round) block (index-here l c.args.round place inside) c.args.data_dev.now c.args.hash_dev.now c.read_covered.new.data_dev c.read_covered.new.hash_dev
    (subst (λ (j : ℕ). GivesBlock asks does l j block c.args.data_dev.now c.args.hash_dev.now c.read_covered.new.data_dev c.read_covered.new.hash_dev false) at c.in_err-read_covered.ensures.given))

pub returns-clause-given : goal.returns-clause-given
returns-clause-given g c =
    let asks = DeviceDoes g.D.BlockDev.state g.D.BlockDev.does in
    let does = DeviceDoes g.H.BlockDev.state g.H.BlockDev.does in
    let l = c.args.code.now.layout.now in
    let products = c.args.code.now.products.now in
    let count = c.args.code.now.count in
    let place = c.args.place in
    let block = c.read_covered.new.block in
    let old = c.args.sums.now in
    let new = c.add_products.new.sums in
    let first : ℕ = place * count in
    let last : first + count ≤ 255 * count = place-fits place count (omega (arith, c.requires.place)) in
    let fits : first + count ≤ length products = omega (arith, last, c.requires.can.products_are) in
    let all : length new ≡ l.block * count = c.add_products.auto.sums ∙ c.requires.can.sums_are in
    let at : place * c.rounds.result + c.args.round ≡ place * code_rounds l + c.args.round = ap (λ n. place * n + c.args.round) c.rounds.ensures.value in
    let inside : place * code_rounds l + c.args.round < covered_blocks l = omega (arith, c.if-index-covered_blocks.false, c.covered_blocks.ensures.value, at) in
    let added = products-added products block old new count first l.block fits all c.add_products.ensures in
    all-one asks does l (index_at l c.args.round place) (place * code_rounds l + c.args.round) block (index-here l c.args.round place inside) (λ x y. IsPlaceAdded l x y count products c.args.round place old new)
    (λ x y held. record {
      sums = λ m lt. added m lt ∙ ap (λ bytes. bit_xor (slice_index old m) (field_product (slice_index products (first + m % count)) (slice_index bytes (m / count)))) (sym held);
      bytes = λ k. subst (λ bytes. slice_index bytes k < 256) (sym held) (c.read_covered.ensures.fits k);
    })
    c.args.data_dev.now c.args.hash_dev.now c.read_covered.new.data_dev c.read_covered.new.hash_dev
    (subst (λ (j : ℕ). GivesBlock asks does l j block c.args.data_dev.now c.args.hash_dev.now c.read_covered.new.data_dev c.read_covered.new.hash_dev true) at c.in_ok-read_covered.ensures.given)
