use Rattle.std.proofs.Common.{◌≡◌, ◌+◌, ◌-◌, ◌*◌, ◌/◌, ◌++◌, ℕ, true, IsTrue, List, length, replicate, subst, sym, ap, ◌∙◌, arith}
use Rattle.std.specs.Prelude.{slice_index}
use Rattle.std.proofs.lemmas.List.{get_or-replicate}
use Rattle.std.proofs.lemmas.List.FromFn.{length-range_with_len}
use Rattle.std.proofs.lemmas.Result.{err_from_is_err_and}
use Rattle.block_device.specs.Call.{DeviceDoes}
use Rattle.fec_area.specs.Given.{gathered, index_at}
use Rattle.fec_area.specs.Layouts.{IsParityOf, code_rounds, message_byte}
use Rattle.fec_area.specs.Rounds.{IsPlaceAdded}
use Rattle.fec_area.proofs.WithinLemmas.{within-least, within-more, within-none}
use Rattle.fec_area.proofs.CallLemmas.{counted-behind, counted-unfailed, read-none, read-then, unfailed-none, unfailed-then, one_failed-then, laid-then, image-then}
use Rattle.fec_area.proofs.GivenLemmas.{all-none, all-then, first-then, gathered-next, gathered-none, gathered-rest, gives-weaker}
use Rattle.fec_area.proofs.RoundLemmas.{AreBytes, AreSummed, summed-none, summed-more, summed-parity, bytes-more, round-swap}
use Rattle.fec_area.proofs.round.sum_parity.Goals as goal

pub loop-place-init : goal.loop-place-init
loop-place-init g c =
    let sums = c.fill.new.self in
    let zeros : sums ≡ replicate (length c.args.parity.now) 0 = c.fill.ensures.after (λ y h. h) in
    let asks = DeviceDoes g.D.BlockDev.state g.D.BlockDev.does in
    let does = DeviceDoes g.H.BlockDev.state g.H.BlockDev.does in
    let l = c.args.code.now.layout.now in
    let round = c.args.round in
    let products = c.args.code.now.products.now in
    let f = index_at l round in
    record {
      given = all-none asks does l (gathered f 0) (gathered-none f) (λ x y. AreSummed (message_byte l x y round) l.roots products sums 0 × AreBytes l x y round 0)
          (λ x y. (
            summed-none (message_byte l x y round) l.roots products sums (λ m lt. ap (λ xs. slice_index xs m) zeros ∙ get_or-replicate {A = ℕ} (length c.args.parity.now) m 0 0 (omega (arith, lt, c.fill.ensures.len))),
            λ i k lt. absurd (omega (arith, lt)),
          ))
          c.args.data_dev.now c.args.hash_dev.now;
      read = read-none (g.D.BlockDev.state c.args.data_dev.now) (g.H.BlockDev.state c.args.hash_dev.now);
      unfailed = unfailed-none (g.D.BlockDev.state c.args.data_dev.now) (g.H.BlockDev.state c.args.hash_dev.now);
      most = within-none (0 * (l.block / 512)) (g.D.BlockDev.state c.args.data_dev.now) (g.H.BlockDev.state c.args.hash_dev.now);
      sums = λ one other. summed-none (message_byte c.args.code.now.layout.now (g.D.BlockDev.state c.args.data_dev.now).image (g.H.BlockDev.state c.args.hash_dev.now).image c.args.round) c.args.code.now.layout.now.roots c.args.code.now.products.now sums (λ m lt. ap (λ xs. slice_index xs m) zeros ∙ get_or-replicate {A = ℕ} (length c.args.parity.now) m 0 0 (omega (arith, lt, c.fill.ensures.len)));
      bytes = λ one other i k lt. absurd (omega (arith, lt));
    }

pub add_place-requires-clause-can : goal.add_place-requires-clause-can
add_place-requires-clause-can g c =
    let l = c.args.code.now.layout.now in
    let valid = c.requires.can.laid.layout in
    record {
      laid = laid-then l c.loop-place.invariant.read c.requires.can.laid;
      few = omega (arith, valid.few, c.requires.can.count_is);
      products_are = c.requires.can.products_are.len ∙ ap (λ n. 255 * n) (length-range_with_len (255 - l.roots) l.roots ∙ sym c.requires.can.count_is);
      round_is = c.requires.round;
      block_is = c.loop-place.auto.block ∙ c.requires.can.block_is;
      sums_are = c.loop-place.auto.parity ∙ c.fill.ensures.len ∙ c.requires.can.parity_is ∙ sym (round-swap l) ∙ ap (λ n. l.block * n) (sym c.requires.can.count_is);
    }

pub loop-place-preserved : goal.loop-place-preserved
loop-place-preserved g c =
    let l = c.args.code.now.layout.now in
    let here = c.loop-place.invariant in
    let old = c.loop-place.parity in
    let new = c.add_place.new.sums in
    let products = c.args.code.now.products.now in
    let place = c.loop-place.place in
    let a = g.D.BlockDev.state c.args.data_dev.now in
    let b = g.H.BlockDev.state c.args.hash_dev.now in
    let counted = image-then here.read (λ (x y : List (List ℕ)). IsPlaceAdded l x y c.args.code.now.count products c.args.round place old new) c.in_ok-add_place.ensures.added in
    let added : IsTrue a.steady → IsTrue b.steady → IsPlaceAdded l a.image b.image l.roots products c.args.round place old new
    = λ one other. subst (λ (n : ℕ). IsPlaceAdded l a.image b.image n products c.args.round place old new) c.requires.can.count_is (counted one other) in
    let asks = DeviceDoes g.D.BlockDev.state g.D.BlockDev.does in
    let does = DeviceDoes g.H.BlockDev.state g.H.BlockDev.does in
    let round = c.args.round in
    let f = index_at l round in
    record {
      given =
          all-then asks does l (gathered f place) (f place) (gathered f (place + 1)) (gathered-next f place) (λ x y. AreSummed (message_byte l x y round) l.roots products old place × AreBytes l x y round place)
          (λ x y. IsPlaceAdded l x y c.args.code.now.count products round place old new) (λ x y. AreSummed (message_byte l x y round) l.roots products new (place + 1) × AreBytes l x y round (place + 1))
          (λ x y known more. (
            summed-more (message_byte l x y round) l.roots products old new place c.add_place.auto.sums (subst (λ (n : ℕ). IsPlaceAdded l x y n products round place old new) c.requires.can.count_is more).sums known.0,
            bytes-more l x y round place more.bytes known.1,
          ))
          c.args.data_dev.now c.args.hash_dev.now c.loop-place.data_dev c.loop-place.hash_dev c.add_place.new.data_dev c.add_place.new.hash_dev here.given c.in_ok-add_place.ensures.given;
      read = read-then here.read c.add_place.ensures.read;
      unfailed = unfailed-then here.unfailed c.in_ok-add_place.ensures.ok;
      most = within-more l (place * code_rounds l + round) place here.most c.add_place.ensures.asks;
      sums = λ one other. summed-more (message_byte l a.image b.image c.args.round) l.roots products old new place c.add_place.auto.sums (added one other).sums (here.sums one other);
      bytes = λ one other. bytes-more l a.image b.image c.args.round place (added one other).bytes (here.bytes one other);
    }

pub returns-in_err-add_place-clause-read : goal.returns-in_err-add_place-clause-read
returns-in_err-add_place-clause-read g c = read-then c.loop-place.invariant.read c.add_place.ensures.read

pub returns-in_err-add_place-clause-most : goal.returns-in_err-add_place-clause-most
returns-in_err-add_place-clause-most g c =
    let l = c.args.code.now.layout.now in
    let place = c.loop-place.place in
    within-least (place + 1) (255 - l.roots) (l.block / 512) (omega (arith, c.loop-place-test.true, c.loop-place.auto.place-end)) (within-more l (place * code_rounds l + c.args.round) place c.loop-place.invariant.most c.add_place.ensures.asks)

pub returns-clause-most : goal.returns-clause-most
returns-clause-most g c =
    let l = c.args.code.now.layout.now in
    within-least c.loop-place.place (255 - l.roots) (l.block / 512) (omega (arith, c.loop-place-test.false, c.loop-place.auto.place-end)) c.loop-place.invariant.most

pub returns-in_err-add_place-clause-counted : goal.returns-in_err-add_place-clause-counted
returns-in_err-add_place-clause-counted g c = counted-behind c.loop-place.invariant.unfailed c.add_place.ensures.counted

pub returns-clause-counted : goal.returns-clause-counted
returns-clause-counted g c = counted-unfailed c.loop-place.invariant.unfailed

pub returns-in_err-add_place-clause-err : goal.returns-in_err-add_place-clause-err
returns-in_err-add_place-clause-err g c =
    let p = err_from_is_err_and c.from_residual.result c.from_residual.ensures.1 in
    rw p.1 (one_failed-then (g.D.BlockDev.state c.args.data_dev.now) (g.H.BlockDev.state c.args.hash_dev.now) (g.D.BlockDev.state c.loop-place.data_dev) (g.H.BlockDev.state c.loop-place.hash_dev) (g.D.BlockDev.state c.add_place.new.data_dev) (g.H.BlockDev.state c.add_place.new.hash_dev) c.loop-place.invariant.unfailed c.in_err-add_place.ensures.err)

pub returns-clause-parity : goal.returns-clause-parity
returns-clause-parity g c one other =
    let l = c.args.code.now.layout.now in
    let here = c.loop-place.invariant in
    let a = g.D.BlockDev.state c.args.data_dev.now in
    let b = g.H.BlockDev.state c.args.hash_dev.now in
    summed-parity l a.image b.image c.args.code.now.products.now c.args.round c.loop-place.parity c.loop-place.place c.requires.can.laid.layout c.requires.can.products_are
    (c.loop-place.auto.parity ∙ c.fill.ensures.len ∙ c.requires.can.parity_is) (omega (arith, c.loop-place-test.false, c.loop-place.auto.place-end)) (here.bytes one other) (here.sums one other)

pub returns-in_err-add_place-clause-given : goal.returns-in_err-add_place-clause-given
returns-in_err-add_place-clause-given g c =
    let p = err_from_is_err_and c.from_residual.result c.from_residual.ensures.1 in
    let asks = DeviceDoes g.D.BlockDev.state g.D.BlockDev.does in
    let does = DeviceDoes g.H.BlockDev.state g.H.BlockDev.does in
    let l = c.args.code.now.layout.now in
    let round = c.args.round in
    let place = c.loop-place.place in
    let m : ℕ = 255 - l.roots in
    let f = index_at l round in
    let rest = gathered-rest f (place + 1) m (omega (arith, c.loop-place-test.true, c.loop-place.auto.place-end)) in
    rw p.1
    (first-then asks does l (gathered f place) (f place) (gathered f m) rest.0 (rest.1 ∙ ap (λ (js : List ℕ). js ++ rest.0) (sym (gathered-next f place)))
    (λ x y. AreSummed (message_byte l x y round) l.roots c.args.code.now.products.now c.loop-place.parity place × AreBytes l x y round place)
    c.args.data_dev.now c.args.hash_dev.now c.loop-place.data_dev c.loop-place.hash_dev c.add_place.new.data_dev c.add_place.new.hash_dev c.loop-place.invariant.given c.in_err-add_place.ensures.given)

pub returns-clause-given : goal.returns-clause-given
returns-clause-given g c =
    let asks = DeviceDoes g.D.BlockDev.state g.D.BlockDev.does in
    let does = DeviceDoes g.H.BlockDev.state g.H.BlockDev.does in
    let l = c.args.code.now.layout.now in
    let round = c.args.round in
    let products = c.args.code.now.products.now in
    let place = c.loop-place.place in
    let m : ℕ = 255 - l.roots in
    let f = index_at l round in
    let end : place ≡ m = omega (arith, c.loop-place-test.false, c.loop-place.auto.place-end) in
    gives-weaker asks does l (gathered f place) (gathered f m) (ap (λ n. gathered f n) end)
    (λ x y. AreSummed (message_byte l x y round) l.roots products c.loop-place.parity place × AreBytes l x y round place) (λ x y. IsParityOf l x y round c.loop-place.parity)
    (λ x y known.
    summed-parity l x y products round c.loop-place.parity place c.requires.can.laid.layout c.requires.can.products_are (c.loop-place.auto.parity ∙ c.fill.ensures.len ∙ c.requires.can.parity_is) end known.1 known.0)
    c.args.data_dev.now c.args.hash_dev.now c.loop-place.data_dev c.loop-place.hash_dev true c.loop-place.invariant.given
