use Rattle.std.proofs.Common.{◌≡◌, ◌+◌, ◌-◌, ◌*◌, ◌≤◌, ◌++◌, ℕ, true, false, List, length, replicate, refl, sym, ap, ◌∙◌, arith, subst}
use Rattle.std.specs.Prelude.{slice_index}
use Rattle.std.proofs.lemmas.List.{get_or-replicate}
use Rattle.std.proofs.lemmas.Result.{err_from_is_err_and}
use Rattle.block_device.specs.Call.{DeviceDoes}
use Rattle.fec_area.specs.Asking.{kept_at, sectors_on_data, sectors_on_hash, sum_to}
use Rattle.fec_area.specs.Given.{gathered, kept_index_at}
use Rattle.fec_area.specs.Layouts.{codeword}
use Rattle.fec_area.specs.Rounds.{AreProductsAdded, AreRestored}
use Rattle.fec_area.proofs.AskingLemmas.{asked-all, both-some, places-more, places-none}
use Rattle.fec_area.proofs.CallLemmas.{counted-behind, counted-unfailed, read-none, read-then, unfailed-none, unfailed-then, one_failed-then, laid-then, never-then, image-then}
use Rattle.fec_area.proofs.GivenLemmas.{all-none, all-then, first-then, gathered-next, gathered-none, gathered-rest, gives-weaker}
use Rattle.fec_area.proofs.PlaceLemmas.{place-fits, products-added}
use Rattle.fec_area.proofs.RoundLemmas.{AreSummed, column-more, message-more, summed-none, summed-restored}
use Rattle.fec_area.proofs.SumLemmas.{sum-le}
use Rattle.fec_area.proofs.round.restore_blocks.Goals as goal

pub loop-place-init : goal.loop-place-init
loop-place-init g c =
    let l = c.args.gap.now.code.layout.now in
    let sums = c.fill.new.self in
    let zeros : sums ≡ replicate (length c.args.sums.now) 0 = c.fill.ensures.after (λ y h. h) in
    let asks = DeviceDoes g.D.BlockDev.state g.D.BlockDev.does in
    let does = DeviceDoes g.H.BlockDev.state g.H.BlockDev.does in
    let n = length c.args.gap.now.places.now in
    let products = c.args.gap.now.code.products.now in
    let word = λ (x y : List (List ℕ)) (c' : ℕ). slice_index (codeword l x y c.args.gap.now.round c.args.parity.now c') in
    let f = kept_index_at l c.args.gap.now.round c.args.gap.now.places.now in
    record {
      given = all-none asks does l (gathered f 0) (gathered-none f) (λ x y. AreSummed (word x y) n products sums 0)
          (λ x y. summed-none (word x y) n products sums (λ m lt. ap (λ xs. slice_index xs m) zeros ∙ get_or-replicate {A = ℕ} (length c.args.sums.now) m 0 0 (omega (arith, lt, c.fill.ensures.len)))) c.args.data_dev.now c.args.hash_dev.now;
      read = read-none (g.D.BlockDev.state c.args.data_dev.now) (g.H.BlockDev.state c.args.hash_dev.now);
      unfailed = unfailed-none (g.D.BlockDev.state c.args.data_dev.now) (g.H.BlockDev.state c.args.hash_dev.now);
      sums = λ one other. summed-none (λ c'. slice_index (codeword c.args.gap.now.code.layout.now (g.D.BlockDev.state c.args.data_dev.now).image (g.H.BlockDev.state c.args.hash_dev.now).image c.args.gap.now.round c.args.parity.now c')) (length c.args.gap.now.places.now) c.args.gap.now.code.products.now sums (λ m lt. ap (λ xs. slice_index xs m) zeros ∙ get_or-replicate {A = ℕ} (length c.args.sums.now) m 0 0 (omega (arith, lt, c.fill.ensures.len)));
      asked = places-none (kept_at (sectors_on_data l) l c.args.gap.now.round c.args.gap.now.places.now) (kept_at (sectors_on_hash l) l c.args.gap.now.round c.args.gap.now.places.now) (g.D.BlockDev.state c.args.data_dev.now) (g.H.BlockDev.state c.args.hash_dev.now);
    }

pub add_kept-requires-clause-can : goal.add_kept-requires-clause-can
add_kept-requires-clause-can g c =
    let valid = c.requires.laid.layout in
    record {
      can = record {
        laid = laid-then c.args.gap.now.code.layout.now c.loop-place.invariant.read c.requires.laid;
        few = omega (arith, c.requires.enough, valid.few, c.requires.count_is);
        products_are = c.requires.products_are.len ∙ ap (λ n. 255 * n) (sym c.requires.count_is);
        round_is = c.requires.round_is;
        block_is = c.loop-place.auto.block ∙ c.requires.block_is;
        sums_are = c.loop-place.auto.sums ∙ c.fill.ensures.len ∙ c.requires.sums_are ∙ ap (λ n. c.args.gap.now.code.layout.now.block * n) (sym c.requires.count_is);
      };
      count_is = c.requires.count_is;
      products_are = c.requires.products_are;
    }

pub loop-place-preserved : goal.loop-place-preserved
loop-place-preserved g c =
    let l = c.args.gap.now.code.layout.now in
    let here = c.loop-place.invariant in
    let old = c.loop-place.sums in
    let new = c.add_kept.new.sums in
    let products = c.args.gap.now.code.products.now in
    let n = length c.args.gap.now.places.now in
    let place = c.loop-place.place in
    let a = g.D.BlockDev.state c.args.data_dev.now in
    let b = g.H.BlockDev.state c.args.hash_dev.now in
    let added = image-then here.read (λ (x y : List (List ℕ)). AreProductsAdded l x y n products c.args.gap.now.round place old new) c.in_ok-add_kept.ensures.added in
    let at = λ (f : ℕ → ℕ). kept_at f l c.args.gap.now.round c.args.gap.now.places.now in
    let asks = DeviceDoes g.D.BlockDev.state g.D.BlockDev.does in
    let does = DeviceDoes g.H.BlockDev.state g.H.BlockDev.does in
    let round = c.args.gap.now.round in
    let parity = c.args.parity.now in
    let word = λ (x y : List (List ℕ)) (c' : ℕ). slice_index (codeword l x y round parity c') in
    let f = kept_index_at l round c.args.gap.now.places.now in
    record {
      given =
          all-then asks does l (gathered f place) (f place) (gathered f (place + 1)) (gathered-next f place) (λ x y. AreSummed (word x y) n products old place) (λ x y. AreProductsAdded l x y n products round place old new)
          (λ x y. AreSummed (word x y) n products new (place + 1)) (λ x y known more. message-more l x y products round parity n place old new c.loop-place-test.true c.add_kept.auto.sums more known)
          c.args.data_dev.now c.args.hash_dev.now c.loop-place.data_dev c.loop-place.hash_dev c.add_kept.new.data_dev c.add_kept.new.hash_dev here.given c.in_ok-add_kept.ensures.given;
      read = read-then here.read c.add_kept.ensures.read;
      unfailed = unfailed-then here.unfailed c.in_ok-add_kept.ensures.ok;
      sums = λ one other. message-more l a.image b.image products c.args.gap.now.round c.args.parity.now n place old new c.loop-place-test.true c.add_kept.auto.sums (added one other) (here.sums one other);
      asked = places-more (at (sectors_on_data l)) (at (sectors_on_hash l)) place here.asked c.add_kept.ensures.asks;
    }

pub returns-in_err-add_kept-clause-read : goal.returns-in_err-add_kept-clause-read
returns-in_err-add_kept-clause-read g c = read-then c.loop-place.invariant.read c.add_kept.ensures.read

pub returns-in_err-add_kept-clause-err : goal.returns-in_err-add_kept-clause-err
returns-in_err-add_kept-clause-err g c =
    let p = err_from_is_err_and c.from_residual.result c.from_residual.ensures.1 in
    rw p.1 (one_failed-then (g.D.BlockDev.state c.args.data_dev.now) (g.H.BlockDev.state c.args.hash_dev.now) (g.D.BlockDev.state c.loop-place.data_dev) (g.H.BlockDev.state c.loop-place.hash_dev) (g.D.BlockDev.state c.add_kept.new.data_dev) (g.H.BlockDev.state c.add_kept.new.hash_dev) c.loop-place.invariant.unfailed c.in_err-add_kept.ensures.err)

pub returns-in_err-add_kept-clause-asks : goal.returns-in_err-add_kept-clause-asks
returns-in_err-add_kept-clause-asks g c =
    let l = c.args.gap.now.code.layout.now in
    let p = err_from_is_err_and c.from_residual.result c.from_residual.ensures.1 in
    let place = c.loop-place.place in
    let m : ℕ = 255 - l.roots in
    let on_data = kept_at (sectors_on_data l) l c.args.gap.now.round c.args.gap.now.places.now in
    let on_hash = kept_at (sectors_on_hash l) l c.args.gap.now.round c.args.gap.now.places.now in
    let within : place + 1 ≤ m = omega (arith, c.loop-place-test.true) in
    rw p.1 (both-some (sum_to on_data (place + 1)) (sum_to on_hash (place + 1)) (sum_to on_data m) (sum_to on_hash m) false (sum-le on_data (place + 1) m within) (sum-le on_hash (place + 1) m within) refl
    (places-more on_data on_hash place c.loop-place.invariant.asked c.add_kept.ensures.asks))

pub returns-clause-asks : goal.returns-clause-asks
returns-clause-asks g c =
    let l = c.args.gap.now.code.layout.now in
    let here = c.loop-place.invariant in
    let place = c.loop-place.place in
    let m : ℕ = 255 - l.roots in
    let on_data = kept_at (sectors_on_data l) l c.args.gap.now.round c.args.gap.now.places.now in
    let on_hash = kept_at (sectors_on_hash l) l c.args.gap.now.round c.args.gap.now.places.now in
    let end : place ≡ m = omega (arith, c.loop-place-test.false, c.loop-place.auto.place-end) in (
      asked-all (sum_to on_data place) (sum_to on_data m) true (ap (λ n. sum_to on_data n) end) here.read.data_read here.unfailed.data_kept here.asked.of_data,
      asked-all (sum_to on_hash place) (sum_to on_hash m) true (ap (λ n. sum_to on_hash n) end) here.read.hash_read here.unfailed.hash_kept here.asked.of_hash,
    )

pub loop-k-init : goal.loop-k-init
loop-k-init g c =
    let l = c.args.gap.now.code.layout.now in
    let a = g.D.BlockDev.state c.args.data_dev.now in
    let b = g.H.BlockDev.state c.args.hash_dev.now in
    let word = λ (x y : List (List ℕ)) (c' : ℕ). slice_index (codeword l x y c.args.gap.now.round c.args.parity.now c') in
    let n = length c.args.gap.now.places.now in
    let products = c.args.gap.now.code.products.now in
    let end : c.loop-place.place ≡ 255 - l.roots + 0 = omega (arith, c.loop-place-test.false, c.loop-place.auto.place-end) in
    let none : 255 - l.roots ≡ 255 - l.roots + 0 = omega arith in
    record {
      sums = λ one other. subst (λ (j : ℕ). AreSummed (word a.image b.image) n products c.loop-place.sums j) end (c.loop-place.invariant.sums one other);
      more = λ x y known. subst (λ (j : ℕ). AreSummed (word x y) n products c.loop-place.sums j) none known;
    }

pub loop-k-preserved : goal.loop-k-preserved
loop-k-preserved g c =
    let l = c.args.gap.now.code.layout.now in
    let a = g.D.BlockDev.state c.args.data_dev.now in
    let b = g.H.BlockDev.state c.args.hash_dev.now in
    let few = c.requires.laid.layout.few in
    let products = c.args.gap.now.code.products.now in
    let n = length c.args.gap.now.places.now in
    let k = c.loop-k.k in
    let block = c.take_column.new.column in
    let old = c.loop-k.sums in
    let new = c.add_products.new.sums in
    let size : length new ≡ length old = c.add_products.auto.sums in
    let all : length new ≡ l.block * n = size ∙ c.loop-k.auto.sums ∙ c.loop-place.auto.sums ∙ c.fill.ensures.len ∙ c.requires.sums_are in
    let long : length block ≡ l.block = c.take_column.auto.column ∙ c.loop-k.auto.block ∙ c.loop-place.auto.block ∙ c.requires.block_is in
    let first : ℕ = (255 - l.roots + k) * n in
    let last : first + n ≤ 255 * n = place-fits (255 - l.roots + k) n (omega (arith, few, c.loop-k-test.true)) in
    let fits : first + n ≤ length products = omega (arith, last, c.requires.products_are.len) in
    let added = products-added products block old new n first l.block fits all c.add_products.ensures in
    record {
      sums = λ one other. column-more l a.image b.image products c.args.gap.now.round c.args.parity.now n k block old new (omega (arith, few)) c.loop-k-test.true size long all c.take_column.ensures added (c.loop-k.invariant.sums one other);
      more = λ x y known. column-more l x y products c.args.gap.now.round c.args.parity.now n k block old new (omega (arith, few)) c.loop-k-test.true size long all c.take_column.ensures added (c.loop-k.invariant.more x y known);
    }

pub returns-clause-restored : goal.returns-clause-restored
returns-clause-restored g c one other =
    let l = c.args.gap.now.code.layout.now in
    let valid = c.requires.laid.layout in
    let few = valid.few in
    let a = g.D.BlockDev.state c.args.data_dev.now in
    let b = g.H.BlockDev.state c.args.hash_dev.now in
    summed-restored l a.image b.image c.args.gap.now.code.products.now c.args.gap.now.round c.args.parity.now c.args.gap.now.places.now c.loop-k.sums (255 - l.roots + c.loop-k.k) valid c.requires.products_are c.requires.lost_are c.requires.enough
    (c.loop-k.auto.sums ∙ c.loop-place.auto.sums ∙ c.fill.ensures.len ∙ c.requires.sums_are) (omega (arith, few, c.loop-k-test.false, c.loop-k.auto.k-end)) (c.loop-k.invariant.sums one other)

pub slice_bounds-add_products-end : goal.slice_bounds-add_products-end
slice_bounds-add_products-end g c =
    let l = c.args.gap.now.code.layout.now in
    let last = place-fits (255 - l.roots + c.loop-k.k) (length c.args.gap.now.places.now) (omega (arith, c.requires.laid.layout.few, c.loop-k-test.true)) in
    omega (arith, last, c.requires.products_are.len)

pub returns-in_err-add_kept-clause-sure : goal.returns-in_err-add_kept-clause-sure
returns-in_err-add_kept-clause-sure g c never =
    let p = err_from_is_err_and c.from_residual.result c.from_residual.ensures.1 in
    rw p.1 (c.in_err-add_kept.ensures.sure (never-then c.loop-place.invariant.read never))

pub returns-in_err-add_kept-clause-counted : goal.returns-in_err-add_kept-clause-counted
returns-in_err-add_kept-clause-counted g c = counted-behind c.loop-place.invariant.unfailed c.add_kept.ensures.counted

pub returns-clause-counted : goal.returns-clause-counted
returns-clause-counted g c = counted-unfailed c.loop-place.invariant.unfailed

pub returns-in_err-add_kept-clause-given : goal.returns-in_err-add_kept-clause-given
returns-in_err-add_kept-clause-given g c =
    let p = err_from_is_err_and c.from_residual.result c.from_residual.ensures.1 in
    let asks = DeviceDoes g.D.BlockDev.state g.D.BlockDev.does in
    let does = DeviceDoes g.H.BlockDev.state g.H.BlockDev.does in
    let l = c.args.gap.now.code.layout.now in
    let place = c.loop-place.place in
    let m : ℕ = 255 - l.roots in
    let f = kept_index_at l c.args.gap.now.round c.args.gap.now.places.now in
    let word = λ (x y : List (List ℕ)) (c' : ℕ). slice_index (codeword l x y c.args.gap.now.round c.args.parity.now c') in
    let rest = gathered-rest f (place + 1) m (omega (arith, c.loop-place-test.true)) in
    rw p.1
    (first-then asks does l (gathered f place) (f place) (gathered f m) rest.0 (rest.1 ∙ ap (λ (js : List ℕ). js ++ rest.0) (sym (gathered-next f place)))
    (λ x y. AreSummed (word x y) (length c.args.gap.now.places.now) c.args.gap.now.code.products.now c.loop-place.sums place)
    c.args.data_dev.now c.args.hash_dev.now c.loop-place.data_dev c.loop-place.hash_dev c.add_kept.new.data_dev c.add_kept.new.hash_dev c.loop-place.invariant.given c.in_err-add_kept.ensures.given)

pub returns-clause-given : goal.returns-clause-given
returns-clause-given g c =
    let asks = DeviceDoes g.D.BlockDev.state g.D.BlockDev.does in
    let does = DeviceDoes g.H.BlockDev.state g.H.BlockDev.does in
    let l = c.args.gap.now.code.layout.now in
    let valid = c.requires.laid.layout in
    let few = valid.few in
    let round = c.args.gap.now.round in
    let parity = c.args.parity.now in
    let places = c.args.gap.now.places.now in
    let products = c.args.gap.now.code.products.now in
    let place = c.loop-place.place in
    let m : ℕ = 255 - l.roots in
    let f = kept_index_at l round places in
    let word = λ (x y : List (List ℕ)) (c' : ℕ). slice_index (codeword l x y round parity c') in
    let end : place ≡ m = omega (arith, c.loop-place-test.false, c.loop-place.auto.place-end) in
    gives-weaker asks does l (gathered f place) (gathered f m) (ap (λ n. gathered f n) end) (λ x y. AreSummed (word x y) (length places) products c.loop-place.sums place) (λ x y. AreRestored l x y round parity places c.loop-k.sums)
    (λ x y known.
    summed-restored l x y products round parity places c.loop-k.sums (255 - l.roots + c.loop-k.k) valid c.requires.products_are c.requires.lost_are c.requires.enough
    (c.loop-k.auto.sums ∙ c.loop-place.auto.sums ∙ c.fill.ensures.len ∙ c.requires.sums_are) (omega (arith, few, c.loop-k-test.false, c.loop-k.auto.k-end))
    (c.loop-k.invariant.more x y (subst (λ (j : ℕ). AreSummed (word x y) (length places) products c.loop-place.sums j) end known)))
    c.args.data_dev.now c.args.hash_dev.now c.loop-place.data_dev c.loop-place.hash_dev true c.loop-place.invariant.given
