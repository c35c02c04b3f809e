use Rattle.std.proofs.Common.{◌∙◌, ℕ, length, sym, subst}
use Rattle.std.specs.Prelude.{is_ok}
use Rattle.std.proofs.lemmas.Result.{on_ok_weaker}
use Rattle.block_device.specs.Call.{DeviceDoes}
use Rattle.fec_area.specs.Given.{index_at, kept_index_at}
use Rattle.fec_area.specs.Rounds.{AreProductsAdded, IsPlaceAdded}
use Rattle.fec_area.proofs.AskingLemmas.{among-at, kept-asked, lost-asked}
use Rattle.fec_area.proofs.GivenLemmas.{all-none, gives-weaker, kept-lost, kept-other}
use Rattle.fec_area.proofs.PlaceLemmas.{place-lost}
use Rattle.fec_area.proofs.round.add_kept.Goals as goal

pub returns-then-is_lost-clause-added : goal.returns-then-is_lost-clause-added
returns-then-is_lost-clause-added g c one other =
    let l = c.args.gap.now.code.layout.now in
    let a = g.D.BlockDev.state c.args.data_dev.now in
    let b = g.H.BlockDev.state c.args.hash_dev.now in
    let places = c.args.gap.now.places.now in
    let found = among-at places c.args.place (sym c.is_lost.ensures ∙ c.if-is_lost.true) in
    place-lost l a.image b.image places c.args.gap.now.code.products.now c.args.gap.now.round c.args.place found.0 c.args.sums.now c.requires.can.products_are found.1.0 found.1.1

pub returns-then-is_lost-clause-asks : goal.returns-then-is_lost-clause-asks
returns-then-is_lost-clause-asks g c =
    lost-asked c.args.gap.now.code.layout.now c.args.gap.now.round c.args.gap.now.places.now c.args.place (g.D.BlockDev.state c.args.data_dev.now) (g.H.BlockDev.state c.args.hash_dev.now) (sym c.is_lost.ensures ∙ c.if-is_lost.true)

pub returns-clause-added : goal.returns-clause-added
returns-clause-added g c =
    let l = c.args.gap.now.code.layout.now in
    let a = g.D.BlockDev.state c.args.data_dev.now in
    let b = g.H.BlockDev.state c.args.hash_dev.now in
    let products = c.args.gap.now.code.products.now in
    let old = c.args.sums.now in
    let new = c.add_place.new.sums in
    on_ok_weaker c.add_place.result
    (λ added one other. subst (λ (n : ℕ). AreProductsAdded l a.image b.image n products c.args.gap.now.round c.args.place old new) c.requires.can.count_is (added one other).sums)
    c.add_place.ensures.added

pub returns-clause-asks : goal.returns-clause-asks
returns-clause-asks g c =
    kept-asked c.args.gap.now.code.layout.now c.args.gap.now.round c.args.gap.now.places.now c.args.place (sym c.is_lost.ensures ∙ c.if-is_lost.false) c.add_place.ensures.asks

pub returns-then-is_lost-clause-given : goal.returns-then-is_lost-clause-given
returns-then-is_lost-clause-given g c =
    let asks = DeviceDoes g.D.BlockDev.state g.D.BlockDev.does in
    let does = DeviceDoes g.H.BlockDev.state g.H.BlockDev.does in
    let l = c.args.gap.now.code.layout.now in
    let round = c.args.gap.now.round in
    let places = c.args.gap.now.places.now in
    let products = c.args.gap.now.code.products.now in
    let sums = c.args.sums.now in
    let lost = sym c.is_lost.ensures ∙ c.if-is_lost.true in
    let found = among-at places c.args.place lost in
    all-none asks does l (kept_index_at l round places c.args.place) (kept-lost l round places c.args.place lost) (λ x y. AreProductsAdded l x y (length places) products round c.args.place sums sums)
    (λ x y. place-lost l x y places products round c.args.place found.0 sums c.requires.can.products_are found.1.0 found.1.1) c.args.data_dev.now c.args.hash_dev.now

pub returns-clause-given : goal.returns-clause-given
returns-clause-given g c =
    let asks = DeviceDoes g.D.BlockDev.state g.D.BlockDev.does in
    let does = DeviceDoes g.H.BlockDev.state g.H.BlockDev.does in
    let l = c.args.gap.now.code.layout.now in
    let round = c.args.gap.now.round in
    let place = c.args.place in
    let places = c.args.gap.now.places.now in
    let products = c.args.gap.now.code.products.now in
    let old = c.args.sums.now in
    let new = c.add_place.new.sums in
    gives-weaker asks does l (index_at l round place) (kept_index_at l round places place) (sym (kept-other l round places place (sym c.is_lost.ensures ∙ c.if-is_lost.false)))
    (λ x y. IsPlaceAdded l x y c.args.gap.now.code.count products round place old new) (λ x y. AreProductsAdded l x y (length places) products round place old new)
    (λ x y added. subst (λ (n : ℕ). AreProductsAdded l x y n products round place old new) c.requires.can.count_is added.sums)
    c.args.data_dev.now c.args.hash_dev.now c.add_place.new.data_dev c.add_place.new.hash_dev (is_ok c.add_place.result) c.add_place.ensures.given
