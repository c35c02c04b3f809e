use Rattle.std.proofs.Common.{◌≡◌, ◌*◌, ◌/◌, ◌%◌, ℕ, true, false, List, refl, sym, ap, ◌∙◌, subst}
use Rattle.std.proofs.lemmas.Bool.{true≢false}
use Rattle.std.proofs.lemmas.Result.{err_from_is_err_and}
use Rattle.block_device.specs.Call.{DeviceDoes}
use Rattle.verity_format.specs.Blocks.{block_at}
use Rattle.fec_area.specs.Asking.{kept_data, kept_hash}
use Rattle.fec_area.specs.Layouts.{round_bytes}
use Rattle.fec_area.specs.Restoring.{IsFirstRestored, round_of}
use Rattle.fec_area.proofs.AskingLemmas.{first-kept, none-asked}
use Rattle.fec_area.proofs.GivenLemmas.{lost-given, lost-stopped}
use Rattle.fec_area.proofs.RestoringLemmas.{made-again}
use Rattle.fec_area.proofs.restoring.restore_block.Goals as goal

pub returns-clause-bytes : goal.returns-clause-bytes
returns-clause-bytes g c one other third =
    let l = c.args.sought.now.layout.now in
    let index = c.args.sought.now.index in
    let a = g.D.BlockDev.state c.args.data_dev.now in
    let b = g.H.BlockDev.state c.args.hash_dev.now in
    let image = (g.P.BlockDev.state c.args.parity_dev.now).image in
    let block = c.restore_first.new.block in
    let round : index % c.rounds.result ≡ round_of l index = ap (λ (n : ℕ). index % n) c.rounds.ensures.value in
    let first = subst (λ (r : ℕ). IsFirstRestored l a.image b.image r (block_at image (round_bytes l) r) c.deref-3.result.now block) round (c.in_ok-restore_first.ensures.first one other third) in
    made-again l a.image b.image image c.args.sought.now.lost.now c.in_ok-places.places.items index block c.requires.laid.layout c.requires.index (c.restore_first.auto.block ∙ c.requires.size) c.in_ok-places.ensures.ok
    (subst (λ (ps : List ℕ). IsFirstRestored l a.image b.image (round_of l index) (block_at image (round_bytes l) (round_of l index)) ps block) c.deref-3.ensures.value first)

pub returns-then-sectors-needed-clause-asks : goal.returns-then-sectors-needed-clause-asks
returns-then-sectors-needed-clause-asks g c = none-asked (kept_data c.args.sought.now.layout.now c.args.sought.now.lost.now c.args.sought.now.index * (c.args.sought.now.layout.now.block / 512)) (kept_hash c.args.sought.now.layout.now c.args.sought.now.lost.now c.args.sought.now.index * (c.args.sought.now.layout.now.block / 512)) (c.args.sought.now.layout.now.roots * (c.args.sought.now.layout.now.block / 512)) false (g.D.BlockDev.state c.args.data_dev.now) (g.H.BlockDev.state c.args.hash_dev.now) (g.P.BlockDev.state c.args.parity_dev.now) refl

pub returns-in_err-places-clause-asks : goal.returns-in_err-places-clause-asks
returns-in_err-places-clause-asks g c =
    let p = err_from_is_err_and c.from_residual.result c.from_residual.ensures.1 in
    rw p.1 (none-asked (kept_data c.args.sought.now.layout.now c.args.sought.now.lost.now c.args.sought.now.index * (c.args.sought.now.layout.now.block / 512)) (kept_hash c.args.sought.now.layout.now c.args.sought.now.lost.now c.args.sought.now.index * (c.args.sought.now.layout.now.block / 512)) (c.args.sought.now.layout.now.roots * (c.args.sought.now.layout.now.block / 512)) false (g.D.BlockDev.state c.args.data_dev.now) (g.H.BlockDev.state c.args.hash_dev.now) (g.P.BlockDev.state c.args.parity_dev.now) refl)

pub returns-then-count-layout-clause-asks : goal.returns-then-count-layout-clause-asks
returns-then-count-layout-clause-asks g c = none-asked (kept_data c.args.sought.now.layout.now c.args.sought.now.lost.now c.args.sought.now.index * (c.args.sought.now.layout.now.block / 512)) (kept_hash c.args.sought.now.layout.now c.args.sought.now.lost.now c.args.sought.now.index * (c.args.sought.now.layout.now.block / 512)) (c.args.sought.now.layout.now.roots * (c.args.sought.now.layout.now.block / 512)) false (g.D.BlockDev.state c.args.data_dev.now) (g.H.BlockDev.state c.args.hash_dev.now) (g.P.BlockDev.state c.args.parity_dev.now) refl

pub returns-in_err-products-clause-asks : goal.returns-in_err-products-clause-asks
returns-in_err-products-clause-asks g c =
    let p = err_from_is_err_and c.from_residual-in_err-products.result c.from_residual-in_err-products.ensures.1 in
    rw p.1 (none-asked (kept_data c.args.sought.now.layout.now c.args.sought.now.lost.now c.args.sought.now.index * (c.args.sought.now.layout.now.block / 512)) (kept_hash c.args.sought.now.layout.now c.args.sought.now.lost.now c.args.sought.now.index * (c.args.sought.now.layout.now.block / 512)) (c.args.sought.now.layout.now.roots * (c.args.sought.now.layout.now.block / 512)) false (g.D.BlockDev.state c.args.data_dev.now) (g.H.BlockDev.state c.args.hash_dev.now) (g.P.BlockDev.state c.args.parity_dev.now) refl)

pub returns-in_err-parity-clause-asks : goal.returns-in_err-parity-clause-asks
returns-in_err-parity-clause-asks g c =
    let p = err_from_is_err_and c.from_residual-in_err-parity.result c.from_residual-in_err-parity.ensures.1 in
    rw p.1 (none-asked (kept_data c.args.sought.now.layout.now c.args.sought.now.lost.now c.args.sought.now.index * (c.args.sought.now.layout.now.block / 512)) (kept_hash c.args.sought.now.layout.now c.args.sought.now.lost.now c.args.sought.now.index * (c.args.sought.now.layout.now.block / 512)) (c.args.sought.now.layout.now.roots * (c.args.sought.now.layout.now.block / 512)) false (g.D.BlockDev.state c.args.data_dev.now) (g.H.BlockDev.state c.args.hash_dev.now) (g.P.BlockDev.state c.args.parity_dev.now) refl)

pub returns-in_err-sums-clause-asks : goal.returns-in_err-sums-clause-asks
returns-in_err-sums-clause-asks g c =
    let p = err_from_is_err_and c.from_residual-in_err-sums.result c.from_residual-in_err-sums.ensures.1 in
    rw p.1 (none-asked (kept_data c.args.sought.now.layout.now c.args.sought.now.lost.now c.args.sought.now.index * (c.args.sought.now.layout.now.block / 512)) (kept_hash c.args.sought.now.layout.now c.args.sought.now.lost.now c.args.sought.now.index * (c.args.sought.now.layout.now.block / 512)) (c.args.sought.now.layout.now.roots * (c.args.sought.now.layout.now.block / 512)) false (g.D.BlockDev.state c.args.data_dev.now) (g.H.BlockDev.state c.args.hash_dev.now) (g.P.BlockDev.state c.args.parity_dev.now) refl)

pub returns-in_err-restore_first-clause-asks : goal.returns-in_err-restore_first-clause-asks
returns-in_err-restore_first-clause-asks g c =
    let l = c.args.sought.now.layout.now in
    let index = c.args.sought.now.index in
    let p = err_from_is_err_and c.from_residual-in_err-restore_first.result c.from_residual-in_err-restore_first.ensures.1 in
    let round : index % c.rounds.result ≡ round_of l index = ap (λ (n : ℕ). index % n) c.rounds.ensures.value in
    rw p.1 (first-kept l c.args.sought.now.lost.now c.in_ok-places.places.items c.deref-3.result.now index (index % c.rounds.result) (l.roots * (l.block / 512)) false c.requires.laid.layout c.requires.index c.in_ok-places.ensures.ok round c.deref-3.ensures.value c.in_err-restore_first.ensures.asks)

pub returns-clause-asks : goal.returns-clause-asks
returns-clause-asks g c =
    let l = c.args.sought.now.layout.now in
    let index = c.args.sought.now.index in
    let round : index % c.rounds.result ≡ round_of l index = ap (λ (n : ℕ). index % n) c.rounds.ensures.value in
    first-kept l c.args.sought.now.lost.now c.in_ok-places.places.items c.deref-3.result.now index (index % c.rounds.result) (l.roots * (l.block / 512)) true c.requires.laid.layout c.requires.index c.in_ok-places.ensures.ok round c.deref-3.ensures.value c.in_ok-restore_first.ensures.asks

pub returns-in_err-restore_first-clause-sure : goal.returns-in_err-restore_first-clause-sure
returns-in_err-restore_first-clause-sure g c =
    let p = err_from_is_err_and c.from_residual-in_err-restore_first.result c.from_residual-in_err-restore_first.ensures.1 in
    rw p.1 (λ never blamed. true≢false (sym (c.in_err-restore_first.ensures.sure never)))

pub returns-in_err-places-clause-calls : goal.returns-in_err-places-clause-calls
returns-in_err-places-clause-calls g c =
    let p = err_from_is_err_and c.from_residual.result c.from_residual.ensures.1 in
    rw (p.1, p.2) (refl, refl, refl)

pub returns-in_err-products-clause-calls : goal.returns-in_err-products-clause-calls
returns-in_err-products-clause-calls g c =
    let p = err_from_is_err_and c.from_residual-in_err-products.result c.from_residual-in_err-products.ensures.1 in
    rw (p.1, p.2) (refl, refl, refl)

pub returns-in_err-parity-clause-calls : goal.returns-in_err-parity-clause-calls
returns-in_err-parity-clause-calls g c =
    let p = err_from_is_err_and c.from_residual-in_err-parity.result c.from_residual-in_err-parity.ensures.1 in
    rw (p.1, p.2) (refl, refl, refl)

pub returns-in_err-sums-clause-calls : goal.returns-in_err-sums-clause-calls
returns-in_err-sums-clause-calls g c =
    let p = err_from_is_err_and c.from_residual-in_err-sums.result c.from_residual-in_err-sums.ensures.1 in
    rw (p.1, p.2) (refl, refl, refl)

pub returns-then-sectors-needed-clause-calls : goal.returns-then-sectors-needed-clause-calls
returns-then-sectors-needed-clause-calls g c = (refl, refl, refl)

pub returns-then-count-layout-clause-calls : goal.returns-then-count-layout-clause-calls
returns-then-count-layout-clause-calls g c = (refl, refl, refl)

pub returns-in_err-restore_first-clause-calls : goal.returns-in_err-restore_first-clause-calls
returns-in_err-restore_first-clause-calls g c =
    let p = err_from_is_err_and c.from_residual-in_err-restore_first.result c.from_residual-in_err-restore_first.ensures.1 in
    let asks = DeviceDoes g.D.BlockDev.state g.D.BlockDev.does in
    let does = DeviceDoes g.H.BlockDev.state g.H.BlockDev.does in
    let reads = DeviceDoes g.P.BlockDev.state g.P.BlockDev.does in
    let l = c.args.sought.now.layout.now in
    let index = c.args.sought.now.index in
    let round : index % c.rounds.result ≡ round_of l index = ap (λ (n : ℕ). index % n) c.rounds.ensures.value in
    rw (p.1, p.2)
    (lost-stopped asks does reads c.args.sought.now c.in_ok-places.places.items c.deref-3.result.now (index % c.rounds.result) c.restore_first.new.block c.requires.laid.layout c.requires.index c.in_ok-places.ensures.ok round c.deref-3.ensures.value
    c.args.data_dev.now c.args.hash_dev.now c.args.parity_dev.now c.restore_first.new.data_dev c.restore_first.new.hash_dev c.restore_first.new.parity_dev c.in_err-restore_first.ensures.calls)

pub returns-clause-calls : goal.returns-clause-calls
returns-clause-calls g c =
    let asks = DeviceDoes g.D.BlockDev.state g.D.BlockDev.does in
    let does = DeviceDoes g.H.BlockDev.state g.H.BlockDev.does in
    let reads = DeviceDoes g.P.BlockDev.state g.P.BlockDev.does in
    let l = c.args.sought.now.layout.now in
    let index = c.args.sought.now.index in
    let round : index % c.rounds.result ≡ round_of l index = ap (λ (n : ℕ). index % n) c.rounds.ensures.value in
    lost-given asks does reads c.args.sought.now c.in_ok-places.places.items c.deref-3.result.now (index % c.rounds.result) c.restore_first.new.block c.requires.laid.layout c.requires.index c.in_ok-places.ensures.ok round c.deref-3.ensures.value
    c.args.data_dev.now c.args.hash_dev.now c.args.parity_dev.now c.restore_first.new.data_dev c.restore_first.new.hash_dev c.restore_first.new.parity_dev
    (c.restore_first.auto.block ∙ c.requires.size) c.in_ok-restore_first.ensures.calls
