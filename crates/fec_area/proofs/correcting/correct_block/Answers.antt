use Rattle.std.proofs.Common.{◌≡◌, ◌/◌, ◌%◌, ℕ, true, false, ap, subst, refl, inl, arith}
use Rattle.std.proofs.lemmas.Result.{err_from_is_err_and}
use Rattle.block_device.specs.Call.{DeviceDoes}
use Rattle.fec_area.specs.Correcting.{ReadsRound}
use Rattle.fec_area.specs.Layouts.{code_rounds}
use Rattle.fec_area.specs.Restoring.{round_of}
use Rattle.fec_area.proofs.CorrectingLemmas.{most-none}
use Rattle.fec_area.proofs.RestoringLemmas.{place-below, round-below}
use Rattle.fec_area.proofs.correcting.correct_block.Goals as goal

pub correct_by_round-requires-clause-own : goal.correct_by_round-requires-clause-own
correct_by_round-requires-clause-own g c =
    let l = c.args.sought.now.layout.now in
    let index = c.args.sought.now.index in
    let valid = c.requires.laid.layout in
    let round : index % c.rounds-rounds.result ≡ round_of l index = ap (λ (n : ℕ). index % n) c.rounds-rounds.ensures.value in
    let place : index / c.rounds-rounds.result ≡ index / code_rounds l = ap (λ (n : ℕ). index / n) c.rounds-rounds.ensures.value in
    record {
      round_is = omega (arith, round, round-below l index valid c.requires.index);
      index_is = c.requires.index;
      place_is = omega (arith, place, place-below l index valid c.requires.index);
    }

pub returns-then-sectors-needed-clause-calls : goal.returns-then-sectors-needed-clause-calls
returns-then-sectors-needed-clause-calls g c = inl (refl, refl)

pub returns-in_err-products-clause-calls : goal.returns-in_err-products-clause-calls
returns-in_err-products-clause-calls g c =
    let p = err_from_is_err_and c.from_residual.result c.from_residual.ensures.1 in
    rw p.1 (inl (refl, refl))

pub returns-in_err-parity-clause-calls : goal.returns-in_err-parity-clause-calls
returns-in_err-parity-clause-calls g c =
    let p = err_from_is_err_and c.from_residual-in_err-parity.result c.from_residual-in_err-parity.ensures.1 in
    rw p.1 (inl (refl, refl))

pub returns-in_err-stored-clause-calls : goal.returns-in_err-stored-clause-calls
returns-in_err-stored-clause-calls g c =
    let p = err_from_is_err_and c.from_residual-in_err-stored.result c.from_residual-in_err-stored.ensures.1 in
    rw p.1 (inl (refl, refl))

pub returns-in_err-found-clause-calls : goal.returns-in_err-found-clause-calls
returns-in_err-found-clause-calls g c =
    let p = err_from_is_err_and c.from_residual-in_err-found.result c.from_residual-in_err-found.ensures.1 in
    let asks = DeviceDoes g.D.BlockDev.state g.D.BlockDev.does in
    let does = DeviceDoes g.H.BlockDev.state g.H.BlockDev.does in
    let l = c.args.sought.now.layout.now in
    let index = c.args.sought.now.index in
    let round : index % c.rounds-rounds.result ≡ round_of l index = ap (λ (n : ℕ). index % n) c.rounds-rounds.ensures.value in
    rw p.1 (subst (λ (r : ℕ). ReadsRound asks does l r index c.args.data_dev.now c.args.hash_dev.now c.correct_by_round.new.data_dev c.correct_by_round.new.hash_dev false) round c.in_err-found.ensures.calls)

pub returns-clause-calls : goal.returns-clause-calls
returns-clause-calls g c =
    let asks = DeviceDoes g.D.BlockDev.state g.D.BlockDev.does in
    let does = DeviceDoes g.H.BlockDev.state g.H.BlockDev.does in
    let l = c.args.sought.now.layout.now in
    let index = c.args.sought.now.index in
    let round : index % c.rounds-rounds.result ≡ round_of l index = ap (λ (n : ℕ). index % n) c.rounds-rounds.ensures.value in
    subst (λ (r : ℕ). ReadsRound asks does l r index c.args.data_dev.now c.args.hash_dev.now c.correct_by_round.new.data_dev c.correct_by_round.new.hash_dev true) round c.in_ok-found.ensures.calls

pub returns-then-sectors-needed-clause-most : goal.returns-then-sectors-needed-clause-most
returns-then-sectors-needed-clause-most g c = most-none c.args.sought.now.layout.now (g.D.BlockDev.state c.args.data_dev.now) (g.H.BlockDev.state c.args.hash_dev.now) (g.P.BlockDev.state c.args.parity_dev.now)

pub returns-in_err-products-clause-most : goal.returns-in_err-products-clause-most
returns-in_err-products-clause-most g c = most-none c.args.sought.now.layout.now (g.D.BlockDev.state c.args.data_dev.now) (g.H.BlockDev.state c.args.hash_dev.now) (g.P.BlockDev.state c.args.parity_dev.now)

pub returns-in_err-parity-clause-most : goal.returns-in_err-parity-clause-most
returns-in_err-parity-clause-most g c = most-none c.args.sought.now.layout.now (g.D.BlockDev.state c.args.data_dev.now) (g.H.BlockDev.state c.args.hash_dev.now) (g.P.BlockDev.state c.args.parity_dev.now)

pub returns-in_err-stored-clause-most : goal.returns-in_err-stored-clause-most
returns-in_err-stored-clause-most g c = most-none c.args.sought.now.layout.now (g.D.BlockDev.state c.args.data_dev.now) (g.H.BlockDev.state c.args.hash_dev.now) (g.P.BlockDev.state c.args.parity_dev.now)

pub returns-in_err-found-clause-most : goal.returns-in_err-found-clause-most
returns-in_err-found-clause-most g c = c.correct_by_round.ensures.most

pub returns-clause-most : goal.returns-clause-most
returns-clause-most g c = c.correct_by_round.ensures.most
