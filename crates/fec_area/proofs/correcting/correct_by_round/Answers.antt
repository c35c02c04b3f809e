use Rattle.std.proofs.Common.{◌≡◌, ◌*◌, ◌/◌, ℕ, true, false, length, sym, ap, ◌∙◌, refl, inl, inr, arith}
use Rattle.std.proofs.lemmas.Result.{err_from_is_err_and}
use Rattle.block_device.specs.Call.{DeviceDoes}
use Rattle.fec_area.specs.Layouts.{IsParityOf}
use Rattle.fec_area.proofs.CallLemmas.{call-read, counted-behind, counted-unfailed, laid-then, one_failed-then, read-none, read-then, unfailed-none}
use Rattle.fec_area.proofs.CorrectingLemmas.{most-block, most-parity, most-round, round-stopped, round-then}
use Rattle.fec_area.proofs.LayoutLemmas.{parity-small, round-quotient}
use Rattle.fec_area.proofs.RoundLemmas.{round-swap}
use Rattle.fec_area.proofs.WritingLemmas.{round-within, write-inside}
use Rattle.fec_area.proofs.correcting.correct_by_round.Goals as goal

pub overflow_mul-suspect : goal.overflow_mul-suspect
overflow_mul-suspect g c =
    let l = c.args.suspect.now.code.layout.now in
    let valid = c.requires.sums.laid.layout in
    let s : ℕ = length c.args.stored.now / 512 in
    let is = round-quotient l (length c.args.stored.now) valid c.requires.stored in
    omega (arith, round-within l c.args.suspect.now.round s s c.requires.own.round_is is is, parity-small l valid)

pub read-requires : goal.read-requires
read-requires g c =
    let l = c.args.suspect.now.code.layout.now in
    let valid = c.requires.sums.laid.layout in
    let dev = g.P.BlockDev.state c.args.parity_dev.now in
    write-inside l dev dev c.args.suspect.now.round (length c.args.stored.now) _ valid c.requires.room refl c.requires.own.round_is c.requires.stored (round-quotient l (length c.args.stored.now) valid c.requires.stored)

pub sum_parity-requires-clause-can : goal.sum_parity-requires-clause-can
sum_parity-requires-clause-can g c = c.requires.sums

pub sum_parity-requires-clause-round : goal.sum_parity-requires-clause-round
sum_parity-requires-clause-round g c = c.requires.own.round_is

pub read_covered-requires-clause-laid : goal.read_covered-requires-clause-laid
read_covered-requires-clause-laid g c = laid-then c.args.suspect.now.code.layout.now c.sum_parity.ensures.read c.requires.sums.laid

pub read_covered-requires-clause-index : goal.read_covered-requires-clause-index
read_covered-requires-clause-index g c = c.requires.own.index_is

pub read_covered-requires-clause-size : goal.read_covered-requires-clause-size
read_covered-requires-clause-size g c = c.sum_parity.auto.block ∙ c.requires.sums.block_is

pub correct_columns-found-requires-clause-few : goal.correct_columns-found-requires-clause-few
correct_columns-found-requires-clause-few g c = c.requires.sums.laid.layout.few

pub correct_columns-found-requires-clause-place : goal.correct_columns-found-requires-clause-place
correct_columns-found-requires-clause-place g c = c.requires.own.place_is

pub correct_columns-found-requires-clause-parity : goal.correct_columns-found-requires-clause-parity
correct_columns-found-requires-clause-parity g c =
    let l = c.args.suspect.now.code.layout.now in
    let long : length c.read_covered.new.block ≡ l.block = c.read_covered.auto.block ∙ c.sum_parity.auto.block ∙ c.requires.sums.block_is in
    c.sum_parity.auto.parity ∙ c.requires.sums.parity_is ∙ sym (round-swap l) ∙ ap (λ (n : ℕ). n * l.roots) (sym long)

pub correct_columns-found-requires-clause-stored : goal.correct_columns-found-requires-clause-stored
correct_columns-found-requires-clause-stored g c =
    let l = c.args.suspect.now.code.layout.now in
    let long : length c.read_covered.new.block ≡ l.block = c.read_covered.auto.block ∙ c.sum_parity.auto.block ∙ c.requires.sums.block_is in
    c.read.auto.out ∙ c.requires.stored ∙ sym (round-swap l) ∙ ap (λ (n : ℕ). n * l.roots) (sym long)

-- ---- the parity can't be read

pub returns-in_err-read-clause-read : goal.returns-in_err-read-clause-read
returns-in_err-read-clause-read g c = read-none (g.D.BlockDev.state c.args.data_dev.now) (g.H.BlockDev.state c.args.hash_dev.now)

pub returns-in_err-read-clause-parity : goal.returns-in_err-read-clause-parity
returns-in_err-read-clause-parity g c = call-read c.in_err-read.ensures.moved

pub returns-in_err-read-clause-err : goal.returns-in_err-read-clause-err
returns-in_err-read-clause-err g c =
    let p = err_from_is_err_and c.from_residual.result c.from_residual.ensures.1 in
    rw p.1 (inr c.in_err-read.ensures.fault)

pub returns-in_err-read-clause-calls : goal.returns-in_err-read-clause-calls
returns-in_err-read-clause-calls g c =
    let p = err_from_is_err_and c.from_residual.result c.from_residual.ensures.1 in
    rw p.1 (inl (refl, refl))

pub returns-in_err-read-clause-most : goal.returns-in_err-read-clause-most
returns-in_err-read-clause-most g c =
    let l = c.args.suspect.now.code.layout.now in
    most-parity l (g.D.BlockDev.state c.args.data_dev.now) (g.H.BlockDev.state c.args.hash_dev.now) (round-quotient l (length c.args.stored.now) c.requires.sums.laid.layout c.requires.stored) c.in_err-read.ensures.moved

pub returns-in_err-read-clause-counted : goal.returns-in_err-read-clause-counted
returns-in_err-read-clause-counted g c = counted-unfailed (unfailed-none (g.D.BlockDev.state c.args.data_dev.now) (g.H.BlockDev.state c.args.hash_dev.now))

-- ---- a block of the round can't be read

pub returns-in_err-sum_parity-clause-read : goal.returns-in_err-sum_parity-clause-read
returns-in_err-sum_parity-clause-read g c = c.sum_parity.ensures.read

pub returns-in_err-sum_parity-clause-parity : goal.returns-in_err-sum_parity-clause-parity
returns-in_err-sum_parity-clause-parity g c = call-read c.in_ok-read.ensures.moved

pub returns-in_err-sum_parity-clause-err : goal.returns-in_err-sum_parity-clause-err
returns-in_err-sum_parity-clause-err g c =
    let p = err_from_is_err_and c.from_residual-in_err-sum_parity.result c.from_residual-in_err-sum_parity.ensures.1 in
    rw p.1 (inl c.in_err-sum_parity.ensures.err)

pub returns-in_err-sum_parity-clause-calls : goal.returns-in_err-sum_parity-clause-calls
returns-in_err-sum_parity-clause-calls g c =
    let p = err_from_is_err_and c.from_residual-in_err-sum_parity.result c.from_residual-in_err-sum_parity.ensures.1 in
    let asks = DeviceDoes g.D.BlockDev.state g.D.BlockDev.does in
    let does = DeviceDoes g.H.BlockDev.state g.H.BlockDev.does in
    let s = c.args.suspect.now in
    rw p.1 (round-stopped asks does s.code.layout.now s.round s.index c.args.data_dev.now c.args.hash_dev.now c.sum_parity.new.data_dev c.sum_parity.new.hash_dev c.in_err-sum_parity.ensures.given)

pub returns-in_err-sum_parity-clause-most : goal.returns-in_err-sum_parity-clause-most
returns-in_err-sum_parity-clause-most g c =
    let l = c.args.suspect.now.code.layout.now in
    most-round l (round-quotient l (length c.args.stored.now) c.requires.sums.laid.layout c.requires.stored) c.in_ok-read.ensures.moved c.sum_parity.ensures.most

pub returns-in_err-sum_parity-clause-counted : goal.returns-in_err-sum_parity-clause-counted
returns-in_err-sum_parity-clause-counted g c = c.sum_parity.ensures.counted

-- ---- the block can't be read

pub returns-in_err-read_covered-clause-read : goal.returns-in_err-read_covered-clause-read
returns-in_err-read_covered-clause-read g c = read-then c.sum_parity.ensures.read c.read_covered.ensures.read

pub returns-in_err-read_covered-clause-parity : goal.returns-in_err-read_covered-clause-parity
returns-in_err-read_covered-clause-parity g c = call-read c.in_ok-read.ensures.moved

pub returns-in_err-read_covered-clause-err : goal.returns-in_err-read_covered-clause-err
returns-in_err-read_covered-clause-err g c =
    let p = err_from_is_err_and c.from_residual-in_err-read_covered.result c.from_residual-in_err-read_covered.ensures.1 in
    rw p.1 (inl (one_failed-then (g.D.BlockDev.state c.args.data_dev.now) (g.H.BlockDev.state c.args.hash_dev.now) (g.D.BlockDev.state c.sum_parity.new.data_dev) (g.H.BlockDev.state c.sum_parity.new.hash_dev) (g.D.BlockDev.state c.read_covered.new.data_dev) (g.H.BlockDev.state c.read_covered.new.hash_dev) c.in_ok-sum_parity.ensures.ok c.in_err-read_covered.ensures.err))

pub returns-in_err-read_covered-clause-calls : goal.returns-in_err-read_covered-clause-calls
returns-in_err-read_covered-clause-calls g c =
    let p = err_from_is_err_and c.from_residual-in_err-read_covered.result c.from_residual-in_err-read_covered.ensures.1 in
    let asks = DeviceDoes g.D.BlockDev.state g.D.BlockDev.does in
    let does = DeviceDoes g.H.BlockDev.state g.H.BlockDev.does in
    let s = c.args.suspect.now in
    let l = s.code.layout.now in
    rw p.1
    (round-then asks does l s.round s.index c.args.data_dev.now c.args.hash_dev.now c.sum_parity.new.data_dev c.sum_parity.new.hash_dev (λ x y. IsParityOf l x y s.round c.sum_parity.new.parity) c.read_covered.new.block
    c.read_covered.new.data_dev c.read_covered.new.hash_dev false c.in_ok-sum_parity.ensures.given c.in_err-read_covered.ensures.given)

pub returns-in_err-read_covered-clause-most : goal.returns-in_err-read_covered-clause-most
returns-in_err-read_covered-clause-most g c =
    let s = c.args.suspect.now in
    let l = s.code.layout.now in
    let valid = c.requires.sums.laid.layout in
    most-block l s.index valid (round-quotient l (length c.args.stored.now) valid c.requires.stored) c.in_ok-read.ensures.moved c.sum_parity.ensures.most c.read_covered.ensures.asks

pub returns-in_err-read_covered-clause-counted : goal.returns-in_err-read_covered-clause-counted
returns-in_err-read_covered-clause-counted g c = counted-behind c.in_ok-sum_parity.ensures.ok c.read_covered.ensures.counted

-- ---- all were read

pub returns-clause-read : goal.returns-clause-read
returns-clause-read g c = read-then c.sum_parity.ensures.read c.read_covered.ensures.read

pub returns-clause-parity : goal.returns-clause-parity
returns-clause-parity g c = call-read c.in_ok-read.ensures.moved

pub returns-clause-calls : goal.returns-clause-calls
returns-clause-calls g c =
    let asks = DeviceDoes g.D.BlockDev.state g.D.BlockDev.does in
    let does = DeviceDoes g.H.BlockDev.state g.H.BlockDev.does in
    let s = c.args.suspect.now in
    let l = s.code.layout.now in
    round-then asks does l s.round s.index c.args.data_dev.now c.args.hash_dev.now c.sum_parity.new.data_dev c.sum_parity.new.hash_dev (λ x y. IsParityOf l x y s.round c.sum_parity.new.parity) c.read_covered.new.block
    c.read_covered.new.data_dev c.read_covered.new.hash_dev true c.in_ok-sum_parity.ensures.given c.in_ok-read_covered.ensures.given

pub returns-clause-most : goal.returns-clause-most
returns-clause-most g c =
    let s = c.args.suspect.now in
    let l = s.code.layout.now in
    let valid = c.requires.sums.laid.layout in
    most-block l s.index valid (round-quotient l (length c.args.stored.now) valid c.requires.stored) c.in_ok-read.ensures.moved c.sum_parity.ensures.most c.read_covered.ensures.asks

pub returns-clause-counted : goal.returns-clause-counted
returns-clause-counted g c = counted-behind c.in_ok-sum_parity.ensures.ok c.read_covered.ensures.counted
