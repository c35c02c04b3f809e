use Rattle.std.proofs.Common.{◌≡◌, ◌*◌, ◌<◌, ◌/◌, ℕ, List, length, subst, sym, ap, ◌∙◌, arith, refl, inl}
use Rattle.std.proofs.lemmas.Result.{err_from_is_err_and}
use Rattle.block_device.specs.Call.{DeviceDoes}
use Rattle.fec_area.specs.GivenParity.{ChecksRounds}
use Rattle.fec_area.specs.Handing.{round_sectors}
use Rattle.fec_area.specs.Layouts.{IsParityOf, code_rounds, round_bytes}
use Rattle.verity_format.specs.Blocks.{block_at}
use Rattle.verity_format.proofs.lemmas.DeviceLemmas.{only_read-none, only_read-then, steady-then}
use Rattle.fec_area.proofs.CallLemmas.{call-read, other-told, same-told, read-none, read-then, unfailed-none, unfailed-then, one_failed-then, laid-then, image-then}
use Rattle.fec_area.proofs.GivenParityLemmas.{rounds-failed, rounds-more, rounds-none, rounds-stopped, rounds-to}
use Rattle.fec_area.proofs.LayoutLemmas.{parity-small, round-quotient}
use Rattle.fec_area.proofs.RoundLemmas.{parity-unique}
use Rattle.fec_area.proofs.WritingLemmas.{bytes-other, bytes-same, round-at, round-more, round-other, round-within, write-inside}
use Rattle.fec_area.proofs.checking.check_rounds.Goals as goal

pub loop-round-init : goal.loop-round-init
loop-round-init g c = record {
  read = read-none (g.D.BlockDev.state c.args.data_dev.now) (g.H.BlockDev.state c.args.hash_dev.now);
  unfailed = unfailed-none (g.D.BlockDev.state c.args.data_dev.now) (g.H.BlockDev.state c.args.hash_dev.now);
  parity_read = only_read-none (g.P.BlockDev.state c.args.parity_dev.now);
  parity_unfailed = refl;
  parity = λ one other third r lt. absurd (omega (arith, lt));
  rounds = rounds-none (DeviceDoes g.D.BlockDev.state g.D.BlockDev.does) (DeviceDoes g.H.BlockDev.state g.H.BlockDev.does) (DeviceDoes g.P.BlockDev.state g.P.BlockDev.does) c.args.code.now.layout.now c.args.data_dev.now c.args.hash_dev.now c.args.parity_dev.now;
}

pub sum_parity-requires-clause-can : goal.sum_parity-requires-clause-can
sum_parity-requires-clause-can g c = record {
  laid = laid-then c.args.code.now.layout.now c.loop-round.invariant.read c.requires.sums.laid;
  count_is = c.requires.sums.count_is;
  products_are = c.requires.sums.products_are;
  block_is = c.loop-round.auto.block ∙ c.requires.sums.block_is;
  parity_is = c.loop-round.auto.parity ∙ c.requires.sums.parity_is;
}

pub sum_parity-requires-clause-round : goal.sum_parity-requires-clause-round
sum_parity-requires-clause-round g c = omega (arith, c.loop-round-test.true, c.rounds-round-end.ensures.value)

pub returns-in_err-sum_parity-clause-read : goal.returns-in_err-sum_parity-clause-read
returns-in_err-sum_parity-clause-read g c = read-then c.loop-round.invariant.read c.sum_parity.ensures.read

pub returns-in_err-sum_parity-clause-err : goal.returns-in_err-sum_parity-clause-err
returns-in_err-sum_parity-clause-err g c =
    let p = err_from_is_err_and c.from_residual.result c.from_residual.ensures.1 in
    rw p.1 (inl (one_failed-then (g.D.BlockDev.state c.args.data_dev.now) (g.H.BlockDev.state c.args.hash_dev.now) (g.D.BlockDev.state c.loop-round.data_dev) (g.H.BlockDev.state c.loop-round.hash_dev) (g.D.BlockDev.state c.sum_parity.new.data_dev) (g.H.BlockDev.state c.sum_parity.new.hash_dev) c.loop-round.invariant.unfailed c.in_err-sum_parity.ensures.err))

pub read-requires : goal.read-requires
read-requires g c =
    let l = c.args.code.now.layout.now in
    let valid = c.requires.sums.laid.layout in
    let size = c.loop-round.auto.stored ∙ c.requires.stored in
    write-inside l (g.P.BlockDev.state c.args.parity_dev.now) (g.P.BlockDev.state c.loop-round.parity_dev) c.loop-round.round (length c.loop-round.stored) _ valid c.requires.room c.loop-round.invariant.parity_read.same.size
    (omega (arith, c.loop-round-test.true, c.rounds-round-end.ensures.value)) size (round-quotient l (length c.args.stored.now) valid c.requires.stored)

pub loop-round-preserved : goal.loop-round-preserved
loop-round-preserved g c =
    let l = c.args.code.now.layout.now in
    let valid = c.requires.sums.laid.layout in
    let here = c.loop-round.invariant in
    let parity = c.sum_parity.new.parity in
    let stored = c.read.new.out in
    let round = c.loop-round.round in
    let now = g.P.BlockDev.state c.loop-round.parity_dev in
    let a = g.D.BlockDev.state c.args.data_dev.now in
    let b = g.H.BlockDev.state c.args.hash_dev.now in
    let first = round-quotient l (length c.args.stored.now) valid c.requires.stored in
    let size = c.loop-round.auto.stored ∙ c.requires.stored in
    let asks = DeviceDoes g.D.BlockDev.state g.D.BlockDev.does in
    let does = DeviceDoes g.H.BlockDev.state g.H.BlockDev.does in
    let reads = DeviceDoes g.P.BlockDev.state g.P.BlockDev.does in
    let inside : round < code_rounds l = omega (arith, c.loop-round-test.true, c.rounds-round-end.ensures.value) in
    record {
      rounds =
          rounds-more asks does reads l c.loop-round.round c.args.data_dev.now c.args.hash_dev.now c.args.parity_dev.now c.loop-round.data_dev c.loop-round.hash_dev c.loop-round.parity_dev c.loop-round.invariant.rounds inside c.sum_parity.new.data_dev c.sum_parity.new.hash_dev parity c.in_ok-sum_parity.ensures.given (length c.args.stored.now / 512)
          (ap (λ (n : ℕ). n / 512) c.requires.stored) stored c.read.new.self c.in_ok-read.ensures.call (bytes-same parity stored (sym c.is_same.ensures ∙ same-told c.is_same.result c.if-not-is_same.false));
      read = read-then here.read c.sum_parity.ensures.read;
      unfailed = unfailed-then here.unfailed c.in_ok-sum_parity.ensures.ok;
      parity_read = only_read-then here.parity_read (call-read c.in_ok-read.ensures.moved);
      parity_unfailed = c.in_ok-read.ensures.moved.failures ∙ here.parity_unfailed;
      parity = λ one other third.
          let steady = steady-then here.parity_read.same third in
          let summed = image-then here.read (λ (x y : List (List ℕ)). IsParityOf l x y round parity) c.in_ok-sum_parity.ensures.parity one other in
          let image : now.image ≡ (g.P.BlockDev.state c.args.parity_dev.now).image = here.parity_read.image third in
          let at = round-at l now.image round (length c.args.stored.now / 512) (length c.loop-round.stored) stored valid first size (c.in_ok-read.ensures.bytes steady) ∙ ap (λ xs. block_at xs (round_bytes l) round) image in
          round-more l a.image b.image (g.P.BlockDev.state c.args.parity_dev.now).image round parity stored at (sym c.is_same.ensures ∙ same-told c.is_same.result c.if-not-is_same.false) summed (here.parity one other third);
    }

pub returns-then-not-is_same-clause-ok : goal.returns-then-not-is_same-clause-ok
returns-then-not-is_same-clause-ok g c one other third =
    let l = c.args.code.now.layout.now in
    let valid = c.requires.sums.laid.layout in
    let here = c.loop-round.invariant in
    let parity = c.sum_parity.new.parity in
    let stored = c.read.new.out in
    let round = c.loop-round.round in
    let now = g.P.BlockDev.state c.loop-round.parity_dev in
    let a = g.D.BlockDev.state c.args.data_dev.now in
    let b = g.H.BlockDev.state c.args.hash_dev.now in
    let first = round-quotient l (length c.args.stored.now) valid c.requires.stored in
    let size = c.loop-round.auto.stored ∙ c.requires.stored in
    let steady = steady-then here.parity_read.same third in
    let summed = image-then here.read (λ (x y : List (List ℕ)). IsParityOf l x y round parity) c.in_ok-sum_parity.ensures.parity one other in
    let image : now.image ≡ (g.P.BlockDev.state c.args.parity_dev.now).image = here.parity_read.image third in
    let at = round-at l now.image round (length c.args.stored.now / 512) (length c.loop-round.stored) stored valid first size (c.in_ok-read.ensures.bytes steady) ∙ ap (λ xs. block_at xs (round_bytes l) round) image in (
      omega (arith, c.loop-round-test.true, c.rounds-round-end.ensures.value),
      here.parity one other third,
      round-other l a.image b.image (g.P.BlockDev.state c.args.parity_dev.now).image round parity stored valid (c.sum_parity.auto.parity ∙ c.loop-round.auto.parity ∙ c.requires.sums.parity_is) (c.read.auto.out ∙ size) at
          (sym c.is_same.ensures ∙ other-told c.is_same.result c.if-not-is_same.true) summed,
    )

pub returns-in_err-sum_parity-clause-calls : goal.returns-in_err-sum_parity-clause-calls
returns-in_err-sum_parity-clause-calls g c =
    let p = err_from_is_err_and c.from_residual.result c.from_residual.ensures.1 in
    let asks = DeviceDoes g.D.BlockDev.state g.D.BlockDev.does in
    let does = DeviceDoes g.H.BlockDev.state g.H.BlockDev.does in
    let reads = DeviceDoes g.P.BlockDev.state g.P.BlockDev.does in
    let l = c.args.code.now.layout.now in
    let inside : c.loop-round.round < code_rounds l = omega (arith, c.loop-round-test.true, c.rounds-round-end.ensures.value) in
    rw p.1 (rounds-stopped asks does reads l c.loop-round.round c.args.data_dev.now c.args.hash_dev.now c.args.parity_dev.now c.loop-round.data_dev c.loop-round.hash_dev c.loop-round.parity_dev c.loop-round.invariant.rounds inside c.sum_parity.new.data_dev c.sum_parity.new.hash_dev c.in_err-sum_parity.ensures.given)

pub returns-in_err-read-clause-calls : goal.returns-in_err-read-clause-calls
returns-in_err-read-clause-calls g c =
    let p = err_from_is_err_and c.from_residual-in_err-read.result c.from_residual-in_err-read.ensures.1 in
    let asks = DeviceDoes g.D.BlockDev.state g.D.BlockDev.does in
    let does = DeviceDoes g.H.BlockDev.state g.H.BlockDev.does in
    let reads = DeviceDoes g.P.BlockDev.state g.P.BlockDev.does in
    let l = c.args.code.now.layout.now in
    let inside : c.loop-round.round < code_rounds l = omega (arith, c.loop-round-test.true, c.rounds-round-end.ensures.value) in
    let s : ℕ = length c.args.stored.now / 512 in
    let is : s ≡ round_sectors l = ap (λ (n : ℕ). n / 512) c.requires.stored in
    rw p.1 (rounds-failed asks does reads l c.loop-round.round c.args.data_dev.now c.args.hash_dev.now c.args.parity_dev.now c.loop-round.data_dev c.loop-round.hash_dev c.loop-round.parity_dev c.loop-round.invariant.rounds inside c.sum_parity.new.data_dev c.sum_parity.new.hash_dev c.sum_parity.new.parity c.in_ok-sum_parity.ensures.given s is c.read.new.out c.read.new.self c.in_err-read.ensures.call)

pub returns-then-not-is_same-clause-calls : goal.returns-then-not-is_same-clause-calls
returns-then-not-is_same-clause-calls g c =
    let asks = DeviceDoes g.D.BlockDev.state g.D.BlockDev.does in
    let does = DeviceDoes g.H.BlockDev.state g.H.BlockDev.does in
    let reads = DeviceDoes g.P.BlockDev.state g.P.BlockDev.does in
    let l = c.args.code.now.layout.now in
    let inside : c.loop-round.round < code_rounds l = omega (arith, c.loop-round-test.true, c.rounds-round-end.ensures.value) in
    let s : ℕ = length c.args.stored.now / 512 in
    let is : s ≡ round_sectors l = ap (λ (n : ℕ). n / 512) c.requires.stored in
    let valid = c.requires.sums.laid.layout in
    let parity = c.sum_parity.new.parity in
    let stored = c.read.new.out in
    let other = bytes-other parity stored (sym c.is_same.ensures ∙ other-told c.is_same.result c.if-not-is_same.true) in
    rounds-to asks does reads l c.loop-round.round c.args.data_dev.now c.args.hash_dev.now c.args.parity_dev.now c.loop-round.data_dev c.loop-round.hash_dev c.loop-round.parity_dev c.loop-round.invariant.rounds inside c.sum_parity.new.data_dev c.sum_parity.new.hash_dev parity c.in_ok-sum_parity.ensures.given s is stored c.read.new.self c.in_ok-read.ensures.call
    (λ x y one stands.
    other (parity-unique l x y c.loop-round.round parity stored valid (c.sum_parity.auto.parity ∙ c.loop-round.auto.parity ∙ c.requires.sums.parity_is) (c.read.auto.out ∙ c.loop-round.auto.stored ∙ c.requires.stored) one stands))

pub returns-clause-calls : goal.returns-clause-calls
returns-clause-calls g c =
    let asks = DeviceDoes g.D.BlockDev.state g.D.BlockDev.does in
    let does = DeviceDoes g.H.BlockDev.state g.H.BlockDev.does in
    let reads = DeviceDoes g.P.BlockDev.state g.P.BlockDev.does in
    let l = c.args.code.now.layout.now in
    let end : c.loop-round.round ≡ code_rounds l = omega (arith, c.loop-round-test.false, c.loop-round.auto.round-end, c.rounds-round-end.ensures.value) in
    subst (λ (n : ℕ). ChecksRounds asks does reads l n c.args.data_dev.now c.args.hash_dev.now c.args.parity_dev.now c.loop-round.data_dev c.loop-round.hash_dev c.loop-round.parity_dev) end c.loop-round.invariant.rounds

pub overflow_mul-round : goal.overflow_mul-round
overflow_mul-round g c =
    let l = c.args.code.now.layout.now in
    let valid = c.requires.sums.laid.layout in
    let s : ℕ = length c.args.stored.now / 512 in
    let is = round-quotient l (length c.args.stored.now) valid c.requires.stored in
    let inside : c.loop-round.round < code_rounds l = omega (arith, c.loop-round-test.true, c.rounds-round-end.ensures.value) in
    omega (arith, round-within l c.loop-round.round s s inside is is, parity-small l valid)

pub returns-then-not-is_same-clause-read : goal.returns-then-not-is_same-clause-read
returns-then-not-is_same-clause-read g c = read-then c.loop-round.invariant.read c.sum_parity.ensures.read

pub returns-then-not-is_same-clause-parity : goal.returns-then-not-is_same-clause-parity
returns-then-not-is_same-clause-parity g c = only_read-then c.loop-round.invariant.parity_read (call-read c.in_ok-read.ensures.moved)
