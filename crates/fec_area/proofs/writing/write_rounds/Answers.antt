use Rattle.std.proofs.Common.{◌+◌, ◌*◌, ◌/◌, ◌<◌, ◌≤◌, ℕ, List, IsTrue, length, sym, ap, ◌∙◌, arith, subst, refl, inl, inr}
use Rattle.std.proofs.lemmas.Result.{err_from_is_err_and}
use Rattle.block_device.specs.Call.{DeviceDoes}
use Rattle.fec_area.specs.Layouts.{IsParityOf, parity_sectors, code_rounds}
use Rattle.verity_format.proofs.lemmas.DeviceLemmas.{only_written-none, only_written-write, only_written-then, steady-then, failed-then}
use Rattle.fec_area.proofs.CallLemmas.{read-none, read-then, unfailed-none, unfailed-then, one_failed-then, laid-then, image-then}
use Rattle.fec_area.proofs.HandingLemmas.{handed-end, handed-failed, handed-next, handed-none, handed-stop}
use Rattle.fec_area.proofs.LayoutLemmas.{parity-small, round-quotient}
use Rattle.fec_area.proofs.WritingLemmas.{round-within, write-inside, written-more}
use Rattle.fec_area.proofs.writing.write_rounds.Goals as goal

pub loop-round-init : goal.loop-round-init
loop-round-init g c = record {
  read = read-none (g.D.BlockDev.state c.args.data_dev.now) (g.H.BlockDev.state c.args.hash_dev.now);
  unfailed = unfailed-none (g.D.BlockDev.state c.args.data_dev.now) (g.H.BlockDev.state c.args.hash_dev.now);
  written = only_written-none (g.P.BlockDev.state c.args.parity_dev.now) (parity_sectors c.args.code.now.layout.now);
  handed = handed-none (DeviceDoes g.D.BlockDev.state g.D.BlockDev.does) (DeviceDoes g.H.BlockDev.state g.H.BlockDev.does) (DeviceDoes g.P.BlockDev.state g.P.BlockDev.does) c.args.code.now.layout.now (g.D.BlockDev.state c.args.data_dev.now) (g.H.BlockDev.state c.args.hash_dev.now) c.args.data_dev.now c.args.hash_dev.now c.args.parity_dev.now;
  parity_unfailed = refl;
  parity = λ one other third r lt. absurd (omega (arith, lt));
}

pub sum_parity-requires-clause-can : goal.sum_parity-requires-clause-can
sum_parity-requires-clause-can g c = record {
  laid = laid-then c.args.code.now.layout.now c.loop-round.invariant.read c.requires.sums.laid;
  count_is = c.requires.sums.count_is;
  products_are = c.requires.sums.products_are;
  block_is = c.loop-round.auto.block ∙ c.requires.sums.block_is;
  parity_is = c.loop-round.auto.parity ∙ c.requires.sums.parity_is;
}

pub sum_parity-requires-clause-round : goal.sum_parity-requires-clause-round
sum_parity-requires-clause-round g c = omega (arith, c.loop-round-test.true, c.rounds-round-end.ensures.value)

pub returns-in_err-sum_parity-clause-read : goal.returns-in_err-sum_parity-clause-read
returns-in_err-sum_parity-clause-read g c = read-then c.loop-round.invariant.read c.sum_parity.ensures.read

pub returns-in_err-sum_parity-clause-err : goal.returns-in_err-sum_parity-clause-err
returns-in_err-sum_parity-clause-err g c =
    let p = err_from_is_err_and c.from_residual.result c.from_residual.ensures.1 in
    rw p.1 (inl (one_failed-then (g.D.BlockDev.state c.args.data_dev.now) (g.H.BlockDev.state c.args.hash_dev.now) (g.D.BlockDev.state c.loop-round.data_dev) (g.H.BlockDev.state c.loop-round.hash_dev) (g.D.BlockDev.state c.sum_parity.new.data_dev) (g.H.BlockDev.state c.sum_parity.new.hash_dev) c.loop-round.invariant.unfailed c.in_err-sum_parity.ensures.err))

pub write-requires-clause-range : goal.write-requires-clause-range
write-requires-clause-range g c =
    let l = c.args.code.now.layout.now in
    let valid = c.requires.sums.laid.layout in
    let size = c.sum_parity.auto.parity ∙ c.loop-round.auto.parity ∙ c.requires.sums.parity_is in
    let here = round-quotient l (length c.args.parity.now) valid c.requires.sums.parity_is in
    write-inside l (g.P.BlockDev.state c.args.parity_dev.now) (g.P.BlockDev.state c.loop-round.parity_dev) c.loop-round.round (length c.sum_parity.new.parity) _ valid c.requires.room c.loop-round.invariant.written.same.size
    (omega (arith, c.loop-round-test.true, c.rounds-round-end.ensures.value)) size here

pub write-requires-clause-allowed : goal.write-requires-clause-allowed
write-requires-clause-allowed g c = subst IsTrue (sym c.loop-round.invariant.written.same.may_write) c.requires.allowed

pub loop-round-preserved : goal.loop-round-preserved
loop-round-preserved g c =
    let l = c.args.code.now.layout.now in
    let valid = c.requires.sums.laid.layout in
    let here = c.loop-round.invariant in
    let parity = c.sum_parity.new.parity in
    let round = c.loop-round.round in
    let s = length c.args.parity.now / 512 in
    let k = length parity / 512 in
    let now = g.P.BlockDev.state c.loop-round.parity_dev in
    let new = g.P.BlockDev.state c.write.new.self in
    let a = g.D.BlockDev.state c.args.data_dev.now in
    let b = g.H.BlockDev.state c.args.hash_dev.now in
    let lt : round < code_rounds l = omega (arith, c.loop-round-test.true, c.rounds-round-end.ensures.value) in
    let size = c.sum_parity.auto.parity ∙ c.loop-round.auto.parity ∙ c.requires.sums.parity_is in
    let first = round-quotient l (length c.args.parity.now) valid c.requires.sums.parity_is in
    let count = round-quotient l (length parity) valid size in
    let within : round * s + k ≤ parity_sectors l = round-within l round s k lt first count in
    let whole = (g.met.P.BlockDev.whole c.loop-round.parity_dev).length in
    record {
      read = read-then here.read c.sum_parity.ensures.read;
      unfailed = unfailed-then here.unfailed c.in_ok-sum_parity.ensures.ok;
      written = only_written-then (parity_sectors l) here.written (only_written-write (round * s) k (parity_sectors l) c.in_ok-write.ensures.moved within);
      handed = handed-next (DeviceDoes g.D.BlockDev.state g.D.BlockDev.does) (DeviceDoes g.H.BlockDev.state g.H.BlockDev.does) (DeviceDoes g.P.BlockDev.state g.P.BlockDev.does) l a b c.args.data_dev.now c.args.hash_dev.now c.args.parity_dev.now c.loop-round.data_dev c.loop-round.hash_dev c.loop-round.parity_dev round here.handed c.sum_parity.new.data_dev c.sum_parity.new.hash_dev parity c.write.new.self (round * s) (ap (λ (m : ℕ). round * (m / 512)) c.requires.sums.parity_is)
          c.in_ok-sum_parity.ensures.given c.in_ok-write.ensures.call
          (λ one other. image-then here.read (λ (x y : List (List ℕ)). IsParityOf l x y round parity) c.in_ok-sum_parity.ensures.parity one other);
      parity_unfailed = c.in_ok-write.ensures.moved.failures ∙ here.parity_unfailed;
      parity = λ one other third.
          let steady = steady-then here.written.same third in
          let summed = image-then here.read (λ (x y : List (List ℕ)). IsParityOf l x y round parity) c.in_ok-sum_parity.ensures.parity one other in
          written-more l a.image b.image now.image new.image parity round (round * s) k valid size refl
          (ap (λ m. round * m) (first ∙ sym count))
          (omega (arith, within, c.requires.room, here.written.same.size, whole))
          (c.in_ok-write.ensures.image steady) summed (here.parity one other third);
    }

pub returns-in_err-write-clause-read : goal.returns-in_err-write-clause-read
returns-in_err-write-clause-read g c = read-then c.loop-round.invariant.read c.sum_parity.ensures.read

pub returns-in_err-write-clause-written : goal.returns-in_err-write-clause-written
returns-in_err-write-clause-written g c =
    let l = c.args.code.now.layout.now in
    let valid = c.requires.sums.laid.layout in
    let round = c.loop-round.round in
    let lt : round < code_rounds l = omega (arith, c.loop-round-test.true, c.rounds-round-end.ensures.value) in
    let size = c.sum_parity.auto.parity ∙ c.loop-round.auto.parity ∙ c.requires.sums.parity_is in
    let first = round-quotient l (length c.args.parity.now) valid c.requires.sums.parity_is in
    let count = round-quotient l (length c.sum_parity.new.parity) valid size in
    only_written-then (parity_sectors l) c.loop-round.invariant.written
    (only_written-write (round * (length c.args.parity.now / 512)) (length c.sum_parity.new.parity / 512) (parity_sectors l) c.in_err-write.ensures.moved (round-within l round _ _ lt first count))

pub returns-in_err-write-clause-err : goal.returns-in_err-write-clause-err
returns-in_err-write-clause-err g c =
    let p = err_from_is_err_and c.from_residual-in_err-write.result c.from_residual-in_err-write.ensures.1 in
    rw p.1 (inr (failed-then (g.P.BlockDev.state c.args.parity_dev.now) (g.P.BlockDev.state c.loop-round.parity_dev) (g.P.BlockDev.state c.write.new.self) c.loop-round.invariant.parity_unfailed c.in_err-write.ensures.fault))

pub returns-clause-ok : goal.returns-clause-ok
returns-clause-ok g c =
    let here = c.loop-round.invariant in
    let l = c.args.code.now.layout.now in
    record {
      unfailed = here.unfailed;
      parity_unfailed = here.parity_unfailed;
      parity = λ one other third round lt. here.parity one other third round (omega (arith, lt, c.loop-round-test.false, c.rounds-round-end.ensures.value));
    }

pub returns-in_err-sum_parity-clause-handed : goal.returns-in_err-sum_parity-clause-handed
returns-in_err-sum_parity-clause-handed g c =
    let p = err_from_is_err_and c.from_residual.result c.from_residual.ensures.1 in
    rw p.1 (handed-stop (DeviceDoes g.D.BlockDev.state g.D.BlockDev.does) (DeviceDoes g.H.BlockDev.state g.H.BlockDev.does) (DeviceDoes g.P.BlockDev.state g.P.BlockDev.does) c.args.code.now.layout.now (g.D.BlockDev.state c.args.data_dev.now) (g.H.BlockDev.state c.args.hash_dev.now) c.args.data_dev.now c.args.hash_dev.now c.args.parity_dev.now c.loop-round.data_dev c.loop-round.hash_dev c.loop-round.parity_dev c.loop-round.round c.loop-round.invariant.handed
    c.sum_parity.new.data_dev c.sum_parity.new.hash_dev (omega (arith, c.loop-round-test.true, c.rounds-round-end.ensures.value)) c.in_err-sum_parity.ensures.given)

pub returns-in_err-write-clause-handed : goal.returns-in_err-write-clause-handed
returns-in_err-write-clause-handed g c =
    let p = err_from_is_err_and c.from_residual-in_err-write.result c.from_residual-in_err-write.ensures.1 in
    rw p.1 (handed-failed (DeviceDoes g.D.BlockDev.state g.D.BlockDev.does) (DeviceDoes g.H.BlockDev.state g.H.BlockDev.does) (DeviceDoes g.P.BlockDev.state g.P.BlockDev.does) c.args.code.now.layout.now (g.D.BlockDev.state c.args.data_dev.now) (g.H.BlockDev.state c.args.hash_dev.now) c.args.data_dev.now c.args.hash_dev.now c.args.parity_dev.now c.loop-round.data_dev c.loop-round.hash_dev c.loop-round.parity_dev c.loop-round.round c.loop-round.invariant.handed
    c.sum_parity.new.data_dev c.sum_parity.new.hash_dev c.sum_parity.new.parity c.write.new.self (c.loop-round.round * (length c.args.parity.now / 512)) (ap (λ (m : ℕ). c.loop-round.round * (m / 512)) c.requires.sums.parity_is) c.in_ok-sum_parity.ensures.given
    (omega (arith, c.loop-round-test.true, c.rounds-round-end.ensures.value)) c.in_err-write.ensures.call)

pub returns-clause-handed : goal.returns-clause-handed
returns-clause-handed g c =
    handed-end (DeviceDoes g.D.BlockDev.state g.D.BlockDev.does) (DeviceDoes g.H.BlockDev.state g.H.BlockDev.does) (DeviceDoes g.P.BlockDev.state g.P.BlockDev.does) c.args.code.now.layout.now (g.D.BlockDev.state c.args.data_dev.now) (g.H.BlockDev.state c.args.hash_dev.now) c.args.data_dev.now c.args.hash_dev.now c.args.parity_dev.now c.loop-round.data_dev c.loop-round.hash_dev c.loop-round.parity_dev c.loop-round.round c.loop-round.invariant.handed
    (omega (arith, c.loop-round-test.false, c.loop-round.auto.round-end, c.rounds-round-end.ensures.value))

pub overflow_mul-round : goal.overflow_mul-round
overflow_mul-round g c =
    let l = c.args.code.now.layout.now in
    let valid = c.requires.sums.laid.layout in
    let s : ℕ = length c.args.parity.now / 512 in
    let is = round-quotient l (length c.args.parity.now) valid c.requires.sums.parity_is in
    let inside : c.loop-round.round < code_rounds l = omega (arith, c.loop-round-test.true, c.rounds-round-end.ensures.value) in
    omega (arith, round-within l c.loop-round.round s s inside is is, parity-small l valid)
