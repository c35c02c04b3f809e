use Rattle.std.proofs.Common.{◌≡◌, ℕ, ◌+◌, ◌-◌, ◌*◌, ◌/◌, ◌≤◌, IsTrue, List, length, take, sym, ap, subst, ◌∙◌, arith}
use Rattle.std.proofs.lemmas.List.{length-take-le}
use Rattle.device_adapters.specs.Copying.{AreCopied}
use Rattle.device_adapters.proofs.CopyLemmas.{copied-failed, copied-more, copied-none, ended-on}
use Rattle.device_adapters.proofs.copying.copy_sectors.Goals as goal

pub runs-init : goal.runs-init
runs-init g c = record { so_far = copied-none (g.D.BlockDev.state c.args.from.now) (g.O.BlockDev.state c.args.to.now); within = omega arith }

pub copy_run-requires-clause-from : goal.copy_run-requires-clause-from
copy_run-requires-clause-from g c =
    let m : ℕ = c.min-count.result in
    let long : length (take (m * 512) c.runs.room) ≡ m * 512 = length-take-le (m * 512) c.runs.room (omega (arith, c.min-count.ensures, c.runs.auto.room, c.requires.room)) in
    let few : m ≤ 128 = omega (arith, c.min-count.ensures) in
    record {
      some = omega (arith, long, c.min-count.ensures, c.runs-test.true);
      whole = omega (arith, long);
      inside = omega (arith, long, c.min-count.ensures, c.runs.invariant.within, c.runs.invariant.so_far.from_same.size, c.sectors-all.ensures.size);
    }

pub copy_run-requires-clause-to : goal.copy_run-requires-clause-to
copy_run-requires-clause-to g c =
    let m : ℕ = c.min-count.result in
    let long : length (take (m * 512) c.runs.room) ≡ m * 512 = length-take-le (m * 512) c.runs.room (omega (arith, c.min-count.ensures, c.runs.auto.room, c.requires.room)) in
    record {
      some = omega (arith, long, c.min-count.ensures, c.runs-test.true);
      whole = omega (arith, long);
      inside = omega (arith, long, c.min-count.ensures, c.runs.invariant.within, c.runs.invariant.so_far.to_same.size, c.sectors-all.ensures.size, c.requires.fits);
    }

pub copy_run-requires-clause-allowed : goal.copy_run-requires-clause-allowed
copy_run-requires-clause-allowed g c = subst IsTrue (sym c.runs.invariant.so_far.to_same.may_write) c.requires.allowed

pub returns-in_err-copy_run-clause-err : goal.returns-in_err-copy_run-clause-err
returns-in_err-copy_run-clause-err g c =
    ended-on c.from_residual.result
    (copied-failed (g.D.BlockDev.state c.args.from.now) (g.O.BlockDev.state c.args.to.now) (g.D.BlockDev.state c.runs.from) (g.O.BlockDev.state c.runs.to) (g.D.BlockDev.state c.copy_run.new.from) (g.O.BlockDev.state c.copy_run.new.to)
    c.runs.done c.runs.invariant.so_far c.in_err-copy_run.ensures.err)

pub runs-preserved : goal.runs-preserved
runs-preserved g c =
    let m : ℕ = c.min-count.result in
    let k : ℕ = c.runs.done in
    let whole = g.met.D.BlockDev.whole c.args.from.now in
    let long : length (take (m * 512) c.runs.room) ≡ m * 512 = length-take-le (m * 512) c.runs.room (omega (arith, c.min-count.ensures, c.runs.auto.room, c.requires.room)) in
    let count : length (take (m * 512) c.runs.room) / 512 ≡ m = omega (arith, long) in
    record {
      so_far = copied-more (g.D.BlockDev.state c.args.from.now) (g.O.BlockDev.state c.args.to.now) (g.D.BlockDev.state c.runs.from) (g.O.BlockDev.state c.runs.to) (g.D.BlockDev.state c.copy_run.new.from) (g.O.BlockDev.state c.copy_run.new.to) k m
          (omega (arith, c.min-count.ensures, c.runs.invariant.within, c.sectors-all.ensures.size, whole.length)) c.runs.invariant.so_far
          (subst (λ (j : ℕ). AreCopied (g.D.BlockDev.state c.runs.from) (g.O.BlockDev.state c.runs.to) k j (g.D.BlockDev.state c.copy_run.new.from) (g.O.BlockDev.state c.copy_run.new.to)) count c.in_ok-copy_run.ensures.ok);
      within = omega (arith, c.min-count.ensures, c.runs.invariant.within);
    }

pub returns-clause-ok : goal.returns-clause-ok
returns-clause-ok g c =
    let all : c.runs.done ≡ (g.D.BlockDev.state c.args.from.now).size = omega (arith, c.runs.invariant.within, c.runs-test.false, c.sectors-all.ensures.size) in
    subst (λ (j : ℕ). AreCopied (g.D.BlockDev.state c.args.from.now) (g.O.BlockDev.state c.args.to.now) 0 j (g.D.BlockDev.state c.runs.from) (g.O.BlockDev.state c.runs.to)) all c.runs.invariant.so_far
