use Rattle.std.proofs.Common.{◌<◌, arith, length}
use Rattle.std.proofs.lemmas.Result.{err_from_is_err_and}
use Rattle.nbd_server.specs.Zeros.{zeros_of}
use Rattle.nbd_server.proofs.StoreLemmas.{lacks-first, run-lacks, run-stored, wrote-run, zero-fails}
use Rattle.nbd_server.proofs.ZeroLemmas.{length-zeros}
use Rattle.nbd_server.proofs.store.zero_run.Goals as goal

pub returns-in_err-bytes-clause-err : goal.returns-in_err-bytes-clause-err
returns-in_err-bytes-clause-err g c =
    let z = c.args.zeros.now in
    let some : 0 < length (zeros_of z) = omega (arith, length-zeros z.before.now z.behind.now z.count, c.requires.run.some) in
    let refused = c.in_err-bytes.ensures.err in
    let p = err_from_is_err_and c.from_residual.result c.from_residual.ensures.1 in
    rw (p.1, p.2) (lacks-first c.args.queue.now c.args.export.now.device.0 c.args.first (zeros_of z) some (refused.0, omega (arith, refused.1, c.requires.run.few), refused.2))

pub returns-in_err-bytes-clause-run : goal.returns-in_err-bytes-clause-run
returns-in_err-bytes-clause-run g c =
    let refused = c.in_err-bytes.ensures.err in
    let p = err_from_is_err_and c.from_residual.result c.from_residual.ensures.1 in
    rw (p.1, p.2) (run-lacks c.args.queue.now c.args.export.now.device.0 c.args.first (zeros_of c.args.zeros.now) (refused.0, omega (arith, refused.1, c.requires.run.few), refused.2))

pub returns-clause-ok : goal.returns-clause-ok
returns-clause-ok g c =
    let stored = rw (c.as_slice.ensures.value, c.in_ok-bytes.ensures.ok) at c.store.ensures.ok in
    run-stored c.args.queue.now c.args.export.now.device.0 c.args.first (zeros_of c.args.zeros.now) c.store.new.queue c.store.result stored

pub returns-clause-err : goal.returns-clause-err
returns-clause-err g c =
    let z = c.args.zeros.now in
    let fails = rw (c.as_slice.ensures.value, c.in_ok-bytes.ensures.ok) at c.store.ensures.err in
    zero-fails c.args.queue.now c.args.export.now.device.0 c.args.first (zeros_of z) c.store.new.queue c.store.result fails

pub returns-clause-run : goal.returns-clause-run
returns-clause-run g c =
    let stored = rw (c.as_slice.ensures.value, c.in_ok-bytes.ensures.ok) at c.store.ensures.ok in
    let fails = rw (c.as_slice.ensures.value, c.in_ok-bytes.ensures.ok) at c.store.ensures.err in
    wrote-run c.args.queue.now c.args.export.now.device.0 c.args.first (zeros_of c.args.zeros.now) c.store.new.queue c.store.result stored fails
