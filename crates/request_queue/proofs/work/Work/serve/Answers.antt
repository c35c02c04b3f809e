use Rattle.std.proofs.Common.{ap}
use Rattle.request_queue.specs.Flights.{reads}
use Rattle.request_queue.proofs.WriteLemmas.{err-from, part-bytes, read-done, read-short, read-unkept, write-called, write-done, write-failed, write-lost}
use Rattle.request_queue.proofs.work.Work.serve.Goals as goal

pub returns-in-Write-clause-ok : goal.returns-in-Write-clause-ok
returns-in-Write-clause-ok g c =
    rw c.in-Write.is (write-done c.args.piece c.args.done c.in-Write.bytes.items c.write_piece.result c.write_piece.ensures.piece c.write_piece.ensures.any c.write_piece.ensures.steady c.write_piece.ensures.checked
    (part-bytes c.deref.result.now c.in-Write.bytes.items c.args.done c.args.piece.count c.deref.ensures.value))

pub returns-in-Write-clause-err : goal.returns-in-Write-clause-err
returns-in-Write-clause-err g c =
    rw c.in-Write.is (write-failed c.args.piece c.args.done c.in-Write.bytes.items c.write_piece.result c.write_piece.ensures.piece c.write_piece.ensures.any c.write_piece.ensures.steady c.write_piece.ensures.checked
    (part-bytes c.deref.result.now c.in-Write.bytes.items c.args.done c.args.piece.count c.deref.ensures.value))

pub returns-in-Write-clause-called : goal.returns-in-Write-clause-called
returns-in-Write-clause-called g c =
    rw c.in-Write.is (write-called g.D.BlockDev.state g.D.BlockDev.does c.args.stack.now c.write_piece.new.self c.args.piece c.args.done c.in-Write.bytes.items c.write_piece.result
    (part-bytes c.deref.result.now c.in-Write.bytes.items c.args.done c.args.piece.count c.deref.ensures.value) c.write_piece.ensures.handed)

pub returns-in-Write-clause-failed : goal.returns-in-Write-clause-failed
returns-in-Write-clause-failed g c =
    rw c.in-Write.is (write-lost g.D.BlockDev.state g.D.BlockDev.does c.args.stack.now c.write_piece.new.self c.args.piece c.args.done c.in-Write.bytes.items c.write_piece.result
    (part-bytes c.deref.result.now c.in-Write.bytes.items c.args.done c.args.piece.count c.deref.ensures.value) c.write_piece.ensures.handed)

pub returns-in-Ok-clause-ok : goal.returns-in-Ok-clause-ok
returns-in-Ok-clause-ok g c =
    let read = c.in_ok-more-in-Read.ensures in
    rw c.in-Read.is (read-done c.args.piece c.args.done c.in-Read.got c.in_ok-more-in-Read.more read.any read.kept read.steady (ap (λ x. reads x) c.in-Ok.ensures.ok))

pub returns-in-Err-clause-err : goal.returns-in-Err-clause-err
returns-in-Err-clause-err g c =
    let read = c.in_ok-more-in-Read.ensures in
    rw c.in-Read.is (read-short c.args.piece c.args.done c.in-Read.got c.in_ok-more-in-Read.more read.any read.kept c.in-Err.ensures.err)

pub returns-in-Err-clause-failed : goal.returns-in-Err-clause-failed
returns-in-Err-clause-failed g c =
    rw c.in-Read.is (read-unkept g.D.BlockDev.state g.D.BlockDev.does c.args.stack.now c.read_piece.new.self c.args.piece c.args.done c.in-Read.got _ c.in_ok-more-in-Read.ensures.given)

pub returns-in_err-more-in-Read-clause-err : goal.returns-in_err-more-in-Read-clause-err
returns-in_err-more-in-Read-clause-err g c =
    let read = c.in_err-more-in-Read.ensures in
    rw c.in-Read.is (err-from c.from_residual.result _ c.in_err-more-in-Read.field-0.0 c.from_residual.ensures.1 (record { answered = record { any = read.any; steady = read.steady }; kept = read.kept }))
