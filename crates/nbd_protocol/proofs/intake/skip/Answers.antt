use Rattle.std.proofs.Common.{◌≡◌, Ok, ◌-◌, arith, length, length-append, length-drop, drop, subst}
use Rattle.std.proofs.lemmas.List.{length-take-le}
use Rattle.std.proofs.lemmas.Result.{err_from_is_err_and}
use Rattle.nbd_protocol.specs.declared.fault.ServiceFault.TheVariants as fault
use Rattle.nbd_protocol.specs.Streaming.{Fills}
use Rattle.nbd_protocol.proofs.lemmas.CountedLemmas.{read-fewer, read-other, read-then}
use Rattle.nbd_protocol.proofs.lemmas.IntakeLemmas.{skipped-lost, skipped-more, skipped-short}
use Rattle.nbd_protocol.proofs.intake.skip.Goals as goal

pub returns-in_err-fill-clause-err : goal.returns-in_err-fill-clause-err
returns-in_err-fill-clause-err g c =
    let part = c.min-part.result in
    let some : length c.fill.new.buffer ≡ part = omega (arith, c.fill.auto.buffer, c.min-part.ensures, c.pieces.invariant.room, length-take-le part c.pieces.piece (omega (arith, c.min-part.ensures, c.pieces.invariant.room))) in
    let p = err_from_is_err_and c.from_residual.result c.from_residual.ensures.1 in
    rw (p.1, p.2) (skipped-short (length c.fill.new.buffer) (g.R.Read.remaining c.fill.new.reader.inner) c.in_err-fill.field-0.0 c.pieces.invariant.skipped (omega (arith, some, c.min-part.ensures)) c.in_err-fill.ensures.filled)

pub returns-in_err-fill-clause-reader : goal.returns-in_err-fill-clause-reader
returns-in_err-fill-clause-reader g c =
    let p = err_from_is_err_and c.from_residual.result c.from_residual.ensures.1 in
    rw (p.1, p.2) (read-fewer 0 (read-then c.pieces.invariant.read c.in_err-fill.ensures.reader) (omega arith))

pub returns-then-not-branch-clause-err : goal.returns-then-not-branch-clause-err
returns-then-not-branch-clause-err g c =
    let mid = g.R.Read.remaining c.pieces.reader.inner in
    let new = g.R.Read.remaining c.fill.new.reader.inner in
    let none = subst (λ b. Fills mid new c.fill.new.buffer (Ok b)) c.if-not-branch.true c.in_ok-fill.ensures.filled in
    skipped-lost new c.pieces.invariant.skipped (omega arith) none

pub returns-then-not-branch-clause-reader : goal.returns-then-not-branch-clause-reader
returns-then-not-branch-clause-reader g c = read-other fault.Lost (read-fewer 0 (read-then c.pieces.invariant.read c.in_ok-fill.ensures.reader) (omega arith)) (λ is. (cc))

pub pieces-preserved : goal.pieces-preserved
pieces-preserved g c =
    let part = c.min-part.result in
    let mid = g.R.Read.remaining c.pieces.reader.inner in
    let new = g.R.Read.remaining c.fill.new.reader.inner in
    let some : length c.fill.new.buffer ≡ part = omega (arith, c.fill.auto.buffer, c.min-part.ensures, c.pieces.invariant.room, length-take-le part c.pieces.piece (omega (arith, c.min-part.ensures, c.pieces.invariant.room))) in
    let filled = subst (λ b. Fills mid new c.fill.new.buffer (Ok b)) c.if-not-branch.false c.in_ok-fill.ensures.filled in
    record {
      skipped = skipped-more new c.fill.new.buffer (c.pieces.left - part) c.pieces.invariant.skipped filled (omega (arith, some, c.min-part.ensures));
      read = read-fewer 0 (read-then c.pieces.invariant.read c.in_ok-fill.ensures.reader) (omega arith);
      room = omega (arith, length-append c.fill.new.buffer (drop part c.pieces.piece), length-drop part c.pieces.piece, some, c.min-part.ensures, c.pieces.invariant.room);
    }
