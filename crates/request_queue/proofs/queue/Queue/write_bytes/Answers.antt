use Rattle.std.proofs.Common.{◌/◌, Ok, Err, length, subst}
use Rattle.std.proofs.lemmas.Result.{err_from_is_err_and}
use Rattle.request_queue.specs.AtOnce.{BytesWritten}
use Rattle.request_queue.specs.PieceCalls.{HandsInTurn}
use Rattle.request_queue.specs.Ranges.{range_at}
use Rattle.request_queue.specs.World.{World, world}
use Rattle.request_queue.proofs.WrittenPieceLemmas.{written-bytes}
use Rattle.request_queue.proofs.queue.Queue.write_bytes.Goals as goal

pub returns-clause-written : goal.returns-clause-written
returns-clause-written g c =
    let q = c.self.inside in
    let range = rw c.config.ensures.value at c.in_ok-write_range.ensures.value in
    subst (λ w. BytesWritten w c.args.device.0 c.args.first c.args.bytes.now (Ok tt) (world c.write_pieces.new.stack q.given q.flights.items)) c.self.view_is
    (written-bytes q.stack c.write_pieces.new.stack q.given q.flights.items c.args.device.0 c.args.first c.args.bytes.now c.in_ok-write_range.field-0 (Ok tt) range c.in_ok-write_pieces.ensures.whole c.in_ok-write_pieces.ensures.steps)

pub returns-clause-handed : goal.returns-clause-handed
returns-clause-handed g c =
    subst (λ (w : World). HandsInTurn g.D.BlockDev.state g.D.BlockDev.does (range_at c.args.device.0 c.args.first (length c.args.bytes.now / 512)) w.stack c.args.bytes.now (Ok tt) c.write_pieces.new.stack) c.self.view_is
    c.in_ok-write_pieces.ensures.handed

pub returns-in_err-write_pieces-clause-handed : goal.returns-in_err-write_pieces-clause-handed
returns-in_err-write_pieces-clause-handed g c =
    let piece = c.in_err-write_pieces.field-0.0 in
    let p = err_from_is_err_and c.from_residual-in_err-write_pieces.result c.from_residual-in_err-write_pieces.ensures.1 in
    rw (p.1, p.2) (subst (λ (w : World). HandsInTurn g.D.BlockDev.state g.D.BlockDev.does (range_at c.args.device.0 c.args.first (length c.args.bytes.now / 512)) w.stack c.args.bytes.now (Err piece.fault) c.write_pieces.new.stack) c.self.view_is
    c.in_err-write_pieces.ensures.handed)

pub returns-in_err-write_pieces-clause-written : goal.returns-in_err-write_pieces-clause-written
returns-in_err-write_pieces-clause-written g c =
    let q = c.self.inside in
    let piece = c.in_err-write_pieces.field-0.0 in
    let p = err_from_is_err_and c.from_residual-in_err-write_pieces.result c.from_residual-in_err-write_pieces.ensures.1 in
    let range = rw c.config.ensures.value at c.in_ok-write_range.ensures.value in
    rw (p.1, p.2) (subst (λ w. BytesWritten w c.args.device.0 c.args.first c.args.bytes.now (Err piece) (world c.write_pieces.new.stack q.given q.flights.items)) c.self.view_is
    (written-bytes q.stack c.write_pieces.new.stack q.given q.flights.items c.args.device.0 c.args.first c.args.bytes.now c.in_ok-write_range.field-0 (Err piece) range c.in_err-write_pieces.ensures.whole c.in_err-write_pieces.ensures.steps))
