use Rattle.std.proofs.Common.{◌≡◌, ◌/◌, Ok, Err, length, subst}
use Rattle.std.proofs.lemmas.Result.{err_from_is_err_and}
use Rattle.request_queue.specs.AtOnce.{EndsRead}
use Rattle.request_queue.specs.Parts.{EachPart}
use Rattle.request_queue.specs.PieceCalls.{CalledPart}
use Rattle.request_queue.specs.Ranges.{bytes_range, range_at}
use Rattle.request_queue.specs.World.{BytesRead, World, world}
use Rattle.request_queue.proofs.RequestPieceLemmas.{bytes-called, bytes-done}
use Rattle.request_queue.proofs.queue.Queue.read_bytes.Goals as goal

pub returns-in_err-read_pieces-clause-step : goal.returns-in_err-read_pieces-clause-step
returns-in_err-read_pieces-clause-step g c =
    let q = c.self.inside in
    let size = length c.args.out.now in
    let piece = c.in_err-read_pieces.field-0.0 in
    let p = err_from_is_err_and c.from_residual-in_err-read_pieces.result c.from_residual-in_err-read_pieces.ensures.1 in
    let range : Ok c.in_ok-bytes_range.field-0 ≡ bytes_range q.stack.config c.args.device.0 c.args.first size = rw c.config.ensures.value at c.in_ok-bytes_range.ensures.value in
    rw (p.1, p.2) (subst (λ w. BytesRead EachPart w c.args.device.0 c.args.first size (Err piece.fault) (world c.read_pieces.new.stack q.given q.flights.items)) c.self.view_is
    (bytes-done q.stack c.read_pieces.new.stack q.given q.flights.items c.args.device.0 c.args.first size c.in_ok-bytes_range.field-0 (Err piece) range c.in_err-read_pieces.ensures.read))

pub returns-in_err-read_pieces-clause-pieces : goal.returns-in_err-read_pieces-clause-pieces
returns-in_err-read_pieces-clause-pieces g c =
    let piece = c.in_err-read_pieces.field-0.0 in
    let p = err_from_is_err_and c.from_residual-in_err-read_pieces.result c.from_residual-in_err-read_pieces.ensures.1 in
    rw (p.1, p.2) (subst (λ (w : World). EndsRead (range_at c.args.device.0 c.args.first (length c.args.out.now / 512)) w.stack (Err piece) c.read_pieces.new.stack) c.self.view_is c.in_err-read_pieces.ensures.read.pieces)

pub returns-clause-step : goal.returns-clause-step
returns-clause-step g c =
    let q = c.self.inside in
    let size = length c.args.out.now in
    let range : Ok c.in_ok-bytes_range.field-0 ≡ bytes_range q.stack.config c.args.device.0 c.args.first size = rw c.config.ensures.value at c.in_ok-bytes_range.ensures.value in
    subst (λ w. BytesRead EachPart w c.args.device.0 c.args.first size (Ok c.read_pieces.new.out) (world c.read_pieces.new.stack q.given q.flights.items)) c.self.view_is
    (bytes-done q.stack c.read_pieces.new.stack q.given q.flights.items c.args.device.0 c.args.first size c.in_ok-bytes_range.field-0 (Ok c.read_pieces.new.out) range c.in_ok-read_pieces.ensures.read)

pub returns-clause-pieces : goal.returns-clause-pieces
returns-clause-pieces g c =
    subst (λ (w : World). EndsRead (range_at c.args.device.0 c.args.first (length c.args.out.now / 512)) w.stack (Ok c.read_pieces.new.out) c.read_pieces.new.stack) c.self.view_is c.in_ok-read_pieces.ensures.read.pieces

pub returns-clause-called : goal.returns-clause-called
returns-clause-called g c =
    let q = c.self.inside in
    let size = length c.args.out.now in
    let range : Ok c.in_ok-bytes_range.field-0 ≡ bytes_range q.stack.config c.args.device.0 c.args.first size = rw c.config.ensures.value at c.in_ok-bytes_range.ensures.value in
    subst (λ w. BytesRead (CalledPart g.D.BlockDev.state g.D.BlockDev.does) w c.args.device.0 c.args.first size (Ok c.read_pieces.new.out) (world c.read_pieces.new.stack q.given q.flights.items)) c.self.view_is
    (bytes-called q.stack c.read_pieces.new.stack q.given q.flights.items c.args.device.0 c.args.first size c.in_ok-bytes_range.field-0 (Ok c.read_pieces.new.out) range c.in_ok-read_pieces.ensures.given)

pub returns-in_err-read_pieces-clause-called : goal.returns-in_err-read_pieces-clause-called
returns-in_err-read_pieces-clause-called g c =
    let q = c.self.inside in
    let size = length c.args.out.now in
    let piece = c.in_err-read_pieces.field-0.0 in
    let p = err_from_is_err_and c.from_residual-in_err-read_pieces.result c.from_residual-in_err-read_pieces.ensures.1 in
    let range : Ok c.in_ok-bytes_range.field-0 ≡ bytes_range q.stack.config c.args.device.0 c.args.first size = rw c.config.ensures.value at c.in_ok-bytes_range.ensures.value in
    rw (p.1, p.2) (subst (λ w. BytesRead (CalledPart g.D.BlockDev.state g.D.BlockDev.does) w c.args.device.0 c.args.first size (Err piece.fault) (world c.read_pieces.new.stack q.given q.flights.items)) c.self.view_is
    (bytes-called q.stack c.read_pieces.new.stack q.given q.flights.items c.args.device.0 c.args.first size c.in_ok-bytes_range.field-0 (Err piece.fault) range c.in_err-read_pieces.ensures.given))
