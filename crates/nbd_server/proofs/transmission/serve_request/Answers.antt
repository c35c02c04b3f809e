use Rattle.std.proofs.Common.{◌≡◌, ℕ, [], Result, Ok, Err, ap, sym, subst, ◌∙◌}
use Rattle.std.proofs.lemmas.Result.{err_from_is_err_and}
use Rattle.nbd_protocol.specs.declared.header.Command.{Command}
use Rattle.nbd_protocol.specs.declared.header.Command.TheVariants.{Write}
use Rattle.nbd_protocol.specs.declared.request_error.RequestError.{RequestError}
use Rattle.nbd_server.specs.declared.failure.Failure.{Failure}
use Rattle.nbd_protocol.specs.Exports.{export_record}
use Rattle.nbd_protocol.specs.Headers.{command_of}
use Rattle.nbd_protocol.specs.Streaming.{IsShort}
use Rattle.nbd_server.specs.Failures.{write_failure}
use Rattle.nbd_server.specs.Transmission.{ReportsSpace, ServesCommand, WritesGiven, data_outcome, no_bytes}
use Rattle.nbd_server.proofs.ByteLemmas.{bare-other, reports-done, reports-failed, served-bare, served-write, settled, unsettled, write-payload}
use Rattle.nbd_server.proofs.transmission.serve_request.Goals as goal

-- ---- a command that no bytes follow

pub serve_bare-requires-clause-within : goal.serve_bare-requires-clause-within
serve_bare-requires-clause-within g c = rw c.in-Ok.is at c.command.ensures.within

pub serve_bare-requires-clause-bare : goal.serve_bare-requires-clause-bare
serve_bare-requires-clause-bare g c = bare-other c.in-Ok.command c.in_default.not-Write

pub returns-in_ok-skip-in_default-clause-ok : goal.returns-in_ok-skip-in_default-clause-ok
returns-in_ok-skip-in_default-clause-ok g c =
    let e = export_record c.args.export.now in
    let w = c.args.queue.now in
    let w' = c.serve_bare.new.queue in
    let outcome = data_outcome c.serve_bare.result in
    let p = c.in_ok-skip-in_default.ensures.ok in
    let command : command_of e c.args.agreed c.args.header ≡ Ok c.in-Ok.command = sym c.command.ensures.value ∙ c.in-Ok.is in
    let bare = bare-other c.in-Ok.command c.in_default.not-Write in
    record {
      payload = p.bytes;
      size = p.count ∙ c.payload_len-in_default.ensures;
      consumed = p.consumed;
      serves = subst (λ (r : Result Command RequestError). ServesCommand e w r p.bytes outcome w') (sym command) (served-bare e w w' c.in-Ok.command p.bytes outcome bare c.serve_bare.ensures.value);
      inside = c.serve_bare.ensures.inside;
    }

-- ---- a WRITE

pub returns-in_err-take_write-in-Write-clause-err : goal.returns-in_err-take_write-in-Write-clause-err
returns-in_err-take_write-in-Write-clause-err g c =
    let e = export_record c.args.export.now in
    let a = c.args.agreed in
    let h = c.args.header in
    let w = c.in-Write in
    let input = g.R.Read.remaining c.args.reader.now.inner in
    let input' = g.R.Read.remaining c.take_write.new.reader.inner in
    let x = c.in_err-take_write-in-Write.field-0.0 in
    let short = c.in_err-take_write-in-Write.ensures.err in
    let command : command_of e a h ≡ Ok (Write w.offset w.length w.fua) = sym c.command.ensures.value ∙ c.in-Ok.is ∙ ap Ok w.is in
    let p = err_from_is_err_and c.from_residual-in_err-take_write-in-Write.result c.from_residual-in_err-take_write-in-Write.ensures.1 in
    rw (p.1, p.2) (subst (λ (n : ℕ). IsShort n input input' x) (sym (write-payload w.offset w.length w.fua e a h command)) short.0, short.1)

pub returns-in-Ok-2-clause-ok : goal.returns-in-Ok-2-clause-ok
returns-in-Ok-2-clause-ok g c =
    let e = export_record c.args.export.now in
    let a = c.args.agreed in
    let h = c.args.header in
    let w = c.in-Write in
    let p = c.in_ok-take_write-in-Write.ensures.ok in
    let command : command_of e a h ≡ Ok (Write w.offset w.length w.fua) = sym c.command.ensures.value ∙ c.in-Ok.is ∙ ap Ok w.is in
    let does = WritesGiven e c.args.queue.now w.offset p.0 in
    let given : does (Ok []) c.take_write.new.queue = subst (λ (r : Result Unit Failure). does (no_bytes r) c.take_write.new.queue) c.in-Ok-2.is p.3 in
    record {
      payload = p.0;
      size = p.1 ∙ sym (write-payload w.offset w.length w.fua e a h command);
      consumed = p.2;
      serves = served-write e a c.args.queue.now c.settle.new.queue h w.offset w.length w.fua p.0 (data_outcome c.settle.result) command
          (settled w.fua (ReportsSpace does) c.take_write.new.queue c.settle.new.queue (data_outcome c.settle.result) (reports-done does c.take_write.new.queue given) c.settle.ensures.value);
      inside = c.settle.ensures.inside;
    }

pub returns-in-Err-2-clause-ok : goal.returns-in-Err-2-clause-ok
returns-in-Err-2-clause-ok g c =
    let e = export_record c.args.export.now in
    let a = c.args.agreed in
    let h = c.args.header in
    let w = c.in-Write in
    let p = c.in_ok-take_write-in-Write.ensures.ok in
    let error = c.in-Err-2.error in
    let w' = c.take_write.new.queue in
    let command : command_of e a h ≡ Ok (Write w.offset w.length w.fua) = sym c.command.ensures.value ∙ c.in-Ok.is ∙ ap Ok w.is in
    let does = WritesGiven e c.args.queue.now w.offset p.0 in
    let given : does (Err error) c.take_write.new.queue = subst (λ (r : Result Unit Failure). does (no_bytes r) c.take_write.new.queue) c.in-Err-2.is p.3 in
    record {
      payload = p.0;
      size = p.1 ∙ sym (write-payload w.offset w.length w.fua e a h command);
      consumed = p.2;
      serves = rw (c.of_write.ensures, c.stack.ensures) (served-write e a c.args.queue.now w' h w.offset w.length w.fua p.0 (Err (write_failure w'.stack.leaves error)) command
          (unsettled w.fua (ReportsSpace does) w' (write_failure w'.stack.leaves error) (reports-failed does w' error given)));
      inside = tt;
    }
