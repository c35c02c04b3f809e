use Rattle.std.proofs.Common.{◌≡◌, ◌≢◌, Ok, Some, inl, inr, ap, sym, ◌∙◌, refl, subst, arith, length}
use Rattle.std.proofs.KnownBytes.{Appends-kept}
use Rattle.std.proofs.lemmas.Result.{err_from_is_err_and}
use Rattle.nbd_protocol.specs.declared.fault.ServiceFault.TheVariants as fault
use Rattle.nbd_protocol.specs.declared.header.Header.{Header}
use Rattle.nbd_protocol.specs.declared.phase.Phase.TheVariants.{Serving}
use Rattle.nbd_protocol.specs.Exports.{export_record}
use Rattle.nbd_protocol.specs.Headers.{command_of, header_of, request_magic}
use Rattle.nbd_protocol.specs.Numbers.{big_endian32}
use Rattle.nbd_protocol.specs.Streaming.{Fills}
use Rattle.nbd_server.specs.Tallies.{moved_bytes}
use Rattle.nbd_server.specs.Transmission.{data_outcome}
use Rattle.nbd_protocol.proofs.lemmas.CountedLemmas.{read-then, read-other, written-same, written-ok, written-failed, stops-reading}
use Rattle.nbd_server.proofs.FlushLemmas.{grows-kept}
use Rattle.nbd_server.proofs.MessageLemmas.{header-cut, request-delivered, request-last, request-lost, request-served, request-stuck, request-unanswered, request-unlike}
use Rattle.nbd_server.proofs.transmission.take_request.Goals as goal

-- ---- the header

pub returns-in_err-fill-clause-turn : goal.returns-in_err-fill-clause-turn
returns-in_err-fill-clause-turn g c = λ es at.
    let input = g.R.Read.remaining c.args.reader.now.inner in
    let mid = g.R.Read.remaining c.fill.new.reader.inner in
    let p = err_from_is_err_and c.from_residual.result c.from_residual.ensures.1 in
    rw (p.1, p.2) (
      header-cut es (Serving c.args.agreed) 28 (λ rest cut. inl cut) c.args.queue.now input mid (g.W.Write.contents c.args.writer.now.inner) c.in_err-fill.field-0.0 (length c.fill.new.buffer)
          (omega (arith, c.fill.auto.buffer)) c.in_err-fill.ensures.filled,
      refl,
    )

pub returns-in_err-fill-clause-reader : goal.returns-in_err-fill-clause-reader
returns-in_err-fill-clause-reader g c =
    let p = err_from_is_err_and c.from_residual.result c.from_residual.ensures.1 in
    rw (p.1, p.2) c.in_err-fill.ensures.reader

pub returns-in_err-fill-clause-writer : goal.returns-in_err-fill-clause-writer
returns-in_err-fill-clause-writer g c =
    let p = err_from_is_err_and c.from_residual.result c.from_residual.ensures.1 in
    let x = c.in_err-fill.field-0.0 in
    rw (p.1, p.2) (written-same c.args.writer.now (Some x) (stops-reading (g.R.Read.remaining c.fill.new.reader.inner) x c.in_err-fill.ensures.filled.0.cause))

pub returns-then-number32-ne-MAGIC-clause-turn : goal.returns-then-number32-ne-MAGIC-clause-turn
returns-then-number32-ne-MAGIC-clause-turn g c = λ es at.
    let input = g.R.Read.remaining c.args.reader.now.inner in
    let mid = g.R.Read.remaining c.fill.new.reader.inner in
    let bytes = c.fill.new.buffer in
    let first = subst (λ b. Fills input mid bytes (Ok b)) c.if-not-branch.false c.in_ok-fill.ensures.filled in
    let size : length bytes ≡ 28 = omega (arith, c.fill.auto.buffer) in
    let other : big_endian32 bytes 0 ≢ request_magic = λ is. c.if-number32-ne-MAGIC.true (c.number32.ensures ∙ is) in
    (request-unlike es c.args.agreed c.args.queue.now input mid (g.W.Write.contents c.args.writer.now.inner) bytes first size other, refl)

pub returns-then-number32-ne-MAGIC-clause-reader : goal.returns-then-number32-ne-MAGIC-clause-reader
returns-then-number32-ne-MAGIC-clause-reader g c = read-other fault.Magic c.in_ok-fill.ensures.reader (λ is. (cc))

pub returns-then-number32-ne-MAGIC-clause-writer : goal.returns-then-number32-ne-MAGIC-clause-writer
returns-then-number32-ne-MAGIC-clause-writer g c = written-same c.args.writer.now (Some fault.Magic) (λ is. (cc))

-- ---- the request

pub returns-then-header-eq-DISCONNECT-clause-turn : goal.returns-then-header-eq-DISCONNECT-clause-turn
returns-then-header-eq-DISCONNECT-clause-turn g c = λ es at.
    let input = g.R.Read.remaining c.args.reader.now.inner in
    let mid = g.R.Read.remaining c.fill.new.reader.inner in
    let bytes = c.fill.new.buffer in
    let first = subst (λ b. Fills input mid bytes (Ok b)) c.if-not-branch.false c.in_ok-fill.ensures.filled in
    let size : length bytes ≡ 28 = omega (arith, c.fill.auto.buffer) in
    let magic : big_endian32 bytes 0 ≡ request_magic = omega (arith, c.number32.ensures, c.if-number32-ne-MAGIC.false) in
    let kind : (header_of bytes).kind ≡ 2 = sym (ap (λ (h : Header). h.kind) c.of-header.ensures) ∙ c.if-header-eq-DISCONNECT.true in
    request-last es c.args.agreed c.args.queue.now c.args.state.now.log input mid (g.W.Write.contents c.args.writer.now.inner) bytes first size magic kind

pub returns-in_err-outcome-clause-turn : goal.returns-in_err-outcome-clause-turn
returns-in_err-outcome-clause-turn g c = λ es at.
    let input = g.R.Read.remaining c.args.reader.now.inner in
    let mid = g.R.Read.remaining c.fill.new.reader.inner in
    let input' = g.R.Read.remaining c.serve_request.new.reader.inner in
    let bytes = c.fill.new.buffer in
    let first = subst (λ b. Fills input mid bytes (Ok b)) c.if-not-branch.false c.in_ok-fill.ensures.filled in
    let size : length bytes ≡ 28 = omega (arith, c.fill.auto.buffer) in
    let magic : big_endian32 bytes 0 ≡ request_magic = omega (arith, c.number32.ensures, c.if-number32-ne-MAGIC.false) in
    let p = err_from_is_err_and c.from_residual-in_err-outcome.result c.from_residual-in_err-outcome.ensures.1 in
    rw (p.1, p.2) (request-lost es c.args.agreed (export_record c.args.export.now) at c.args.queue.now c.serve_request.new.queue input mid input' bytes first size magic (g.W.Write.contents c.args.writer.now.inner) c.in_err-outcome.field-0.0 (rw c.of-header.ensures at c.in_err-outcome.ensures.err), refl)

pub returns-in_err-outcome-clause-reader : goal.returns-in_err-outcome-clause-reader
returns-in_err-outcome-clause-reader g c =
    let p = err_from_is_err_and c.from_residual-in_err-outcome.result c.from_residual-in_err-outcome.ensures.1 in
    rw (p.1, p.2) (read-then c.in_ok-fill.ensures.reader c.in_err-outcome.ensures.reader)

pub returns-in_err-outcome-clause-writer : goal.returns-in_err-outcome-clause-writer
returns-in_err-outcome-clause-writer g c =
    let p = err_from_is_err_and c.from_residual-in_err-outcome.result c.from_residual-in_err-outcome.ensures.1 in
    let x = c.in_err-outcome.field-0.0 in
    rw (p.1, p.2) (written-same c.args.writer.now (Some x) (stops-reading (g.R.Read.remaining c.serve_request.new.reader.inner) x c.in_err-outcome.ensures.err.0.cause))

-- ---- a READ that is answered piece by piece

pub deliver-requires : goal.deliver-requires
deliver-requires g c = record { export = c.requires.export; within = c.in-Some.ensures.within }

pub returns-in_err-lost-in-Some-clause-turn : goal.returns-in_err-lost-in-Some-clause-turn
returns-in_err-lost-in-Some-clause-turn g c = λ es at.
    let input = g.R.Read.remaining c.args.reader.now.inner in
    let mid = g.R.Read.remaining c.fill.new.reader.inner in
    let bytes = c.fill.new.buffer in
    let first = subst (λ b. Fills input mid bytes (Ok b)) c.if-not-branch.false c.in_ok-fill.ensures.filled in
    let size : length bytes ≡ 28 = omega (arith, c.fill.auto.buffer) in
    let magic : big_endian32 bytes 0 ≡ request_magic = omega (arith, c.number32.ensures, c.if-number32-ne-MAGIC.false) in
    let other : (header_of bytes).kind ≢ 2 = λ is. c.if-header-eq-DISCONNECT.false (ap (λ (h : Header). h.kind) c.of-header.ensures ∙ is) in
    let found = rw c.of-header.ensures at (sym c.of.ensures.value ∙ c.in-Some.is) in
    let p = err_from_is_err_and c.from_residual-in_err-lost-in-Some.result c.from_residual-in_err-lost-in-Some.ensures.1 in
    rw (p.1, p.2) (
      request-stuck es c.args.agreed (export_record c.args.export.now) at c.args.queue.now c.deliver.new.queue input mid mid bytes first size magic other
          (g.W.Write.contents c.args.writer.now.inner) (g.W.Write.contents c.deliver.new.writer.inner) c.in-Some.delivery found refl c.in_err-lost-in-Some.ensures.stuck,
      refl,
    )

pub returns-in_err-lost-in-Some-clause-reader : goal.returns-in_err-lost-in-Some-clause-reader
returns-in_err-lost-in-Some-clause-reader g c =
    let p = err_from_is_err_and c.from_residual-in_err-lost-in-Some.result c.from_residual-in_err-lost-in-Some.ensures.1 in
    rw (p.1, p.2) (read-other fault.WriteFault c.in_ok-fill.ensures.reader (λ is. (cc)))

pub returns-in_err-lost-in-Some-clause-writer : goal.returns-in_err-lost-in-Some-clause-writer
returns-in_err-lost-in-Some-clause-writer g c =
    let p = err_from_is_err_and c.from_residual-in_err-lost-in-Some.result c.from_residual-in_err-lost-in-Some.ensures.1 in
    rw (p.1, p.2) (written-failed c.in_err-lost-in-Some.ensures.failed)

pub returns-in-Some-clause-turn : goal.returns-in-Some-clause-turn
returns-in-Some-clause-turn g c = λ es at.
    let input = g.R.Read.remaining c.args.reader.now.inner in
    let mid = g.R.Read.remaining c.fill.new.reader.inner in
    let bytes = c.fill.new.buffer in
    let first = subst (λ b. Fills input mid bytes (Ok b)) c.if-not-branch.false c.in_ok-fill.ensures.filled in
    let size : length bytes ≡ 28 = omega (arith, c.fill.auto.buffer) in
    let magic : big_endian32 bytes 0 ≡ request_magic = omega (arith, c.number32.ensures, c.if-number32-ne-MAGIC.false) in
    let other : (header_of bytes).kind ≢ 2 = λ is. c.if-header-eq-DISCONNECT.false (ap (λ (h : Header). h.kind) c.of-header.ensures ∙ is) in
    let found = rw c.of-header.ensures at (sym c.of.ensures.value ∙ c.in-Some.is) in
    rw c.count.ensures (request-delivered es c.args.agreed (export_record c.args.export.now) at c.args.queue.now c.deliver.new.queue input mid mid bytes first size magic other
    (g.W.Write.contents c.args.writer.now.inner) (g.W.Write.contents c.flush.new.self.inner) c.in-Some.delivery found refl c.args.state.now.log c.moved_bytes-moved.result (c.moved_bytes-moved.ensures ∙ ap moved_bytes (c.command.ensures.value ∙ ap (command_of (export_record c.args.export.now) c.args.agreed) c.of-header.ensures)) c.in_ok-lost-in-Some.lost
    (grows-kept (g.W.Write.contents c.args.writer.now.inner) (g.W.Write.contents c.deliver.new.writer.inner) (g.W.Write.contents c.flush.new.self.inner) _ c.in_ok-lost-in-Some.ensures.reply c.in_ok-flush-in-Some.ensures.ok.0))

pub returns-in-Some-clause-reader : goal.returns-in-Some-clause-reader
returns-in-Some-clause-reader g c = c.in_ok-fill.ensures.reader

pub returns-in-Some-clause-writer : goal.returns-in-Some-clause-writer
returns-in-Some-clause-writer g c = written-ok (c.in_ok-flush-in-Some.ensures.kept ∙ c.in_ok-lost-in-Some.ensures.kept)

pub returns-in-Some-clause-flushed : goal.returns-in-Some-clause-flushed
returns-in-Some-clause-flushed g c = c.in_ok-flush-in-Some.ensures.ok.1

-- the writer failed in the flush

pub returns-in_err-flush-in-Some-clause-turn : goal.returns-in_err-flush-in-Some-clause-turn
returns-in_err-flush-in-Some-clause-turn g c = λ es at.
    let input = g.R.Read.remaining c.args.reader.now.inner in
    let mid = g.R.Read.remaining c.fill.new.reader.inner in
    let bytes = c.fill.new.buffer in
    let first = subst (λ b. Fills input mid bytes (Ok b)) c.if-not-branch.false c.in_ok-fill.ensures.filled in
    let size : length bytes ≡ 28 = omega (arith, c.fill.auto.buffer) in
    let magic : big_endian32 bytes 0 ≡ request_magic = omega (arith, c.number32.ensures, c.if-number32-ne-MAGIC.false) in
    let other : (header_of bytes).kind ≢ 2 = λ is. c.if-header-eq-DISCONNECT.false (ap (λ (h : Header). h.kind) c.of-header.ensures ∙ is) in
    let found = rw c.of-header.ensures at (sym c.of.ensures.value ∙ c.in-Some.is) in
    let told = c.in_ok-lost-in-Some.ensures.reply in
    let p = err_from_is_err_and c.from_residual-in_err-flush-in-Some.result c.from_residual-in_err-flush-in-Some.ensures.1 in
    rw (p.1, p.2) (
      request-stuck es c.args.agreed (export_record c.args.export.now) at c.args.queue.now c.deliver.new.queue input mid mid bytes first size magic other
          (g.W.Write.contents c.args.writer.now.inner) (g.W.Write.contents c.flush.new.self.inner) c.in-Some.delivery found refl (inr (told.text, told.holds.0)),
      refl,
    )

pub returns-in_err-flush-in-Some-clause-reader : goal.returns-in_err-flush-in-Some-clause-reader
returns-in_err-flush-in-Some-clause-reader g c =
    let p = err_from_is_err_and c.from_residual-in_err-flush-in-Some.result c.from_residual-in_err-flush-in-Some.ensures.1 in
    rw (p.1, p.2) (read-other fault.WriteFault c.in_ok-fill.ensures.reader (λ is. (cc)))

pub returns-in_err-flush-in-Some-clause-writer : goal.returns-in_err-flush-in-Some-clause-writer
returns-in_err-flush-in-Some-clause-writer g c =
    let p = err_from_is_err_and c.from_residual-in_err-flush-in-Some.result c.from_residual-in_err-flush-in-Some.ensures.1 in
    rw (p.1, p.2) (written-failed c.in_err-flush-in-Some.ensures.failed)

-- ---- the reply

pub returns-in_err-say_reply-clause-turn : goal.returns-in_err-say_reply-clause-turn
returns-in_err-say_reply-clause-turn g c = λ es at.
    let input = g.R.Read.remaining c.args.reader.now.inner in
    let mid = g.R.Read.remaining c.fill.new.reader.inner in
    let input' = g.R.Read.remaining c.serve_request.new.reader.inner in
    let bytes = c.fill.new.buffer in
    let first = subst (λ b. Fills input mid bytes (Ok b)) c.if-not-branch.false c.in_ok-fill.ensures.filled in
    let size : length bytes ≡ 28 = omega (arith, c.fill.auto.buffer) in
    let magic : big_endian32 bytes 0 ≡ request_magic = omega (arith, c.number32.ensures, c.if-number32-ne-MAGIC.false) in
    let other : (header_of bytes).kind ≢ 2 = λ is. c.if-header-eq-DISCONNECT.false (ap (λ (h : Header). h.kind) c.of-header.ensures ∙ is) in
    let none = rw c.of-header.ensures at (sym c.of.ensures.value ∙ c.in-None.is) in
    let p = err_from_is_err_and c.from_residual-in_err-say_reply.result c.from_residual-in_err-say_reply.ensures.1 in
    rw (p.1, p.2) (
      request-unanswered es c.args.agreed (export_record c.args.export.now) at c.args.queue.now c.serve_request.new.queue input mid input' bytes first size magic
          other (g.W.Write.contents c.args.writer.now.inner) (g.W.Write.contents c.say_reply.new.writer.inner) (data_outcome c.in_ok-outcome.outcome) none
          (let p = rw c.of-header.ensures at c.in_ok-outcome.ensures.ok in (p.payload, p.size, p.consumed, p.serves)),
      refl,
    )

pub returns-in_err-say_reply-clause-reader : goal.returns-in_err-say_reply-clause-reader
returns-in_err-say_reply-clause-reader g c =
    let p = err_from_is_err_and c.from_residual-in_err-say_reply.result c.from_residual-in_err-say_reply.ensures.1 in
    rw (p.1, p.2) (read-other fault.WriteFault (read-then c.in_ok-fill.ensures.reader c.in_ok-outcome.ensures.reader) (λ is. (cc)))

pub returns-in_err-say_reply-clause-writer : goal.returns-in_err-say_reply-clause-writer
returns-in_err-say_reply-clause-writer g c =
    let p = err_from_is_err_and c.from_residual-in_err-say_reply.result c.from_residual-in_err-say_reply.ensures.1 in
    rw (p.1, p.2) (written-failed c.in_err-say_reply.ensures.failed)

pub returns-in_err-flush-clause-turn : goal.returns-in_err-flush-clause-turn
returns-in_err-flush-clause-turn g c = λ es at.
    let input = g.R.Read.remaining c.args.reader.now.inner in
    let mid = g.R.Read.remaining c.fill.new.reader.inner in
    let input' = g.R.Read.remaining c.serve_request.new.reader.inner in
    let bytes = c.fill.new.buffer in
    let first = subst (λ b. Fills input mid bytes (Ok b)) c.if-not-branch.false c.in_ok-fill.ensures.filled in
    let size : length bytes ≡ 28 = omega (arith, c.fill.auto.buffer) in
    let magic : big_endian32 bytes 0 ≡ request_magic = omega (arith, c.number32.ensures, c.if-number32-ne-MAGIC.false) in
    let other : (header_of bytes).kind ≢ 2 = λ is. c.if-header-eq-DISCONNECT.false (ap (λ (h : Header). h.kind) c.of-header.ensures ∙ is) in
    let none = rw c.of-header.ensures at (sym c.of.ensures.value ∙ c.in-None.is) in
    let p = err_from_is_err_and c.from_residual-in_err-flush.result c.from_residual-in_err-flush.ensures.1 in
    rw (p.1, p.2) (
      request-unanswered es c.args.agreed (export_record c.args.export.now) at c.args.queue.now c.serve_request.new.queue input mid input' bytes first size magic
          other (g.W.Write.contents c.args.writer.now.inner) (g.W.Write.contents c.flush-2.new.self.inner) (data_outcome c.in_ok-outcome.outcome) none
          (let p = rw c.of-header.ensures at c.in_ok-outcome.ensures.ok in (p.payload, p.size, p.consumed, p.serves)),
      refl,
    )

pub returns-in_err-flush-clause-reader : goal.returns-in_err-flush-clause-reader
returns-in_err-flush-clause-reader g c =
    let p = err_from_is_err_and c.from_residual-in_err-flush.result c.from_residual-in_err-flush.ensures.1 in
    rw (p.1, p.2) (read-other fault.WriteFault (read-then c.in_ok-fill.ensures.reader c.in_ok-outcome.ensures.reader) (λ is. (cc)))

pub returns-in_err-flush-clause-writer : goal.returns-in_err-flush-clause-writer
returns-in_err-flush-clause-writer g c =
    let p = err_from_is_err_and c.from_residual-in_err-flush.result c.from_residual-in_err-flush.ensures.1 in
    rw (p.1, p.2) (written-failed c.in_err-flush.ensures.failed)

pub returns-clause-turn : goal.returns-clause-turn
returns-clause-turn g c = λ es at.
    let input = g.R.Read.remaining c.args.reader.now.inner in
    let mid = g.R.Read.remaining c.fill.new.reader.inner in
    let input' = g.R.Read.remaining c.serve_request.new.reader.inner in
    let bytes = c.fill.new.buffer in
    let first = subst (λ b. Fills input mid bytes (Ok b)) c.if-not-branch.false c.in_ok-fill.ensures.filled in
    let size : length bytes ≡ 28 = omega (arith, c.fill.auto.buffer) in
    let magic : big_endian32 bytes 0 ≡ request_magic = omega (arith, c.number32.ensures, c.if-number32-ne-MAGIC.false) in
    let other : (header_of bytes).kind ≢ 2 = λ is. c.if-header-eq-DISCONNECT.false (ap (λ (h : Header). h.kind) c.of-header.ensures ∙ is) in
    let none = rw c.of-header.ensures at (sym c.of.ensures.value ∙ c.in-None.is) in
    rw (c.count-2.ensures, c.outcome_fault-met.ensures) (request-served es c.args.agreed (export_record c.args.export.now) at c.args.queue.now c.serve_request.new.queue input mid input' bytes first size magic
    other (g.W.Write.contents c.args.writer.now.inner) (g.W.Write.contents c.flush-2.new.self.inner) (data_outcome c.in_ok-outcome.outcome) none c.args.state.now.log c.moved_bytes-moved.result (c.moved_bytes-moved.ensures ∙ ap moved_bytes (c.command.ensures.value ∙ ap (command_of (export_record c.args.export.now) c.args.agreed) c.of-header.ensures))
    (let p = rw c.of-header.ensures at c.in_ok-outcome.ensures.ok in (p.payload, p.size, p.consumed, p.serves))
    (Appends-kept (g.W.Write.contents c.args.writer.now.inner) (g.W.Write.contents c.say_reply.new.writer.inner) (g.W.Write.contents c.flush-2.new.self.inner) _ (rw c.of-header.ensures at c.in_ok-say_reply.ensures.ok) c.in_ok-flush.ensures.ok.0))

pub returns-clause-reader : goal.returns-clause-reader
returns-clause-reader g c = read-then c.in_ok-fill.ensures.reader c.in_ok-outcome.ensures.reader

pub returns-clause-writer : goal.returns-clause-writer
returns-clause-writer g c = written-ok (c.in_ok-flush.ensures.kept ∙ c.in_ok-say_reply.ensures.kept)

pub returns-clause-flushed : goal.returns-clause-flushed
returns-clause-flushed g c = c.in_ok-flush.ensures.ok.1
