use Rattle.std.proofs.Common.{◌≡◌, ◌≢◌, ◌<◌, ◌∙◌, ℕ, Bool, Ok, Some, None, ap, sym, subst, arith, length, take, codes, inl, inr}
use Rattle.std.specs.Io.KnownBytes.{Consumes}
use Rattle.std.proofs.lemmas.Grind.{common_steps}
use Rattle.std.proofs.lemmas.List.Elements.{All-map}
use Rattle.std.proofs.lemmas.Result.{err_from_is_err_and}
use Rattle.nbd_protocol.specs.declared.fault.ServiceFault.TheVariants as fault
use Rattle.nbd_protocol.specs.declared.phase.Phase.TheVariants.{Haggling}
use Rattle.nbd_protocol.specs.Numbers.{big_endian32}
use Rattle.nbd_protocol.specs.Exports.{HasShortName, export_record, export_records}
use Rattle.nbd_server.specs.Service.{IsTooLong, IsAnswered, IsExportUnnamed, IsNameUnread}
use Rattle.nbd_protocol.specs.Streaming.{Fills, TakesInto, content_in}
use Rattle.nbd_protocol.proofs.lemmas.CountedLemmas.{read-then, read-other, written-same, stops-reading}
use Rattle.nbd_server.proofs.MessageLemmas.{header-cut, option-unlike, option-lost, option-ends, option-over, option-told, option-refused, unnamed-breaks, unread-breaks, unnamed-writing, unread-writing}
use Rattle.nbd_server.proofs.haggling.take_option.Goals as goal

-- ---- the header

pub returns-in_err-fill-clause-turn : goal.returns-in_err-fill-clause-turn
returns-in_err-fill-clause-turn g c = λ w.
    let input = g.R.Read.remaining c.args.reader.now.inner in
    let mid = g.R.Read.remaining c.fill.new.reader.inner in
    let output = g.W.Write.contents c.args.writer.now.inner in
    let header = c.fill.new.buffer in
    let p = err_from_is_err_and c.from_residual.result c.from_residual.ensures.1 in
    rw (p.1, p.2) (header-cut (export_records c.args.exports.now) (Haggling c.args.terms) 16 (λ rest cut. inl cut) w input mid output c.in_err-fill.field-0.0 (length header) (omega (arith, c.fill.auto.buffer)) c.in_err-fill.ensures.filled)

pub returns-in_err-fill-clause-reader : goal.returns-in_err-fill-clause-reader
returns-in_err-fill-clause-reader g c =
    let p = err_from_is_err_and c.from_residual.result c.from_residual.ensures.1 in
    rw (p.1, p.2) c.in_err-fill.ensures.reader

pub returns-in_err-fill-clause-writer : goal.returns-in_err-fill-clause-writer
returns-in_err-fill-clause-writer g c =
    let p = err_from_is_err_and c.from_residual.result c.from_residual.ensures.1 in
    let x = c.in_err-fill.field-0.0 in
    rw (p.1, p.2) (written-same c.args.writer.now (Some x) (stops-reading (g.R.Read.remaining c.fill.new.reader.inner) x c.in_err-fill.ensures.filled.0.cause))

pub returns-then-ne-clause-turn : goal.returns-then-ne-clause-turn
returns-then-ne-clause-turn g c = λ w.
    let input = g.R.Read.remaining c.args.reader.now.inner in
    let mid = g.R.Read.remaining c.fill.new.reader.inner in
    let output = g.W.Write.contents c.args.writer.now.inner in
    let header = c.fill.new.buffer in
    let first = subst (λ b. Fills input mid header (Ok b)) c.if-not-branch.false c.in_ok-fill.ensures.filled in
    let size : length header ≡ 16 = omega (arith, c.fill.auto.buffer) in
    let other : take 8 header ≢ codes "IHAVEOPT" = grind (arith, common_steps) in
    option-unlike (export_records c.args.exports.now) c.args.terms w input mid mid header first size output other

pub returns-then-ne-clause-reader : goal.returns-then-ne-clause-reader
returns-then-ne-clause-reader g c = read-other fault.Magic c.in_ok-fill.ensures.reader (λ is. (cc))

pub returns-then-ne-clause-writer : goal.returns-then-ne-clause-writer
returns-then-ne-clause-writer g c = written-same c.args.writer.now (Some fault.Magic) (λ is. (cc))

-- ---- no option is left

pub returns-then-terms-eq0-clause-turn : goal.returns-then-terms-eq0-clause-turn
returns-then-terms-eq0-clause-turn g c = λ w.
    let input = g.R.Read.remaining c.args.reader.now.inner in
    let mid = g.R.Read.remaining c.fill.new.reader.inner in
    let output = g.W.Write.contents c.args.writer.now.inner in
    let header = c.fill.new.buffer in
    let first = subst (λ b. Fills input mid header (Ok b)) c.if-not-branch.false c.in_ok-fill.ensures.filled in
    let size : length header ≡ 16 = omega (arith, c.fill.auto.buffer) in
    let magic : take 8 header ≡ codes "IHAVEOPT" = grind (arith, common_steps) in
    option-over (export_records c.args.exports.now) c.args.terms w input mid mid header first size magic output c.if-terms-eq0.true

pub returns-then-terms-eq0-clause-reader : goal.returns-then-terms-eq0-clause-reader
returns-then-terms-eq0-clause-reader g c = read-other fault.TooManyOptions c.in_ok-fill.ensures.reader (λ is. (cc))

pub returns-then-terms-eq0-clause-writer : goal.returns-then-terms-eq0-clause-writer
returns-then-terms-eq0-clause-writer g c = written-same c.args.writer.now (Some fault.TooManyOptions) (λ is. (cc))

-- ---- the data

pub returns-in_err-take_content-clause-turn : goal.returns-in_err-take_content-clause-turn
returns-in_err-take_content-clause-turn g c = λ w.
    let input = g.R.Read.remaining c.args.reader.now.inner in
    let mid = g.R.Read.remaining c.fill.new.reader.inner in
    let input' = g.R.Read.remaining c.take_content.new.reader.inner in
    let output = g.W.Write.contents c.args.writer.now.inner in
    let header = c.fill.new.buffer in
    let first = subst (λ b. Fills input mid header (Ok b)) c.if-not-branch.false c.in_ok-fill.ensures.filled in
    let size : length header ≡ 16 = omega (arith, c.fill.auto.buffer) in
    let magic : take 8 header ≡ codes "IHAVEOPT" = grind (arith, common_steps) in
    let allowed : 0 < c.args.terms.left = omega (arith, c.if-terms-eq0.false) in
    let p = err_from_is_err_and c.from_residual-in_err-take_content.result c.from_residual-in_err-take_content.ensures.1 in
    rw (p.1, p.2) (option-lost (export_records c.args.exports.now) c.args.terms w input mid input' header first size magic allowed output output c.in_err-take_content.field-0.0 (rw c.number32-count.ensures at c.in_err-take_content.ensures.err))

pub returns-in_err-take_content-clause-reader : goal.returns-in_err-take_content-clause-reader
returns-in_err-take_content-clause-reader g c =
    let p = err_from_is_err_and c.from_residual-in_err-take_content.result c.from_residual-in_err-take_content.ensures.1 in
    rw (p.1, p.2) (read-then c.in_ok-fill.ensures.reader c.in_err-take_content.ensures.reader)

pub returns-in_err-take_content-clause-writer : goal.returns-in_err-take_content-clause-writer
returns-in_err-take_content-clause-writer g c =
    let p = err_from_is_err_and c.from_residual-in_err-take_content.result c.from_residual-in_err-take_content.ensures.1 in
    let x = c.in_err-take_content.field-0.0 in
    rw (p.1, p.2) (written-same c.args.writer.now (Some x) (stops-reading (g.R.Read.remaining c.take_content.new.reader.inner) x c.in_err-take_content.ensures.err.cause))

-- ---- no room for the data

pub returns-in_err-refuse_content-clause-turn : goal.returns-in_err-refuse_content-clause-turn
returns-in_err-refuse_content-clause-turn g c = λ w.
    let input = g.R.Read.remaining c.args.reader.now.inner in
    let mid = g.R.Read.remaining c.fill.new.reader.inner in
    let input' = g.R.Read.remaining c.take_content.new.reader.inner in
    let output = g.W.Write.contents c.args.writer.now.inner in
    let header = c.fill.new.buffer in
    let first = subst (λ b. Fills input mid header (Ok b)) c.if-not-branch.false c.in_ok-fill.ensures.filled in
    let size : length header ≡ 16 = omega (arith, c.fill.auto.buffer) in
    let magic : take 8 header ≡ codes "IHAVEOPT" = grind (arith, common_steps) in
    let allowed : 0 < c.args.terms.left = omega (arith, c.if-terms-eq0.false) in
    let into : TakesInto None (big_endian32 header 12) mid input' =
    rw c.number32-count.ensures at (subst (λ (b : Bool). TakesInto (content_in b c.number32-count.result c.take_content.new.room) c.number32-count.result mid input') c.if-not-branch-2.true c.in_ok-take_content.ensures.ok) in
    let x = c.in_err-refuse_content.field-0.0 in
    let p = err_from_is_err_and c.from_residual-in_err-refuse_content.result c.from_residual-in_err-refuse_content.ensures.1 in
    rw (p.1, p.2) (option-ends (export_records c.args.exports.now) c.args.terms w input mid input' header first size magic allowed output (g.W.Write.contents c.refuse_content.new.writer.inner) into.takes.bytes into.takes.consumed into.takes.count
    (IsTooLong c.args.terms c.number32-option.result c.number32-count.result) (IsNameUnread c.number32-option.result c.number32-count.result) x
    (λ reply next q. inr (subst (λ (n : ℕ). IsTooLong c.args.terms (big_endian32 header 8) n reply next) (c.number32-count.ensures ∙ sym into.takes.count)
    (subst (λ (n : ℕ). IsTooLong c.args.terms n c.number32-count.result reply next) c.number32-option.ensures q)))
    (unread-breaks (export_records c.args.exports.now) c.args.terms w input mid input' header first size magic allowed output (g.W.Write.contents c.refuse_content.new.writer.inner) (All-map HasShortName export_record c.args.exports.now c.requires) into.takes.bytes into.takes.count
    c.number32-option.result c.number32-count.result c.number32-option.ensures c.number32-count.ensures x) c.in_err-refuse_content.ensures.answer)

pub returns-in_err-refuse_content-clause-reader : goal.returns-in_err-refuse_content-clause-reader
returns-in_err-refuse_content-clause-reader g c =
    let x = c.in_err-refuse_content.field-0.0 in
    let p = err_from_is_err_and c.from_residual-in_err-refuse_content.result c.from_residual-in_err-refuse_content.ensures.1 in
    rw (p.1, p.2) (read-other x (read-then c.in_ok-fill.ensures.reader c.in_ok-take_content.ensures.reader) (unread-writing (IsTooLong c.args.terms c.number32-option.result c.number32-count.result) c.number32-option.result c.number32-count.result
    (g.W.Write.contents c.args.writer.now.inner) (g.W.Write.contents c.refuse_content.new.writer.inner) x c.in_err-refuse_content.ensures.answer))

pub returns-in_err-refuse_content-clause-writer : goal.returns-in_err-refuse_content-clause-writer
returns-in_err-refuse_content-clause-writer g c =
    let p = err_from_is_err_and c.from_residual-in_err-refuse_content.result c.from_residual-in_err-refuse_content.ensures.1 in
    rw (p.1, p.2) c.in_err-refuse_content.ensures.writer

pub returns-then-not-branch-2-clause-turn : goal.returns-then-not-branch-2-clause-turn
returns-then-not-branch-2-clause-turn g c = λ w.
    let input = g.R.Read.remaining c.args.reader.now.inner in
    let mid = g.R.Read.remaining c.fill.new.reader.inner in
    let input' = g.R.Read.remaining c.take_content.new.reader.inner in
    let output = g.W.Write.contents c.args.writer.now.inner in
    let header = c.fill.new.buffer in
    let first = subst (λ b. Fills input mid header (Ok b)) c.if-not-branch.false c.in_ok-fill.ensures.filled in
    let size : length header ≡ 16 = omega (arith, c.fill.auto.buffer) in
    let magic : take 8 header ≡ codes "IHAVEOPT" = grind (arith, common_steps) in
    let allowed : 0 < c.args.terms.left = omega (arith, c.if-terms-eq0.false) in
    let into : TakesInto None (big_endian32 header 12) mid input' =
    rw c.number32-count.ensures at (subst (λ (b : Bool). TakesInto (content_in b c.number32-count.result c.take_content.new.room) c.number32-count.result mid input') c.if-not-branch-2.true c.in_ok-take_content.ensures.ok) in
    option-refused (export_records c.args.exports.now) c.args.terms w input mid input' header first size magic allowed output (g.W.Write.contents c.refuse_content.new.writer.inner) into _ (IsNameUnread (big_endian32 header 8) (big_endian32 header 12)) (rw (c.number32-option.ensures, c.number32-count.ensures) at c.in_ok-refuse_content.ensures.answer)

pub returns-then-not-branch-2-clause-reader : goal.returns-then-not-branch-2-clause-reader
returns-then-not-branch-2-clause-reader g c = read-then c.in_ok-fill.ensures.reader c.in_ok-take_content.ensures.reader

-- ---- the reply

pub returns-in_err-answer_option-clause-turn : goal.returns-in_err-answer_option-clause-turn
returns-in_err-answer_option-clause-turn g c = λ w.
    let input = g.R.Read.remaining c.args.reader.now.inner in
    let mid = g.R.Read.remaining c.fill.new.reader.inner in
    let input' = g.R.Read.remaining c.take_content.new.reader.inner in
    let output = g.W.Write.contents c.args.writer.now.inner in
    let header = c.fill.new.buffer in
    let first = subst (λ b. Fills input mid header (Ok b)) c.if-not-branch.false c.in_ok-fill.ensures.filled in
    let size : length header ≡ 16 = omega (arith, c.fill.auto.buffer) in
    let magic : take 8 header ≡ codes "IHAVEOPT" = grind (arith, common_steps) in
    let allowed : 0 < c.args.terms.left = omega (arith, c.if-terms-eq0.false) in
    let content = take c.number32-count.result c.take_content.new.room in
    let into : TakesInto (Some content) (big_endian32 header 12) mid input' =
    subst (λ (n : ℕ). TakesInto (Some content) n mid input') c.number32-count.ensures
    (subst (λ (b : Bool). TakesInto (content_in b c.number32-count.result c.take_content.new.room) c.number32-count.result mid input') c.if-not-branch-2.false c.in_ok-take_content.ensures.ok) in
    let x = c.in_err-answer_option.field-0.0 in
    let count : length content ≡ big_endian32 header 12 = ap length into.kept ∙ into.takes.count in
    let p = err_from_is_err_and c.from_residual-in_err-answer_option.result c.from_residual-in_err-answer_option.ensures.1 in
    rw (p.1, p.2) (option-ends (export_records c.args.exports.now) c.args.terms w input mid input' header first size magic allowed output (g.W.Write.contents c.answer_option.new.writer.inner) content (subst (λ l. Consumes mid input' l) (sym into.kept) into.takes.consumed) count
    (IsAnswered (export_records c.args.exports.now) c.args.terms c.number32-option.result content) (IsExportUnnamed (export_records c.args.exports.now) c.number32-option.result content) x
    (λ reply next q. inl (subst (λ (n : ℕ). IsAnswered (export_records c.args.exports.now) c.args.terms n content reply next) c.number32-option.ensures q))
    (λ q. unnamed-breaks (export_records c.args.exports.now) c.args.terms w input mid input' header first size magic allowed output (g.W.Write.contents c.answer_option.new.writer.inner) content count c.number32-option.result c.number32-option.ensures x q)
    c.in_err-answer_option.ensures.answer)

pub returns-in_err-answer_option-clause-reader : goal.returns-in_err-answer_option-clause-reader
returns-in_err-answer_option-clause-reader g c =
    let x = c.in_err-answer_option.field-0.0 in
    let content = take c.number32-count.result c.take_content.new.room in
    let p = err_from_is_err_and c.from_residual-in_err-answer_option.result c.from_residual-in_err-answer_option.ensures.1 in
    rw (p.1, p.2) (read-other x (read-then c.in_ok-fill.ensures.reader c.in_ok-take_content.ensures.reader) (unnamed-writing (IsAnswered (export_records c.args.exports.now) c.args.terms c.number32-option.result content) (export_records c.args.exports.now) c.number32-option.result content
    (g.W.Write.contents c.args.writer.now.inner) (g.W.Write.contents c.answer_option.new.writer.inner) x c.in_err-answer_option.ensures.answer))

pub returns-in_err-answer_option-clause-writer : goal.returns-in_err-answer_option-clause-writer
returns-in_err-answer_option-clause-writer g c =
    let p = err_from_is_err_and c.from_residual-in_err-answer_option.result c.from_residual-in_err-answer_option.ensures.1 in
    rw (p.1, p.2) c.in_err-answer_option.ensures.writer

pub returns-clause-turn : goal.returns-clause-turn
returns-clause-turn g c = λ w.
    let input = g.R.Read.remaining c.args.reader.now.inner in
    let mid = g.R.Read.remaining c.fill.new.reader.inner in
    let input' = g.R.Read.remaining c.take_content.new.reader.inner in
    let output = g.W.Write.contents c.args.writer.now.inner in
    let header = c.fill.new.buffer in
    let first = subst (λ b. Fills input mid header (Ok b)) c.if-not-branch.false c.in_ok-fill.ensures.filled in
    let size : length header ≡ 16 = omega (arith, c.fill.auto.buffer) in
    let magic : take 8 header ≡ codes "IHAVEOPT" = grind (arith, common_steps) in
    let allowed : 0 < c.args.terms.left = omega (arith, c.if-terms-eq0.false) in
    let content = take c.number32-count.result c.take_content.new.room in
    let into : TakesInto (Some content) (big_endian32 header 12) mid input' =
    subst (λ (n : ℕ). TakesInto (Some content) n mid input') c.number32-count.ensures
    (subst (λ (b : Bool). TakesInto (content_in b c.number32-count.result c.take_content.new.room) c.number32-count.result mid input') c.if-not-branch-2.false c.in_ok-take_content.ensures.ok) in
    option-told (export_records c.args.exports.now) c.args.terms w input mid input' header first size magic allowed output (g.W.Write.contents c.answer_option.new.writer.inner) content into _ (IsExportUnnamed (export_records c.args.exports.now) (big_endian32 header 8) content) (rw c.number32-option.ensures at c.in_ok-answer_option.ensures.answer)

pub returns-clause-reader : goal.returns-clause-reader
returns-clause-reader g c = read-then c.in_ok-fill.ensures.reader c.in_ok-take_content.ensures.reader
