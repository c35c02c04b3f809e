use Rattle.std.proofs.Common.{◌∙◌, arith, inl, inr, sym}
use Rattle.nbd_protocol.specs.Exports.{export_record}
use Rattle.nbd_server.specs.declared.extent.ExtentKind.TheVariants as known
use Rattle.nbd_server.proofs.ExtentLemmas.{kind-same}
use Rattle.nbd_server.proofs.StatusLemmas.{slow-begins, slow-ends, zeros-whole}
use Rattle.nbd_server.proofs.fast_zero.is_fast.Goals as goal

pub returns-then-len-eq0 : goal.returns-then-len-eq0
returns-then-len-eq0 c = inl c.if-len-eq0.true

pub bytes_at-extent-requires-clause-some : goal.bytes_at-extent-requires-clause-some
bytes_at-extent-requires-clause-some c = omega (arith, c.if-len-eq0.false)

pub returns-then-not-is_same_kind : goal.returns-then-not-is_same_kind
returns-then-not-is_same_kind c =
    slow-begins c.args.config.now (export_record c.args.export.now) c.args.offset c.args.len c.bytes_at-extent.result (omega (arith, c.if-len-eq0.false)) c.bytes_at-extent.ensures
    (sym c.is_same_kind.ensures ∙ c.if-not-is_same_kind.true)

pub returns-then-extent-len : goal.returns-then-extent-len
returns-then-extent-len c =
    let zeros = kind-same c.bytes_at-extent.result.kind known.Zeros (sym c.is_same_kind.ensures ∙ c.if-not-is_same_kind.false) in
    slow-ends c.args.config.now (export_record c.args.export.now) c.args.offset c.args.len c.bytes_at-extent.result c.bytes_at-extent.ensures zeros c.if-extent-len.true

pub returns : goal.returns
returns c =
    let zeros = kind-same c.bytes_at-extent.result.kind known.Zeros (sym c.is_same_kind.ensures ∙ c.if-not-is_same_kind.false) in
    inr (zeros-whole c.args.config.now (export_record c.args.export.now) c.args.offset c.args.len c.bytes_at-extent.result c.bytes_at-extent.ensures zeros c.if-extent-len.false)
