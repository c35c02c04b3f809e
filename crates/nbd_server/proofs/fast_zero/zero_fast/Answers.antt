use Rattle.std.proofs.Common.{◌∙◌, inl, inr, refl, subst, sym}
use Rattle.std.specs.Prelude.{Bool, false, true}
use Rattle.nbd_protocol.specs.Exports.{export_record}
use Rattle.nbd_server.specs.Transmission.{IsFast}
use Rattle.nbd_server.proofs.fast_zero.zero_fast.Goals as goal

pub is_fast-requires-clause-bytes : goal.is_fast-requires-clause-bytes
is_fast-requires-clause-bytes g c = rw (c.config.ensures.value, c.stack.ensures) c.requires.bytes

pub returns-then-not-is_fast-clause-value : goal.returns-then-not-is_fast-clause-value
returns-then-not-is_fast-clause-value g c =
    let e = export_record c.args.export.now in
    let w = c.args.queue.now in
    let told = rw (c.config.ensures.value, c.stack.ensures) at c.is_fast.ensures in
    inr ((refl, refl), subst (λ (b : Bool). IsFast w.stack.config e c.args.offset c.args.len b) c.if-not-is_fast.true told)

pub returns-clause-value : goal.returns-clause-value
returns-clause-value g c =
    let e = export_record c.args.export.now in
    let w = c.args.queue.now in
    let told = rw (c.config.ensures.value, c.stack.ensures) at c.is_fast.ensures in
    inl (c.zero.ensures.value, subst (λ (b : Bool). IsFast w.stack.config e c.args.offset c.args.len b) c.if-not-is_fast.false told)
