use Rattle.std.proofs.lemmas.Result.{err_from_is_err_and}
use Rattle.nbd_protocol.specs.Exports.{export_record}
use Rattle.nbd_server.proofs.PrefetchLemmas.{part-smaller, parts-all, parts-lost, parts-more, parts-none}
use Rattle.nbd_server.proofs.prefetch.prefetch_range.Goals as goal

pub parts-init : goal.parts-init
parts-init g c = rw c.none-progress.ensures (parts-none (export_record c.args.export.now) c.args.range c.args.queue.now c.requires)

pub prefetch_next-requires-clause-bytes : goal.prefetch_next-requires-clause-bytes
prefetch_next-requires-clause-bytes g c = c.parts.invariant.bytes

pub prefetch_next-requires-clause-some : goal.prefetch_next-requires-clause-some
prefetch_next-requires-clause-some g c = c.parts-test.true

pub returns-in_err-progress-clause-err : goal.returns-in_err-progress-clause-err
returns-in_err-progress-clause-err g c =
    let p = err_from_is_err_and c.from_residual.result c.from_residual.ensures.1 in
    rw (p.1, p.2)
    (parts-lost (export_record c.args.export.now) c.args.range c.args.queue.now c.parts.progress c.parts.queue c.prefetch_next.new.queue c.parts.invariant c.in_err-progress.field-0.0 c.in_err-progress.ensures.err)

pub parts-preserved : goal.parts-preserved
parts-preserved g c =
    parts-more (export_record c.args.export.now) c.args.range c.args.queue.now c.parts.progress c.parts.queue c.prefetch_next.new.queue c.parts.invariant c.in_ok-progress.progress c.in_ok-progress.ensures.ok

pub parts-smaller : goal.parts-smaller
parts-smaller g c = part-smaller (export_record c.args.export.now) c.args.range c.parts.progress c.parts.queue c.prefetch_next.new.queue c.in_ok-progress.progress c.in_ok-progress.ensures.ok

pub returns-clause-ok : goal.returns-clause-ok
returns-clause-ok g c = parts-all (export_record c.args.export.now) c.args.range c.args.queue.now c.parts.progress c.parts.queue c.parts.invariant c.parts-test.false
