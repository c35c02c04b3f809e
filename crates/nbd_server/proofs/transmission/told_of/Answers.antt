use Rattle.std.proofs.Common.{◌∙◌, arith, refl, inl, inr, subst, sym}
use Rattle.nbd_protocol.specs.Exports.{export_record}
use Rattle.nbd_server.specs.Extents.{most_runs}
use Rattle.nbd_server.specs.Status.{HasLineStatus, TouchKind}
use Rattle.nbd_server.specs.declared.extent.ExtentKind.{ExtentKind}
use Rattle.nbd_server.specs.declared.extent.ExtentKind.TheVariants as known
use Rattle.nbd_server.specs.Transmission.{ReadsStatus, StaysOrReads, TellsExtents}
use Rattle.nbd_server.proofs.ExtentLemmas.{kind-other, kind-same}
use Rattle.nbd_server.proofs.ReadStatusLemmas.{err-as, ok-as, on_err, reads-more}
use Rattle.nbd_server.proofs.StatusLemmas.{extent-begins}
use Rattle.nbd_server.proofs.transmission.told_of.Goals as goal

pub bytes_at-extent-requires-clause-bytes : goal.bytes_at-extent-requires-clause-bytes
bytes_at-extent-requires-clause-bytes g c = rw (c.config.ensures.value, c.stack.ensures) c.requires.bytes

-- ---- they begin on lines that ignore zeros

pub read_status-requires-clause-bytes : goal.read_status-requires-clause-bytes
read_status-requires-clause-bytes g c = record { export = c.requires.bytes.export; within = omega (arith, c.requires.bytes.within, c.bytes_at-extent.ensures.few) }

pub read_status-requires-clause-ignoring : goal.read_status-requires-clause-ignoring
read_status-requires-clause-ignoring g c =
    let extent = c.bytes_at-extent.result in
    let kind = kind-same extent.kind known.IgnoresZeros (sym c.is_same_kind.ensures ∙ c.if-is_same_kind.true) in
    let is = rw (c.config.ensures.value, c.stack.ensures) at c.bytes_at-extent.ensures in
    subst (λ (k : ExtentKind). TouchKind c.args.queue.now.stack.config (export_record c.args.export.now) k c.args.offset extent.count) kind is.kind

pub returns-then-is_same_kind-clause-ok : goal.returns-then-is_same_kind-clause-ok
returns-then-is_same_kind-clause-ok g c =
    let e = export_record c.args.export.now in
    let w = c.args.queue.now in
    let w' = c.read_status.new.queue in
    let at = c.args.offset in
    let extent = c.bytes_at-extent.result in
    let is = rw (c.config.ensures.value, c.stack.ensures) at c.bytes_at-extent.ensures in
    ok-as c.read_status.result (λ told. ReadsStatus e w at extent.count c.args.one told.items w') (λ told. TellsExtents e w at c.args.len c.args.one told.items w')
    (λ told p. inr (record { extent = extent; is = is; kind = kind-same extent.kind known.IgnoresZeros (sym c.is_same_kind.ensures ∙ c.if-is_same_kind.true); reads = p })) c.read_status.ensures.ok

pub returns-then-is_same_kind-clause-err : goal.returns-then-is_same_kind-clause-err
returns-then-is_same_kind-clause-err g c =
    let e = export_record c.args.export.now in
    let w = c.args.queue.now in
    let w' = c.read_status.new.queue in
    let at = c.args.offset in
    let count = c.bytes_at-extent.result.count in
    err-as c.read_status.result (StaysOrReads e w at count c.args.one w') (StaysOrReads e w at c.args.len c.args.one w') (λ p. reads-more e w at count c.args.len c.args.one w' c.bytes_at-extent.ensures.few p) c.read_status.ensures.err

-- ---- or on others

pub returns-clause-ok : goal.returns-clause-ok
returns-clause-ok g c =
    let e = export_record c.args.export.now in
    let w = c.args.queue.now in
    let at = c.args.offset in
    let extent = c.bytes_at-extent.result in
    let is = rw (c.config.ensures.value, c.stack.ensures) at c.bytes_at-extent.ensures in
    let differs = kind-other extent.kind known.IgnoresZeros (sym c.is_same_kind.ensures ∙ c.if-is_same_kind.false) in
    let begins = extent-begins w.stack.config e most_runs at c.args.len extent is in
    ok-as c.status_of.result (λ told. HasLineStatus w.stack.config e at c.args.len c.args.one told.items) (λ told. TellsExtents e w at c.args.len c.args.one told.items w)
    (λ told p. inl (record { other = (extent.kind, differs, begins); status = p; same = refl })) (rw (c.config-2.ensures.value, c.stack-2.ensures) at c.status_of.ensures.ok)

pub returns-clause-err : goal.returns-clause-err
returns-clause-err g c =
    let w = c.args.queue.now in
    on_err c.status_of.result (StaysOrReads (export_record c.args.export.now) w c.args.offset c.args.len c.args.one w) (inl refl)
