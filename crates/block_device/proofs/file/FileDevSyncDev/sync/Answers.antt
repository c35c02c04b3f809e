-- What the system's call says of a faithful file: a sync leaves what it holds.
use Rattle.std.proofs.Common.{rules, refl}
use Rattle.std.proofs.lemmas.Bool.{false≢true}
use Rattle.block_device.specs.Faithful.{called-keeps_faith}
use Rattle.block_device.proofs.file.FileDevSyncDev.sync.Goals as goal

pub returns-then-sync_all-clause-ok : goal.returns-then-sync_all-clause-ok
returns-then-sync_all-clause-ok c = let k = called-keeps_faith _ _ _ c.args.self.now.sectors tt c.sync_all.ensures in rw (k.faithful, k.holds) refl

pub returns-then-sync_all-clause-call : goal.returns-then-sync_all-clause-call
returns-then-sync_all-clause-call c =
    let k = called-keeps_faith _ _ _ c.args.self.now.sectors tt c.sync_all.ensures in
    (record { done = λ ok. rw (k.faithful, k.holds) refl; not_done = search rules; sure = search rules }, search rules)

pub returns-clause-err : goal.returns-clause-err
returns-clause-err c =
    let k = called-keeps_faith _ _ _ c.args.self.now.sectors tt c.sync_all.ensures in
    record { moved = rw (k.faithful, k.holds) (search rules); failed = search rules }

pub returns-clause-call : goal.returns-clause-call
returns-clause-call c =
    let k = called-keeps_faith _ _ _ c.args.self.now.sectors tt c.sync_all.ensures in
    (record { done = λ ok. absurd (false≢true ok); not_done = λ no. record { moved = rw (k.faithful, k.holds) (search rules); failed = search rules }; sure = λ h. absurd (false≢true h) }, search rules)
