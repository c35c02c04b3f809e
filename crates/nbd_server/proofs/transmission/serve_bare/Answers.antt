use Rattle.std.proofs.Common.{◌≡◌, ◌∙◌, sym, true}
use Rattle.nbd_server.proofs.transmission.serve_bare.Goals as goal

pub read_undivided-requires-clause-bytes : goal.read_undivided-requires-clause-bytes
read_undivided-requires-clause-bytes g c =
    let within = rw c.in-Read.is at c.requires.within in
    record { export = c.requires.export; within = within.0 }

pub read_undivided-requires-clause-few : goal.read_undivided-requires-clause-few
read_undivided-requires-clause-few g c =
    let within = rw c.in-Read.is at c.requires.within in within.1

pub prefetch-requires : goal.prefetch-requires
prefetch-requires g c =
    let within = rw c.in-Cache.is at c.requires.within in
    record { export = c.requires.export; within = within }

pub tell_status-requires-clause-bytes : goal.tell_status-requires-clause-bytes
tell_status-requires-clause-bytes g c =
    let within = rw c.in-Status.is at c.requires.within in
    record { export = c.requires.export; within = within.0 }

pub tell_status-requires-clause-some : goal.tell_status-requires-clause-some
tell_status-requires-clause-some g c =
    let within = rw c.in-Status.is at c.requires.within in within.1

pub zero-requires-clause-bytes : goal.zero-requires-clause-bytes
zero-requires-clause-bytes g c =
    let within = rw c.in-Zero-default-default-default-false.is at c.requires.within in
    rw c.in-Zero-default-default-default-false.is (record { export = c.requires.export; within = within.0 })

pub zero-requires-clause-allowed : goal.zero-requires-clause-allowed
zero-requires-clause-allowed g c =
    let within = rw c.in-Zero-default-default-default-false.is at c.requires.within in within.1

pub zero_fast-requires-clause-bytes : goal.zero_fast-requires-clause-bytes
zero_fast-requires-clause-bytes g c =
    let within = rw c.in-Zero-default-default-default-true.is at c.requires.within in
    rw c.in-Zero-default-default-default-true.is (record { export = c.requires.export; within = within.0 })

pub zero_fast-requires-clause-allowed : goal.zero_fast-requires-clause-allowed
zero_fast-requires-clause-allowed g c =
    let within = rw c.in-Zero-default-default-default-true.is at c.requires.within in within.1

pub returns-in-Zero-default-default-default-true-clause-value : goal.returns-in-Zero-default-default-default-true-clause-value
returns-in-Zero-default-default-default-true-clause-value g c =
    let x = c.in-Zero-default-default-default-true in
    let fast : x.fast ≡ true = sym x.fast-is ∙ x.fast-test in
    let served = rw x.is at c.zero_fast.ensures.value in
    rw (x.is, fast) served

pub unreachable-requires : goal.unreachable-requires
unreachable-requires g c =
    let clash = rw c.in-Write.is at c.requires.bare in clash
