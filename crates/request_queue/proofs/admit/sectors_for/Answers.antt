use Rattle.std.proofs.Common.{sym}
use Rattle.request_queue.proofs.lemmas.AdmissionLemmas.{admissible-write}
use Rattle.request_queue.proofs.admit.sectors_for.Goals as goal

pub returns-in_ok-range-in-Write-clause-admissible : goal.returns-in_ok-range-in-Write-clause-admissible
returns-in_ok-range-in-Write-clause-admissible c =
    rw c.in-Write.is (admissible-write c.args.config.now c.in-Write.device.items c.in-Write.first c.in-Write.bytes.items c.in_ok-range-in-Write.range c.writable_sectors.result
    (rw c.as_slice-in-Write-2.ensures.value at c.writable_sectors.ensures.value)
    (rw (c.as_slice-in-Write.ensures.value, c.div_ceil-count.ensures, c.len.ensures, sym c.as_slice-in-Write-2.ensures.len, c.as_slice-in-Write-2.ensures.value) at c.in_ok-range-in-Write.ensures.value)
    c.in_ok-range-in-Write.ensures.inside)
