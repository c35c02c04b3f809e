use Rattle.std.proofs.Common.{◌≡◌, ◌∙◌, ◌*◌, List, ℕ, ap, arith, length, subst, sym}
use Rattle.std.proofs.lemmas.List.{with_items_is}
use Rattle.std.proofs.lemmas.Result.{err_from_is_err_and}
use Rattle.nbd_server.specs.Sectors.{IsFetched}
use Rattle.nbd_server.proofs.FetchLemmas.{no-buffer}
use Rattle.nbd_server.proofs.fetch.fetch.Goals as goal

pub returns-in_err-bytes-clause-err : goal.returns-in_err-bytes-clause-err
returns-in_err-bytes-clause-err g c =
    let p = err_from_is_err_and c.from_residual.result c.from_residual.ensures.1 in
    let asked = c.args.count * 512 in
    rw (p.1, p.2) (no-buffer c.args.queue.now c.args.export.now.device.0 c.args.first c.args.count (asked, omega arith, c.in_err-bytes.ensures.err.1))

pub returns-clause-ok : goal.returns-clause-ok
returns-clause-ok g c =
    let held : length c.read_into.new.out ≡ c.in_ok-bytes.bytes.len = c.read_into.auto.out ∙ ap (λ (l : List ℕ). length l) c.as_mut_slice.ensures.value ∙ sym c.in_ok-bytes.bytes.ok.0 in
    subst (λ (b : List ℕ). IsFetched c.args.queue.now c.args.export.now.device.0 c.args.first c.args.count b c.read_into.new.queue) (sym (with_items_is c.in_ok-bytes.bytes c.read_into.new.out held)) c.in_ok-read_into.ensures.ok
