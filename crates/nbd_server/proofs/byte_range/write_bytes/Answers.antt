use Rattle.std.proofs.Common.{◌≡◌, ℕ, ◌+◌, ◌-◌, ◌%◌, ◌++◌, List, arith, drop, inl, length, refl, sym, ◌∙◌, subst, take}
use Rattle.std.proofs.lemmas.List.{length-take-le}
use Rattle.std.proofs.lemmas.Result.{err_from_is_err_and}
use Rattle.nbd_protocol.specs.Exports.{export_record}
use Rattle.nbd_server.specs.Transmission.{FailsToReadEnds, ReadsEnds, reply_data}
use Rattle.nbd_server.proofs.ByteLemmas.{framed, meant-length, writes-ended}
use Rattle.nbd_server.proofs.byte_range.write_bytes.Goals as goal

pub returns-in_err-ends : goal.returns-in_err-ends
returns-in_err-ends g c =
    let e = export_record c.args.export.now in
    let p = err_from_is_err_and c.from_residual.result c.from_residual.ensures.1 in
    rw (p.1, p.2)
    (inl (subst (λ (n : ℕ). FailsToReadEnds e c.args.queue.now c.args.offset n c.read_ends.new.queue c.in_err-ends.field-0.0) (sym (meant-length c.args.offset c.args.len c.args.bytes.now c.requires.room)) c.in_err-ends.ensures.err))

pub returns : goal.returns
returns g c =
    let e = export_record c.args.export.now in
    let offset = c.args.offset in
    let len = c.args.len in
    let first = c.args.queue.now in
    let mid = c.read_ends.new.queue in
    let front = c.copy_from_slice.new.self in
    let back = c.copy_from_slice-2.new.self in
    let start : length front ≡ offset % 512 = omega (arith, c.copy_from_slice.auto.self, length-take-le (offset % 512) c.args.bytes.now (omega (arith, c.requires.room))) in
    let room = length (front ++ drop (offset % 512) c.args.bytes.now) - (offset % 512 + len) in
    let before : reply_data c.in_ok-ends.ends.before ≡ front = sym (c.copy_from_slice.ensures.after ∙ c.part.ensures) in
    let behind : reply_data c.in_ok-ends.ends.behind ≡ back = sym (c.copy_from_slice-2.ensures.after ∙ c.part-2.ensures) in
    let some : ReadsEnds e first offset len front (reply_data c.in_ok-ends.ends.behind) mid = subst (λ (l : List ℕ). ReadsEnds e first offset len l (reply_data c.in_ok-ends.ends.behind) mid) before c.in_ok-ends.ensures.ok in
    let ends : ReadsEnds e first offset len front back mid = subst (λ (l : List ℕ). ReadsEnds e first offset len front l mid) behind some in
    writes-ended e first mid c.store.new.queue offset (take len (drop (offset % 512) c.args.bytes.now)) _ c.store.result (framed offset len c.args.bytes.now c.requires.room front start e first mid back room refl ends) c.store.ensures.ok
    c.store.ensures.err
