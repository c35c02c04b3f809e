use Rattle.nbd_protocol.specs.Exports.{export_records}
use Rattle.stack_files.specs.Unchecked.{unchecked_text}
use Rattle.stack_commands.specs.ServiceLog.{exports_text, start_text}
use Rattle.stack_commands.proofs.ServiceLogLemmas.{printed-or, printed-then}
use Rattle.stack_commands.proofs.export_log.note_start.Goals as goal

pub returns : goal.returns
unfolding start_text
returns g c =
    let config = c.args.config.now in
    let old = c.args.errors.now in
    let mid = c.note_unchecked.new.errors in
    let new = c.say_exports-said.new.writer in
    printed-then g.E.Write.contents old mid new (unchecked_text config) (exports_text config (export_records c.args.exports.now))
    (record { printed = c.note_unchecked.ensures.noted; failed = c.note_unchecked.ensures.failed })
    (printed-or g.E.Write.contents mid new _ c.say_exports-said.result c.say_exports-said.ensures)
