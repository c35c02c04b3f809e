use Rattle.std.proofs.lemmas.Result.{IfErr-weaker, on_ok_weaker}
use Rattle.find_commands.specs.Searches.{search_sides}
use Rattle.find_commands.proofs.EndingLemmas.{lines-lossy, lines-stopped, prints-counts, prints-lines}
use Rattle.find_commands.specs.Commands.{printing}
use Rattle.find_commands.proofs.find.find_lines.Goals as goal

pub returns-in-Err-clause-err : goal.returns-in-Err-clause-err
returns-in-Err-clause-err g c =
    lines-stopped g.D.BlockDev.state (printing c.args.device.now c.find_in.new.device (g.W.Write.contents c.args.writer.now.inner) (g.W.Write.contents c.find_in.new.list.inner)) c.find_in.new.list.failed c.in-Err.fault
    c.list_end.result c.list_end.ensures c.in-Err.ensures.err.refused

pub returns-clause-ok : goal.returns-clause-ok
returns-clause-ok g c =
    let contents = g.W.Write.contents in
    let old = search_sides c.args.device.now c.args.writer.now in
    let mid = search_sides c.find_in.new.device c.find_in.new.list in
    on_ok_weaker c.tell_counts.result
    (λ told. prints-counts g.D.BlockDev.state c.args.device.now c.find_in.new.device (contents c.args.writer.now.inner) (contents c.find_in.new.list.inner) (contents c.tell_counts.new.writer.inner) c.in-Ok.counts told.1.0
    (prints-lines g.D.BlockDev.state g.D.BlockDev.does contents old mid c.in-Ok.counts c.in-Ok.ensures.ok) told.1.1)
    c.tell_counts.ensures.ok

pub returns-clause-err : goal.returns-clause-err
returns-clause-err g c =
    let contents = g.W.Write.contents in
    let old = search_sides c.args.device.now c.args.writer.now in
    let mid = search_sides c.find_in.new.device c.find_in.new.list in
    IfErr-weaker c.tell_counts.result _ _
    (λ fault ends. lines-lossy g.D.BlockDev.state c.args.device.now c.find_in.new.device (contents c.args.writer.now.inner) (contents c.find_in.new.list.inner) (contents c.tell_counts.new.writer.inner) c.in-Ok.counts
    c.find_in.new.list.failed c.tell_counts.new.writer.failed fault (prints-lines g.D.BlockDev.state g.D.BlockDev.does contents old mid c.in-Ok.counts c.in-Ok.ensures.ok) ends)
    c.tell_counts.ensures.err
