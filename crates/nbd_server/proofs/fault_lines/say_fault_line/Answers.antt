use Rattle.std.proofs.Common.{◌∙◌}
use Rattle.std.specs.Prelude.{codes}
use Rattle.std.proofs.KnownBytes.{Appends-trans}
use Rattle.program_io.proofs.lemmas.CountedLemmas.{on_ok-as}
use Rattle.nbd_protocol.specs.Exports.{export_records}
use Rattle.nbd_server.specs.FaultLines.{fault_line, named_fault}
use Rattle.nbd_server.proofs.fault_lines.say_fault_line.Goals as goal

pub returns : goal.returns
unfolding fault_line
returns g c = record {
  ok = on_ok-as
      c.say_named_fault.result
      (λ more.
      Appends-trans
      (g.W.Write.contents c.args.writer.now.inner)
      (g.W.Write.contents c.put.new.self.inner)
      (g.W.Write.contents c.say_named_fault.new.writer.inner)
      (codes "dmstack: export ")
      (named_fault (export_records c.args.exports.now) c.args.fault.now)
      c.in_ok-put.ensures.writes.ok
      more)
      c.say_named_fault.ensures.ok;
  kept = on_ok-as c.say_named_fault.result (λ kept. kept ∙ c.in_ok-put.ensures.writes.kept) c.say_named_fault.ensures.kept;
  failed = c.say_named_fault.ensures.failed;
}
