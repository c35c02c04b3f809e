use Rattle.std.proofs.Common.{◌∙◌}
use Rattle.std.specs.Prelude.{codes}
use Rattle.std.proofs.KnownBytes.{Appends-trans}
use Rattle.program_io.proofs.lemmas.CountedLemmas.{on_ok-as}
use Rattle.nbd_protocol.specs.Exports.{export_record}
use Rattle.stack_commands.specs.ServiceLog.{export_line, named_facts}
use Rattle.stack_commands.proofs.export_log.say_export.Goals as goal

pub returns : goal.returns
unfolding export_line
returns g c = record {
  ok = on_ok-as
      c.say_named_facts.result
      (λ more.
      Appends-trans
      (g.W.Write.contents c.args.writer.now.inner)
      (g.W.Write.contents c.put.new.self.inner)
      (g.W.Write.contents c.say_named_facts.new.writer.inner)
      (codes "dmstack: export ")
      (named_facts c.args.config.now (export_record c.args.export.now))
      c.in_ok-put.ensures.writes.ok
      more)
      c.say_named_facts.ensures.ok;
  kept = on_ok-as c.say_named_facts.result (λ kept. kept ∙ c.in_ok-put.ensures.writes.kept) c.say_named_facts.ensures.kept;
  failed = c.say_named_facts.ensures.failed;
}
