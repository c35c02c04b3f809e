use Rattle.std.proofs.Common.{inl, inr, refl, sym, ◌∙◌}
use Rattle.stack_commands.proofs.EndingLemmas.{explained-failed, told-elsewhere, told-here}
use Rattle.stack_commands.proofs.program.command.Goals as goal

pub returns-in-Ok : goal.returns-in-Ok
returns-in-Ok g c = inl (refl, c.in-Ok.ensures.ok)

pub returns-then-output_is_data : goal.returns-then-output_is_data
returns-then-output_is_data g c = inr (record {
  ended = c.in-Err.ended;
  before = _;
  unwritten = c.run.new.writer.failed;
  notes = record { old = g.E.Write.contents c.args.errors.now.inner; new = g.E.Write.contents c.run.new.errors.inner; failed = c.run.new.errors.failed };
  begun = refl;
  fails = c.in-Err.ensures.err;
  read = refl;
  kept = λ is. is;
  noted = λ failed. c.end.ensures.failed (c.explain.ensures.failed failed);
  told_so = told-elsewhere _ c.in-Err.ended _ _ _ _ (sym c.output_is_data.ensures ∙ c.if-output_is_data.true)
      (λ usage. explained-failed _ _ _ c.end.ensures.failed (c.explain.ensures.usage usage))
      (λ other. explained-failed _ _ _ c.end.ensures.failed (c.explain.ensures.end other)) c.end.ensures.told;
})

pub returns-else-output_is_data : goal.returns-else-output_is_data
returns-else-output_is_data g c = inr (record {
  ended = c.in-Err.ended;
  before = _;
  unwritten = c.run.new.writer.failed;
  notes = record { old = g.E.Write.contents c.args.errors.now.inner; new = g.E.Write.contents c.run.new.errors.inner; failed = c.run.new.errors.failed };
  begun = refl;
  fails = c.in-Err.ensures.err;
  read = refl;
  kept = c.report_end.ensures.failed;
  noted = λ failed. c.report_end.ensures.errors_failed (c.explain.ensures.failed failed);
  told_so = told-here _ c.in-Err.ended _ _ _ _ (sym c.output_is_data.ensures ∙ c.if-output_is_data.false) c.report_end.ensures.told (record {
    before = _;
    explained = λ usage. explained-failed _ _ _ c.report_end.ensures.errors_failed (c.explain.ensures.usage usage);
    reason = λ other. explained-failed _ _ _ c.report_end.ensures.errors_failed (c.explain.ensures.end other);
    repeated = c.report_end.ensures.errors;
  });
})
