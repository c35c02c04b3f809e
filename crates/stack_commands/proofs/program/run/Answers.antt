use Rattle.std.proofs.Common.{map, refl, inl, inr, sym}
use Rattle.std.specs.Prelude.{string_bytes}
use Rattle.command_line.specs.Invocations.{invocation_record}
use Rattle.command_line.specs.FormatOptions.{option_texts}
use Rattle.stack_commands.specs.CommandEnds.{words_end}
use Rattle.stack_commands.proofs.OpeningLemmas.{err-from}
use Rattle.stack_commands.proofs.UsageLemmas.{IsUsageEnd-words}
use Rattle.stack_commands.proofs.program.run.Goals as goal

pub returns-in_err-said-clause-err : goal.returns-in_err-said-clause-err
returns-in_err-said-clause-err g c =
    err-from c.from_residual.result _ (words_end c.in_err-said.field-0.0) c.from_residual.ensures.1
    (inl (IsUsageEnd-words (map string_bytes c.args.words.now) c.in_err-said.field-0.0 c.in_err-said.ensures.err c.in_err-said.ensures.memory, refl, refl, refl, refl))

pub returns-in_err-line-clause-err : goal.returns-in_err-line-clause-err
returns-in_err-line-clause-err g c =
    let fails = c.in_err-line.ensures.err in
    err-from c.from_residual-in_err-line.result _ c.in_err-line.field-0.0 c.from_residual-in_err-line.ensures.1 (inr (
      invocation_record c.in_ok-said.said.invocation,
      option_texts c.in_ok-said.said.options,
      c.in_ok-said.ensures.ok,
      inl (record { cause = fails.cause; silent = refl; quiet = refl }),
      fails.json_is,
      fails.quiet_is,
    ))

pub returns-in-Ok-clause-ok : goal.returns-in-Ok-clause-ok
returns-in-Ok-clause-ok g c = (
  invocation_record c.in_ok-said.said.invocation,
  option_texts c.in_ok-line.line.options,
  rw (sym c.in_ok-line.ensures.ok.same_options) at c.in_ok-said.ensures.ok,
  record {
    between = c.resolve_line.new.images;
    resolved = invocation_record c.in_ok-line.line.invocation;
    resolves = c.in_ok-line.ensures.ok.resolves;
    succeeds = c.in-Ok.ensures.ok;
    noted = c.in-Ok.ensures.noted;
  },
)

pub returns-in-Err-clause-err : goal.returns-in-Err-clause-err
returns-in-Err-clause-err g c =
    rw c.command_end.ensures (inr (
      invocation_record c.in_ok-said.said.invocation,
      option_texts c.in_ok-line.line.options,
      rw (sym c.in_ok-line.ensures.ok.same_options) at c.in_ok-said.ensures.ok,
      inr (record {
        between = c.resolve_line.new.images;
        resolved = invocation_record c.in_ok-line.line.invocation;
        resolves = c.in_ok-line.ensures.ok.resolves;
        fails = c.in-Err.ensures.err;
        noted = c.in-Err.ensures.noted;
      }),
      refl,
      refl,
    ))
