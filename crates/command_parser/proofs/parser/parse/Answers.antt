use Rattle.std.proofs.Common.{map}
use Rattle.std.specs.Prelude.{string_bytes}
use Rattle.clap.proofs.TakesLemmas.{passed_up}
use Rattle.command_line.specs.ImageValues.{options_read}
use Rattle.command_parser.specs.CommandLines.{line_record}
use Rattle.command_parser.proofs.CommandLemmas.{line_said-misused, line_said-read, line_said-unread, reader-memory}
use Rattle.command_parser.proofs.parser.parse.Goals as goal

pub returns-in_err-line-clause-err : goal.returns-in_err-line-clause-err
returns-in_err-line-clause-err c = passed_up c.from_residual.result c.in_err-line.field-0.0 _ c.from_residual.ensures.1 (line_said-misused _ c.in_err-line.field-0.0 c.in_err-line.ensures.err)

pub returns-in_err-line-clause-memory : goal.returns-in_err-line-clause-memory
returns-in_err-line-clause-memory c = passed_up c.from_residual.result c.in_err-line.field-0.0 _ c.from_residual.ensures.1 c.in_err-line.ensures.memory

pub returns-in-Ok-clause-ok : goal.returns-in-Ok-clause-ok
returns-in-Ok-clause-ok c = line_said-read _ (line_record c.in_ok-line.line) c.in_ok-line.ensures.ok c.in-Ok.ensures.read

pub returns-clause-err : goal.returns-clause-err
returns-clause-err c = line_said-unread _ (line_record c.in_ok-line.line) c.in-Err.fault c.in_ok-line.ensures.ok c.in-Err.ensures.err

pub returns-clause-memory : goal.returns-clause-memory
returns-clause-memory c =
    reader-memory (map string_bytes c.args.words.now) (options_read (line_record c.in_ok-line.line).options) c.in-Err.fault c.in-Err.ensures.err
