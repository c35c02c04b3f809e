use Rattle.std.proofs.Common.{◌∙◌, ap}
use Rattle.std.specs.Option.{option_and_then}
use Rattle.dm_table.specs.Numbers.{number}
use Rattle.find_commands.proofs.luks.number_in.Goals as goal

pub returns-in_err-text : goal.returns-in_err-text
returns-in_err-text c = c.from_residual.ensures ∙ ap (option_and_then number) c.in_err-text.ensures

pub returns : goal.returns
returns c = c.number.ensures ∙ ap number c.as_bytes.ensures.value ∙ ap (option_and_then number) c.in_ok-text.ensures
