use Rattle.std.proofs.Common.{◌∙◌, ap}
use Rattle.std.specs.Option.{option_and_then}
use Rattle.find_commands.specs.Luks.{length_of}
use Rattle.find_commands.proofs.luks.length_in.Goals as goal

pub returns-in_err-text : goal.returns-in_err-text
returns-in_err-text c = c.from_residual.ensures ∙ ap (option_and_then length_of) c.in_err-text.ensures

pub returns : goal.returns
returns c = c.length_of.ensures ∙ ap (option_and_then length_of) c.in_ok-text.ensures
