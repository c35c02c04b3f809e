use Rattle.std.proofs.Common.{◌∙◌, ap}
use Rattle.std.specs.Option.{option_and_then}
use Rattle.command_line.specs.FormatOptions.{text_of}
use Rattle.serde_json.specs.Find.{as_str}
use Rattle.find_commands.proofs.luks.text_in.Goals as goal

pub returns-in_err-member : goal.returns-in_err-member
returns-in_err-member c = ap text_of c.from_residual.ensures ∙ ap (option_and_then as_str) c.in_err-member.ensures

pub returns : goal.returns
returns c = c.as_str.ensures ∙ ap (option_and_then as_str) c.in_ok-member.ensures
