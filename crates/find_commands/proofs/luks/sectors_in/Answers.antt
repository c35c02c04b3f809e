use Rattle.std.proofs.Common.{◌∙◌, ap}
use Rattle.std.specs.Option.{option_and_then}
use Rattle.find_commands.specs.Luks.{whole_sectors}
use Rattle.find_commands.proofs.luks.sectors_in.Goals as goal

pub returns-in_err-bytes : goal.returns-in_err-bytes
returns-in_err-bytes c = c.from_residual.ensures ∙ ap (option_and_then whole_sectors) c.in_err-bytes.ensures

pub returns : goal.returns
returns c = c.whole_sectors.ensures ∙ ap (option_and_then whole_sectors) c.in_ok-bytes.ensures
