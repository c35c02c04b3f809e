use Rattle.std.proofs.Common.{◌∙◌, ap}
use Rattle.find_commands.specs.Luks.{is_crypt}
use Rattle.find_commands.proofs.luks.is_crypt.Goals as goal

pub returns-in-Some : goal.returns-in-Some
returns-in-Some c = c.is_crypt_type.ensures ∙ ap is_crypt c.in-Some.ensures

pub returns-in-None : goal.returns-in-None
returns-in-None c = ap is_crypt c.in-None.ensures
