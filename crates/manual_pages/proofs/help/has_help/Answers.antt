use Rattle.std.proofs.Common.{◌∙◌}
use Rattle.manual_pages.proofs.NameLemmas.{has_help-strings}
use Rattle.manual_pages.proofs.help.has_help.Goals as goal

pub returns : goal.returns
returns c = c.any_help.ensures ∙ has_help-strings c.args.words.now
