use Rattle.std.proofs.Common.{◌∙◌}
use Rattle.stack_config.proofs.config.Config.zero_digest.Goals as goal

pub returns : goal.returns
returns c = c.at.ensures ∙ c.device_facts.ensures.zero_digest c.args.line
