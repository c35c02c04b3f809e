use Rattle.std.proofs.Common.{ap, ◌∙◌}
use Rattle.device_adapters.proofs.lacking.whole_window.Goals as goal

pub returns-clause-inner : goal.returns-clause-inner
returns-clause-inner g c = ap (λ d. d.inner) c.whole.ensures.inner ∙ c.lacking_nothing.ensures.inner

pub returns-clause-state : goal.returns-clause-state
returns-clause-state g c = c.whole.ensures.state ∙ c.lacking_nothing.ensures.state
