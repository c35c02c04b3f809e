use Rattle.std.proofs.Common.{length, ap, ◌∙◌, subst}
use Rattle.stack_engine.specs.KeptBlocks.{AreChecked}
use Rattle.stack_engine.specs.Stacks.{StackRecord}
use Rattle.stack_engine.proofs.CachedLemmas.{cached-checked}
use Rattle.stack_engine.proofs.stack.Stack.cached.Goals as goal

pub returns-clause-value : goal.returns-clause-value
returns-clause-value g c = c.count.ensures.value ∙ ap (λ (w : StackRecord). length w.kept) c.self.view_is

pub returns-clause-checked : goal.returns-clause-checked
returns-clause-checked g c = subst AreChecked c.self.view_is (cached-checked c.self.inside.config c.self.invariant.cached)
