use Rattle.hash_tree.specs.Building.{last_completed, built_root}
use Rattle.hash_tree.proofs.building.LevelBuilder.finish.Goals as goal

pub returns-in_err-root-clause-some : goal.returns-in_err-root-clause-some
unfolding last_completed
returns-in_err-root-clause-some c = rw (← c.self.view_is, ← c.deref_mut.ensures.value) c.in_err-root.ensures.some

pub returns-clause-root : goal.returns-clause-root
unfolding built_root
returns-clause-root c = rw (← c.self.view_is, ← c.deref_mut.ensures.value) c.in_ok-root.ensures.root

pub returns-clause-out : goal.returns-clause-out
unfolding last_completed
returns-clause-out c = rw (← c.self.view_is, ← c.deref_mut.ensures.value) c.in_ok-root.ensures.out

pub returns-clause-some : goal.returns-clause-some
unfolding last_completed
returns-clause-some c = rw (← c.self.view_is, ← c.deref_mut.ensures.value) c.in_ok-root.ensures.some
