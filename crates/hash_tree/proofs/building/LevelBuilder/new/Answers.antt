use Rattle.std.proofs.Common.{refl}
use Rattle.hash_tree.specs.Building.{begun_builder}
use Rattle.hash_tree.proofs.lemmas.BuilderLemmas.{HaveRoom-begun}
use Rattle.hash_tree.proofs.building.LevelBuilder.new.Goals as goal

pub invariant_of-result : goal.invariant_of-result
invariant_of-result c = λ well. rw (c.in_ok-begun_levels.ensures.ok, c.blocks-left.ensures.value) (HaveRoom-begun c.args.shape c.hash_block-hash_block.ensures.valid)

pub returns-clause-value : goal.returns-clause-value
unfolding begun_builder
returns-clause-value c = rw (c.new.ensures, c.in_ok-begun_levels.ensures.ok, c.blocks-left.ensures.value, c.hash_block-hash_block.ensures.value) refl
