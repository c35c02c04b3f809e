use Rattle.std.proofs.Common.{ℕ, ◌%◌, rules}
use Rattle.std.proofs.lemmas.List.Sorted.{IsNonDecreasingBy-from_sort_by_key}
use Rattle.tree_repair.proofs.losses.Losses.of.Goals as goal

pub invariant_of-result-clause-in_order : goal.invariant_of-result-clause-in_order
invariant_of-result-clause-in_order c = IsNonDecreasingBy-from_sort_by_key (λ (n : ℕ). n % c.max-rounds.result) _ c.sort_unstable_by_key.ensures.sorted (λ a r q k. search rules)
