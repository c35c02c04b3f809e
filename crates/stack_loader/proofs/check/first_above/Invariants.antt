use Rattle.std.proofs.Common.{◌≡◌, ◌+◌, nat_lt, drop, ◌∷◌, []}
use Rattle.stack_rules.specs.Passing.{above}
use Rattle.stack_rules.specs.Rules.{first, refuse}
use Rattle.stack_rules.proofs.lemmas.FirstRefusalLemmas.{scan}
use Rattle.stack_loader.proofs.check.first_above.Given as goal

abbrev pub invariant-loop-i : goal.invariant-loop-i
invariant-loop-i l = scan (λ d n. refuse l.kind d 0 (nat_lt l.most n) ∷ []) (l.i + 1) (drop l.i l.values) ≡ first (above l.kind l.most l.values)
