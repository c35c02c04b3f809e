use Rattle.std.proofs.Common.{arith}
use Rattle.std.proofs.lemmas.Bool.Decides.{nat_tests}
use Rattle.aes_block.specs.KeyExpansion.{key_term}
use Rattle.aes_block.proofs.key_expansion.key_term.Goals as goal

pub returns-then-i-nk-eq0 : goal.returns-then-i-nk-eq0
unfolding key_term
returns-then-i-nk-eq0 c = grind (arith, nat_tests)

pub returns-then-i-nk-eq4 : goal.returns-then-i-nk-eq4
unfolding key_term
returns-then-i-nk-eq4 c = grind (arith, nat_tests)

pub returns-else-nk-eq8 : goal.returns-else-nk-eq8
unfolding key_term
returns-else-nk-eq8 c = grind (arith, nat_tests)
