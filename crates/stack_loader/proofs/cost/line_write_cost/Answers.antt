use Rattle.std.proofs.Common.{subst, sym, ap, ◌∙◌}
use Rattle.dm_table.specs.declared.table.Target.{Target}
use Rattle.stack_rules.specs.Names.{names}
use Rattle.stack_rules.specs.Descend.{by_name, line_write_cost}
use Rattle.stack_loader.specs.Costs.{cost_in}
use Rattle.stack_rules.specs.Passing.{Mean}
use Rattle.stack_rules.proofs.lemmas.LastCaseLemmas.{verity_of-is, crypt_of-is}
use Rattle.stack_loader.proofs.lemmas.CostLemmas.{line_write_cost-row}
use Rattle.stack_loader.proofs.cost.line_write_cost.Goals as goal

pub returns-in-Some : goal.returns-in-Some
returns-in-Some c = λ c' means. ap (line_write_cost (by_name c' 0 (cost_in c.args.reads.now)) (by_name c' 0 (cost_in c.args.costs.now))) (sym (verity_of-is c.args.target.now _ c.in-Some.ensures))

pub returns-in-Some-crypt_of : goal.returns-in-Some-crypt_of
returns-in-Some-crypt_of c = λ c' means.
    let is = crypt_of-is c.args.target.now c.in-Some-crypt_of.crypt.now c.in-Some-crypt_of.ensures in
    let P : Target → Type 0 = λ target. Mean c' c.args.lowers.now (names target) in
    c.unit_write_cost.ensures c' (subst P is means) ∙ ap (line_write_cost (by_name c' 0 (cost_in c.args.reads.now)) (by_name c' 0 (cost_in c.args.costs.now))) (sym is)

pub returns-in-None-crypt_of : goal.returns-in-None-crypt_of
returns-in-None-crypt_of c = λ c' means.
    c.from.ensures ∙ c.greatest_cost.ensures ∙ line_write_cost-row c' (by_name c' 0 (cost_in c.args.reads.now)) (cost_in c.args.costs.now) c.args.lowers.now c.args.target.now c.in-None.ensures c.in-None-crypt_of.ensures means
