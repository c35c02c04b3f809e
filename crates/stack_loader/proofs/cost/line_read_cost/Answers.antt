use Rattle.std.proofs.Common.{subst, sym, ap, ◌∙◌, ◌*◌}
use Rattle.dm_table.specs.Grammar.{IsTargetOfGrammar}
use Rattle.dm_table.specs.declared.table.Target.{Target}
use Rattle.stack_rules.specs.Names.{names}
use Rattle.stack_rules.specs.Units.{unit_sectors}
use Rattle.stack_rules.specs.Descend.{by_name, line_read_cost}
use Rattle.stack_loader.specs.Costs.{cost_in}
use Rattle.stack_rules.specs.Passing.{Mean}
use Rattle.stack_rules.proofs.lemmas.LastCaseLemmas.{verity_of-is, crypt_of-is}
use Rattle.stack_loader.proofs.lemmas.CostLemmas.{crypt-lower, line_read_cost-row}
use Rattle.stack_loader.proofs.cost.line_read_cost.Goals as goal

pub verity_cost-requires : goal.verity_cost-requires
verity_cost-requires c = subst IsTargetOfGrammar (verity_of-is c.args.target.now c.in-Some.verity.now c.in-Some.ensures) c.requires

pub returns-in-Some : goal.returns-in-Some
returns-in-Some c = λ c' means.
    let is = verity_of-is c.args.target.now c.in-Some.verity.now c.in-Some.ensures in
    let P : Target → Type 0 = λ target. Mean c' c.args.lowers.now (names target) in
    c.verity_cost.ensures c' (subst P is means) ∙ ap (line_read_cost (by_name c' 0 (cost_in c.args.costs.now))) (sym is)

pub returns-in-Some-crypt_of : goal.returns-in-Some-crypt_of
returns-in-Some-crypt_of c = λ c' means.
    let is = crypt_of-is c.args.target.now c.in-Some-crypt_of.crypt.now c.in-Some-crypt_of.ensures in
    let P : Target → Type 0 = λ target. Mean c' c.args.lowers.now (names target) in
    rw (c.from.ensures, c.unit_sectors.ensures.value, c.cost_at.ensures.value)
    (ap (λ n. unit_sectors c.in-Some-crypt_of.crypt.now * n) (crypt-lower c' (cost_in c.args.costs.now) c.args.lowers.now c.in-Some-crypt_of.crypt.now (subst P is means)) ∙ ap (line_read_cost (by_name c' 0 (cost_in c.args.costs.now))) (sym is))

pub returns-in-None-crypt_of : goal.returns-in-None-crypt_of
returns-in-None-crypt_of c = λ c' means. c.from-in-None-crypt_of.ensures ∙ c.greatest_cost.ensures ∙ line_read_cost-row c' (cost_in c.args.costs.now) c.args.lowers.now c.args.target.now c.in-None.ensures c.in-None-crypt_of.ensures means
