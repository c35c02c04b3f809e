use Rattle.std.proofs.Common.{sym, ◌∙◌}
use Rattle.stack_rules.specs.Units.{unit_sectors}
use Rattle.stack_rules.specs.Descend.{by_name}
use Rattle.stack_loader.specs.Costs.{cost_in}
use Rattle.stack_loader.proofs.lemmas.CostLemmas.{crypt-lower, unit-one, unit-more}
use Rattle.stack_loader.proofs.cost.unit_write_cost.Goals as goal

pub returns-then-sectors-eq1 : goal.returns-then-sectors-eq1
returns-then-sectors-eq1 c = λ c' means.
    let crypt = c.args.crypt.now in
    c.cost_at-write.ensures.value ∙ crypt-lower c' (cost_in c.args.costs.now) c.args.lowers.now crypt means
    ∙ sym (unit-one (unit_sectors crypt) (by_name c' 0 (cost_in c.args.reads.now) crypt.base.device) (by_name c' 0 (cost_in c.args.costs.now) crypt.base.device) (sym c.unit_sectors-sectors.ensures.value ∙ c.if-sectors-eq1.true))

pub returns : goal.returns
returns c = λ c' means.
    let crypt = c.args.crypt.now in
    let read = c.cost_at.ensures.value ∙ crypt-lower c' (cost_in c.args.reads.now) c.args.lowers.now crypt means in
    let write = c.cost_at-write.ensures.value ∙ crypt-lower c' (cost_in c.args.costs.now) c.args.lowers.now crypt means in
    rw (c.from.ensures, read, write, c.unit_sectors-sectors.ensures.value)
    (sym (unit-more (unit_sectors crypt) (by_name c' 0 (cost_in c.args.reads.now) crypt.base.device) (by_name c' 0 (cost_in c.args.costs.now) crypt.base.device) (λ one. c.if-sectors-eq1.false (c.unit_sectors-sectors.ensures.value ∙ one))))
