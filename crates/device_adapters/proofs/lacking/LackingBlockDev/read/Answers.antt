use Rattle.std.proofs.Common.{◌≡◌, length, sym, ◌∙◌}
use Rattle.std.proofs.lemmas.Bool.{and_parts, eqb-true, false≢true}
use Rattle.device_adapters.specs.Lacking.{parts_in}
use Rattle.device_adapters.proofs.LackingLemmas.{lacks-none}
use Rattle.device_adapters.proofs.lacking.LackingBlockDev.read.Goals as goal

pub returns-then-lacks-clause-sure : goal.returns-then-lacks-clause-sure
returns-then-lacks-clause-sure g c = λ sure.
    let none : length (parts_in c.args.self.now.lost) ≡ 0 = eqb-true _ 0 (and_parts _ _ sure).0 in
    absurd (false≢true (sym (lacks-none (parts_in c.args.self.now.lost) c.args.first _ none) ∙ (sym c.lacks.ensures ∙ c.if-lacks.true)))
