use Rattle.std.proofs.Common.{rules, tests}
use Rattle.std.specs.Str.{bytes_eq}
use Rattle.std.proofs.lemmas.Iterator.{YieldsList-from_slice}
use Rattle.std.proofs.lemmas.Iterator.Search.{position_from_yields_List}
use Rattle.stack_rules.proofs.mapped.place_of.Goals as goal

pub returns : goal.returns
returns c =
    position_from_yields_List (λ d. bytes_eq d.name c.args.name.now) _ _ _ c.position.ensures.ran (YieldsList-from_slice c.args.devices.now cc) (λ x b q k. search (rules, tests))
