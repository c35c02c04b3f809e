use Rattle.std.proofs.Common.{◌≡◌, Ok, Err, MatchResult, subst}
use Rattle.dm_table.specs.ValuedOptions.{option_value}
use Rattle.table_text.proofs.option_values.option_value.Goals as goal

pub returns : goal.returns
returns c =
    let name = c.args.name.now in
    subst (λ ws. MatchResult c.value_of.result (λ value. option_value name ws ≡ Ok value.now) (λ kind. option_value name ws ≡ Err kind)) c.again.ensures c.value_of.ensures
