use Rattle.std.proofs.Common.{sym, ◌∙◌}
use Rattle.std.proofs.lemmas.Bool.{cond-true, cond-false}
use Rattle.std.proofs.lemmas.List.{take_rest}
use Rattle.dm_table.specs.Names.{is_device}
use Rattle.dm_table.proofs.name.is_device.Goals as goal

pub returns-then-starts_with : goal.returns-then-starts_with
unfolding is_device
returns-then-starts_with c =
    let below = simp take_rest at c.is_mapped_name.ensures in
    below ∙ sym (cond-true _ _ _ (sym c.starts_with.ensures.value ∙ c.if-starts_with.true))

pub returns-else-starts_with : goal.returns-else-starts_with
unfolding is_device
returns-else-starts_with c =
    c.is_leaf_name.ensures ∙ sym (cond-false _ _ _ (sym c.starts_with.ensures.value ∙ c.if-starts_with.false))
