use Rattle.std.proofs.Common.{sym, ◌∙◌, ap, ◌&&◌}
use Rattle.std.specs.List.{list_all}
use Rattle.dm_table.specs.Names.{is_mapped_name, is_mapped_byte}
use Rattle.dm_table.proofs.name.is_mapped_name.Goals as goal

pub returns-then-has_name_len : goal.returns-then-has_name_len
unfolding is_mapped_name
returns-then-has_name_len c =
    c.are_mapped_bytes.ensures ∙ ap (λ b. b && list_all is_mapped_byte c.args.word.now) (sym c.if-has_name_len.true ∙ c.has_name_len.ensures)

pub returns-else-has_name_len : goal.returns-else-has_name_len
unfolding is_mapped_name
returns-else-has_name_len c =
    c.if-has_name_len.false ∙ ap (λ b. b && list_all is_mapped_byte c.args.word.now) (sym c.if-has_name_len.false ∙ c.has_name_len.ensures)
