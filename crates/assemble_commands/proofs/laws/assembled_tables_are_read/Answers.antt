use Rattle.assemble_commands.proofs.LawLemmas.{assembled-tables}
use Rattle.assemble_commands.proofs.laws.assembled_tables_are_read.Goals as goal

pub returns : goal.returns
returns g c =
    assembled-tables _ _ _ _ g.met.I.Dev.BlockDev.whole c.formed_chains_are_good.ensures c.disk_parts_make_tables.ensures c.written_table_is_held.ensures
    c.written_table_is_read.ensures c.written_table_is_found.ensures c.large_table_is_found.ensures
