use Rattle.scan_commands.proofs.NameLemmas.{utf8_name}
use Rattle.scan_commands.proofs.devices.name_text.Goals as goal

pub unreachable-requires : goal.unreachable-requires
unreachable-requires c = c.in-Err.ensures.cases.0 (rw c.name.ensures (utf8_name c.args.config.now c.args.d.0 c.count-loaded.ensures.loaded c.requires))
