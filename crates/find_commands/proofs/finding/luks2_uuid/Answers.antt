use Rattle.find_commands.proofs.FieldLemmas.{unparsed}
use Rattle.find_commands.proofs.finding.luks2_uuid.Goals as goal

pub returns-in-Err : goal.returns-in-Err
returns-in-Err c = unparsed _ c.try_parse_ascii.result c.in-Err.field-0 c.in-Err.is c.try_parse_ascii.ensures.ok
