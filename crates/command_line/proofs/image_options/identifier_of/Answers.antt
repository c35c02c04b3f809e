use Rattle.command_line.proofs.CommandWordLemmas.{unparsed}
use Rattle.command_line.proofs.image_options.identifier_of.Goals as goal

pub returns-in-Err : goal.returns-in-Err
returns-in-Err c = unparsed _ c.try_parse.result c.in-Err.field-0 c.in-Err.is c.try_parse.ensures.ok
