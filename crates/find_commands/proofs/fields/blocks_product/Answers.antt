use Rattle.find_commands.proofs.FieldLemmas.{product-is}
use Rattle.find_commands.proofs.fields.blocks_product.Goals as goal

pub returns : goal.returns
returns c = product-is c.checked_mul.result c.args.blocks c.args.each c.checked_mul.ensures
