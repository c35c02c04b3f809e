use Rattle.std.proofs.Common.{◌*◌, arith, sym}
use Rattle.std.proofs.lemmas.List.{take_all}
use Rattle.memory_images.proofs.part.shorten.Goals as goal

pub returns-else-sectors-whole : goal.returns-else-sectors-whole
returns-else-sectors-whole c = sym (take_all (c.args.sectors * 512) c.args.image.now.items (omega (arith, c.if-sectors-whole.false, c.len.ensures)))
