use Rattle.std.proofs.Common.{map, take}
use Rattle.image_files.specs.Opener.{calls}
use Rattle.repair_commands.specs.Copies.{OpensEachCopy, path_in}
use Rattle.repair_commands.proofs.copies.open_copies.Given as goal

-- the copies so far are open
abbrev pub invariant-copies : goal.invariant-copies
invariant-copies g l =
    OpensEachCopy (calls g.I.Images.relations g.I.Dev.BlockDev.state l.fn.images l.images) l.files (map (path_in l.hashes) (take l.copy-index l.copies)) l.devices.items
