use Rattle.std.proofs.Common.{inl, subst, Bool}
use Rattle.image_files.specs.OnePlace.{Compares}
use Rattle.image_files.specs.Opener.{calls}
use Rattle.scan_commands.proofs.map_use.check_output.Goals as goal

pub returns-in-Ok-clause-ok : goal.returns-in-Ok-clause-ok
returns-in-Ok-clause-ok g c = record {
  between = c.is_one_place.new.images;
  compared = rw c.if-branch.false at c.in_ok-is_one_place.ensures.ok;
  other = inl (c.in-Ok._image, c.in-Ok.ensures.ok);
}
