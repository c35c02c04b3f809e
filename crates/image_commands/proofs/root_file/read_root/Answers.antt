use Rattle.std.proofs.Common.{ap, sym, ◌∙◌}
use Rattle.image_commands.specs.RootFiles.{digest_of}
use Rattle.image_commands.proofs.root_file.read_root.Goals as goal

pub returns-in-Some-clause-ok : goal.returns-in-Some-clause-ok
returns-in-Some-clause-ok g c = record { text = c.in-Ok.text; told = c.in-Ok.ensures.told; digits = ap digest_of (sym c.as_slice.ensures.value) ∙ sym c.in-Some.ensures }

pub returns-clause-err : goal.returns-clause-err
returns-clause-err g c = record { text = c.in-Ok.text; told = c.in-Ok.ensures.told; none = ap digest_of (sym c.as_slice.ensures.value) ∙ sym c.in-None.ensures }
