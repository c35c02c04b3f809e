use Rattle.std.proofs.Common.{refl, sym, ◌∙◌}
use Rattle.image_commands.proofs.places.data_end.Goals as goal

pub returns-then-is_shared : goal.returns-then-is_shared
returns-then-is_shared g c = rw (sym c.is_shared.ensures ∙ c.if-is_shared.true) refl

pub returns : goal.returns
returns g c = rw (sym c.is_shared.ensures ∙ c.if-is_shared.false) refl
