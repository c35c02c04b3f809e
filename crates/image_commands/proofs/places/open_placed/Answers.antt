use Rattle.std.proofs.Common.{inr, refl, sym, ◌∙◌}
use Rattle.image_commands.proofs.places.open_placed.Goals as goal

pub returns-then-is_taken-clause-err : goal.returns-then-is_taken-clause-err
returns-then-is_taken-clause-err g c =
    inr (record { two = c.in_ok-two.two; opened = c.in_ok-two.ensures.ok; one = sym c.is_taken.ensures ∙ c.if-is_taken.true; is = (refl, refl) })

pub returns-clause-ok : goal.returns-clause-ok
returns-clause-ok g c = record { opened = c.in_ok-two.ensures.ok; apart = sym c.is_taken.ensures ∙ c.if-is_taken.false }
