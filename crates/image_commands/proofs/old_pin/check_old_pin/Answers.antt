use Rattle.std.proofs.Common.{ap, inl, sym, ◌∙◌}
use Rattle.image_commands.specs.OldPins.{old_pin_fault}
use Rattle.image_commands.proofs.old_pin.check_old_pin.Goals as goal

pub returns-in-None-clause-ok : goal.returns-in-None-clause-ok
returns-in-None-clause-ok g c = inl (record {
  text = c.in-Ok.text;
  told = c.in-Ok.ensures.told;
  pin = ap old_pin_fault (sym c.as_slice.ensures.value) ∙ sym c.in-None.ensures;
})

pub returns-clause-err : goal.returns-clause-err
returns-clause-err g c = record {
  text = c.in-Ok.text;
  told = c.in-Ok.ensures.told;
  other = ap old_pin_fault (sym c.as_slice.ensures.value) ∙ sym c.in-Some.ensures;
}
