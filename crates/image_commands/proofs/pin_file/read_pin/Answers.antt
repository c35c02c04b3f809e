use Rattle.std.proofs.Common.{ap, sym, ◌∙◌}
use Rattle.image_pin.specs.PinTexts.{limited_pin}
use Rattle.image_commands.proofs.pin_file.read_pin.Goals as goal

pub returns-in-Ok-parse_pin-clause-ok : goal.returns-in-Ok-parse_pin-clause-ok
returns-in-Ok-parse_pin-clause-ok g c = record {
  text = c.in-Ok.text;
  told = c.in-Ok.ensures.told;
  says = ap limited_pin (sym c.as_slice.ensures.value) ∙ sym c.in-Ok-parse_pin.ensures;
}

pub returns-clause-err : goal.returns-clause-err
returns-clause-err g c = record {
  text = c.in-Ok.text;
  told = c.in-Ok.ensures.told;
  says = ap limited_pin (sym c.as_slice.ensures.value) ∙ sym c.in-Err-parse_pin.ensures;
}
