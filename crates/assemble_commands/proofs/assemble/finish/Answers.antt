use Rattle.std.proofs.Common.{inl, inr, refl}
use Rattle.image_commands.specs.declared.fault.ImageFault.TheVariants.{Write}
use Rattle.assemble_commands.proofs.EndLemmas.{err-from}
use Rattle.assemble_commands.proofs.assemble.finish.Goals as goal

pub returns-in_err-write_root-clause-err : goal.returns-in_err-write_root-clause-err
returns-in_err-write_root-clause-err g c =
    err-from c.from_residual.result _ c.in_err-write_root.field-0.0 c.from_residual.ensures.1
    (inl (rw c.pin_of-pin.ensures at (rw c.places_of.ensures at c.in_err-write_root.ensures.err), refl))

pub returns-in_err-say_made-clause-err : goal.returns-in_err-say_made-clause-err
returns-in_err-say_made-clause-err g c = err-from c.from_residual-in_err-say_made.result _ Write c.from_residual-in_err-say_made.ensures.1
    (inr (refl, (c.in_err-say_made.ensures.failed, rw c.pin_of-pin.ensures at (rw c.places_of.ensures at c.in_ok-write_root.ensures.ok))))

pub returns-clause-ok : goal.returns-clause-ok
returns-clause-ok g c = record {
  pinned = rw c.pin_of-pin.ensures at (rw c.places_of.ensures at c.in_ok-write_root.ensures.ok);
  printed = c.in_ok-say_made.ensures.ok;
}
