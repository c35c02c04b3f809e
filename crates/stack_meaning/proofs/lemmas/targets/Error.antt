-- The laws of `error`.
use Rattle.std.proofs.Common.{◌≡◌, refl}
use Rattle.dm_table.specs.declared.table.Target.TheVariants.{Error}
use Rattle.stack_meaning.specs.Outcomes.{error_target, mismatch}
use Rattle.stack_meaning.specs.targets.Error.{error_meaning}
use Rattle.stack_meaning.proofs.lemmas.MeaningLaws.{MeantLaws}

other-fault : mismatch ≡ error_target → ⊥
other-fault e = cc

pub error-laws : MeantLaws Error error_meaning.meant
error-laws = record {
  mono = λ below all d l s u v more b h. h;
  alike = λ images other below all d l s. refl;
  sized = λ grammar images below all d l s b h. cc;
  shows = λ chains P below all d l s own bytes entry may there. absurd may;
  unchecked = λ len writable below all d l s h. other-fault h;
  later = λ below certain old new n chain a before h. absurd h;
}
