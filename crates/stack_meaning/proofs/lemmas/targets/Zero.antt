-- The laws of `zero`.
use Rattle.std.proofs.Common.{◌≡◌, refl, subst, arith}
use Rattle.block_device.specs.Device.{IsSector}
use Rattle.dm_table.specs.declared.table.Target.TheVariants.{Zero}
use Rattle.stack_meaning.specs.Outcomes.{zero_sector}
use Rattle.stack_meaning.specs.targets.Zero.{zero_meaning}
use Rattle.stack_meaning.proofs.lemmas.MeaningLaws.{MeantLaws}
use Rattle.stack_meaning.proofs.lemmas.SizedLemmas.{zero-size}

pub zero-laws : MeantLaws Zero zero_meaning.meant
zero-laws = record {
  mono = λ below all d l s u v more b h. h;
  alike = λ images other below all d l s. refl;
  sized = λ grammar images below all d l s b h. let same : zero_sector ≡ b = cc in subst IsSector same zero-size;
  shows = λ chains P below all d l s own bytes entry may there. absurd (omega (arith, there.1));
  unchecked = λ len writable below all d l s h. h;
  later = λ below certain old new n chain a before h. absurd h;
}
