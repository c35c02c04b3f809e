-- The laws of `crypt`.
use Rattle.std.proofs.Common.{ℕ, ◌+◌, ap}
use Rattle.dm_table.specs.declared.crypt.Crypt.{Crypt}
use Rattle.dm_table.specs.declared.table.Target.TheVariants.{Crypt as crypt_target}
use Rattle.stack_meaning.specs.declared.units.CryptUnits.{CryptUnits}
use Rattle.stack_meaning.specs.Units.{units_of, per_unit, unit_part, unit_first}
use Rattle.stack_meaning.specs.Outcomes.{Images, Outcome, changed_outcome, part}
use Rattle.stack_meaning.specs.targets.Crypt.{crypt_meaning}
use Rattle.stack_meaning.proofs.lemmas.GatheredLemmas.{of-gathered}
use Rattle.stack_meaning.proofs.lemmas.MeaningLaws.{MeantLaws}
use Rattle.stack_meaning.proofs.lemmas.SizedLemmas.{crypt-size}
use Rattle.stack_meaning.proofs.lemmas.SpanLemmas.{span_same}

pub crypt-laws : (line : Crypt) → MeantLaws (crypt_target line) (crypt_meaning line).meant
crypt-laws line =
    let units : CryptUnits = units_of line in
    record {
      mono = λ below all d l s u v more b h. (h.0, record { len = h.1.len; sectors = λ j low. all 0 _ u v more (part h.0 j) (h.1.sectors j low) }, h.2);
      alike = λ images other below all d l s.
          let f : Images → ℕ → Outcome = λ i t. (below 0 t).means i in
          ap (changed_outcome (unit_part units line.key s)) (span_same (f images) (f other) (unit_first units s) (unit_first units s) (per_unit units) (λ j h. all 0 (unit_first units s + j)));
      sized = λ grammar images below all d l. crypt-size images (below 0) (all 0) units line.key;
      shows = λ chains P below all d l s own bytes entry may there.
          let some = of-gathered (λ t. (below 0 t).entries) (unit_first units s) (per_unit units) entry there in
          all 0 (unit_first units s + some.0) (part may.0 some.0) entry (may.1.sectors some.0 some.1) some.2;
      unchecked = λ len writable below all d l s h. all 0 (unit_first units s + h.0) h.2;
      later = λ below certain old new n chain a before h. absurd h;
    }
