-- A block that is kept is what is stored, also after reads.
use Rattle.std.proofs.Common.{ℕ, List, sym, ap, ◌∙◌, subst}
use Rattle.block_device.specs.Device.{Device}
use Rattle.dm_table.specs.declared.verity.Verity.{Verity}
use Rattle.stack_rules.specs.Records.{Configuration}
use Rattle.verified_cache.specs.Cache.{CachedBlock}
use Rattle.verified_cache.specs.declared.key.Key.{Key}
use Rattle.stack_meaning.specs.Agreement.{AgreesOn}
use Rattle.stack_meaning.specs.Leaves.{AreSteady, AreRead}
use Rattle.stack_meaning.specs.Meaning.{said_by_name}
use Rattle.stack_meaning.specs.Outcomes.{Images, span}
use Rattle.stack_meaning.proofs.lemmas.LeafListLemmas.{AreSteady-kept, images-kept}
use Rattle.stack_lines.specs.Caches.{IsKept, NamedExtent}
use Rattle.stack_lines.specs.Standing.{name_stands_on}

-- reads change no image of a steady leaf
pub stored-read : {stored : Verity → Key → NamedExtent} {c : Configuration} {old new : List Device} {n : ℕ} {b : CachedBlock} → AreRead old n new → IsKept stored c old b → IsKept stored c new b
stored-read {stored = stored} {c = c} {old = old} {new = new} {b = b} a one =
    let at : NamedExtent = stored one.verity b.key in
    record {
      verity = one.verity;
      line = one.line;
      block = one.block;
      exact = λ steady agrees.
          let before : AreSteady (λ j. name_stands_on c j at.name) old = AreSteady-kept new old (sym a.moved.fixed) steady in
          ap (λ (m : Images). span (λ s. (said_by_name c at.name s).means m) at.first at.sectors) (images-kept a)
          ∙ one.exact before (subst (AgreesOn c (λ j. name_stands_on c j at.name)) (images-kept a) agrees);
    }
