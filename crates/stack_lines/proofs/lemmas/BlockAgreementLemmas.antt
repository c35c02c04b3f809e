-- The blocks of a line whose leaves agree with what parity restores.
use Rattle.std.proofs.Common.{ℕ, Bool, IsTrue, false, ◌||◌, sym, ap, ◌∙◌, subst}
use Rattle.std.specs.Option.{option_map_or}
use Rattle.dm_table.specs.declared.table.Target.TheVariants.{Verity as verity_target}
use Rattle.dm_table.specs.declared.verity.Verity.{Verity}
use Rattle.stack_rules.specs.Names.{mapped}
use Rattle.stack_rules.specs.Records.{Configuration}
use Rattle.stack_rules.specs.Rules.{IsLoaded}
use Rattle.stack_meaning.specs.Agreement.{AgreesOn}
use Rattle.stack_meaning.specs.Kept.{target_leaves}
use Rattle.stack_meaning.specs.Outcomes.{Images}
use Rattle.stack_meaning.proofs.lemmas.AgreementLemmas.{agrees-within}
use Rattle.stack_lines.specs.Standing.{name_stands_on}
use Rattle.stack_lines.specs.Touches.{leaves_of}
use Rattle.stack_lines.specs.Walks.{AgreesAt, HasVerity, block_in, block_leaves}
use Rattle.stack_lines.proofs.lemmas.StandingLemmas.{or-true}
use Rattle.stack_lines.proofs.lemmas.TouchLemmas.{verity-leaves, verity-names}

module _ (c : Configuration) (d l : ℕ) (v : Verity) (k : ℕ) (has : HasVerity c d l v) (images : Images) where
  of-line : (i : ℕ) → IsTrue (block_leaves (block_in c v k) i) → IsTrue (target_leaves c (verity_target v) i)
  of-line i on = subst IsTrue (sym (verity-leaves c v k i)) on

  abbrev at : ℕ → Bool
  at i = option_map_or (λ p. name_stands_on c i p.device) v.parity false

  -- by the leaves beneath the line
  pub line-agreed : AgreesOn c (target_leaves c (verity_target v)) images → AgreesAt (block_in c v k) images
  line-agreed all = record {
    on_data = agrees-within c images (λ i on. of-line i (ap (λ (b : Bool). b || (name_stands_on c i v.hash || at i)) on)) all;
    on_hash = agrees-within c images (λ i on. of-line i (ap (λ (b : Bool). name_stands_on c i v.data || (b || at i)) on ∙ or-true (name_stands_on c i v.data))) all;
    on_parity = agrees-within c images (λ i on. of-line i (ap (λ (b : Bool). name_stands_on c i v.data || (name_stands_on c i v.hash || b)) on ∙ ap (λ (b : Bool). name_stands_on c i v.data || b) (or-true (name_stands_on c i v.hash)) ∙ or-true (name_stands_on c i v.data))) all;
    line = all d l has.line v has.is has.has (λ i on. on);
  }

  -- by those beneath its device
  pub block-agreed : IsLoaded c → AgreesOn c (leaves_of c (mapped d)) images → AgreesAt (block_in c v k) images
  block-agreed loaded all = line-agreed (agrees-within c images (verity-names c d l 0 v loaded has) all)
