-- Sectors that have bytes have 512.
use Rattle.std.proofs.Common.{ℕ, List}
use Rattle.stack_rules.specs.declared.lower.Lower.{Lower}
use Rattle.stack_rules.specs.Records.{Configuration}
use Rattle.stack_rules.specs.Rules.{IsLoaded}
use Rattle.stack_config.proofs.lemmas.LoadedLineLemmas.{line-grammar}
use Rattle.stack_meaning.specs.Beneath.{beneath, below, said_or}
use Rattle.stack_meaning.specs.TargetMeaning.{Meant, handed, own, said_as}
use Rattle.stack_meaning.specs.MeaningOf.{meaning_of}
use Rattle.stack_meaning.specs.Meaning.{none_said, said_at, said_by_name}
use Rattle.stack_meaning.specs.Outcomes.{Images, AreWhole}
use Rattle.stack_meaning.proofs.lemmas.EachLineLemmas.{IsHandedUpIn, said_at-each_in, said_by_name-each_in}
use Rattle.stack_meaning.proofs.lemmas.MeaningLaws.{MeantLaws, IsSized}
use Rattle.stack_meaning.proofs.lemmas.MeaningLawsOf.{meaning-laws}
use Rattle.stack_meaning.proofs.lemmas.SizedLemmas.{leaf-size, or-size}

line-size : (c : Configuration) (images : Images) → IsLoaded c → IsHandedUpIn c (IsSized images)
line-size c images loaded at all d l line is s = go (meaning_of line.target).meant (meaning-laws line.target)
  where
    go : (m : Meant) → MeantLaws line.target m → IsSized images (said_as m (said_or none_said at (beneath line.target s)) (below none_said at line.target) d l s)
    go handed laws = or-size images at all (beneath line.target s)
    go (own m) laws = laws.sized (line-grammar c d l line loaded is).target images (below none_said at line.target) (λ i t. or-size images at all _) d l s

pub sector-size : (c : Configuration) (images : Images) → IsLoaded c → AreWhole images → (lower : Lower) (s : ℕ) → IsSized images (said_at c lower s)
sector-size c images loaded whole lower s = said_at-each_in c (IsSized images) (λ b e. cc) (leaf-size images whole) (line-size c images loaded) lower s

pub named-size : (c : Configuration) (images : Images) → IsLoaded c → AreWhole images → (name : List ℕ) (s : ℕ) → IsSized images (said_by_name c name s)
named-size c images loaded whole name s = said_by_name-each_in c (IsSized images) (λ b e. cc) (leaf-size images whole) (line-size c images loaded) name s
