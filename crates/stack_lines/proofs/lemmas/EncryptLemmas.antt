-- Which sectors a write encrypts.
use Rattle.std.proofs.Common.{◌≡◌, ℕ, ◌+◌, ◌-◌, ◌<◌, ◌≤◌, sym, ap, ◌∙◌, subst, arith, inl, inr}
use Rattle.std.proofs.lemmas.Bool.{cases_lt}
use Rattle.stack_rules.specs.declared.lower.Lower.{Lower}
use Rattle.stack_rules.specs.declared.lower.Lower.TheVariants.{Leaf}
use Rattle.stack_rules.specs.Records.{Configuration}
use Rattle.stack_rules.specs.Names.{mapped}
use Rattle.stack_rules.specs.Rules.{IsLoaded}
use Rattle.stack_lines.specs.declared.source.Source.{Source}
use Rattle.stack_lines.specs.declared.source.Source.TheVariants.{Below, Units, UnitPart, Block, Blocks}
use Rattle.stack_lines.specs.declared.source.VerityPart.{VerityPart}
use Rattle.stack_lines.specs.declared.source.CryptPart.{CryptPart}
use Rattle.stack_meaning.specs.Meaning.{Said, said_at}
use Rattle.stack_lines.specs.Sources.{IsServed, source_said}
use Rattle.stack_lines.specs.Writing.{SomeEncrypt}
use Rattle.stack_meaning.proofs.lemmas.SectorLemmas.{said_at-leaf}
use Rattle.stack_lines.proofs.lemmas.SourceLemmas.{served-said}

pub leaf-encrypts : (c : Configuration) (i first n : ℕ) → SomeEncrypt (said_at c (Leaf i)) first n → ⊥
leaf-encrypts c i first n some = subst (λ (x : Said). x.encrypts) (said_at-leaf c i (first + some.0)) some.2

-- a verity line's blocks aren't written
pub block-encrypts : (c : Configuration) (x : VerityPart) (n : ℕ) → SomeEncrypt (source_said c (Block x)) 0 n → ⊥
block-encrypts c x n some = some.2

pub blocks-encrypt : (c : Configuration) (x : VerityPart) (n : ℕ) → SomeEncrypt (source_said c (Blocks x)) 0 n → ⊥
blocks-encrypt c x n some = some.2

pub below-some : (c : Configuration) (lower : Lower) (first n : ℕ) → SomeEncrypt (said_at c lower) first n → SomeEncrypt (source_said c (Below lower first)) 0 n
below-some c lower first n some = let at : some.0 ≡ 0 + some.0 = omega arith in (some.0, some.1, subst (λ (j : ℕ). (said_at c lower (first + j)).encrypts) at some.2)

pub some-below : (c : Configuration) (lower : Lower) (first n : ℕ) → SomeEncrypt (source_said c (Below lower first)) 0 n → SomeEncrypt (said_at c lower) first n
some-below c lower first n some = let at : 0 + some.0 ≡ some.0 = omega arith in (some.0, some.1, subst (λ (j : ℕ). (said_at c lower (first + j)).encrypts) at some.2)

-- units all are
pub units-some : (c : Configuration) (u : CryptPart) (n : ℕ) → 0 < n → SomeEncrypt (source_said c (Units u)) 0 n
units-some c u n some = (0, some, tt)

pub unit_part-some : (c : Configuration) (u : CryptPart) (n : ℕ) → 0 < n → SomeEncrypt (source_said c (UnitPart u)) 0 n
unit_part-some c u n some = (0, some, tt)

module _ (c : Configuration) (d first at n : ℕ) (source : Source) (loaded : IsLoaded c) (served : IsServed c d (first + at) n source) where
  same_said : (j : ℕ) → j < n → source_said c source (0 + j) ≡ said_at c (mapped d) (first + (at + j))
  same_said j low =
      (let a : 0 + j ≡ j = omega arith in ap (source_said c source) a)
      ∙ served-said c d (first + at) n j source loaded low served
      ∙ (let b : first + at + j ≡ first + (at + j) = omega arith in ap (said_at c (mapped d)) b)

  -- a run among the sectors of its device
  pub run-some : (m count : ℕ) → m ≤ n → at + m ≤ count → SomeEncrypt (source_said c source) 0 m → SomeEncrypt (said_at c (mapped d)) first count
  run-some m count most fits some = (at + some.0, omega (arith, some.1, fits), subst (λ (x : Said). x.encrypts) (same_said some.0 (omega (arith, some.1, most))) some.2)

  -- none before a run, and none in it
  pub none-more : (SomeEncrypt (said_at c (mapped d)) first at → ⊥) → (SomeEncrypt (source_said c source) 0 n → ⊥) → SomeEncrypt (said_at c (mapped d)) first (at + n) → ⊥
  none-more before none some = elim (cases_lt some.0 at) [
    | inl low ↦ before (some.0, low, some.2)
    | inr high ↦
        let j : ℕ = some.0 - at in
        let low : j < n = omega (arith, some.1, high) in
        let back : first + (at + j) ≡ first + some.0 = omega (arith, high) in
        none (j, low, subst (λ (x : Said). x.encrypts) (sym (same_said j low ∙ ap (said_at c (mapped d)) back)) some.2)
  ]
