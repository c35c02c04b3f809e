-- Extents of a source, of what is beneath it, and of the device that it is of.
use Rattle.std.proofs.Common.{◌≡◌, ℕ, ◌+◌, ◌-◌, ◌<◌, ◌≤◌, Some, refl, sym, ap, ◌∙◌, subst, arith, inl, inr}
use Rattle.std.specs.Prelude.{◌≢◌, Bool, false, true, if◌then◌else◌}
use Rattle.dm_table.specs.declared.verity.Verity.{Verity}
use Rattle.dm_table.specs.declared.table.Target.{Target}
use Rattle.dm_table.specs.declared.table.Target.TheVariants.{Zero, Error, Crypt as crypt_target, Verity as verity_target}
use Rattle.dm_table.specs.declared.crypt.Crypt.{Crypt}
use Rattle.std.proofs.lemmas.Bool.{cases_lt}
use Rattle.stack_rules.specs.declared.lower.Lower.{Lower}
use Rattle.stack_rules.specs.declared.lower.Lower.TheVariants.{Leaf as leaf}
use Rattle.stack_rules.specs.Records.{Configuration}
use Rattle.stack_rules.specs.Names.{mapped}
use Rattle.stack_rules.specs.Rules.{IsLoaded}
use Rattle.stack_meaning.specs.Beneath.{HandsOn, beneath}
use Rattle.stack_meaning.specs.Meaning.{Said, said_at}
use Rattle.stack_lines.specs.declared.source.VerityPart.{VerityPart}
use Rattle.stack_lines.specs.declared.source.Source.{Source}
use Rattle.stack_lines.specs.declared.source.Source.TheVariants.{Below, Units, UnitPart, Zeros, Fails, Block, Blocks}
use Rattle.stack_lines.specs.Sources.{IsServed, source_said}
use Rattle.stack_lines.proofs.lemmas.SourceLemmas.{served-said}
use Rattle.nbd_server.specs.declared.extent.Extent.{Extent}
use Rattle.nbd_server.specs.declared.extent.ExtentKind.{ExtentKind}
use Rattle.nbd_server.specs.declared.extent.ExtentKind.TheVariants as known
use Rattle.nbd_server.specs.Extents.{EndsExtent, HasKind, by_leaf, by_line, by_lower, is_same_kind, IsToldExtent, LiesOnLine, ReadsAsZeros, SourceHas, own_kind, verity_kind}

unknown-zeros : known.Unknown ≡ known.Zeros → ⊥
unknown-zeros is = cc

pub zeros-extent : (c : Configuration) (most : ℕ) → 0 < most → IsToldExtent (source_said c Zeros) (SourceHas c Zeros) 0 most (record { count = most; kind = known.Zeros })
zeros-extent c most some = record {
  some = some;
  few = omega arith;
  zeros = λ is j below. record { means = λ images. refl; may = λ chains bytes same. same };
  kind = λ j below. refl;
}

pub unknown-extent : (said : ℕ → Said) (Has : ℕ → ExtentKind → Type 0) (first most : ℕ) → 0 < most → ((j : ℕ) → Has (first + j) known.Unknown) → IsToldExtent said Has first most (record { count = most; kind = known.Unknown })
unknown-extent said Has first most some has = record {
  some = some;
  few = omega arith;
  zeros = λ is j below. absurd (unknown-zeros is);
  kind = λ j below. has j;
}

ignores-zeros : known.IgnoresZeros ≡ known.Zeros → ⊥
ignores-zeros is = cc

verity-kind : (v : Verity) (b : Bool) → v.ignore_zero_blocks ≡ b → verity_kind v ≡ (if b then known.IgnoresZeros else known.Unknown)
verity-kind v b is = ap (λ (x : Bool). if x then known.IgnoresZeros else known.Unknown) is

pub ignoring-extent : (c : Configuration) (x : VerityPart) (most : ℕ) → 0 < most → x.verity.now.ignore_zero_blocks ≡ true
    → IsToldExtent (source_said c (Block x)) (SourceHas c (Block x)) 0 most (record { count = most; kind = known.IgnoresZeros })
ignoring-extent c x most some ignores = record {
  some = some;
  few = omega arith;
  zeros = λ is j below. absurd (ignores-zeros is);
  kind = λ j below. sym (verity-kind x.verity.now true ignores);
}

pub other-extent : (c : Configuration) (x : VerityPart) (most : ℕ) → 0 < most → x.verity.now.ignore_zero_blocks ≡ false
    → IsToldExtent (source_said c (Block x)) (SourceHas c (Block x)) 0 most (record { count = most; kind = known.Unknown })
other-extent c x most some other = unknown-extent (source_said c (Block x)) (SourceHas c (Block x)) 0 most some (λ j. sym (verity-kind x.verity.now false other))

-- of a backing device nothing is known
pub leaf-extent : (c : Configuration) (lower : Lower) (l first most : ℕ) → lower ≡ leaf l → 0 < most → IsToldExtent (said_at c lower) (HasKind c lower) first most (record { count = most; kind = known.Unknown })
leaf-extent c lower l first most is some = unknown-extent (said_at c lower) (HasKind c lower) first most some (λ j. subst (λ (x : Lower). HasKind c x (first + j) known.Unknown) (sym is) by_leaf)

-- nor of other sources
other-kind : (c : Configuration) (source : Source) (j : ℕ) → source ≢ Zeros → ((lower : Lower) (first : ℕ) → source ≢ Below lower first) → ((x : VerityPart) → source ≢ Block x) → ((x : VerityPart) → source ≢ Blocks x) → SourceHas c source j known.Unknown
other-kind c (Below lower first) j zeros below block blocks = absurd (below lower first refl)
other-kind c (Units b) j zeros below block blocks = refl
other-kind c (UnitPart b) j zeros below block blocks = refl
other-kind c Zeros j zeros below block blocks = absurd (zeros refl)
other-kind c Fails j zeros below block blocks = refl
other-kind c (Block x) j zeros below block blocks = absurd (block x refl)
other-kind c (Blocks x) j zeros below block blocks = absurd (blocks x refl)

pub source-other : (c : Configuration) (source : Source) (most : ℕ) → 0 < most → source ≢ Zeros → ((lower : Lower) (first : ℕ) → source ≢ Below lower first) → ((x : VerityPart) → source ≢ Block x) → ((x : VerityPart) → source ≢ Blocks x)
    → IsToldExtent (source_said c source) (SourceHas c source) 0 most (record { count = most; kind = known.Unknown })
source-other c source most some zeros below block blocks = unknown-extent (source_said c source) (SourceHas c source) 0 most some (λ j. other-kind c source (0 + j) zeros below block blocks)

pub below-extent : (c : Configuration) (lower : Lower) (first most : ℕ) (extent : Extent) → IsToldExtent (said_at c lower) (HasKind c lower) first most extent
    → IsToldExtent (source_said c (Below lower first)) (SourceHas c (Below lower first)) 0 most extent
below-extent c lower first most extent p = record {
  some = p.some;
  few = p.few;
  zeros = λ is j below. let at : 0 + j ≡ j = omega arith in subst (λ (k : ℕ). ReadsAsZeros (said_at c lower (first + k))) (sym at) (p.zeros is j below);
  kind = λ j below. let at : 0 + j ≡ j = omega arith in subst (λ (k : ℕ). HasKind c lower (first + k) extent.kind) (sym at) (p.kind j below);
}

-- ---- the sectors of a device

-- lines of these targets don't pass sectors through unchanged
own-crypt : (target : Target) (crypt : Crypt) → target ≡ crypt_target crypt → HandsOn target → ⊥
own-crypt target crypt is hands = subst HandsOn is hands

own-verity : (target : Target) (v : Verity) → target ≡ verity_target v → HandsOn target → ⊥
own-verity target v is hands = subst HandsOn is hands

own-zero : (target : Target) → target ≡ Zero → HandsOn target → ⊥
own-zero target is hands = subst HandsOn is hands

own-error : (target : Target) → target ≡ Error → HandsOn target → ⊥
own-error target is hands = subst HandsOn is hands

served-on : (c : Configuration) (d s n j : ℕ) (source : Source) → j < n → (r : IsServed c d s n source) → LiesOnLine c d (s + j) r.line
served-on c d s n j source below r = record { number = r.number; is = r.is; start = omega (arith, r.start); ends = omega (arith, below, r.fits) }

pub served-kind : (c : Configuration) (d s n j : ℕ) (source : Source) (kind : ExtentKind) → j < n → IsServed c d s n source → SourceHas c source j kind → HasKind c (mapped d) (s + j) kind
served-kind c d s n j (Below lower first) kind below r p =
    let on = r.come.1 in
    let within : s - r.line.start + j ≡ s + j - r.line.start = omega (arith, r.start) in
    by_lower (served-on c d s n j (Below lower first) below r) r.come.0 (subst (λ (k : ℕ). beneath r.line.target k ≡ Some (on.name, first + j)) within (on.under j below)) on.is p
served-kind c d s n j (Units b) kind below r p = by_line (served-on c d s n j (Units b) below r) (own-crypt r.line.target r.come.0.crypt r.come.0.is) (ap own_kind r.come.0.is ∙ sym p)
served-kind c d s n j (UnitPart b) kind below r p = by_line (served-on c d s n j (UnitPart b) below r) (own-crypt r.line.target r.come.0.crypt r.come.0.is) (ap own_kind r.come.0.is ∙ sym p)
served-kind c d s n j Zeros kind below r p = by_line (served-on c d s n j Zeros below r) (own-zero r.line.target r.come) (ap own_kind r.come ∙ sym p)
served-kind c d s n j Fails kind below r p = by_line (served-on c d s n j Fails below r) (own-error r.line.target r.come) (ap own_kind r.come ∙ sym p)
served-kind c d s n j (Block x) kind below r p = by_line (served-on c d s n j (Block x) below r) (own-verity r.line.target x.verity.now r.come.0) (ap own_kind r.come.0 ∙ sym p)
served-kind c d s n j (Blocks x) kind below r p = by_line (served-on c d s n j (Blocks x) below r) (own-verity r.line.target x.verity.now r.come.0) (ap own_kind r.come.0 ∙ sym p)

pub device-extent : (c : Configuration) (d first most n : ℕ) (source : Source) (extent : Extent) → IsLoaded c → IsServed c d first n source → n ≤ most → IsToldExtent (source_said c source) (SourceHas c source) 0 n extent
    → IsToldExtent (said_at c (mapped d)) (HasKind c (mapped d)) first most extent
device-extent c d first most n source extent loaded served few p = record {
  some = p.some;
  few = omega (arith, p.few, few);
  zeros = λ is j below.
      let own : 0 + j ≡ j = omega arith in
      let low : j < n = omega (arith, below, p.few) in
      subst (λ (x : Said). ReadsAsZeros x) (ap (source_said c source) own ∙ served-said c d first n j source loaded low served) (p.zeros is j below);
  kind = λ j below.
      let own : 0 + j ≡ j = omega arith in
      let low : j < n = omega (arith, below, p.few) in
      served-kind c d first n j source extent.kind low served (subst (λ (k : ℕ). SourceHas c source k extent.kind) own (p.kind j below));
}

not-true : false ≡ true → ⊥
not-true is = cc

pub kind-same : (a b : ExtentKind) → is_same_kind a b ≡ true → a ≡ b
kind-same known.Zeros known.Zeros is = refl
kind-same known.Zeros known.IgnoresZeros is = absurd (not-true is)
kind-same known.Zeros known.Unknown is = absurd (not-true is)
kind-same known.IgnoresZeros known.Zeros is = absurd (not-true is)
kind-same known.IgnoresZeros known.IgnoresZeros is = refl
kind-same known.IgnoresZeros known.Unknown is = absurd (not-true is)
kind-same known.Unknown known.Zeros is = absurd (not-true is)
kind-same known.Unknown known.IgnoresZeros is = absurd (not-true is)
kind-same known.Unknown known.Unknown is = refl

true-not : true ≡ false → ⊥
true-not is = cc

pub kind-other : (a b : ExtentKind) → is_same_kind a b ≡ false → a ≢ b
kind-other a b is same = true-not (sym (reflexive b) ∙ ap (λ (k : ExtentKind). is_same_kind k b) (sym same) ∙ is)
  where
    reflexive : (k : ExtentKind) → is_same_kind k k ≡ true
    reflexive known.Zeros = refl
    reflexive known.IgnoresZeros = refl
    reflexive known.Unknown = refl

-- the sectors after it are alike
pub joined-extent : (said : ℕ → Said) (Has : ℕ → ExtentKind → Type 0) (first most : ℕ) (extent next : Extent) → IsToldExtent said Has first most extent → extent.count < most
    → IsToldExtent said Has (first + extent.count) (most - extent.count) next → next.kind ≡ extent.kind → IsToldExtent said Has first most (record { count = extent.count + next.count; kind = extent.kind })
joined-extent said Has first most extent next p low q same = record {
  some = omega (arith, p.some);
  few = omega (arith, q.few, low);
  zeros = λ is j below. elim (cases_lt j extent.count) [
    | inl front ↦ p.zeros is j front
    | inr behind ↦
        let k : ℕ = j - extent.count in
        let short : k < next.count = omega (arith, below, behind) in
        let back : first + extent.count + k ≡ first + j = omega (arith, behind) in
        subst (λ (n : ℕ). ReadsAsZeros (said n)) back (q.zeros (same ∙ is) k short)
  ];
  kind = λ j below. elim (cases_lt j extent.count) [
    | inl front ↦ p.kind j front
    | inr behind ↦
        let k : ℕ = j - extent.count in
        let short : k < next.count = omega (arith, below, behind) in
        let back : first + extent.count + k ≡ first + j = omega (arith, behind) in
        subst (λ (n : ℕ). Has n extent.kind) back (subst (λ (x : ExtentKind). Has (first + extent.count + k) x) same (q.kind k short))
  ];
}

-- the next sector is of another kind
pub ends-before : (said : ℕ → Said) (Has : ℕ → ExtentKind → Type 0) (first most : ℕ) (extent next : Extent) (rest : ℕ) → IsToldExtent said Has (first + extent.count) (most - extent.count) next → is_same_kind next.kind extent.kind ≡ false
    → EndsExtent Has first most extent rest
ends-before said Has first most extent next rest q other =
    let at : first + extent.count + 0 ≡ first + extent.count = omega arith in
    inr (inr (next.kind, kind-other next.kind extent.kind other, subst (λ (n : ℕ). Has n next.kind) at (q.kind 0 (omega (arith, q.some)))))
