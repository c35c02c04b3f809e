-- The arguments of an `unstriped` line: too few or too many, and within the grammar's limits.
use Rattle.std.proofs.Common.{◌≡◌, ℕ, ◌^◌, ◌<◌, ◌≤◌, ◌&&◌, leb, ltb, List, [], ◌∷◌, length, Ok, Err, refl, ap, subst, arith}
use Rattle.std.proofs.lemmas.Bool.{and_parts, leb-true, ltb-true}
use Rattle.dm_table.specs.declared.table.Target.{Target}
use Rattle.dm_table.specs.declared.table.Target.TheVariants.{Unstriped as unstriped_target}
use Rattle.dm_table.specs.declared.target_type.TargetType.TheVariants as types
use Rattle.dm_table.specs.declared.unstriped.Unstriped.{Unstriped}
use Rattle.dm_table.specs.declared.fault.TextKind.{TextKind}
use Rattle.dm_table.specs.declared.fault.TextKind.TheVariants as kinds
use Rattle.dm_table.specs.Words.{Word}
use Rattle.dm_table.specs.Numbers.{number}
use Rattle.dm_table.specs.Arguments.{base_at}
use Rattle.dm_table.specs.Unstriped.{count_at, stripe_at, unstriped_at}
use Rattle.dm_table.specs.Lines.{arguments_at}
use Rattle.dm_table.specs.Grammar.{IsUnstripedOfGrammar, IsTargetOfGrammar}
use Rattle.table_text.proofs.ReadValueLemmas.{bind_ok, ok_same, ok_or_ok, number_if-some, base-grammar}

pub unstriped-count : (words : List Word) → (length words ≡ 5 → ⊥) → unstriped_at words ≡ Err kinds.ArgCount
unfolding unstriped_at
unstriped-count [] other = refl
unstriped-count (a ∷ []) other = refl
unstriped-count (a ∷ b ∷ []) other = refl
unstriped-count (a ∷ b ∷ c ∷ []) other = refl
unstriped-count (a ∷ b ∷ c ∷ d ∷ []) other = refl
unstriped-count (a ∷ b ∷ c ∷ d ∷ e ∷ []) other = absurd (other refl)
unstriped-count (a ∷ b ∷ c ∷ d ∷ e ∷ f ∷ more) other = refl

-- five words, and none after them
pub five-words : {a b c d e : Word} (words rest : List Word) → words ≡ a ∷ b ∷ c ∷ d ∷ e ∷ rest → length words ≡ 5 → words ≡ a ∷ b ∷ c ∷ d ∷ e ∷ []
five-words words [] is five = is
five-words words (f ∷ more) is five = let long = ap length is in absurd (omega (arith, long, five))

count_at-limits : (kind : TextKind) (word : Word) (n : ℕ) → count_at kind word ≡ Ok n → (1 ≤ n) × (n < 2 ^ 32)
count_at-limits kind word n e =
    let limits = and_parts (leb 1 n) (ltb n (2 ^ 32)) (number_if-some (λ k. leb 1 k && ltb k (2 ^ 32)) (number word) n (ok_or_ok _ kind n e)).1 in
    (leb-true 1 n limits.0, ltb-true n (2 ^ 32) limits.1)

line-grammar : (words : List Word) (line : Unstriped) → unstriped_at words ≡ Ok line → IsUnstripedOfGrammar line
unfolding unstriped_at
line-grammar [] line x = cc
line-grammar (a ∷ []) line x = cc
line-grammar (a ∷ b ∷ []) line x = cc
line-grammar (a ∷ b ∷ c ∷ []) line x = cc
line-grammar (a ∷ b ∷ c ∷ d ∷ []) line x = cc
line-grammar (count ∷ size ∷ place ∷ name ∷ offset ∷ []) line x =
    let stripes = bind_ok (count_at kinds.StripeCount count) _ line x in
    let chunk = bind_ok (count_at kinds.ZeroChunk size) _ line stripes.2 in
    let stripe = bind_ok (stripe_at stripes.0 place) _ line chunk.2 in
    let base = bind_ok (base_at name offset) _ line stripe.2 in
    let sectors = count_at-limits kinds.ZeroChunk size chunk.0 chunk.1 in
    subst IsUnstripedOfGrammar (ok_same _ line base.2) (record {
      stripes = (count_at-limits kinds.StripeCount count stripes.0 stripes.1).1;
      chunk_some = sectors.0;
      chunk_fits = sectors.1;
      stripe = ltb-true stripe.0 stripes.0 (number_if-some (λ k. ltb k stripes.0) (number place) stripe.0 (ok_or_ok _ kinds.StripeNumber stripe.0 stripe.1)).1;
      base = base-grammar name offset base.0 base.1;
    })
line-grammar (a ∷ b ∷ c ∷ d ∷ e ∷ f ∷ more) line x = cc

-- what was read keeps to the grammar's limits
pub unstriped-grammar : (arguments : List Word) (target : Target) → arguments_at types.Unstriped arguments ≡ Ok target → IsTargetOfGrammar target
unstriped-grammar arguments target e =
    let line = bind_ok (unstriped_at arguments) _ target e in
    subst IsTargetOfGrammar (ok_same (unstriped_target line.0) target line.2) (line-grammar arguments line.0 line.1)
