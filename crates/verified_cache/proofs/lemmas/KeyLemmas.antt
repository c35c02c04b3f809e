-- Equal keys.
use Rattle.std.proofs.Common.{◌≡◌, ℕ, true, ap, ◌∙◌, arith}
use Rattle.std.proofs.lemmas.Grind.{common_steps}
use Rattle.verified_cache.specs.declared.key.Key.{Key}
use Rattle.verified_cache.specs.Cache.{same_key}

pub same_key-refl : (k : Key) → same_key k k ≡ true
same_key-refl k = grind (arith, common_steps)

-- equal keys are one key
pub same_key-exact : (a b : Key) → same_key a b ≡ true → a ≡ b
same_key-exact a b h =
    let device : a.device ≡ b.device = grind (arith, common_steps) in
    let line : a.line ≡ b.line = grind (arith, common_steps) in
    let level : a.level ≡ b.level = grind (arith, common_steps) in
    let block : a.block ≡ b.block = grind (arith, common_steps) in
    let key : ℕ → ℕ → ℕ → ℕ → Key = λ d l v n. record { device = d; line = l; level = v; block = n } in
    ap (λ n. key n a.line a.level a.block) device ∙ ap (λ n. key b.device n a.level a.block) line ∙ ap (λ n. key b.device b.line n a.block) level ∙ ap (key b.device b.line b.level) block

pub same_key-symm : (a b : Key) → same_key a b ≡ same_key b a
same_key-symm a b = grind (arith, common_steps)
