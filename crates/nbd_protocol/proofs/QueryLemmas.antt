-- Queries, one after another.
use Rattle.std.proofs.Common.{◌≡◌, ℕ, suc, List, Option, None, Some, ap, ◌∙◌}
use Rattle.std.specs.Prelude.{IfSome, ◌||◌, not, Bool, true, false, if◌then◌else◌}
use Rattle.nbd_protocol.specs.Contexts.{behind_string, has_namespace, named_at_end, is_string, names_context, queried, string_in}

-- what the first query leaves to ask of the rest, if it is a string, and has a namespace
abbrev asked_on : (listing found : Bool) (n : ℕ) (rest : List ℕ) → Bool → Bool → Option Bool
asked_on listing found n rest is spaced =
    if not is then None
    else if not spaced then None
    else queried listing (found || names_context listing (string_in rest)) n (behind_string rest)

pub query-step : (listing found : Bool) (n : ℕ) (rest : List ℕ) → is_string rest ≡ true → has_namespace (string_in rest) ≡ true
    → queried listing found (suc n) rest ≡ queried listing (found || names_context listing (string_in rest)) n (behind_string rest)
unfolding queried
query-step listing found n rest is spaced =
    ap (λ (b : Bool). asked_on listing found n rest b (has_namespace (string_in rest))) is ∙ ap (asked_on listing found n rest true) spaced

pub query-none : (listing found : Bool) (n : ℕ) (rest : List ℕ) → is_string rest ≡ false → queried listing found (suc n) rest ≡ None
unfolding queried
query-none listing found n rest is = ap (λ (b : Bool). asked_on listing found n rest b (has_namespace (string_in rest))) is

pub query-bare : (listing found : Bool) (n : ℕ) (rest : List ℕ) → is_string rest ≡ true → has_namespace (string_in rest) ≡ false → queried listing found (suc n) rest ≡ None
unfolding queried
query-bare listing found n rest is bare =
    ap (λ (b : Bool). asked_on listing found n rest b (has_namespace (string_in rest))) is ∙ ap (asked_on listing found n rest true) bare

pub query-end : (listing found : Bool) (left : ℕ) (rest : List ℕ) → left ≡ 0 → queried listing found left rest ≡ named_at_end found rest
unfolding queried
query-end listing found left rest none = ap (λ (n : ℕ). queried listing found n rest) none

-- what holds anyway holds of what is there
pub if-some : {P : Type 0} (found : Option Bool) → P → IfSome found (λ named. P)
if-some None p = tt
if-some (Some named) p = p
