-- Texts that are cut in two at the last sign.
use Rattle.std.proofs.Common.{◌≡◌, ◌≤◌, ◌<◌, ◌+◌, ◌-◌, ℕ, zero, suc, List, Bor, length, take, drop, refl, ap, sym, ◌∙◌, ⊎_elim, arith, Some, None}
use Rattle.std.specs.Prelude.{Option, option_map}
use Rattle.std.specs.Option.{MatchOption}
use Rattle.std.specs.Path.{rfind_below, rsplit_once}
use Rattle.std.specs.Str.Pattern.{RFindsChar}
use Rattle.std.proofs.Math.ListN.{get_or}
use Rattle.std.proofs.lemmas.Bool.{cond-false, cond-true, cases_eq, eq-eqb, ne_eqb}
use Rattle.std.proofs.lemmas.List.{get_or-drop, length-drop}
use Rattle.std.proofs.lemmas.Str.{len_utf8_ascii}
use Rattle.std.proofs.lemmas.Str.Pattern.{NoCharPasses-char}

below-none : (c : ℕ) (text : List ℕ) (n : ℕ) → ((i : ℕ) → i < n → get_or text i 0 ≡ c → ⊥) → rfind_below c text n ≡ None
below-none c text zero none = refl
below-none c text (suc n) none = cond-false _ _ _ (ne_eqb _ c (none n (omega arith))) ∙ below-none c text n (λ i l. none i (omega arith))

below-some : (c : ℕ) (text : List ℕ) (k n : ℕ) → k < n → get_or text k 0 ≡ c → ((i : ℕ) → k < i → i < n → get_or text i 0 ≡ c → ⊥) → rfind_below c text n ≡ Some k
below-some c text k zero l at later = absurd (omega arith)
below-some c text k (suc n) l at later =
    ⊎_elim
    (λ e. cond-true _ _ _ (eq-eqb _ c (ap (λ j. get_or text j 0) (sym e) ∙ at)) ∙ ap (λ j. Some j) (sym e))
    (λ other. cond-false _ _ _ (ne_eqb _ c (later n (omega arith) (omega arith))) ∙ below-some c text k n (omega arith) at (λ i a b. later i a (omega arith)))
    (cases_eq k n)

-- the clause of `rsplit_once` at a character
abbrev pub IsLastSplit : ℕ → List ℕ → Option (Bor (List ℕ) × Bor (List ℕ)) → Type 0
IsLastSplit c text r =
    MatchOption r (RFindsChar c text None) (λ x. (i : ℕ) × (j : ℕ) × RFindsChar c text (Some (i, j)) × (x.0.now ≡ take i text) × (x.1.now ≡ drop j text) × (i ≤ j) × (length x.0.now ≡ i) × (length x.1.now + j ≡ length text))

-- what `rsplit_once` gives at an ASCII character
pub rsplit_once-split : (c : ℕ) (text : List ℕ) (r : Option (Bor (List ℕ) × Bor (List ℕ))) → IsLastSplit c text r → c < 128
    → rsplit_once c text ≡ option_map (λ x. (x.0.now, x.1.now)) r
unfolding rsplit_once
rsplit_once-split c text None h low = ap (option_map (λ i. (take i text, drop (i + 1) text))) (below-none c text (length text) (λ i. NoCharPasses-char c text i h low))
rsplit_once-split c text (Some x) h low =
    let i = h.0 in
    let j = h.1 in
    let next : j ≡ i + 1 = omega (arith, h.2.1.ends, len_utf8_ascii c low) in
    let later : (k : ℕ) → i < k → k < length text → get_or text k 0 ≡ c → ⊥ = λ k a l e.
    let back : j + (k - j) ≡ k = omega arith in
    NoCharPasses-char c (drop j text) (k - j) h.2.0 low (omega (arith, length-drop j text)) (get_or-drop j text (k - j) 0 ∙ ap (λ n. get_or text n 0) back ∙ e) in
    let found = below-some c text i (length text) (omega (arith, h.7)) (h.2.1.byte low) later in
    let second = h.4 ∙ ap (λ n. drop n text) next in
    ap (option_map (λ k. (take k text, drop (k + 1) text))) found ∙ (λ t. Some (sym h.3 t, sym second t))
