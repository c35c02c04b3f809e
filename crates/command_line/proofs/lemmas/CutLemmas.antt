-- Texts that are cut in two.
use Rattle.std.proofs.Common.{◌≡◌, ◌<◌, ℕ, true, false, Bool, List, Bor, length, refl, arith, nat_lt, Some, None, ◌==◌}
use Rattle.std.specs.Prelude.{Option, option_map}
use Rattle.std.specs.List.{position_or_len, before_first, after_first}
use Rattle.std.proofs.lemmas.Bool.{lt-ltb, ltb-true}
use Rattle.std.proofs.lemmas.Str.Pattern.{IsSplitOnceResult, split_once_first}
use Rattle.command_line.specs.Cuts.{cut_first}

cut-some : (b : ℕ) (text before behind : List ℕ) → position_or_len (λ x. x == b) text < length text
    → before ≡ before_first (λ x. x == b) text → behind ≡ after_first (λ x. x == b) text → cut_first b text ≡ Some (before, behind)
unfolding cut_first
cut-some b text before behind has is_before is_behind =
    let test : nat_lt (position_or_len (λ x. x == b) text) (length text) ≡ true = lt-ltb (position_or_len (λ x. x == b) text) (length text) has in
    rw (test, is_before, is_behind) refl

cut-none : (b : ℕ) (text : List ℕ) → position_or_len (λ x. x == b) text ≡ length text → cut_first b text ≡ None
unfolding cut_first
cut-none b text lacks =
    let test : nat_lt (position_or_len (λ x. x == b) text) (length text) ≡ false = not_less (position_or_len (λ x. x == b) text) (length text) lacks in
    rw test refl
  where
    not_less : (m n : ℕ) → m ≡ n → nat_lt m n ≡ false
    not_less m n e = go (nat_lt m n) refl
      where
        go : (t : Bool) → nat_lt m n ≡ t → nat_lt m n ≡ false
        go false is = is
        go true is = let lt : m < n = ltb-true m n is in absurd (omega arith)

-- what `split_once` gives at an ASCII character
pub cut_first-split : (b : ℕ) (text : List ℕ) (r : Option (Bor (List ℕ) × Bor (List ℕ))) → IsSplitOnceResult b text r → b < 128 → cut_first b text ≡ option_map (λ parts. (parts.0.now, parts.1.now)) r
cut_first-split b text None is low = cut-none b text (split_once_first b text None is low)
cut_first-split b text (Some x) is low =
    let parts = split_once_first b text (Some x) is low in
    cut-some b text x.0.now x.1.now parts.0 parts.1 parts.2
