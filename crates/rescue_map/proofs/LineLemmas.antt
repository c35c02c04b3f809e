-- Texts cut into lines, one at a time, and the lines that say something.
use Rattle.std.proofs.Common.{◌≡◌, ℕ, ◌+◌, ◌<◌, ◌≤◌, Bool, true, false, not, eqb, List, [], ◌∷◌, length, take, drop, All, Some, None, Bor, refl, sym, ap, ◌∙◌, arith}
use Rattle.std.specs.List.{slice_split, position_or_len}
use Rattle.std.proofs.lemmas.List.{take_all}
use Rattle.std.proofs.lemmas.List.Splits.{slice_split_none, slice_split_first}
use Rattle.std.proofs.lemmas.List.Sums.{prefix_len_passes}
use Rattle.dm_table.specs.Words.{pieces_left}

not_false : (b : Bool) → not b ≡ true → b ≡ false
not_false true h = cc
not_false false h = refl

-- no byte passes before the first place at which one does
none_before : (p : ℕ → Bool) (xs : List ℕ) → length xs ≤ position_or_len p xs → All (λ x. p x ≡ false) xs
none_before p xs h k d lt = not_false _ (prefix_len_passes (λ x. not (p x)) xs k d (omega arith))

pub pieces-more : (c : ℕ) (text rest : Bor (List ℕ)) (n : ℕ) → n ≡ position_or_len (λ b. eqb b c) text.now → n < length text.now → rest.now ≡ drop (n + 1) text.now → pieces_left c (Some text) ≡ take n text.now ∷ pieces_left c (Some rest)
unfolding pieces_left
pieces-more c text rest n e lt r =
    let p = λ (b : ℕ). eqb b c in
    slice_split_first p text.now 0 (omega arith) ∙ ap (λ k. take k text.now ∷ slice_split p (drop (k + 1) text.now)) (sym e)
    ∙ ap (λ t. take n text.now ∷ slice_split p t) (sym r)

pub pieces-last : (c : ℕ) (text : Bor (List ℕ)) (n : ℕ) → n ≡ position_or_len (λ b. eqb b c) text.now → length text.now ≤ n → pieces_left c (Some text) ≡ take n text.now ∷ pieces_left c None
unfolding pieces_left
pieces-last c text n e le =
    let p = λ (b : ℕ). eqb b c in
    slice_split_none p text.now (none_before p text.now (omega arith)) ∙ ap (λ w. w ∷ []) (sym (take_all n text.now le))
