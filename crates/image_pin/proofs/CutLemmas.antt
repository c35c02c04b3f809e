-- Texts cut into lines.
use Rattle.std.proofs.Common.{◌≡◌, ℕ, ◌+◌, ◌<◌, ◌≤◌, Bool, true, false, not, eqb, List, [], ◌∷◌, length, take, drop, All, Err, refl, sym, ap, ◌∙◌, inl, inr, arith}
use Rattle.std.specs.List.{slice_split, position_or_len}
use Rattle.std.proofs.lemmas.List.Splits.{slice_split_none, slice_split_first}
use Rattle.std.proofs.lemmas.List.Sums.{prefix_len_passes}
use Rattle.std.proofs.lemmas.Bool.{cases_lt}
use Rattle.dm_table.specs.Words.{text_lines}
use Rattle.image_pin.specs.declared.fault.PinFault.TheVariants.{Line}
use Rattle.image_pin.specs.declared.fields.PinFields.{PinFields}
use Rattle.image_pin.specs.PinTexts.{at_end}

not_false : (b : Bool) → not b ≡ true → b ≡ false
not_false true h = cc
not_false false h = refl

-- no byte passes before the first place at which one does
none_before : (p : ℕ → Bool) (xs : List ℕ) → length xs ≤ position_or_len p xs → All (λ x. p x ≡ false) xs
none_before p xs h k d lt = not_false _ (prefix_len_passes (λ x. not (p x)) xs k d (omega arith))

-- a line with a newline after it
pub lines-more : (text : List ℕ) (n : ℕ) → n ≡ position_or_len (λ b. eqb b 10) text → n < length text → text_lines text ≡ take n text ∷ text_lines (drop (n + 1) text)
unfolding text_lines
lines-more text n e lt =
    let p = λ (b : ℕ). eqb b 10 in
    slice_split_first p text 0 (omega arith) ∙ ap (λ k. take k text ∷ slice_split p (drop (k + 1) text)) (sym e)

-- the last one
pub lines-last : (text : List ℕ) (n : ℕ) → n ≡ position_or_len (λ b. eqb b 10) text → length text ≤ n → text_lines text ≡ text ∷ []
unfolding text_lines
lines-last text n e le = slice_split_none (λ (b : ℕ). eqb b 10) text (none_before (λ (b : ℕ). eqb b 10) text (omega arith))

-- a text has a line, be it empty
pub line-left : (fields : PinFields) (text : List ℕ) → at_end fields (text_lines text) ≡ Err Line
line-left fields text =
    let n : ℕ = position_or_len (λ b. eqb b 10) text in
    elim (cases_lt n (length text)) [
      | inl more ↦ ap (at_end fields) (lines-more text n refl more)
      | inr last ↦ ap (at_end fields) (lines-last text n refl last)
    ]
