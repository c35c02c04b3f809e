-- Texts cut into words and pieces, one at a time.
use Rattle.std.proofs.Common.{◌≡◌, ℕ, ◌+◌, ◌<◌, ◌≤◌, suc, Bool, true, false, not, eqb, ltb, List, [], ◌∷◌, length, take, drop, get_or, filter, All, Some, None, Bor, refl, sym, ap, ◌∙◌, inl, inr, arith}
use Rattle.std.specs.List.{slice_split, prefix_len, position_or_len}
use Rattle.std.proofs.lemmas.Bool.{cases_Bool, cases_lt, cond-true, cond-false, lt-ltb}
use Rattle.std.proofs.lemmas.List.{drop_more, take_all, drop_all, length-take-le}
use Rattle.std.proofs.lemmas.List.Splits.{slice_split-cons_yes, slice_split_none, slice_split_first}
use Rattle.std.proofs.lemmas.List.Sums.{prefix_len-le-length, prefix_len_passes, prefix_len_stops}
use Rattle.dm_table.specs.Words.{is_white, words, pieces_left}

not_false : (b : Bool) → not b ≡ true → b ≡ false
not_false true h = cc
not_false false h = refl

not_true : (b : Bool) → not b ≡ false → b ≡ true
not_true true h = refl
not_true false h = cc

-- no element passes before the first place at which one does
pub none_before : {X : Type 0} (p : X → Bool) (xs : List X) → length xs ≤ position_or_len p xs → All (λ x. p x ≡ false) xs
none_before p xs h k d lt = not_false _ (prefix_len_passes (λ x. not (p x)) xs k d (omega arith))

-- the piece before the first separator, and the pieces after it
pub slice_split-more : (p : ℕ → Bool) (text : List ℕ) → position_or_len p text < length text → slice_split p text ≡ take (position_or_len p text) text ∷ slice_split p (drop (position_or_len p text + 1) text)
slice_split-more p text lt = slice_split_first p text 0 lt

pub slice_split-last : (p : ℕ → Bool) (text : List ℕ) → length text ≤ position_or_len p text → slice_split p text ≡ text ∷ []
slice_split-last p text h = slice_split_none p text (none_before p text h)

abbrev nonempty : List ℕ → Bool
nonempty word = ltb 0 (length word)

-- a first byte of white space is no part of a word
pub words-white : (b : ℕ) (text : List ℕ) → is_white b ≡ true → words (b ∷ text) ≡ words text
unfolding words
words-white b text white = ap (filter nonempty) (slice_split-cons_yes is_white b text white)

drop-one_more : (n b : ℕ) (text : List ℕ) → drop (1 + n) (b ∷ text) ≡ drop n text
drop-one_more n b text = let e : 1 + n ≡ suc n = omega arith in rw e refl

-- the white space at the start does not matter
pub words-skip : (text : List ℕ) → words (drop (prefix_len is_white text) text) ≡ words text
words-skip [] = refl
words-skip (b ∷ text) = elim (cases_Bool (is_white b)) [
  | inl white ↦
      ap (λ n. words (drop n (b ∷ text))) (cond-true (is_white b) (1 + prefix_len is_white text) 0 white)
      ∙ ap words (drop-one_more (prefix_len is_white text) b text) ∙ words-skip text ∙ sym (words-white b text white)
  | inr black ↦ ap (λ n. words (drop n (b ∷ text))) (cond-false (is_white b) (1 + prefix_len is_white text) 0 black)
]

-- what begins with neither white space nor a word is empty
pub words-none : (text : List ℕ) → position_or_len is_white (drop (prefix_len is_white text) text) ≡ 0 → words text ≡ []
unfolding words
words-none [] e = refl
words-none (b ∷ text) e = elim (cases_Bool (is_white b)) [
  | inl white ↦
      words-white b text white
      ∙ words-none text (sym (ap (position_or_len is_white) (ap (λ n. drop n (b ∷ text)) (cond-true (is_white b) (1 + prefix_len is_white text) 0 white) ∙ drop-one_more (prefix_len is_white text) b text)) ∙ e)
  | inr black ↦
      let starts : 1 + position_or_len is_white text ≡ 0 =
      sym (cond-true (not (is_white b)) (1 + position_or_len is_white text) 0 (ap not black))
      ∙ sym (ap (λ n. position_or_len is_white (drop n (b ∷ text))) (cond-false (is_white b) (1 + prefix_len is_white text) 0 black)) ∙ e in
      absurd (omega arith)
]

-- what begins with a word is that word and what follows it
pub words-next : (text : List ℕ) → 0 < position_or_len is_white text → words text ≡ take (position_or_len is_white text) text ∷ words (drop (position_or_len is_white text) text)
unfolding words
words-next text some =
    let n = position_or_len is_white text in
    elim (cases_lt n (length text)) [
      | inl lt ↦
          let white = not_true _ (prefix_len_stops (λ x. not (is_white x)) text 0 lt) in
          ap (filter nonempty) (slice_split-more is_white text lt)
          ∙ cond-true (nonempty (take n text)) _ _ (lt-ltb 0 _ (omega (arith, length-take-le n text (omega arith))))
          ∙ ap (λ ws. take n text ∷ ws) (sym (words-white (get_or text n 0) (drop (n + 1) text) white) ∙ ap words (sym (drop_more text n 0 lt)))
      | inr le ↦
          ap (filter nonempty) (slice_split-last is_white text le)
          ∙ cond-true (nonempty text) _ _ (lt-ltb 0 _ (omega (arith, prefix_len-le-length (λ x. not (is_white x)) text)))
          ∙ sym (ap (λ w. w ∷ words (drop n text)) (take_all n text le) ∙ ap (λ t. text ∷ words t) (drop_all n text le))
    ]

-- the two together, at the lengths that were found
pub words-first : (text : List ℕ) (start end' : ℕ) → start ≡ prefix_len is_white text → end' ≡ position_or_len is_white (drop start text) → (end' ≡ 0 → ⊥) → words text ≡ take end' (drop start text) ∷ words (drop end' (drop start text))
words-first text start end' s e some =
    let more : 0 < position_or_len is_white (drop start text) = omega arith in
    sym (words-skip text) ∙ ap (λ n. words (drop n text)) (sym s) ∙ words-next (drop start text) more
    ∙ ap (λ n. take n (drop start text) ∷ words (drop n (drop start text))) (sym e)

pub words-empty : (text : List ℕ) (start end' : ℕ) → start ≡ prefix_len is_white text → end' ≡ position_or_len is_white (drop start text) → end' ≡ 0 → words text ≡ []
words-empty text start end' s e none = words-none text (ap (λ n. position_or_len is_white (drop n text)) (sym s) ∙ sym e ∙ none)

-- the pieces of a text are the one before the first separator, and those of the rest
pub pieces-more : (c : ℕ) (text rest : Bor (List ℕ)) (n : ℕ) → n ≡ position_or_len (λ b. eqb b c) text.now → n < length text.now → rest.now ≡ drop (n + 1) text.now → pieces_left c (Some text) ≡ take n text.now ∷ pieces_left c (Some rest)
unfolding pieces_left
pieces-more c text rest n e lt r =
    let p = λ (b : ℕ). eqb b c in
    slice_split-more p text.now (omega arith) ∙ ap (λ k. take k text.now ∷ slice_split p (drop (k + 1) text.now)) (sym e)
    ∙ ap (λ t. take n text.now ∷ slice_split p t) (sym r)

pub pieces-last : (c : ℕ) (text : Bor (List ℕ)) (n : ℕ) → n ≡ position_or_len (λ b. eqb b c) text.now → length text.now ≤ n → pieces_left c (Some text) ≡ take n text.now ∷ pieces_left c None
unfolding pieces_left
pieces-last c text n e le =
    slice_split-last (λ (b : ℕ). eqb b c) text.now (omega arith) ∙ ap (λ w. w ∷ []) (sym (take_all n text.now le))
