-- Printed words, lines and tables.
use Rattle.std.proofs.Common.{◌≡◌, ◌≤◌, ◌<◌, ◌+◌, ℕ, zero, suc, List, [], ◌∷◌, ◌++◌, flat_map, length, decimal, get_or, Result, Ok, Err, IsErrAnd, refl, ap, sym, ◌∙◌, append_assoc, append-nil, length-append, arith}
use Rattle.std.specs.Prelude.{IfErr, OnErr}
use Rattle.std.specs.List.{join_with_byte}
use Rattle.dm_table.specs.Words.{Word}
use Rattle.allocation.specs.Asked.{asked}
use Rattle.allocation.specs.Refusal.{IsOutOfMemory}
use Rattle.allocation.specs.declared.out_of_memory.OutOfMemory.{OutOfMemory}
use Rattle.dm_table.specs.declared.table.Base.{Base}
use Rattle.table_text.specs.ArgumentWords.{options_words}
use Rattle.table_text.specs.Print.{base_words, printed_length, spaced_word}

-- words joined by one space are the first, and each other after a space
pub join-spaced : (word : Word) (more : List Word) → join_with_byte 32 (word ∷ more) ≡ word ++ flat_map spaced_word more
join-spaced word [] = sym (append-nil word)
join-spaced word (next ∷ more) = ap (λ rest. word ++ 32 ∷ rest) (join-spaced next more)

-- a word was printed, and then others
pub then_word : (before between after : List ℕ) (word printed : Word) (more : List Word) → printed ≡ word → between ≡ before ++ 32 ∷ printed
    → after ≡ between ++ flat_map spaced_word more → after ≡ before ++ flat_map spaced_word (word ∷ more)
then_word before between after word printed more same first rest =
    rest ∙ ap (λ t. t ++ flat_map spaced_word more) (first ∙ ap (λ w. before ++ 32 ∷ w) same) ∙ append_assoc before (32 ∷ word) (flat_map spaced_word more)

spaced-append : (words more : List Word) → flat_map spaced_word (words ++ more) ≡ flat_map spaced_word words ++ flat_map spaced_word more
spaced-append [] more = refl
spaced-append (word ∷ words) more = ap (λ t. spaced_word word ++ t) (spaced-append words more) ∙ sym (append_assoc (spaced_word word) (flat_map spaced_word words) (flat_map spaced_word more))

-- words were printed, and then others
pub then_words : (before between after : List ℕ) (words more : List Word) → between ≡ before ++ flat_map spaced_word words
    → after ≡ between ++ flat_map spaced_word more → after ≡ before ++ flat_map spaced_word (words ++ more)
then_words before between after words more first rest =
    rest ∙ ap (λ t. t ++ flat_map spaced_word more) first ∙ append_assoc before (flat_map spaced_word words) (flat_map spaced_word more)
    ∙ ap (λ t. before ++ t) (sym (spaced-append words more))

-- some options behind their number
pub counted-words : (words : List Word) → (length words ≡ 0 → ⊥) → options_words words ≡ decimal (length words) ∷ words
counted-words [] some = absurd (some refl)
counted-words (word ∷ more) some = refl

-- the exit of a `?` with the error of an allocation
pub exit_memory : {A : Type 0} (r : Result A OutOfMemory) (n : ℕ) (e : OutOfMemory) → IsErrAnd r (λ x. x ≡ e) → asked e ≤ n → IfErr r (λ x. asked x ≤ n)
exit_memory (Ok x) n e h low = absurd h
exit_memory (Err x) n e h low = rw h low

-- the exit of a `?` that answers the library's error
pub exit_room : {A E : Type 0} (r : Result A E) (n : ℕ) (e : OutOfMemory) → asked e ≤ n → OnErr r (IsOutOfMemory n)
exit_room (Ok x) n e low = tt
exit_room (Err x) n e low = (e.asked, low, e.refused)

-- the last ones of some words are no longer than all
length-rest : (front back : List Word) → printed_length back ≤ printed_length (front ++ back)
length-rest [] back = omega arith
length-rest (word ∷ front) back = omega (arith, length-append word (flat_map spaced_word (front ++ back)), length-rest front back)

-- the exit of a `?` that was to print one of some words
pub exit_word : {A : Type 0} (front : List Word) (word : Word) (back : List Word) (r : Result A OutOfMemory) (e : OutOfMemory) (printed : Word)
    → IsErrAnd r (λ x. x ≡ e) → printed ≡ word → asked e ≤ 1 + length printed → IfErr r (λ x. asked x ≤ printed_length (front ++ word ∷ back))
exit_word front word back r e printed h is low =
    exit_memory r (printed_length (front ++ word ∷ back)) e h (omega (arith, low, ap (length {A = ℕ}) is, length-append word (flat_map spaced_word back), length-rest front (word ∷ back)))

-- or some of them that follow each other
pub exit_part : {A : Type 0} (front part back : List Word) (r : Result A OutOfMemory) (e : OutOfMemory)
    → IsErrAnd r (λ x. x ≡ e) → asked e ≤ printed_length part → IfErr r (λ x. asked x ≤ printed_length (front ++ (part ++ back)))
exit_part front part back r e h low =
    exit_memory r (printed_length (front ++ (part ++ back))) e h
    (omega (arith, low, ap (length {A = ℕ}) (spaced-append part back), length-append (flat_map spaced_word part) (flat_map spaced_word back), length-rest front (part ++ back)))

-- or the last ones of them
pub exit_rest : {A : Type 0} (front back : List Word) (r : Result A OutOfMemory) (e : OutOfMemory)
    → IsErrAnd r (λ x. x ≡ e) → asked e ≤ printed_length back → IfErr r (λ x. asked x ≤ printed_length (front ++ back))
exit_rest front back r e h low = exit_memory r (printed_length (front ++ back)) e h (omega (arith, low, length-rest front back))

-- each of some texts is no longer than all of them
pub length-one : {A : Type 0} (f : A → List ℕ) (xs : List A) (i : ℕ) (d : A) → i < length xs → length (f (get_or xs i d)) ≤ length (flat_map f xs)
length-one f [] i d inside = absurd (omega (arith, inside))
length-one f (x ∷ xs) zero d inside = omega (arith, length-append (f x) (flat_map f xs))
length-one f (x ∷ xs) (suc i) d inside = omega (arith, length-append (f x) (flat_map f xs), length-one f xs i d (omega (arith, inside)))

-- nor are the words of one device than those of all
pub length-base : (bases : List Base) (i : ℕ) (d : Base) → i < length bases → printed_length (base_words (get_or bases i d)) ≤ printed_length (flat_map base_words bases)
length-base [] i d inside = absurd (omega (arith, inside))
length-base (b ∷ bases) zero d inside = omega (arith, ap length (spaced-append (base_words b) (flat_map base_words bases)), length-append (flat_map spaced_word (base_words b)) (flat_map spaced_word (flat_map base_words bases)))
length-base (b ∷ bases) (suc i) d inside =
    omega (arith, ap length (spaced-append (base_words b) (flat_map base_words bases)), length-append (flat_map spaced_word (base_words b)) (flat_map spaced_word (flat_map base_words bases)), length-base bases i d (omega (arith, inside)))
