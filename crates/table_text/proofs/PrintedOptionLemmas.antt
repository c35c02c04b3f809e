-- Printed options read back.
use Rattle.std.proofs.Common.{◌≡◌, ◌^◌, ◌<◌, true, false, not, ◌&&◌, ◌||◌, List, [], ◌∷◌, length, drop, decimal, Ok, refl, ap, sym, subst, ◌∙◌, inl, inr}
use Rattle.std.specs.Str.{bytes_eq}
use Rattle.std.proofs.lemmas.Bool.{cases_Bool, and_parts}
use Rattle.std.proofs.lemmas.Slice.Eq.{bytes_eq-Decides}
use Rattle.dm_table.specs.Words.{Word}
use Rattle.dm_table.specs.Options.{is_one_of, has_name_of, are_options, option_names, options_at, AreOptionsOfGrammar}
use Rattle.table_text.specs.ArgumentWords.{options_words}
use Rattle.table_text.proofs.OptionLemmas.{names-plain}
use Rattle.table_text.proofs.PrintedLemmas.{IsPrinted, ArePrinted, printed-decimal, number_at-decimal}
use Rattle.dm_table.proofs.lemmas.ReadLineLemmas.{options-known, known_at-ok}

-- printed options read back, with values and without
pub valued-printed : (known valued words : List Word) → length words < 2 ^ 64 → are_options known (option_names valued false words) ≡ true → options_at known valued (options_words words) ≡ Ok (option_names valued false words)
unfolding options_at option_names
valued-printed known valued [] fits all = refl
valued-printed known valued (word ∷ more) fits all =
    options-known known valued (decimal (length (word ∷ more))) (word ∷ more) (length (word ∷ more)) (number_at-decimal (length (word ∷ more)) fits) refl
    ∙ known_at-ok known (option_names valued false (word ∷ more)) all

pub options-printed : (known options : List Word) → AreOptionsOfGrammar known options → options_at known [] (options_words options) ≡ Ok options
options-printed known options h = valued-printed known [] options h.count (ap (are_options known) (names-plain options) ∙ h.each) ∙ ap Ok (names-plain options)

-- the options behind their number
pub words-counted : (words : List Word) → drop 1 (options_words words) ≡ words
words-counted [] = refl
words-counted (word ∷ more) = refl

one_of-printed : (known : List Word) (word : Word) → ArePrinted known → is_one_of word known ≡ true → IsPrinted word
one_of-printed [] word h e = cc
one_of-printed (k ∷ known) word h e = elim (cases_Bool (bytes_eq k word)) [
  | inl same ↦ subst IsPrinted ((bytes_eq-Decides k word).0 same) h.0
  | inr other ↦ one_of-printed known word h.1 (sym (ap (λ t. t || is_one_of word known) other) ∙ e)
]

known-printed : (known words : List Word) → ArePrinted known → are_options known words ≡ true → ArePrinted words
known-printed known [] h e = tt
known-printed known (word ∷ more) h e =
    let parts = and_parts (is_one_of word known && not (has_name_of word more)) _ e in
    (one_of-printed known word h (and_parts (is_one_of word known) _ parts.0).0, known-printed known more h parts.1)

pub printed-counted : (words : List Word) → length words < 2 ^ 64 → ArePrinted words → ArePrinted (options_words words)
printed-counted [] fits each = tt
printed-counted (word ∷ more) fits each = (printed-decimal (length (word ∷ more)) fits, each)

pub printed-options : (known options : List Word) → ArePrinted known → AreOptionsOfGrammar known options → ArePrinted (options_words options)
printed-options known options h g = printed-counted options g.count (known-printed known options h g.each)
