-- Words as texts, and the options among them.
use Rattle.std.proofs.Common.{◌≡◌, ◌≤◌, ◌<◌, ◌+◌, ◌-◌, ℕ, Bool, true, false, List, [], ◌∷◌, length, map, take, drop, get_or, None, Some, refl, ap, sym, ◌∙◌, arith}
use Rattle.std.specs.Prelude.{◌||◌, Option, String, count_by, cond, find, option_map, string_bytes}
use Rattle.std.proofs.lemmas.List.{take_all}
use Rattle.std.specs.List.{fold, list_any}
use Rattle.clap.specs.Walk.{Text}
use Rattle.command_line.specs.Misuses.{MisuseRecord}
use Rattle.command_line.specs.declared.misuse.Cause.{Cause}
use Rattle.command_line.specs.declared.misuse.Cause.TheVariants.{Repeated}
use Rattle.command_parser.specs.Commands.{OptionText}
use Rattle.command_parser.specs.OptionNames.{option_of}
use Rattle.command_parser.specs.Unread.{ends_options, is_repeated, misused_or, option_fault, repeated_option, takes_next, wrong_option}

-- a list searched by what is made of its elements
find-map : {A B : Type 0} (f : A → B) (q : B → Bool) (p : A → Bool) (xs : List A) → ((x : A) → p x ≡ q (f x)) → option_map f (find p xs) ≡ find q (map f xs)
find-map f q p [] same = refl
find-map {A} {B} f q p (x ∷ xs) same = go (q (f x)) refl (find-map f q p xs same)
  where
    go : (b : Bool) → q (f x) ≡ b → option_map f (find p xs) ≡ find q (map f xs) → option_map f (find p (x ∷ xs)) ≡ find q (map f (x ∷ xs))
    go true e more = rw (same x ∙ e, e) refl
    go false e more = rw (same x ∙ e, e) more

pub found-map : {A B : Type 0} (f : A → B) (q : B → Bool) (p : A → Bool) (xs : List A) (found : Option A) → found ≡ find p xs → ((x : A) → p x ≡ q (f x)) → option_map f found ≡ find q (map f xs)
found-map f q p xs found is same = ap (option_map f) is ∙ find-map f q p xs same

pub list_any-map : {A B : Type 0} (f : A → B) (p : B → Bool) (xs : List A) → list_any (λ x. p (f x)) xs ≡ list_any p (map f xs)
list_any-map f p [] = refl
list_any-map f p (x ∷ xs) = ap (λ more. p (f x) || more) (list_any-map f p xs)

fold-map : {A B : Type 0} (f : A → B) (step : ℕ → B → ℕ) (n : ℕ) (xs : List A) → fold (λ m x. step m (f x)) n xs ≡ fold step n (map f xs)
fold-map f step n [] = refl
fold-map f step n (x ∷ xs) = fold-map f step (step n (f x)) xs

pub count_by-map : {A B : Type 0} (f : A → B) (p : B → Bool) (xs : List A) → count_by (λ x. p (f x)) xs ≡ count_by p (map f xs)
count_by-map f p xs = fold-map f (λ n x. n + cond (p x) 1 0) 0 xs

-- the first word, and those after it
pub texts-first : {Z : Type 0} (words : List (String Z)) (word d : String Z) → word ≡ get_or words 0 d → 1 ≤ length words → map string_bytes words ≡ string_bytes word ∷ map string_bytes (take (length words - 1) (drop 1 words))
texts-first [] word d is one = absurd (omega (arith, one))
texts-first (w ∷ ws) word d is one =
    let fewer : length (w ∷ ws) - 1 ≡ length ws = omega arith in
    rw is (ap (λ more. string_bytes w ∷ map string_bytes more) (sym (ap (λ n. take n ws) fewer ∙ take_all (length ws) ws (omega arith))))

pub texts-none : {Z : Type 0} (words : List (String Z)) → length words < 1 → map string_bytes words ≡ []
texts-none [] none = refl
texts-none (w ∷ ws) none = absurd (omega (arith, none))

-- a word that is a value
pub wrong_option-value : (options : List OptionText) (is_value : Bool) (texts : List Text) (word : Text) (words : List Text) → is_value ≡ true → texts ≡ word ∷ words
    → wrong_option options is_value texts ≡ wrong_option options false words
unfolding wrong_option
wrong_option-value options is_value texts word words is are = rw (is, are) refl

-- the end of the options
pub wrong_option-end : (options : List OptionText) (is_value : Bool) (texts : List Text) (word : Text) (words : List Text) → is_value ≡ false → texts ≡ word ∷ words → ends_options word ≡ true
    → wrong_option options is_value texts ≡ None
unfolding wrong_option
wrong_option-end options is_value texts word words is are ends = rw (is, are, ends) refl

pub wrong_option-none : (options : List OptionText) (is_value : Bool) (texts : List Text) → texts ≡ [] → wrong_option options is_value texts ≡ None
unfolding wrong_option
wrong_option-none options is_value texts none = rw none refl

-- an option, which is wrong or isn't
wrong_option-option : (options : List OptionText) (is_value : Bool) (texts : List Text) (word : Text) (words : List Text) (option : Option OptionText) (fault : Option Cause)
    → is_value ≡ false → texts ≡ word ∷ words → ends_options word ≡ false → option ≡ option_of options word → fault ≡ option_fault option word words
    → wrong_option options is_value texts ≡ misused_or word fault (wrong_option options (takes_next option word) words)
unfolding wrong_option
wrong_option-option options is_value texts word words option fault is are ends names faults = rw (is, are, ends, faults, names) refl

pub wrong_option-fault : (options : List OptionText) (is_value : Bool) (texts : List Text) (word : Text) (words : List Text) (option : Option OptionText) (fault : Option Cause) (cause : Cause) (misuse : MisuseRecord)
    → is_value ≡ false → texts ≡ word ∷ words → ends_options word ≡ false → option ≡ option_of options word → fault ≡ option_fault option word words → fault ≡ Some cause
    → misuse ≡ record { argument = word; cause = cause } → wrong_option options is_value texts ≡ Some misuse
wrong_option-fault options is_value texts word words option fault cause misuse is are ends names faults some made =
    wrong_option-option options is_value texts word words option fault is are ends names faults
    ∙ (ap (λ f. misused_or word f (wrong_option options (takes_next option word) words)) some ∙ ap (λ m. Some m) (sym made))

pub wrong_option-more : (options : List OptionText) (is_value : Bool) (texts : List Text) (word : Text) (words : List Text) (option : Option OptionText) (fault : Option Cause) (takes : Bool)
    → is_value ≡ false → texts ≡ word ∷ words → ends_options word ≡ false → option ≡ option_of options word → fault ≡ option_fault option word words → fault ≡ None
    → takes ≡ takes_next option word → wrong_option options is_value texts ≡ wrong_option options takes words
wrong_option-more options is_value texts word words option fault takes is are ends names faults none next =
    wrong_option-option options is_value texts word words option fault is are ends names faults
    ∙ (ap (λ f. misused_or word f (wrong_option options (takes_next option word) words)) none ∙ ap (λ b. wrong_option options b words) (sym next))

-- the first word that names a repeated option
repeated_option-found : {Z : Type 0} (options : List OptionText) (words : List (String Z)) (found : Option (String Z))
    → found ≡ find (λ word. is_repeated options (map string_bytes words) (string_bytes word)) words
    → option_map (λ word. record { argument = word; cause = Repeated }) (option_map string_bytes found) ≡ repeated_option options (map string_bytes words)
unfolding repeated_option
repeated_option-found options words found is =
    ap (option_map (λ word. record { argument = word; cause = Repeated })) (found-map string_bytes (is_repeated options (map string_bytes words)) _ words found is (λ word. refl))

pub repeated_option-some : {Z : Type 0} (options : List OptionText) (words : List (String Z)) (found : Option (String Z)) (word : String Z) (text : Text) (misuse : MisuseRecord)
    → found ≡ find (λ w. is_repeated options (map string_bytes words) (string_bytes w)) words → found ≡ Some word → text ≡ string_bytes word
    → misuse ≡ record { argument = text; cause = Repeated } → Some misuse ≡ repeated_option options (map string_bytes words)
repeated_option-some options words found word text misuse is some are made =
    ap (λ m. Some m) made ∙ rw are (repeated_option-found options words (Some word) (sym some ∙ is))

pub repeated_option-none : {Z : Type 0} (options : List OptionText) (words : List (String Z)) (found : Option (String Z))
    → found ≡ find (λ w. is_repeated options (map string_bytes words) (string_bytes w)) words → found ≡ None → None ≡ repeated_option options (map string_bytes words)
repeated_option-none options words found is none = repeated_option-found options words None (sym none ∙ is)
