-- Options: one more that is known and new, and the first that is not.
use Rattle.std.proofs.Common.{◌≡◌, ℕ, Bool, true, false, not, ◌&&◌, ◌||◌, eqb, List, [], ◌∷◌, ◌++◌, length, drop, map, Bor, Option, Some, None, ok_or, Ok, Err, refl, ap, sym, subst, ◌∙◌, inl, inr, arith}
use Rattle.std.specs.Prelude.{if◌then◌else◌, MatchOption, MatchResult}
use Rattle.std.specs.List.{list_any}
use Rattle.std.specs.Str.{bytes_eq}
use Rattle.std.proofs.lemmas.Bool.{cases_Bool, cond-false, cond-true, and_parts, and_from, eqb-true, ne_eqb}
use Rattle.std.proofs.lemmas.List.Folds.{list_any-append}
use Rattle.std.proofs.lemmas.Slice.Eq.{bytes_eq-Decides}
use Rattle.dm_table.specs.declared.fault.TextKind.TheVariants as kinds
use Rattle.dm_table.specs.Words.{Word}
use Rattle.dm_table.specs.Reading.{◌>>=◌}
use Rattle.dm_table.specs.Arguments.{number_at}
use Rattle.dm_table.specs.Options.{after_option, is_one_of, option_name, option_names, has_name_of, are_options, known_at, counted_at, options_at, value_of, AreOptionsOfGrammar}
use Rattle.table_text.proofs.ReadValueLemmas.{bind_ok, ok_same, chosen, number_at-fits}

pub list_any-map : {X Y : Type 0} (p : Y → Bool) (f : X → Y) (xs : List X) → list_any p (map f xs) ≡ list_any (λ x. p (f x)) xs
list_any-map p f [] = refl
list_any-map p f (x ∷ xs) = ap (λ b. p (f x) || b) (list_any-map p f xs)

and-false : (a : Bool) → (a && false) ≡ false
and-false true = refl
and-false false = refl

or-true : (a : Bool) → (a || true) ≡ true
or-true true = refl
or-true false = refl

bytes_eq-flip : (a b : Word) → bytes_eq a b ≡ false → bytes_eq b a ≡ false
bytes_eq-flip a b e = elim (cases_Bool (bytes_eq b a)) [
  | inl same ↦ let clash : false ≡ true = sym e ∙ (bytes_eq-Decides a b).1 (sym ((bytes_eq-Decides b a).0 same)) in cc
  | inr other ↦ other
]

-- a name is in a list that has it in the middle
named-middle : (word same : Word) (before rest : List Word) → option_name word ≡ option_name same → has_name_of same (before ++ word ∷ rest) ≡ true
named-middle word same [] rest is = ap (λ b. b || has_name_of same rest) ((bytes_eq-Decides (option_name word) (option_name same)).1 is)
named-middle word same (b ∷ before) rest is = ap (λ t. bytes_eq (option_name b) (option_name same) || t) (named-middle word same before rest is) ∙ or-true (bytes_eq (option_name b) (option_name same))

-- the first word that is unknown, or whose name is there a second time
repeated : (known : List Word) (word : Word) (before rest : List Word) → has_name_of word before ≡ true → are_options known (before ++ word ∷ rest) ≡ false
repeated known word [] rest e = cc
repeated known word (b ∷ before) rest e = elim (cases_Bool (bytes_eq (option_name b) (option_name word))) [
  | inl same ↦
      let is : option_name word ≡ option_name b = sym ((bytes_eq-Decides (option_name b) (option_name word)).0 same) in
      let twice : has_name_of b (before ++ word ∷ rest) ≡ true = named-middle word b before rest is in
      ap (λ t. (is_one_of b known && not t) && are_options known (before ++ word ∷ rest)) twice
      ∙ ap (λ t. t && are_options known (before ++ word ∷ rest)) (and-false (is_one_of b known))
  | inr other ↦
      let later = sym (ap (λ t. t || has_name_of word before) other) ∙ e in
      ap (λ t. (is_one_of b known && not (has_name_of b (before ++ word ∷ rest))) && t) (repeated known word before rest later)
      ∙ and-false _
]

unknown : (known : List Word) (word : Word) (before rest : List Word) → is_one_of word known ≡ false → are_options known (before ++ word ∷ rest) ≡ false
unknown known word [] rest e = ap (λ t. (t && not (has_name_of word rest)) && are_options known rest) e
unknown known word (b ∷ before) rest e =
    ap (λ t. (is_one_of b known && not (has_name_of b (before ++ word ∷ rest))) && t) (unknown known word before rest e) ∙ and-false _

pub options-fault : (known : List Word) (word : Word) (before rest : List Word) → (is_one_of word known && not (has_name_of word before)) ≡ false → known_at known (before ++ word ∷ rest) ≡ Err kinds.Option
unfolding known_at
options-fault known word before rest e = cond-false _ _ _ (elim (cases_Bool (is_one_of word known)) [
  | inr none ↦ unknown known word before rest none
  | inl some ↦ elim (cases_Bool (has_name_of word before)) [
    | inl twice ↦ repeated known word before rest twice
    | inr once ↦ let clash : true ≡ false = sym (ap (λ t. t && not (has_name_of word before)) some ∙ ap not once) ∙ e in cc
  ]
])

-- one option more
pub options-push : (known : List Word) (before : List Word) (word : Word) → are_options known before ≡ true → (is_one_of word known && not (has_name_of word before)) ≡ true → are_options known (before ++ word ∷ []) ≡ true
options-push known [] word all e = and_from _ _ (and_from _ _ (and_parts (is_one_of word known) _ e).0 refl) refl
options-push known (b ∷ before) word all e =
    let first = and_parts (is_one_of b known && not (has_name_of b before)) _ all in
    let parts = and_parts (is_one_of b known) _ first.0 in
    let new = and_parts (is_one_of word known) _ e in
    let apart = neither (bytes_eq (option_name b) (option_name word)) (has_name_of word before) new.1 in
    let once : has_name_of b (before ++ word ∷ []) ≡ false =
    list_any-append (λ one. bytes_eq (option_name one) (option_name b)) before (word ∷ []) ∙ ap (λ t. t || (bytes_eq (option_name word) (option_name b) || false)) (none parts.1)
    ∙ ap (λ t. t || false) (bytes_eq-flip (option_name b) (option_name word) apart.0) in
    and_from _ _ (and_from _ _ parts.0 (ap not once)) (options-push known before word first.1 (and_from _ _ new.0 (ap not apart.1)))
  where
    none : {t : Bool} → not t ≡ true → t ≡ false
    none {t = true} h = cc
    none {t = false} h = refl

    neither : (a t : Bool) → not (a || t) ≡ true → (a ≡ false) × (t ≡ false)
    neither true t h = cc
    neither false t h = (refl, none h)

-- options that are counted
pub options-count : (known valued : List Word) (count : Word) (words : List Word) (n : ℕ) → number_at count ≡ Ok n → (length words ≡ n → ⊥) → options_at known valued (count ∷ words) ≡ Err kinds.ArgCount
unfolding options_at
options-count known valued count words n e ne = ap (λ r. r >>= (λ n. counted_at known valued n words)) e ∙ cond-false _ _ _ (ne_eqb (length words) n ne)

-- options without values
pub names-plain : (words : List Word) → option_names [] false words ≡ words
unfolding option_names
names-plain [] = refl
names-plain (word ∷ more) = ap (λ rest. word ∷ rest) (names-plain more)

-- a value is no option
names-drop : (valued : List Word) (is_value : Bool) (more : List Word) → option_names valued is_value more ≡ option_names valued false (if is_value then drop 1 more else more)
unfolding option_names
names-drop valued true [] = refl
names-drop valued true (value ∷ more) = refl
names-drop valued false more = refl

pub names-after : (valued : List Word) (word : Word) (more : List Word) → option_names valued false (word ∷ more) ≡ word ∷ option_names valued false (after_option valued word more)
unfolding option_names
names-after valued word more = ap (λ rest. word ∷ rest) (names-drop valued (is_one_of word valued) more)

value-drop : (valued : List Word) (name : Word) (is_value : Bool) (more : List Word) → value_of valued name is_value more ≡ value_of valued name false (if is_value then drop 1 more else more)
unfolding value_of
value-drop valued name true [] = refl
value-drop valued name true (value ∷ more) = refl
value-drop valued name false more = refl

-- the option that is sought, and another one
pub value-none : (valued : List Word) (name word : Word) → bytes_eq word name ≡ true → value_of valued name false (word ∷ []) ≡ Err kinds.Option
unfolding value_of
value-none valued name word e = cond-true _ _ _ e

pub value-here : (valued : List Word) (name word value : Word) (more : List Word) → bytes_eq word name ≡ true → value_of valued name false (word ∷ value ∷ more) ≡ Ok value
unfolding value_of
value-here valued name word value more e = cond-true _ _ _ e

pub value-after : (valued : List Word) (name word : Word) (more : List Word) → bytes_eq word name ≡ false → value_of valued name false (word ∷ more) ≡ value_of valued name false (after_option valued word more)
unfolding value_of
value-after valued name word more e = cond-false _ _ _ e ∙ value-drop valued name (is_one_of word valued) more

-- what was read keeps to the grammar's limits
pub options-grammar : (known arguments options : List Word) → options_at known [] arguments ≡ Ok options → AreOptionsOfGrammar known options
unfolding options_at known_at
options-grammar known [] options e = subst (AreOptionsOfGrammar known) (ok_same [] options e) (record { each = refl; count = omega arith })
options-grammar known (count ∷ words) options e =
    let n = bind_ok (number_at count) (λ n. counted_at known [] n words) options e in
    let counted = chosen (eqb (length words) n.0) (known_at known (option_names [] false words)) kinds.ArgCount options n.2 in
    let all = chosen (are_options known words) (Ok words) kinds.Option options (sym (ap (known_at known) (names-plain words)) ∙ counted.1) in
    let fits = number_at-fits count n.0 n.1 in
    let same = eqb-true (length words) n.0 counted.0 in
    subst (AreOptionsOfGrammar known) (ok_same words options all.1) (record { each = all.0; count = omega (arith, fits, same) })

-- the words after the first one
pub next-drop : (old new : List Word) (first : Option (Bor Word)) → MatchOption first ((old ≡ []) × (new ≡ [])) (λ word. old ≡ word.now ∷ new) → drop 1 old ≡ new
next-drop old new None is = rw (is.0, is.1) refl
next-drop old new (Some word) is = rw is refl

-- the value is removed, if there is one
pub value-removed : (valued : List Word) (word : Word) (old new : List Word) (first : Option (Bor Word)) → is_one_of word valued ≡ true
    → MatchOption first ((old ≡ []) × (new ≡ [])) (λ value. old ≡ value.now ∷ new) → new ≡ after_option valued word old
value-removed valued word old new first one is = sym (cond-true _ _ _ one ∙ next-drop old new first is)

pub value-left : (valued : List Word) (word : Word) (old : List Word) → is_one_of word valued ≡ false → old ≡ after_option valued word old
value-left valued word old none = sym (cond-false _ _ _ none)

-- the word after the option
pub value-first : (valued : List Word) (name word : Word) (old new : List Word) (first : Option (Bor Word)) → bytes_eq word name ≡ true
    → MatchOption first ((old ≡ []) × (new ≡ [])) (λ value. old ≡ value.now ∷ new)
    → MatchResult (ok_or first kinds.Option) (λ value. value_of valued name false (word ∷ old) ≡ Ok value.now) (λ kind. value_of valued name false (word ∷ old) ≡ Err kind)
value-first valued name word old new None same is = ap (λ ws. value_of valued name false (word ∷ ws)) is.0 ∙ value-none valued name word same
value-first valued name word old new (Some value) same is = ap (λ ws. value_of valued name false (word ∷ ws)) is ∙ value-here valued name word value.now new same
