-- Searches by names.
use Rattle.std.proofs.Common.{◌≡◌, Bor, ℕ, Bool, true, false, List, [], ◌∷◌, ◌++◌, map, Some, None, refl, ap, sym, ◌∙◌}
use Rattle.std.specs.Prelude.{◌||◌, Option, String, cond, find, option_map, string_bytes, take_while, unwrap_or}
use Rattle.std.specs.List.{list_any}
use Rattle.std.specs.Option.{option_or}
use Rattle.std.specs.Str.{bytes_eq}
use Rattle.std.proofs.lemmas.List.Folds.{find-append}
use Rattle.std.proofs.lemmas.List.Sums.{take_while-cons}
use Rattle.command_line.specs.FormatOptions.{text_of}
use Rattle.manual_pages.specs.declared.command.Command.{Command}
use Rattle.manual_pages.specs.declared.page.Page.{Page}
use Rattle.manual_pages.specs.Commands.{command_in, command_record}
use Rattle.manual_pages.specs.Help.{has_help, is_ahead, is_help}
use Rattle.manual_pages.specs.Pages.{PageRecord, image_pages, page_in, page_of, page_record, stack_pages}

-- a list searched by what is made of its elements
find-map : {A B : Type 0} (f : A → B) (q : B → Bool) (p : A → Bool) (xs : List A) → ((x : A) → p x ≡ q (f x)) → option_map f (find p xs) ≡ find q (map f xs)
find-map f q p [] same = refl
find-map {A} {B} f q p (x ∷ xs) same = go (q (f x)) refl (find-map f q p xs same)
  where
    go : (b : Bool) → q (f x) ≡ b → option_map f (find p xs) ≡ find q (map f xs) → option_map f (find p (x ∷ xs)) ≡ find q (map f (x ∷ xs))
    go true e more = rw (same x ∙ e, e) refl
    go false e more = rw (same x ∙ e, e) more

-- what a search finds is the page or the command of that name
pub page_in-found : (wanted : List ℕ) (pages : List Page) (found : Option Page) → found ≡ find (λ page. bytes_eq page.name.now wanted) pages → option_map page_record found ≡ page_in (map page_record pages) wanted
unfolding page_in
page_in-found wanted pages found is = ap (option_map page_record) is ∙ find-map page_record (λ page. bytes_eq page.name wanted) (λ page. bytes_eq page.name.now wanted) pages (λ page. refl)

pub command_in-found : (name : List ℕ) (commands : List Command) (found : Option Command) → found ≡ find (λ command. bytes_eq command.name.now name) commands
    → option_map command_record found ≡ command_in (map command_record commands) name
unfolding command_in
command_in-found name commands found is = ap (option_map command_record) is ∙ find-map command_record (λ command. bytes_eq command.name name) (λ command. bytes_eq command.name.now name) commands (λ command. refl)

page_in-append : (xs ys : List PageRecord) (name : List ℕ) → page_in (xs ++ ys) name ≡ option_or (page_in xs name) (page_in ys name)
unfolding page_in
page_in-append xs ys name = find-append (λ page. bytes_eq page.name name) xs ys

-- the page in one of the two lists
pub page_of-stack : (name wanted : List ℕ) (found : Option PageRecord) (own : PageRecord) → wanted ≡ name → found ≡ page_in stack_pages wanted → found ≡ Some own → Some own ≡ page_of name
page_of-stack name wanted found own is finds some =
    let stack : page_in stack_pages name ≡ Some own = ap (page_in stack_pages) (sym is) ∙ (sym finds ∙ some) in
    sym (page_in-append stack_pages image_pages name ∙ ap (λ o. option_or o (page_in image_pages name)) stack)

pub page_of-image : (name wanted : List ℕ) (found image : Option PageRecord) → wanted ≡ name → found ≡ page_in stack_pages wanted → found ≡ None → image ≡ page_in image_pages wanted → image ≡ page_of name
page_of-image name wanted found image is finds none image_finds =
    let stack : page_in stack_pages name ≡ None = ap (page_in stack_pages) (sym is) ∙ (sym finds ∙ none) in
    image_finds ∙ (ap (page_in image_pages) is ∙ sym (page_in-append stack_pages image_pages name ∙ ap (λ o. option_or o (page_in image_pages name)) stack))

-- the text of an argument that may be missing
pub unwrap_or-text : (word : Option (Bor (List ℕ))) (none given : Bor (List ℕ)) → given ≡ unwrap_or word none → none.now ≡ [] → given.now ≡ unwrap_or (text_of word) []
unwrap_or-text None none given is empty = ap (λ w. w.now) is ∙ empty
unwrap_or-text (Some word) none given is empty = ap (λ w. w.now) is

-- a search of the words ahead of `--`, by what is made of them
any-ahead : {A B : Type 0} (f : A → B) (p q : B → Bool) (xs : List A) → list_any (λ x. q (f x)) (take_while (λ x. p (f x)) xs) ≡ list_any q (take_while p (map f xs))
any-ahead f p q [] = refl
any-ahead {A} {B} f p q (x ∷ xs) = rw (take_while-cons (λ y. p (f y)) x xs, take_while-cons p (f x) (map f xs)) (go (p (f x)) (any-ahead f p q xs))
  where
    go : (b : Bool) → list_any (λ y. q (f y)) (take_while (λ y. p (f y)) xs) ≡ list_any q (take_while p (map f xs))
        → list_any (λ y. q (f y)) (cond b (x ∷ take_while (λ y. p (f y)) xs) []) ≡ list_any q (cond b (f x ∷ take_while p (map f xs)) [])
    go true more = ap (λ any. q (f x) || any) more
    go false more = refl

pub has_help-strings : {Z : Type 0} (words : List (String Z)) → list_any (λ word. is_help (string_bytes word)) (take_while (λ word. is_ahead (string_bytes word)) words) ≡ has_help (map string_bytes words)
has_help-strings words = any-ahead string_bytes is_ahead is_help words
