-- Lines and table texts without a fault, step by step.
use Rattle.std.proofs.Common.{◌≡◌, ℕ, ◌+◌, ◌*◌, ◌^◌, ◌<◌, ◌≤◌, true, false, List, [], ◌∷◌, length, Some, refl, ap, ◌∙◌, not, eqb, ok_or, Ok, Err, ◌/◌, codes}
use Rattle.std.specs.List.{list_all}
use Rattle.std.specs.Char.{is_ascii_digit}
use Rattle.std.specs.Str.Parse.{digits_value}
use Rattle.std.proofs.lemmas.Bool.{cond-false, lt-ltb, cond-true, and_from, eq-eqb, le-leb}
use Rattle.dm_table.specs.Numbers.{number}
use Rattle.std.specs.Str.{bytes_eq}
use Rattle.dm_table.specs.declared.fault.TextKind.TheVariants as kinds
use Rattle.dm_table.specs.Words.{Word, is_text, words, text_lines}
use Rattle.dm_table.specs.Reading.{◌>>=◌, at_place}
use Rattle.dm_table.specs.Arguments.{number_at, bytes_at}
use Rattle.dm_table.specs.Options.{are_options, known_at, counted_at, option_names, options_at}
use Rattle.dm_table.specs.Verity.{salt_at}
use Rattle.dm_table.specs.declared.table.Target.TheVariants.{Striped}
use Rattle.dm_table.specs.declared.target_type.TargetType.{TargetType}
use Rattle.dm_table.specs.declared.target_type.TargetType.TheVariants as types
use Rattle.dm_table.specs.TargetTypes.{type_word, type_named}
use Rattle.dm_table.specs.Lines.{stripes_at, chunk_at, pairs_at, bases_at, striped_at, arguments_at, target_at, line_of}
use Rattle.dm_table.specs.declared.table.Line.{Line}
use Rattle.dm_table.specs.TableText.{is_skipped, table_lines, some_lines, table_of}

-- the three facts by which a word is a number
pub number-some : (word : List ℕ) → 0 < length word → list_all is_ascii_digit word ≡ true → digits_value 10 word < 2 ^ 64 → number word ≡ Some (digits_value 10 word)
unfolding number
number-some word some digits fits = rw (lt-ltb 0 (length word) some, digits, lt-ltb (digits_value 10 word) (2 ^ 64) fits) refl

pub known_at-ok : (known words : List Word) → are_options known words ≡ true → known_at known words ≡ Ok words
unfolding known_at
known_at-ok known words all = cond-true _ _ _ all

pub options-known : (known valued : List Word) (count : Word) (words : List Word) (n : ℕ) → number_at count ≡ Ok n → length words ≡ n
    → options_at known valued (count ∷ words) ≡ known_at known (option_names valued false words)
unfolding options_at
options-known known valued count words n e same = ap (λ r. r >>= (λ n. counted_at known valued n words)) e ∙ cond-true _ _ _ (eq-eqb (length words) n same)

-- a salt at each of its words
pub salt_at-none : (word : Word) → bytes_eq word (codes "-") ≡ true → salt_at word ≡ Ok []
unfolding salt_at
salt_at-none word none = cond-true _ _ _ none

pub salt_at-digits : (word : Word) → bytes_eq word (codes "-") ≡ false → 2 ≤ length word → length word ≤ 512 → salt_at word ≡ bytes_at (length word / 2) kinds.Salt word
unfolding salt_at
salt_at-digits word some low high = cond-false _ _ _ some ∙ cond-true _ _ _ (and_from _ _ (le-leb 2 (length word) low) (le-leb (length word) 512 high))

pub striped-pairs : (count size : Word) (pairs : List Word) (n chunk : ℕ) → stripes_at count ≡ Ok n → chunk_at size ≡ Ok chunk → striped_at (count ∷ size ∷ pairs) ≡ (pairs_at n pairs >>= (λ bases. Ok (Striped chunk bases)))
unfolding striped_at
striped-pairs count size pairs n chunk e f =
    ap (λ r. r >>= (λ n. chunk_at size >>= (λ chunk. pairs_at n pairs >>= (λ bases. Ok (Striped chunk bases))))) e
    ∙ ap (λ r. r >>= (λ chunk. pairs_at n pairs >>= (λ bases. Ok (Striped chunk bases)))) f

pub striped-bases : (count size : Word) (pairs : List Word) (n chunk : ℕ) → stripes_at count ≡ Ok n → chunk_at size ≡ Ok chunk → length pairs ≡ 2 * n → striped_at (count ∷ size ∷ pairs) ≡ (bases_at pairs >>= (λ bases. Ok (Striped chunk bases)))
striped-bases count size pairs n chunk e f same =
    striped-pairs count size pairs n chunk e f
    ∙ ap (λ r. r >>= (λ bases. Ok (Striped chunk bases))) (cond-true (eqb (length pairs) (2 * n)) (bases_at pairs) (Err kinds.ArgCount) (eq-eqb (length pairs) (2 * n) same))

pub line-target : (start count type : Word) (arguments : List Word) (n m : ℕ) → number_at start ≡ Ok n → number_at count ≡ Ok m → line_of (start ∷ count ∷ type ∷ arguments) ≡ (target_at type arguments >>= (λ target. Ok (record { start = n; length = m; target = target })))
unfolding line_of
line-target start count type arguments n m e f =
    ap (λ r. r >>= (λ first. number_at count >>= (λ sectors. target_at type arguments >>= (λ target. Ok (record { start = first; length = sectors; target = target }))))) e
    ∙ ap (λ r. r >>= (λ sectors. target_at type arguments >>= (λ target. Ok (record { start = n; length = sectors; target = target })))) f

-- the word of a type names it
pub type_named-word : (type : TargetType) → type_named (type_word type) ≡ Some type
type_named-word types.Linear = refl
type_named-word type = refl

-- a target whose type is written by its word
pub target-named : (type : TargetType) (arguments : List Word) → target_at (type_word type) arguments ≡ arguments_at type arguments
unfolding target_at
target-named type arguments = ap (λ named. ok_or named kinds.Target >>= (λ type. arguments_at type arguments)) (type_named-word type)

pub table-lines : (text : List ℕ) → is_text text ≡ true → table_of text ≡ (table_lines 1 (text_lines text) >>= some_lines)
unfolding table_of
table-lines text good = cond-false (not (is_text text)) _ _ (ap not good)

pub table_lines-full : (n : ℕ) (text : List ℕ) (more : List (List ℕ)) → is_skipped (words text) ≡ false
    → table_lines n (text ∷ more) ≡ (at_place 0 n (line_of (words text)) >>= (λ line. table_lines (n + 1) more >>= (λ lines. Ok (line ∷ lines))))
table_lines-full n text more full = cond-false (is_skipped (words text)) _ _ full

pub some_lines-some : (lines : List Line) → (length lines ≡ 0 → ⊥) → some_lines lines ≡ Ok lines
some_lines-some [] some = absurd (some refl)
some_lines-some (line ∷ more) some = refl
