-- A table that was printed with its keys reads back as that table.
use Rattle.std.proofs.Common.{◌≡◌, ℕ, ◌+◌, ◌*◌, ◌^◌, ◌<◌, ◌≤◌, true, false, ◌&&◌, ◌||◌, eqb, leb, List, [], ◌∷◌, ◌++◌, length, flat_map, decimal, All, Some, None, Ok, ok_or, refl, ap, ◌∙◌, append_assoc, arith}
use Rattle.std.specs.List.{list_all, slice_split}
use Rattle.std.proofs.lemmas.Bool.{cond-true, and_from, le-leb}
use Rattle.std.proofs.lemmas.Fmt.{decimal_is_IsNumeral}
use Rattle.std.proofs.lemmas.List.Elements.{All-head, All-tail}
use Rattle.std.proofs.lemmas.List.Folds.{list_all-append}
use Rattle.std.proofs.lemmas.List.Splits.{slice_split_at, slice_split_none}
use Rattle.dm_table.specs.declared.table.Base.{Base}
use Rattle.dm_table.specs.declared.table.Line.{Line}
use Rattle.dm_table.specs.declared.table.Target.{Target}
use Rattle.dm_table.specs.declared.table.Target.TheVariants as targets
use Rattle.dm_table.specs.declared.target_type.TargetType.TheVariants as types
use Rattle.dm_table.specs.declared.fault.TextKind.TheVariants as kinds
use Rattle.dm_table.specs.Words.{Word, is_white, is_graphic, words, text_lines}
use Rattle.dm_table.specs.Numbers.{number_if}
use Rattle.dm_table.specs.Reading.{◌>>=◌, at_place}
use Rattle.dm_table.specs.Lines.{linear_at, bases_at, stripes_at, chunk_at, bare_at, line_of}
use Rattle.dm_table.specs.Grammar.{IsBaseOfGrammar, IsTargetOfGrammar, IsLineOfGrammar, IsTableOfGrammar}
use Rattle.dm_table.specs.TableText.{is_skipped, table_lines, some_lines, table_of}
use Rattle.table_text.specs.Print.{base_words, target_words, line_words, line_text, printed_table}
use Rattle.dm_table.proofs.lemmas.ReadLineLemmas.{striped-bases, line-target}
use Rattle.dm_table.proofs.lemmas.ReadLineLemmas.{table-lines, table_lines-full, some_lines-some}
use Rattle.table_text.proofs.PrintedLemmas.{ArePrinted, words-joined, text-joined, one_line-joined, printed-decimal, number-decimal, number_at-decimal, digit-no_comment, printed-device, base_at-printed}
use Rattle.table_text.proofs.PrintedTargetLemmas.{AreRead, ReadBack, read_back}
use Rattle.table_text.proofs.PrintedCryptLemmas.{crypt-read_back}
use Rattle.table_text.proofs.PrintedVerityLemmas.{verity-read_back}
use Rattle.table_text.proofs.PrintedUnstripedLemmas.{unstriped-read_back}

-- targets
bases_at-printed : (bases : List Base) → All IsBaseOfGrammar bases → bases_at (flat_map base_words bases) ≡ Ok bases
bases_at-printed [] h = refl
bases_at-printed (base ∷ bases) h =
    ap (λ r. r >>= (λ base. bases_at (flat_map base_words bases) >>= (λ bases. Ok (base ∷ bases)))) (base_at-printed base (All-head IsBaseOfGrammar base bases h))
    ∙ ap (λ r. r >>= (λ bases. Ok (base ∷ bases))) (bases_at-printed bases (All-tail IsBaseOfGrammar base bases h))

length-bases : (bases : List Base) → length (flat_map base_words bases) ≡ 2 * length bases
length-bases [] = refl
length-bases (base ∷ bases) = let more = length-bases bases in omega arith

printed-bases : (bases : List Base) → All IsBaseOfGrammar bases → ArePrinted (flat_map base_words bases)
printed-bases [] h = tt
printed-bases (base ∷ bases) h =
    let first = All-head IsBaseOfGrammar base bases h in
    (printed-device base.device first.device, (printed-decimal base.offset first.offset, printed-bases bases (All-tail IsBaseOfGrammar base bases h)))

stripes_at-printed : (n : ℕ) → 1 ≤ n → n ≤ 16 → stripes_at (decimal n) ≡ Ok n
stripes_at-printed n low high =
    ap (λ o. ok_or (number_if (λ k. leb 1 k && leb k 16) o) kinds.StripeCount) (number-decimal n (omega arith))
    ∙ ap (λ o. ok_or o kinds.StripeCount) (cond-true (leb 1 n && leb n 16) (Some n) None (and_from _ _ (le-leb 1 n low) (le-leb n 16 high)))

chunk_at-printed : (n : ℕ) → 1 ≤ n → n < 2 ^ 64 → chunk_at (decimal n) ≡ Ok n
chunk_at-printed n low fits =
    ap (λ o. ok_or (number_if (λ k. leb 1 k) o) kinds.ZeroChunk) (number-decimal n fits)
    ∙ ap (λ o. ok_or o kinds.ZeroChunk) (cond-true (leb 1 n) (Some n) None (le-leb 1 n low))

-- a target's printed words read back
target-read_back : (target : Target) → IsTargetOfGrammar target → ReadBack target (target_words true target)
unfolding target_words linear_at bare_at
target-read_back (targets.Linear base) h =
    read_back types.Linear (base_words base) (targets.Linear base) (printed-device base.device h.device, (printed-decimal base.offset h.offset, tt))
    (ap (λ r. r >>= (λ base. Ok (targets.Linear base))) (base_at-printed base h))
target-read_back (targets.Striped chunk bases) h =
    let most = h.most in
    read_back types.Striped (decimal (length bases) ∷ decimal chunk ∷ flat_map base_words bases) (targets.Striped chunk bases)
    (printed-decimal (length bases) (omega arith), (printed-decimal chunk h.chunk_fits, printed-bases bases h.each))
    (striped-bases (decimal (length bases)) (decimal chunk) (flat_map base_words bases) (length bases) chunk
    (stripes_at-printed (length bases) h.some h.most) (chunk_at-printed chunk h.chunk_some h.chunk_fits) (length-bases bases)
    ∙ ap (λ r. r >>= (λ bases. Ok (targets.Striped chunk bases))) (bases_at-printed bases h.each))
target-read_back targets.Zero h = read_back types.Zero [] targets.Zero tt refl
target-read_back targets.Error h = read_back types.Error [] targets.Error tt refl
target-read_back (targets.Crypt line) h = crypt-read_back line h
target-read_back (targets.Verity line) h = verity-read_back line h
target-read_back (targets.Unstriped line) h = unstriped-read_back line h

line-of_target : (start count : ℕ) (target : Target) (tail : List Word) → start < 2 ^ 64 → count < 2 ^ 64 → AreRead target tail
    → line_of (decimal start ∷ decimal count ∷ tail) ≡ Ok (record { start = start; length = count; target = target })
line-of_target start count target [] s c e = absurd e
line-of_target start count target (type ∷ arguments) s c e =
    line-target (decimal start) (decimal count) type arguments start count (number_at-decimal start s) (number_at-decimal count c)
    ∙ ap (λ r. r >>= (λ target. Ok (record { start = start; length = count; target = target }))) e

line-printed : (line : Line) → IsLineOfGrammar line → line_of (line_words true line) ≡ Ok line
line-printed line h =
    line-of_target line.start line.length line.target (target_words true line.target) h.start h.sectors (target-read_back line.target h.target).read

printed-line : (line : Line) → IsLineOfGrammar line → ArePrinted (line_words true line)
printed-line line h = (printed-decimal line.start h.start, (printed-decimal line.length h.sectors, (target-read_back line.target h.target).printed))

words-line : (line : Line) → IsLineOfGrammar line → words (line_text true line) ≡ line_words true line
unfolding line_text
words-line line h = words-joined (decimal line.start) (decimal line.length ∷ target_words true line.target) (printed-line line h)

line-kept : (line : Line) → IsLineOfGrammar line → is_skipped (words (line_text true line)) ≡ false
line-kept line h =
    let numeral = decimal_is_IsNumeral line.start h.start in
    ap is_skipped (words-line line h) ∙ digit-no_comment (decimal line.start) numeral.0.0 numeral.0.1

-- tables
split-table : (line : Line) (lines : List Line) → IsLineOfGrammar line → slice_split (λ b. eqb b 10) (printed_table true (line ∷ lines)) ≡ line_text true line ∷ slice_split (λ b. eqb b 10) (printed_table true lines)
unfolding line_text
split-table line lines h =
    ap (slice_split (λ b. eqb b 10)) (append_assoc (line_text true line) (10 ∷ []) (printed_table true lines))
    ∙ slice_split_at (λ b. eqb b 10) (line_text true line) 10 (printed_table true lines) (one_line-joined (decimal line.start) (decimal line.length ∷ target_words true line.target) (printed-line line h)) refl

table_lines-printed : (n : ℕ) (lines : List Line) → All IsLineOfGrammar lines → table_lines n (slice_split (λ b. eqb b 10) (printed_table true lines)) ≡ Ok lines
unfolding words
table_lines-printed n [] h = refl
table_lines-printed n (line ∷ lines) h =
    let first = All-head IsLineOfGrammar line lines h in
    let rest = slice_split (λ b. eqb b 10) (printed_table true lines) in
    ap (table_lines n) (split-table line lines first)
    ∙ table_lines-full n (line_text true line) rest (line-kept line first)
    ∙ ap (λ r. at_place 0 n r >>= (λ line. table_lines (n + 1) rest >>= (λ lines. Ok (line ∷ lines)))) (ap line_of (words-line line first) ∙ line-printed line first)
    ∙ ap (λ r. r >>= (λ lines. Ok (line ∷ lines))) (table_lines-printed (n + 1) lines (All-tail IsLineOfGrammar line lines h))

text-table : (lines : List Line) → All IsLineOfGrammar lines → list_all (λ b. is_white b || is_graphic b) (printed_table true lines) ≡ true
unfolding line_text
text-table [] h = refl
text-table (line ∷ lines) h =
    let test = λ (b : ℕ). is_white b || is_graphic b in
    let first = text-joined (decimal line.start) (decimal line.length ∷ target_words true line.target) (printed-line line (All-head IsLineOfGrammar line lines h)) in
    list_all-append test (line_text true line ++ 10 ∷ []) (printed_table true lines)
    ∙ and_from _ _ (list_all-append test (line_text true line) (10 ∷ []) ∙ and_from _ _ first refl) (text-table lines (All-tail IsLineOfGrammar line lines h))

-- what was printed with its keys gives the table back
pub table-shown : (lines : List Line) → IsTableOfGrammar lines → table_of (printed_table true lines) ≡ Ok lines
unfolding text_lines
table-shown lines h =
    let some = h.some in
    table-lines (printed_table true lines) (text-table lines h.each)
    ∙ ap (λ r. r >>= some_lines) (table_lines-printed 1 lines h.each)
    ∙ some_lines-some lines (λ none. omega arith)

-- a text of one line
split-line : (line : Line) → IsLineOfGrammar line → slice_split (λ b. eqb b 10) (line_text true line) ≡ line_text true line ∷ []
unfolding line_text
split-line line h = slice_split_none (λ b. eqb b 10) (line_text true line) (one_line-joined (decimal line.start) (decimal line.length ∷ target_words true line.target) (printed-line line h))

text-line : (line : Line) → IsLineOfGrammar line → list_all (λ b. is_white b || is_graphic b) (line_text true line) ≡ true
unfolding line_text
text-line line h = text-joined (decimal line.start) (decimal line.length ∷ target_words true line.target) (printed-line line h)

-- a line that was printed with its key gives the line back
pub line-shown : (line : Line) → IsLineOfGrammar line → table_of (line_text true line) ≡ Ok (line ∷ [])
unfolding text_lines
line-shown line h =
    table-lines (line_text true line) (text-line line h)
    ∙ ap (λ r. r >>= some_lines) (
    ap (table_lines 1) (split-line line h)
    ∙ table_lines-full 1 (line_text true line) [] (line-kept line h)
    ∙ ap (λ r. at_place 0 1 r >>= (λ line. table_lines 2 [] >>= (λ lines. Ok (line ∷ lines)))) (ap line_of (words-line line h) ∙ line-printed line h)
    )
