-- The lines of a printed map read back.
use Rattle.std.proofs.Common.{◌≡◌, ℕ, ◌+◌, ◌-◌, ◌*◌, ◌/◌, ◌%◌, ◌^◌, ◌<◌, ◌≤◌, Bool, true, false, ◌&&◌, ◌||◌, eqb, ltb, List, [], ◌∷◌, ◌++◌, length, take, filter, get_or, codes, decimal, All, Option, Some, Ok, refl, ap, sym, ◌∙◌, inl, inr, arith}
use Rattle.std.specs.List.{list_all, join_with_byte, starts_with}
use Rattle.std.specs.Cmp.Lexicographic.{pointwise}
use Rattle.std.specs.Char.{is_ascii_digit}
use Rattle.std.specs.Str.Parse.{digits_value, AllDigits}
use Rattle.std.proofs.lemmas.Bool.{cases_lt, cond-true, cond-false, and_from, le-leb, le-ltb, lt-ltb, ne_eqb}
use Rattle.std.proofs.lemmas.Fmt.{decimal_by_steps, decimal_is_IsNumeral}
use Rattle.std.proofs.lemmas.Str.Parse.{digit_from_value}
use Rattle.std.proofs.lemmas.List.{get_or_append_left, length-append}
use Rattle.std.proofs.lemmas.List.Elements.{All-nil, All-cons, All-append, All-head, All-tail}
use Rattle.std.proofs.lemmas.List.Splits.{slice_split_none, slice_split_at}
use Rattle.dm_table.specs.Numbers.{number}
use Rattle.dm_table.specs.TableText.{is_skipped}
use Rattle.dm_table.specs.Words.{Word, is_white, words}
use Rattle.dm_table.proofs.lemmas.ReadLineLemmas.{number-some}
use Rattle.rescue_map.specs.declared.block.Block.{Block}
use Rattle.rescue_map.specs.declared.status.Status.{Status}
use Rattle.rescue_map.specs.declared.status.Status.TheVariants.{Bad, Recovered, Unscraped, Untried, Untrimmed}
use Rattle.rescue_map.specs.declared.tail.Tail.{Tail}
use Rattle.rescue_map.specs.declared.map.Run.{Run}
use Rattle.rescue_map.specs.Blocks.{block_at, block_from, map_block, most_bytes, status_of}
use Rattle.rescue_map.specs.MapText.{run_words, tail_text, tail_words}
use Rattle.rescue_map.specs.Numbers.{has_base, map_number}
use Rattle.rescue_map.specs.Statuses.{letter}
use Rattle.rescue_map.specs.Stages.{run_of, run_status}
use Rattle.rescue_map.specs.Tails.{block_runs, block_tail, no_tail}
use Rattle.rescue_map.proofs.TailLemmas.{runs-whole, tail-whole}

-- ---- words

-- a word without white space
abbrev IsPlain : Word → Type 0
IsPlain word = (0 < length word) × All (λ b. is_white b ≡ false) word

or_last : (a b : Bool) → a || b ≡ false → b ≡ false
or_last true b e = cc
or_last false b e = e

one_line : (word : Word) → All (λ b. is_white b ≡ false) word → All (λ b. eqb b 10 ≡ false) word
one_line [] h = All-nil (λ b. eqb b 10 ≡ false)
one_line (b ∷ word) h =
    All-cons (λ b. eqb b 10 ≡ false) b word (or_last ((eqb b 32 || eqb b 9) || eqb b 13) (eqb b 10) (All-head (λ b. is_white b ≡ false) b word h)) (one_line word (All-tail (λ b. is_white b ≡ false) b word h))

words-next : (word : Word) (rest : List ℕ) → IsPlain word → words (word ++ 32 ∷ rest) ≡ word ∷ words rest
unfolding words
words-next word rest plain =
    ap (filter (λ w. ltb 0 (length w))) (slice_split_at is_white word 32 rest plain.1 refl)
    ∙ cond-true (ltb 0 (length word)) _ _ (lt-ltb 0 (length word) plain.0)

words-last : (word : Word) → IsPlain word → words word ≡ word ∷ []
unfolding words
words-last word plain =
    ap (filter (λ w. ltb 0 (length w))) (slice_split_none is_white word plain.1)
    ∙ cond-true (ltb 0 (length word)) _ _ (lt-ltb 0 (length word) plain.0)

-- ---- numbers

digits-plain : (digits : List ℕ) → AllDigits 10 digits → All (λ b. is_white b ≡ false) digits
digits-plain [] h = All-nil (λ b. is_white b ≡ false)
digits-plain (d ∷ digits) h =
    let range = digit_from_value d h.0 in
    let low : 48 ≤ d = range.0 in
    All-cons (λ b. is_white b ≡ false) d digits (rw (ne_eqb d 32 (λ h. omega arith), ne_eqb d 9 (λ h. omega arith), ne_eqb d 13 (λ h. omega arith), ne_eqb d 10 (λ h. omega arith)) refl) (digits-plain digits h.1)

digits-ascii : (digits : List ℕ) → AllDigits 10 digits → list_all is_ascii_digit digits ≡ true
digits-ascii [] h = refl
digits-ascii (d ∷ digits) h =
    let range = digit_from_value d h.0 in
    and_from _ _ (and_from _ _ (le-leb 48 d range.0) (le-leb d 57 range.1)) (digits-ascii digits h.1)

digits-no_comment : (digits : List ℕ) → 0 < length digits → AllDigits 10 digits → starts_with eqb digits (codes "#") ≡ false
digits-no_comment [] some h = absurd (omega arith)
digits-no_comment (d ∷ digits) some h =
    let range = digit_from_value d h.0 in
    let low : 48 ≤ d = range.0 in
    ap (λ t. t && pointwise eqb [] (take 0 digits)) (ne_eqb 35 d (λ h. omega arith))

plain-decimal : (n : ℕ) → n < 2 ^ 64 → IsPlain (decimal n)
plain-decimal n fits = let numeral = decimal_is_IsNumeral n fits in (numeral.0.0, digits-plain (decimal n) numeral.0.1)

number-decimal : (n : ℕ) → n < 2 ^ 64 → number (decimal n) ≡ Some n
number-decimal n fits =
    let numeral = decimal_is_IsNumeral n fits in
    let value : digits_value 10 (decimal n) ≡ n = numeral.1 in
    number-some (decimal n) numeral.0.0 (digits-ascii (decimal n) numeral.0.1) (rw value fits) ∙ ap Some value

-- a decimal number has no zero in front, unless it is one
record IsShort (n : ℕ) (digits : List ℕ) : Type 0 where
  some : 0 < length digits
  one : n < 10 → length digits ≡ 1
  first : 1 ≤ n → get_or digits 0 0 ≡ 48 → ⊥

short-decimal : (n : ℕ) → n < 2 ^ 64 → IsShort n (decimal n)
short-decimal = decimal_by_steps IsShort one more
  where
    one : (n : ℕ) → n < 10 → IsShort n ((48 + n) ∷ [])
    one n low = record { some = omega arith; one = λ h. refl; first = λ h (e : 48 + n ≡ 48). omega (arith, h, e) }

    more : (n : ℕ) (ds : List ℕ) → 10 ≤ n → IsShort (n / 10) ds → IsShort n (ds ++ ((48 + n % 10) ∷ []))
    more n ds high p = record {
      some = omega (arith, p.some, length-append ds ((48 + n % 10) ∷ []));
      one = λ h. absurd (omega (arith, h, high));
      first = λ h e. p.first (omega (arith, high)) (sym (get_or_append_left ds ((48 + n % 10) ∷ []) 0 0 p.some) ∙ e);
    }

and_false : (a : Bool) → a && false ≡ false
and_false true = refl
and_false false = refl

no_base-decimal : (n : ℕ) → n < 2 ^ 64 → has_base (decimal n) ≡ false
no_base-decimal n fits =
    let short = short-decimal n fits in
    elim (cases_lt n 1) [
      | inl none ↦ ap (λ b. b && eqb (get_or (decimal n) 0 0) 48) (le-ltb 1 (length (decimal n)) (omega (arith, short.one (omega (arith, none)))))
      | inr some ↦ ap (λ b. ltb 1 (length (decimal n)) && b) (ne_eqb (get_or (decimal n) 0 0) 48 (short.first some)) ∙ and_false (ltb 1 (length (decimal n)))
    ]

map_number-decimal : (n : ℕ) → n < 2 ^ 64 → map_number (decimal n) ≡ Some n
map_number-decimal n fits = cond-false (has_base (decimal n)) _ _ (no_base-decimal n fits) ∙ number-decimal n fits

-- ---- lines

plain-letter : (b : ℕ) → is_white b ≡ false → IsPlain (b ∷ [])
plain-letter b other = (omega arith, All-cons (λ b. is_white b ≡ false) b [] other (All-nil (λ b. is_white b ≡ false)))

letter-read : (status : Status) → status_of (letter status) ≡ Some status
letter-read Untried = refl
letter-read Untrimmed = refl
letter-read Unscraped = refl
letter-read Bad = refl
letter-read Recovered = refl

plain-letter_of : (status : Status) → IsPlain (letter status)
plain-letter_of Untried = plain-letter 63 refl
plain-letter_of Untrimmed = plain-letter 42 refl
plain-letter_of Unscraped = plain-letter 47 refl
plain-letter_of Bad = plain-letter 45 refl
plain-letter_of Recovered = plain-letter 43 refl

-- a line of two numbers and a status
module _ (first count : ℕ) (word : Word) (low : first < 2 ^ 64) (high : count < 2 ^ 64) (plain : IsPlain word) where
  abbrev three : List Word
  three = decimal first ∷ decimal count ∷ word ∷ []

  three-words : words (join_with_byte 32 three) ≡ three
  three-words =
      words-next (decimal first) (decimal count ++ 32 ∷ word) (plain-decimal first low)
      ∙ ap (λ (ws : List Word). decimal first ∷ ws) (words-next (decimal count) word (plain-decimal count high) ∙ ap (λ (ws : List Word). decimal count ∷ ws) (words-last word plain))

  three-one : All (λ b. eqb b 10 ≡ false) (join_with_byte 32 three)
  three-one =
      let P = λ (b : ℕ). eqb b 10 ≡ false in
      All-append P (decimal first) (32 ∷ decimal count ++ 32 ∷ word) (one_line _ (plain-decimal first low).1)
      (All-cons P 32 (decimal count ++ 32 ∷ word) refl (All-append P (decimal count) (32 ∷ word) (one_line _ (plain-decimal count high).1) (All-cons P 32 word refl (one_line _ plain.1))))

  three-said : is_skipped three ≡ false
  three-said = let numeral = decimal_is_IsNumeral first low in digits-no_comment (decimal first) numeral.0.0 numeral.0.1

  three-block : (status : Status) → status_of word ≡ Some status → map_block three ≡ Ok (record { first = first; count = count; status = status })
  three-block status is =
      ap (λ o. block_from o (map_number (decimal count)) (status_of word)) (map_number-decimal first low)
      ∙ ap (λ o. block_from (Some first) o (status_of word)) (map_number-decimal count high)
      ∙ ap (block_from (Some first) (Some count)) is

-- the next block, which fits
pub block-next : (at sectors : ℕ) (block : Block) → block.first ≡ at → 1 ≤ block.count → at + block.count ≤ most_bytes sectors → block_at at (most_bytes sectors) block ≡ Ok block
block-next at sectors block here some inside =
    cond-false (eqb block.count 0) _ _ (ne_eqb block.count 0 (λ h. omega (arith, h, some)))
    ∙ cond-false (ltb at block.first) _ _ (le-ltb at block.first (omega (arith, here)))
    ∙ cond-false (ltb block.first at) _ _ (le-ltb block.first at (omega (arith, here)))
    ∙ cond-false (ltb (most_bytes sectors - at) block.count) _ _ (le-ltb (most_bytes sectors - at) block.count (omega (arith, inside)))

module _ (at : ℕ) (run : Run) (few : at + run.count ≤ 2 ^ 54) where
  abbrev pub told_block : Block
  told_block = record { first = at * 512; count = run.count * 512; status = run_status run }

  low : at * 512 < 2 ^ 64
  low = omega (arith, few)

  high : run.count * 512 < 2 ^ 64
  high = omega (arith, few)

  plain-run : IsPlain (letter (run_status run))
  plain-run = plain-letter_of (run_status run)

  pub line-words : words (join_with_byte 32 (run_words at run)) ≡ run_words at run
  unfolding run_words
  line-words = three-words (at * 512) (run.count * 512) (letter (run_status run)) low high plain-run

  pub line-one : All (λ b. eqb b 10 ≡ false) (join_with_byte 32 (run_words at run))
  unfolding run_words
  line-one = three-one (at * 512) (run.count * 512) (letter (run_status run)) low high plain-run

  pub line-said : is_skipped (run_words at run) ≡ false
  unfolding run_words
  line-said = three-said (at * 512) (run.count * 512) (letter (run_status run)) low high plain-run

  pub line-block : map_block (run_words at run) ≡ Ok told_block
  unfolding run_words
  line-block = three-block (at * 512) (run.count * 512) (letter (run_status run)) low high plain-run (run_status run) (letter-read (run_status run))

  pub line-runs : 1 ≤ run.count → block_runs no_tail told_block ≡ run_of run.count (run_status run) ∷ []
  line-runs some = runs-whole (at * 512) (run.count * 512) (run_status run) run.count refl some

  pub line-tail : 1 ≤ run.count → block_tail no_tail told_block ≡ no_tail
  line-tail some = tail-whole (at * 512) (run.count * 512) (run_status run) run.count refl some

module _ (at : ℕ) (tail : Tail) (few : at ≤ 2 ^ 54) (some : 1 ≤ tail.count) (part : tail.count < 2 ^ 64) where
  abbrev tail_block : Block
  tail_block = record { first = at * 512; count = tail.count; status = tail.status }

  low-tail : at * 512 < 2 ^ 64
  low-tail = omega (arith, few)

  pub tail-line : tail_text at tail ≡ join_with_byte 32 (tail_words at tail) ++ 10 ∷ []
  tail-line = cond-false (eqb tail.count 0) _ _ (ne_eqb tail.count 0 (λ h. omega (arith, h, some)))

  pub last-words : words (join_with_byte 32 (tail_words at tail)) ≡ tail_words at tail
  unfolding tail_words
  last-words = three-words (at * 512) tail.count (letter tail.status) low-tail part (plain-letter_of tail.status)

  pub last-one : All (λ b. eqb b 10 ≡ false) (join_with_byte 32 (tail_words at tail))
  unfolding tail_words
  last-one = three-one (at * 512) tail.count (letter tail.status) low-tail part (plain-letter_of tail.status)

  pub last-said : is_skipped (tail_words at tail) ≡ false
  unfolding tail_words
  last-said = three-said (at * 512) tail.count (letter tail.status) low-tail part (plain-letter_of tail.status)

  pub last-block : map_block (tail_words at tail) ≡ Ok tail_block
  unfolding tail_words
  last-block = three-block (at * 512) tail.count (letter tail.status) low-tail part (plain-letter_of tail.status) tail.status (letter-read tail.status)
