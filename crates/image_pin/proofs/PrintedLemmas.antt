-- A pin that was printed reads back.
use Rattle.std.proofs.Common.{◌≡◌, ℕ, ◌-◌, ◌*◌, ◌/◌, ◌^◌, ◌<◌, ◌≤◌, Bool, true, false, not, ◌&&◌, ◌||◌, cond, eqb, ltb, leb, List, [], ◌∷◌, ◌++◌, length, codes, decimal, All, Option, Some, None, Ok, Result, refl, ap, sym, ◌∙◌, inl, inr, append_assoc, append-nil, arith, filter}
use Rattle.std.specs.Prelude.{◌⊎◌, is_some}
use Rattle.std.specs.List.{AllPass, list_all, slice_split}
use Rattle.std.specs.Result.{result_ok}
use Rattle.std.specs.Char.{is_ascii_digit}
use Rattle.std.specs.Str.{bytes_eq}
use Rattle.std.specs.Str.Parse.{digits_value, AllDigits}
use Rattle.std.proofs.lemmas.Bool.{cond-true, cond-false, and_from, and_parts, leb-true, le-leb, le-ltb, lt-ltb, ne_eqb}
use Rattle.std.proofs.lemmas.Slice.Eq.{bytes_eq-Decides}
use Rattle.std.proofs.lemmas.Fmt.{decimal_is_IsNumeral}
use Rattle.std.proofs.lemmas.Str.Parse.{digit_from_value}
use Rattle.std.proofs.lemmas.List.Elements.{All-nil, All-cons, All-append, All-head, All-tail}
use Rattle.std.proofs.lemmas.List.Splits.{slice_split_none, slice_split_at}
use Rattle.hex.specs.Hex.{IsBytes, encode_lower, is_hex_digit, lower_digits}
use Rattle.hex.proofs.HexLemmas.{decode_of-encode_lower, decode_of-ok, decode_sized-encode_lower, length-encode_with}
use Rattle.dm_table.specs.Numbers.{number, number_if}
use Rattle.dm_table.specs.Reading.{◌>>=◌}
use Rattle.dm_table.specs.Words.{Word, is_white, text_lines, words}
use Rattle.dm_table.proofs.lemmas.ReadLineLemmas.{number-some}
use Rattle.verity_format.specs.Line.{salt_word}
use Rattle.image_pin.specs.declared.fault.PinFault.{PinFault}
use Rattle.image_pin.specs.declared.fields.PinFields.{PinFields}
use Rattle.image_pin.specs.declared.name.PinName.{PinName}
use Rattle.image_pin.specs.declared.name.PinName.TheVariants.{Root, Salt, DataBlockSize, HashBlockSize, DataBlocks}
use Rattle.image_pin.specs.declared.pin.Pin.{Pin}
use Rattle.image_pin.specs.Fields.{block_size_of, finish, no_fields, once, root_of, salt_of, set_field}
use Rattle.image_pin.specs.Names.{name_of, name_text}
use Rattle.image_pin.specs.PinTexts.{fields_behind, line_text, pin_line, pin_lines, pin_of, pin_text, pin_words, take_line, take_lines}

-- ---- words

-- a word without white space
abbrev IsPlain : Word → Type 0
IsPlain word = (0 < length word) × All (λ b. is_white b ≡ false) word

not_false : (b : Bool) → not b ≡ true → b ≡ false
not_false true h = cc
not_false false h = refl

or_last : (a b : Bool) → a || b ≡ false → b ≡ false
or_last true b e = cc
or_last false b e = e

plain-from : (word : Word) → list_all (λ b. not (is_white b)) word ≡ true → All (λ b. is_white b ≡ false) word
plain-from [] h = All-nil (λ b. is_white b ≡ false)
plain-from (b ∷ word) h =
    let parts = and_parts (not (is_white b)) (list_all (λ b. not (is_white b)) word) h in
    All-cons (λ b. is_white b ≡ false) b word (not_false (is_white b) parts.0) (plain-from word parts.1)

one_line : (word : Word) → All (λ b. is_white b ≡ false) word → All (λ b. eqb b 10 ≡ false) word
one_line [] h = All-nil (λ b. eqb b 10 ≡ false)
one_line (b ∷ word) h =
    All-cons (λ b. eqb b 10 ≡ false) b word (or_last ((eqb b 32 || eqb b 9) || eqb b 13) (eqb b 10) (All-head (λ b. is_white b ≡ false) b word h)) (one_line word (All-tail (λ b. is_white b ≡ false) b word h))

words-next : (word : Word) (rest : List ℕ) → IsPlain word → words (word ++ 32 ∷ rest) ≡ word ∷ words rest
unfolding words
words-next word rest plain =
    ap (filter (λ w. ltb 0 (length w))) (slice_split_at is_white word 32 rest plain.1 refl)
    ∙ cond-true (ltb 0 (length word)) _ _ (lt-ltb 0 (length word) plain.0)

words-last : (word : Word) → IsPlain word → words word ≡ word ∷ []
unfolding words
words-last word plain =
    ap (filter (λ w. ltb 0 (length w))) (slice_split_none is_white word plain.1)
    ∙ cond-true (ltb 0 (length word)) _ _ (lt-ltb 0 (length word) plain.0)

plain-name : (name : PinName) → IsPlain (name_text name)
plain-name Root = (omega arith, plain-from (codes "root") refl)
plain-name Salt = (omega arith, plain-from (codes "salt") refl)
plain-name DataBlockSize = (omega arith, plain-from (codes "data_block_size") refl)
plain-name HashBlockSize = (omega arith, plain-from (codes "hash_block_size") refl)
plain-name DataBlocks = (omega arith, plain-from (codes "data_blocks") refl)

-- ---- numbers

digits-plain : (digits : List ℕ) → AllDigits 10 digits → All (λ b. is_white b ≡ false) digits
digits-plain [] h = All-nil (λ b. is_white b ≡ false)
digits-plain (d ∷ digits) h =
    let range = digit_from_value d h.0 in
    let low : 48 ≤ d = range.0 in
    All-cons (λ b. is_white b ≡ false) d digits (rw (ne_eqb d 32 (λ h. omega arith), ne_eqb d 9 (λ h. omega arith), ne_eqb d 13 (λ h. omega arith), ne_eqb d 10 (λ h. omega arith)) refl) (digits-plain digits h.1)

digits-ascii : (digits : List ℕ) → AllDigits 10 digits → list_all is_ascii_digit digits ≡ true
digits-ascii [] h = refl
digits-ascii (d ∷ digits) h =
    let range = digit_from_value d h.0 in
    and_from _ _ (and_from _ _ (le-leb 48 d range.0) (le-leb d 57 range.1)) (digits-ascii digits h.1)

plain-decimal : (n : ℕ) → n < 2 ^ 64 → IsPlain (decimal n)
plain-decimal n fits = let numeral = decimal_is_IsNumeral n fits in (numeral.0.0, digits-plain (decimal n) numeral.0.1)

number-decimal : (n : ℕ) → n < 2 ^ 64 → number (decimal n) ≡ Some n
number-decimal n fits =
    let numeral = decimal_is_IsNumeral n fits in
    let value : digits_value 10 (decimal n) ≡ n = numeral.1 in
    number-some (decimal n) numeral.0.0 (digits-ascii (decimal n) numeral.0.1) (rw value fits) ∙ ap Some value

size-decimal : (n : ℕ) → n < 2 ^ 32 → block_size_of (decimal n) ≡ Some n
unfolding block_size_of
size-decimal n fits =
    ap (number_if (λ n. ltb n 4294967296)) (number-decimal n (omega (arith, fits)))
    ∙ cond-true (ltb n 4294967296) _ _ (lt-ltb n 4294967296 (omega (arith, fits)))

-- ---- hexadecimal digits

digit-cases : (t u v : Bool) (a b c : ℕ) → is_some (cond t (Some a) (cond u (Some b) (cond v (Some c) None))) ≡ true → (t ≡ true) ⊎ ((u ≡ true) ⊎ (v ≡ true))
digit-cases true u v a b c h = inl refl
digit-cases false true v a b c h = inr (inl refl)
digit-cases false false true a b c h = inr (inr refl)
digit-cases false false false a b c h = cc

high-digit : (c : ℕ) → is_hex_digit c ≡ true → 48 ≤ c
high-digit c h = elim (digit-cases (leb 65 c && leb c 70) (leb 97 c && leb c 102) (leb 48 c && leb c 57) (c - 55) (c - 87) (c - 48) h) [
  | inl upper ↦ let low = leb-true 65 c (and_parts (leb 65 c) _ upper).0 in omega (arith, low)
  | inr rest ↦ elim rest [
    | inl lower ↦ let low = leb-true 97 c (and_parts (leb 97 c) _ lower).0 in omega (arith, low)
    | inr digit ↦ leb-true 48 c (and_parts (leb 48 c) _ digit).0
  ]
]

hex-plain : (text : List ℕ) → AllPass is_hex_digit text → All (λ b. is_white b ≡ false) text
hex-plain [] h = All-nil (λ b. is_white b ≡ false)
hex-plain (c ∷ text) h =
    let low : 48 ≤ c = high-digit c (All-head (λ x. is_hex_digit x ≡ true) c text h) in
    All-cons (λ b. is_white b ≡ false) c text (rw (ne_eqb c 32 (λ h. omega arith), ne_eqb c 9 (λ h. omega arith), ne_eqb c 13 (λ h. omega arith), ne_eqb c 10 (λ h. omega arith)) refl) (hex-plain text (All-tail (λ x. is_hex_digit x ≡ true) c text h))

plain-hex : (bytes : List ℕ) → 0 < length bytes → IsBytes bytes → IsPlain (encode_lower bytes)
plain-hex bytes some each =
    let twice = length-encode_with lower_digits bytes in
    (omega (arith, twice, some), hex-plain (encode_lower bytes) (decode_of-ok (encode_lower bytes) bytes (decode_of-encode_lower bytes each)).1)

root-read : (root : List ℕ) → length root ≡ 32 → IsBytes root → root_of (encode_lower root) ≡ Some root
unfolding root_of
root-read root size each = ap result_ok (decode_sized-encode_lower root 32 size each)

plain-salt : (salt : List ℕ) → IsBytes salt → IsPlain (salt_word salt)
plain-salt [] each = (omega arith, plain-from (codes "-") refl)
plain-salt (byte ∷ more) each = plain-hex (byte ∷ more) (omega arith) each

not_dash : (word : Word) (b : Bool) → bytes_eq word (codes "-") ≡ b → 2 ≤ length word → b ≡ false
not_dash word true is long =
    let same : word ≡ codes "-" = (bytes_eq-Decides word (codes "-")).0 is in
    let one : length word ≡ 1 = ap length same in
    absurd (omega (arith, one, long))
not_dash word false is long = refl

salt-read : (salt : List ℕ) → length salt ≤ 256 → IsBytes salt → salt_of (salt_word salt) ≡ Some salt
unfolding salt_of
salt-read [] few each = refl
salt-read (byte ∷ more) few each =
    let salt : List ℕ = byte ∷ more in
    let word : Word = encode_lower salt in
    let twice : length word ≡ 2 * length salt = length-encode_with lower_digits salt in
    let some : 0 < length salt = omega arith in
    let half : length word / 2 ≡ length salt = omega (arith, twice) in
    let other : bytes_eq word (codes "-") ≡ false = not_dash word (bytes_eq word (codes "-")) refl (omega (arith, twice, some)) in
    cond-false (bytes_eq word (codes "-")) _ _ other
    ∙ cond-false (ltb 512 (length word)) _ _ (le-ltb 512 (length word) (omega (arith, twice, few)))
    ∙ ap result_ok (decode_sized-encode_lower salt (length word / 2) (sym half) each)

-- ---- lines

named : (name : PinName) → name_of (name_text name) ≡ Some name
named Root = refl
named Salt = refl
named DataBlockSize = refl
named HashBlockSize = refl
named DataBlocks = refl

words-line : (name : PinName) (value : Word) → IsPlain value → words (line_text name value) ≡ name_text name ∷ value ∷ []
words-line name value plain =
    words-next (name_text name) value (plain-name name) ∙ ap (λ (ws : List Word). name_text name ∷ ws) (words-last value plain)

line-taken : (fields : PinFields) (name : PinName) (value : Word) → IsPlain value → take_line fields (words (line_text name value)) ≡ set_field fields name value
line-taken fields Root value plain = ap (take_line fields) (words-line Root value plain)
line-taken fields Salt value plain = ap (take_line fields) (words-line Salt value plain)
line-taken fields DataBlockSize value plain = ap (take_line fields) (words-line DataBlockSize value plain)
line-taken fields HashBlockSize value plain = ap (take_line fields) (words-line HashBlockSize value plain)
line-taken fields DataBlocks value plain = ap (take_line fields) (words-line DataBlocks value plain)

lines-taken : (fields fields' : PinFields) (name : PinName) (value : Word) (more : List (List ℕ)) → IsPlain value → set_field fields name value ≡ Ok fields' → take_lines fields (line_text name value ∷ more) ≡ take_lines fields' more
lines-taken fields fields' Root value more plain set = ap (λ (r : Result PinFields PinFault). r >>= (λ (f : PinFields). take_lines f more)) (line-taken fields Root value plain ∙ set)
lines-taken fields fields' Salt value more plain set = ap (λ (r : Result PinFields PinFault). r >>= (λ (f : PinFields). take_lines f more)) (line-taken fields Salt value plain ∙ set)
lines-taken fields fields' DataBlockSize value more plain set = ap (λ (r : Result PinFields PinFault). r >>= (λ (f : PinFields). take_lines f more)) (line-taken fields DataBlockSize value plain ∙ set)
lines-taken fields fields' HashBlockSize value more plain set = ap (λ (r : Result PinFields PinFault). r >>= (λ (f : PinFields). take_lines f more)) (line-taken fields HashBlockSize value plain ∙ set)
lines-taken fields fields' DataBlocks value more plain set = ap (λ (r : Result PinFields PinFault). r >>= (λ (f : PinFields). take_lines f more)) (line-taken fields DataBlocks value plain ∙ set)

split-line : (line rest : List ℕ) → All (λ b. eqb b 10 ≡ false) line → text_lines ((line ++ 10 ∷ []) ++ rest) ≡ line ∷ text_lines rest
unfolding text_lines
split-line line rest one = ap (slice_split (λ b. eqb b 10)) (append_assoc line (10 ∷ []) rest) ∙ slice_split_at (λ b. eqb b 10) line 10 rest one refl

no_lines : text_lines [] ≡ [] ∷ []
unfolding text_lines
no_lines = refl

one-pin_line : (name : PinName) (value : Word) → IsPlain value → All (λ b. eqb b 10 ≡ false) (line_text name value)
one-pin_line name value plain =
    let P = λ (b : ℕ). eqb b 10 ≡ false in
    All-append P (name_text name) (32 ∷ value) (one_line (name_text name) (plain-name name).1) (All-cons P 32 value refl (one_line value plain.1))

one-head : All (λ b. eqb b 10 ≡ false) (codes "dmstack-pin 1")
one-head = not-ten (codes "dmstack-pin 1") refl
  where
    not-ten : (text : List ℕ) → list_all (λ b. not (eqb b 10)) text ≡ true → All (λ b. eqb b 10 ≡ false) text
    not-ten [] h = All-nil (λ b. eqb b 10 ≡ false)
    not-ten (b ∷ text) h =
        let parts = and_parts (not (eqb b 10)) (list_all (λ b. not (eqb b 10)) text) h in
        All-cons (λ b. eqb b 10 ≡ false) b text (not_false (eqb b 10) parts.0) (not-ten text parts.1)

-- a line that was printed, in front of others, sets its field
taken : (fields fields' : PinFields) (name : PinName) (value : Word) (rest : List ℕ) → IsPlain value → set_field fields name value ≡ Ok fields'
    → take_lines fields (text_lines (pin_line name value ++ rest)) ≡ take_lines fields' (text_lines rest)
taken fields fields' name value rest plain set =
    ap (take_lines fields) (split-line (line_text name value) rest (one-pin_line name value plain))
    ∙ lines-taken fields fields' name value (text_lines rest) plain set

-- ---- pins

module _ (pin : Pin) (root_size : length pin.root ≡ 32) (root_bytes : IsBytes pin.root) (salt_size : length pin.salt ≤ 256) (salt_bytes : IsBytes pin.salt)
    (data_size : pin.data_block < 2 ^ 32) (hash_size : pin.hash_block < 2 ^ 32) (count : pin.blocks < 2 ^ 64) where
  with_root : PinFields
  with_root = record { root = Some pin.root; salt = None; data_block = None; hash_block = None; blocks = None }

  with_salt : PinFields
  with_salt = record { root = Some pin.root; salt = Some pin.salt; data_block = None; hash_block = None; blocks = None }

  with_data_block : PinFields
  with_data_block = record { root = Some pin.root; salt = Some pin.salt; data_block = Some pin.data_block; hash_block = None; blocks = None }

  with_hash_block : PinFields
  with_hash_block = record { root = Some pin.root; salt = Some pin.salt; data_block = Some pin.data_block; hash_block = Some pin.hash_block; blocks = None }

  whole : PinFields
  whole = record { root = Some pin.root; salt = Some pin.salt; data_block = Some pin.data_block; hash_block = Some pin.hash_block; blocks = Some pin.blocks }

  set-root : set_field no_fields Root (encode_lower pin.root) ≡ Ok with_root
  unfolding with_root
  set-root = ap (λ (o : Option (List ℕ)). once Root false o >>= (λ (v : List ℕ). Ok (record no_fields { root = Some v }))) (root-read pin.root root_size root_bytes)

  set-salt : set_field with_root Salt (salt_word pin.salt) ≡ Ok with_salt
  unfolding with_root with_salt
  set-salt = ap (λ (o : Option (List ℕ)). once Salt false o >>= (λ (v : List ℕ). Ok (record with_root { salt = Some v }))) (salt-read pin.salt salt_size salt_bytes)

  set-data_block : set_field with_salt DataBlockSize (decimal pin.data_block) ≡ Ok with_data_block
  unfolding with_salt with_data_block
  set-data_block = ap (λ (o : Option ℕ). once DataBlockSize false o >>= (λ (v : ℕ). Ok (record with_salt { data_block = Some v }))) (size-decimal pin.data_block data_size)

  set-hash_block : set_field with_data_block HashBlockSize (decimal pin.hash_block) ≡ Ok with_hash_block
  unfolding with_data_block with_hash_block
  set-hash_block = ap (λ (o : Option ℕ). once HashBlockSize false o >>= (λ (v : ℕ). Ok (record with_data_block { hash_block = Some v }))) (size-decimal pin.hash_block hash_size)

  set-blocks : set_field with_hash_block DataBlocks (decimal pin.blocks) ≡ Ok whole
  unfolding with_hash_block whole
  set-blocks = ap (λ (o : Option ℕ). once DataBlocks false o >>= (λ (v : ℕ). Ok (record with_hash_block { blocks = Some v }))) (number-decimal pin.blocks count)

  lines-read : take_lines no_fields (text_lines (pin_lines (pin_words pin))) ≡ Ok whole
  unfolding pin_words
  lines-read =
      taken no_fields with_root Root (encode_lower pin.root) _ (plain-hex pin.root (omega (arith, root_size)) root_bytes) set-root
      ∙ taken with_root with_salt Salt (salt_word pin.salt) _ (plain-salt pin.salt salt_bytes) set-salt
      ∙ taken with_salt with_data_block DataBlockSize (decimal pin.data_block) _ (plain-decimal pin.data_block (omega (arith, data_size))) set-data_block
      ∙ taken with_data_block with_hash_block HashBlockSize (decimal pin.hash_block) _ (plain-decimal pin.hash_block (omega (arith, hash_size))) set-hash_block
      ∙ taken with_hash_block whole DataBlocks (decimal pin.blocks) [] (plain-decimal pin.blocks count) set-blocks
      ∙ ap (take_lines whole) no_lines

  finished : finish whole ≡ Ok pin
  unfolding whole
  finished = refl

  -- what was printed gives the pin back
  pub pin-read : pin_of (pin_text pin) ≡ Ok pin
  unfolding pin_of pin_text
  pin-read =
      ap (λ (l : List (List ℕ)). fields_behind l >>= finish) (split-line (codes "dmstack-pin 1") (pin_lines (pin_words pin)) one-head)
      ∙ ap (λ (r : Result PinFields PinFault). r >>= finish) lines-read
      ∙ finished

-- the lines one after the other
pub text-printed : (pin : Pin) (t0 t1 t2 t3 t4 t5 : List ℕ) → t0 ≡ codes "dmstack-pin 1\n" → t1 ≡ t0 ++ pin_line Root (encode_lower pin.root) → t2 ≡ t1 ++ pin_line Salt (salt_word pin.salt)
    → t3 ≡ t2 ++ pin_line DataBlockSize (decimal pin.data_block) → t4 ≡ t3 ++ pin_line HashBlockSize (decimal pin.hash_block) → t5 ≡ t4 ++ pin_line DataBlocks (decimal pin.blocks) → t5 ≡ pin_text pin
unfolding pin_text pin_words
text-printed pin t0 t1 t2 t3 t4 t5 e0 e1 e2 e3 e4 e5 =
    let head : List ℕ = codes "dmstack-pin 1\n" in
    let a : List ℕ = pin_line Root (encode_lower pin.root) in
    let b : List ℕ = pin_line Salt (salt_word pin.salt) in
    let d : List ℕ = pin_line DataBlockSize (decimal pin.data_block) in
    let h : List ℕ = pin_line HashBlockSize (decimal pin.hash_block) in
    let n : List ℕ = pin_line DataBlocks (decimal pin.blocks) in
    e5 ∙ ap (λ t. t ++ n) (e4 ∙ ap (λ t. t ++ h) (e3 ∙ ap (λ t. t ++ d) (e2 ∙ ap (λ t. t ++ b) (e1 ∙ ap (λ t. t ++ a) e0))))
    ∙ joined head a b d h n
  where
    joined : (head a b d h n : List ℕ) → ((((head ++ a) ++ b) ++ d) ++ h) ++ n ≡ head ++ (a ++ (b ++ (d ++ (h ++ (n ++ [])))))
    joined head a b d h n = simp (append_assoc, append-nil)
