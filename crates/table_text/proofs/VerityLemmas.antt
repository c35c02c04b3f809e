-- The arguments of a `verity` line: too few, and within the grammar's limits.
use Rattle.std.proofs.Common.{◌≡◌, ℕ, ◌/◌, ◌<◌, ◌≤◌, ◌&&◌, Bool, true, false, leb, List, [], ◌∷◌, length, drop, Ok, Err, ok_or, Option, Some, None, codes, refl, ap, sym, subst, ◌∙◌, inl, inr, arith}
use Rattle.std.specs.Prelude.{◌⊎◌, ◌↔◌, IsSome, IfSome, if◌then◌else◌}
use Rattle.std.specs.Str.{bytes_eq}
use Rattle.std.proofs.lemmas.Bool.{cases_Bool, cond-true, cond-false, and_parts, leb-true}
use Rattle.hex.specs.Hex.{IsBytes}
use Rattle.tree_shape.specs.Shape.{is_block_size}
use Rattle.dm_table.specs.declared.verity.Verity.{Verity}
use Rattle.dm_table.specs.declared.fault.TextKind.TheVariants as kinds
use Rattle.dm_table.specs.Words.{Word}
use Rattle.dm_table.specs.Names.{is_device, most_name}
use Rattle.dm_table.specs.Numbers.{number}
use Rattle.dm_table.specs.Reading.{Read, ◌>>=◌}
use Rattle.dm_table.specs.Arguments.{device_at, number_at, bytes_at}
use Rattle.dm_table.specs.Options.{is_one_of, options_at}
use Rattle.dm_table.specs.declared.parity.Parity.{Parity}
use Rattle.dm_table.specs.ValuedOptions.{fec_blocks, fec_roots, fec_start, option_value, root_hash_sig_key_desc, use_fec_from_device, valued_options}
use Rattle.dm_table.specs.Parity.{fec_at, has_parity, parity_at, roots_at, IsParityOfGrammar}
use Rattle.dm_table.specs.SignatureKey.{description_at, is_key_description, signature_key_at}
use Rattle.dm_table.specs.Verity.{version_at, block_size_at, algorithm_at, corruption_at, digest_at, known_verity_options, salt_at, verity_at}
use Rattle.dm_table.specs.Grammar.{IsVerityOfGrammar}
use Rattle.dm_table.proofs.lemmas.NameLengthLemmas.{device-length}
use Rattle.table_text.proofs.ReadValueLemmas.{bind_ok, ok_same, ok_or_ok, chosen, number_if-some, number_at-fits}
use Rattle.table_text.proofs.BytesLemmas.{bytes_at-grammar}

and-false : (a : Bool) → (a && false) ≡ false
and-false true = refl
and-false false = refl

gt-leb : (a b : ℕ) → b < a → leb a b ≡ false
gt-leb a b h = elim (cases_Bool (leb a b)) [
  | inl le ↦ let low = leb-true a b le in absurd (omega (arith, low, h))
  | inr gt ↦ gt
]

pub device_at-length : (word : Word) → device_at word ≡ Ok word → length word ≤ most_name
device_at-length word e = device-length word (chosen (is_device word) (Ok word) kinds.Name word e).0

pub verity-few : (words : List Word) → length words < 10 → verity_at words ≡ Err kinds.ArgCount
unfolding verity_at
verity-few [] few = refl
verity-few (a ∷ []) few = refl
verity-few (a ∷ b ∷ []) few = refl
verity-few (a ∷ b ∷ c ∷ []) few = refl
verity-few (a ∷ b ∷ c ∷ d ∷ []) few = refl
verity-few (a ∷ b ∷ c ∷ d ∷ e ∷ []) few = refl
verity-few (a ∷ b ∷ c ∷ d ∷ e ∷ f ∷ []) few = refl
verity-few (a ∷ b ∷ c ∷ d ∷ e ∷ f ∷ g ∷ []) few = refl
verity-few (a ∷ b ∷ c ∷ d ∷ e ∷ f ∷ g ∷ h ∷ []) few = refl
verity-few (a ∷ b ∷ c ∷ d ∷ e ∷ f ∷ g ∷ h ∷ i ∷ []) few = refl
verity-few (a ∷ b ∷ c ∷ d ∷ e ∷ f ∷ g ∷ h ∷ i ∷ j ∷ more) few = absurd (omega arith)

device_at-grammar : (word name : Word) → device_at word ≡ Ok name → is_device name ≡ true
device_at-grammar word name e =
    let read = chosen (is_device word) (Ok word) kinds.Name name e in
    subst (λ w. is_device w ≡ true) (ok_same word name read.1) read.0

block_size_at-grammar : (word : Word) (n : ℕ) → block_size_at word ≡ Ok n → is_block_size n ≡ true
block_size_at-grammar word n e = (number_if-some is_block_size (number word) n (ok_or_ok _ kinds.BlockSize n e)).1

salt_at-grammar : (word : Word) (salt : List ℕ) → salt_at word ≡ Ok salt → (length salt ≤ 256) × IsBytes salt
unfolding salt_at
salt_at-grammar word salt e = elim (cases_Bool (bytes_eq word (codes "-"))) [
  | inl none ↦
      let same : [] ≡ salt = ok_same [] salt (sym (cond-true (bytes_eq word (codes "-")) _ _ none) ∙ e) in
      subst (λ xs. (length xs ≤ 256) × IsBytes xs) same (omega arith, λ k. omega arith)
  | inr some ↦
      let read = chosen (leb 2 (length word) && leb (length word) 512) (bytes_at (length word / 2) kinds.Salt word) kinds.Salt salt (sym (cond-false (bytes_eq word (codes "-")) _ _ some) ∙ e) in
      let most = leb-true (length word) 512 (and_parts (leb 2 (length word)) _ read.0).1 in
      let bytes = bytes_at-grammar (length word / 2) kinds.Salt word salt read.1 in
      let size = bytes.0 in
      (omega (arith, most, size), bytes.1)
]

roots_at-grammar : (word : Word) (n : ℕ) → roots_at word ≡ Ok n → (2 ≤ n) × (n ≤ 24)
roots_at-grammar word n e =
    let read = bind_ok (number_at word) _ n e in
    let within = chosen (leb 2 read.0 && leb read.0 24) (Ok read.0) kinds.Option n read.2 in
    let parts = and_parts (leb 2 read.0) _ within.0 in
    subst (λ k. (2 ≤ k) × (k ≤ 24)) (ok_same read.0 n within.1) (leb-true 2 read.0 parts.0, leb-true read.0 24 parts.1)

fec-grammar : (words : List Word) (parity : Parity) → fec_at words ≡ Ok parity → IsParityOfGrammar parity
unfolding fec_at
fec-grammar words parity e =
    let name = bind_ok (option_value use_fec_from_device words) _ parity e in
    let device = bind_ok (device_at name.0) _ parity name.2 in
    let count = bind_ok (option_value fec_roots words) _ parity device.2 in
    let roots = bind_ok (roots_at count.0) _ parity count.2 in
    let covered = bind_ok (option_value fec_blocks words) _ parity roots.2 in
    let blocks = bind_ok (number_at covered.0) _ parity covered.2 in
    let begin = bind_ok (option_value fec_start words) _ parity blocks.2 in
    let start = bind_ok (number_at begin.0) _ parity begin.2 in
    let within = roots_at-grammar count.0 roots.0 roots.1 in
    subst IsParityOfGrammar (ok_same _ parity start.2) (record {
      device = device_at-grammar name.0 device.0 device.1;
      some_roots = within.0;
      most_roots = within.1;
      blocks = number_at-fits covered.0 blocks.0 blocks.1;
      start = number_at-fits begin.0 start.0 start.1;
    })

-- parity, or none
pub parity-none : (options words : List Word) → has_parity options ≡ false → parity_at options words ≡ Ok None
unfolding parity_at
parity-none options words none = cond-false _ _ _ none

pub parity-some : (options words : List Word) (read : Read Parity) → has_parity options ≡ true → fec_at words ≡ read → parity_at options words ≡ (read >>= (λ parity. Ok (Some parity)))
unfolding parity_at
parity-some options words read some e = cond-true _ _ _ some ∙ ap (λ r. r >>= (λ parity. Ok (Some parity))) e

parity-grammar : (options words : List Word) (parity : Option Parity) → parity_at options words ≡ Ok parity → IfSome parity IsParityOfGrammar
unfolding parity_at
parity-grammar options words None e = tt
parity-grammar options words (Some parity) e = elim (cases_Bool (has_parity options)) [
  | inl has ↦
      let read = bind_ok (fec_at words) _ (Some parity) (sym (cond-true (has_parity options) _ _ has) ∙ e) in
      let same : read.0 ≡ parity = let h = read.2 in cc in
      fec-grammar words parity (read.1 ∙ ap Ok same)
  | inr none ↦ let h = sym (cond-false (has_parity options) _ _ none) ∙ e in cc
]

-- a key description, or none
pub signature_key-none : (options words : List Word) → is_one_of root_hash_sig_key_desc options ≡ false → signature_key_at options words ≡ Ok None
unfolding signature_key_at
signature_key-none options words none = cond-false _ _ _ none

pub signature_key-some : (options words : List Word) (read : Read Word) → is_one_of root_hash_sig_key_desc options ≡ true → description_at words ≡ read
    → signature_key_at options words ≡ (read >>= (λ key. Ok (Some key)))
unfolding signature_key_at
signature_key-some options words read some e = cond-true _ _ _ some ∙ ap (λ r. r >>= (λ key. Ok (Some key))) e

-- the description, or the fault of a word that is none
pub description-read : (words : List Word) (word : Word) → option_value root_hash_sig_key_desc words ≡ Ok word → is_key_description word ≡ true → description_at words ≡ Ok word
unfolding description_at
description-read words word e is = ap (λ r. r >>= (λ w. if is_key_description w then Ok w else Err kinds.Option)) e ∙ cond-true _ _ _ is

pub description-fault : (words : List Word) (word : Word) → option_value root_hash_sig_key_desc words ≡ Ok word → is_key_description word ≡ false → description_at words ≡ Err kinds.Option
unfolding description_at
description-fault words word e none = ap (λ r. r >>= (λ w. if is_key_description w then Ok w else Err kinds.Option)) e ∙ cond-false _ _ _ none

signature_key-grammar : (options words : List Word) (key : Option Word) → signature_key_at options words ≡ Ok key → IfSome key (λ key. is_key_description key ≡ true)
unfolding signature_key_at description_at
signature_key-grammar options words None e = tt
signature_key-grammar options words (Some key) e = elim (cases_Bool (is_one_of root_hash_sig_key_desc options)) [
  | inl has ↦
      let read = bind_ok (description_at words) _ (Some key) (sym (cond-true (is_one_of root_hash_sig_key_desc options) _ _ has) ∙ e) in
      let same : read.0 ≡ key = let h = read.2 in cc in
      let word = bind_ok (option_value root_hash_sig_key_desc words) _ key (read.1 ∙ ap Ok same) in
      let is = chosen (is_key_description word.0) (Ok word.0) kinds.Option key word.2 in
      subst (λ (w : Word). is_key_description w ≡ true) (ok_same word.0 key is.1) is.0
  | inr none ↦ let h = sym (cond-false (is_one_of root_hash_sig_key_desc options) _ _ none) ∙ e in cc
]

-- what was read keeps to the grammar's limits
pub verity-grammar : (words : List Word) (verity : Verity) → verity_at words ≡ Ok verity → IsVerityOfGrammar verity
unfolding verity_at
verity-grammar [] verity x = cc
verity-grammar (a ∷ []) verity x = cc
verity-grammar (a ∷ b ∷ []) verity x = cc
verity-grammar (a ∷ b ∷ c ∷ []) verity x = cc
verity-grammar (a ∷ b ∷ c ∷ d ∷ []) verity x = cc
verity-grammar (a ∷ b ∷ c ∷ d ∷ e ∷ []) verity x = cc
verity-grammar (a ∷ b ∷ c ∷ d ∷ e ∷ f ∷ []) verity x = cc
verity-grammar (a ∷ b ∷ c ∷ d ∷ e ∷ f ∷ g ∷ []) verity x = cc
verity-grammar (a ∷ b ∷ c ∷ d ∷ e ∷ f ∷ g ∷ h ∷ []) verity x = cc
verity-grammar (a ∷ b ∷ c ∷ d ∷ e ∷ f ∷ g ∷ h ∷ i ∷ []) verity x = cc
verity-grammar (version ∷ dev ∷ hash_dev ∷ data_size ∷ hash_size ∷ count ∷ begin ∷ algorithm ∷ digest ∷ digits ∷ params) verity x =
    let one = bind_ok (version_at version) _ verity x in
    let below = bind_ok (device_at dev) _ verity one.2 in
    let hash = bind_ok (device_at hash_dev) _ verity below.2 in
    let data_block = bind_ok (block_size_at data_size) _ verity hash.2 in
    let hash_block = bind_ok (block_size_at hash_size) _ verity data_block.2 in
    let blocks = bind_ok (number_at count) _ verity hash_block.2 in
    let start = bind_ok (number_at begin) _ verity blocks.2 in
    let known = bind_ok (algorithm_at algorithm) _ verity start.2 in
    let root = bind_ok (digest_at digest) _ verity known.2 in
    let salt = bind_ok (salt_at digits) _ verity root.2 in
    let options = bind_ok (options_at known_verity_options valued_options params) _ verity salt.2 in
    let corruption = bind_ok (corruption_at options.0) _ verity options.2 in
    let parity = bind_ok (parity_at options.0 (drop 1 params)) _ verity corruption.2 in
    let key = bind_ok (signature_key_at options.0 (drop 1 params)) _ verity parity.2 in
    let root_bytes = bytes_at-grammar 32 kinds.Digest digest root.0 root.1 in
    let salt_bytes = salt_at-grammar digits salt.0 salt.1 in
    subst IsVerityOfGrammar (ok_same _ verity key.2) (record {
      devices = record { below = device_at-grammar dev below.0 below.1; hash = device_at-grammar hash_dev hash.0 hash.1 };
      places = record {
        data_block = block_size_at-grammar data_size data_block.0 data_block.1;
        hash_block = block_size_at-grammar hash_size hash_block.0 hash_block.1;
        blocks = number_at-fits count blocks.0 blocks.1;
        start = number_at-fits begin start.0 start.1;
      };
      root_size = root_bytes.0;
      root_bytes = root_bytes.1;
      salt_size = salt_bytes.0;
      salt_bytes = salt_bytes.1;
      parity = parity-grammar options.0 (drop 1 params) parity.0 parity.1;
      signature_key = signature_key-grammar options.0 (drop 1 params) key.0 key.1;
    })

pub salt_at-size : (word : Word) → bytes_eq word (codes "-") ≡ false → (length word < 2) ⊎ ((2 ≤ length word) × (512 < length word)) → salt_at word ≡ Err kinds.Salt
unfolding salt_at
salt_at-size word some (inl few) = cond-false _ _ _ some ∙ cond-false _ _ _ (ap (λ b. b && leb (length word) 512) (gt-leb 2 (length word) few))
salt_at-size word some (inr many) = cond-false _ _ _ some ∙ cond-false _ _ _ (ap (λ b. leb 2 (length word) && b) (gt-leb (length word) 512 many.1) ∙ and-false _)

-- a salt that is made of no bytes
pub salt-made : (o : Option (List ℕ)) (bytes : List ℕ) → (IsSome o ↔ (length bytes ≤ 256)) → IfSome o (λ s. s ≡ bytes) → length bytes ≤ 256 → ok_or o kinds.Salt ≡ Ok bytes
salt-made None bytes found value fits = let some = found.1 fits in cc
salt-made (Some s) bytes found value fits = ap Ok value
