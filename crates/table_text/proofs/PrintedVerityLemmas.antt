-- The printed arguments of a `verity` line read back.
use Rattle.std.proofs.Common.{◌≡◌, ℕ, ◌*◌, ◌/◌, ◌^◌, ◌<◌, ◌≤◌, Bool, true, false, List, [], ◌∷◌, ◌++◌, length, decimal, Ok, ok_or, Option, Some, None, codes, refl, ap, sym, subst, ◌∙◌, inl, inr, arith}
use Rattle.std.specs.Prelude.{IfSome}
use Rattle.std.specs.Str.{bytes_eq}
use Rattle.std.proofs.lemmas.Slice.Eq.{bytes_eq-Decides}
use Rattle.std.proofs.lemmas.Bool.{cases_Bool, cond-true}
use Rattle.hex.specs.Hex.{IsBytes, encode_lower, lower_digits}
use Rattle.hex.proofs.HexLemmas.{length-encode_with}
use Rattle.tree_shape.specs.Shape.{is_block_size}
use Rattle.tree_shape.proofs.lemmas.ShapeFaultLemmas.{is_block_size-cases}
use Rattle.dm_table.specs.declared.table.Target.TheVariants as targets
use Rattle.dm_table.specs.declared.target_type.TargetType.TheVariants as types
use Rattle.dm_table.specs.declared.verity.CorruptionMode.{CorruptionMode}
use Rattle.dm_table.specs.declared.verity.CorruptionMode.TheVariants.{Fail, Panic, Restart}
use Rattle.dm_table.specs.declared.verity.Verity.{Verity}
use Rattle.dm_table.specs.declared.fault.TextKind.TheVariants as kinds
use Rattle.dm_table.specs.Words.{Word}
use Rattle.dm_table.specs.Numbers.{number, number_if}
use Rattle.dm_table.specs.Reading.{◌>>=◌}
use Rattle.dm_table.specs.declared.parity.Parity.{Parity}
use Rattle.dm_table.specs.ValuedOptions.{valued_options}
use Rattle.dm_table.specs.Parity.{parity_at, parity_words, IsParityOfGrammar}
use Rattle.dm_table.specs.SignatureKey.{is_key_description, signature_key_at, signature_words}
use Rattle.table_text.specs.ArgumentWords.{options_words, salt_word, verity_words}
use Rattle.dm_table.specs.Verity.{version_at, block_size_at, corruption_words, salt_at, ignore_zero_blocks, known_verity_options, try_verify_in_tasklet, verity_options, verity_at, word_if}
use Rattle.dm_table.specs.Grammar.{IsVerityOfGrammar}
use Rattle.table_text.proofs.PrintedTargetLemmas.{ReadBack, read_back}
use Rattle.table_text.proofs.PrintedLemmas.{IsPrinted, ArePrinted, printed-decimal, printed-description, printed-device, number-decimal, number_at-decimal}
use Rattle.table_text.proofs.PrintedBytesLemmas.{bytes_at-printed, printed-bytes}
use Rattle.table_text.proofs.PrintedOptionLemmas.{printed-counted, valued-printed, words-counted}
use Rattle.table_text.proofs.PrintedVerityOptionLemmas.{device_at-printed, names_of, options-apart, options-read, parity-printed, signature-printed}
use Rattle.dm_table.proofs.lemmas.ReadLineLemmas.{salt_at-none, salt_at-digits}

-- printed words
block_size-fits : (n : ℕ) → is_block_size n ≡ true → n < 2 ^ 64
block_size-fits n h = elim (is_block_size-cases n h) [
  | inl low ↦ elim low [ inl e ↦ omega (arith, e) | inr e ↦ omega (arith, e) ]
  | inr high ↦ elim high [ inl e ↦ omega (arith, e) | inr e ↦ omega (arith, e) ]
]

block_size_at-printed : (n : ℕ) → is_block_size n ≡ true → block_size_at (decimal n) ≡ Ok n
block_size_at-printed n h =
    ap (λ o. ok_or (number_if is_block_size o) kinds.BlockSize) (number-decimal n (block_size-fits n h))
    ∙ ap (λ o. ok_or o kinds.BlockSize) (cond-true (is_block_size n) (Some n) None h)

version_at-printed : version_at (codes "1") ≡ Ok 1
unfolding number
version_at-printed = refl

salt_at-printed : (salt : List ℕ) → length salt ≤ 256 → IsBytes salt → salt_at (salt_word salt) ≡ Ok salt
salt_at-printed [] fits each = salt_at-none (codes "-") refl
salt_at-printed (byte ∷ more) fits each =
    let word = encode_lower (byte ∷ more) in
    let twice : length word ≡ 2 * length (byte ∷ more) = length-encode_with lower_digits (byte ∷ more) in
    let other : bytes_eq word (codes "-") ≡ false = elim (cases_Bool (bytes_eq word (codes "-"))) [
      | inl same ↦ let size = ap length ((bytes_eq-Decides word (codes "-")).0 same) in absurd (omega (arith, twice, size))
      | inr different ↦ different
    ] in
    salt_at-digits word other (omega (arith, twice)) (omega (arith, twice, fits))
    ∙ bytes_at-printed (length word / 2) kinds.Salt (byte ∷ more) (omega (arith, twice)) each

-- printed arguments read back
verity-printed : (verity : Verity) → IsVerityOfGrammar verity → verity_at (verity_words verity) ≡ Ok verity
unfolding verity_at verity_words
verity-printed verity h =
    let below = device_at-printed verity.data h.devices.below in
    let hash = device_at-printed verity.hash h.devices.hash in
    let data_block = block_size_at-printed verity.data_block h.places.data_block in
    let hash_block = block_size_at-printed verity.hash_block h.places.hash_block in
    let blocks = number_at-decimal verity.blocks h.places.blocks in
    let start = number_at-decimal verity.start h.places.start in
    let root = bytes_at-printed 32 kinds.Digest verity.root h.root_size h.root_bytes in
    let salt = salt_at-printed verity.salt h.salt_size h.salt_bytes in
    let back = options-read verity.corruption verity.ignore_zero_blocks verity.in_tasklet verity.parity verity.signature_key in
    let options = valued-printed known_verity_options valued_options (verity_options verity) back.count back.known in
    let parity = ap (parity_at (names_of verity.corruption verity.ignore_zero_blocks verity.in_tasklet verity.parity verity.signature_key)) (words-counted (verity_options verity))
    ∙ parity-printed verity.corruption verity.ignore_zero_blocks verity.in_tasklet verity.parity verity.signature_key h.parity in
    let key = ap (signature_key_at (names_of verity.corruption verity.ignore_zero_blocks verity.in_tasklet verity.parity verity.signature_key)) (words-counted (verity_options verity))
    ∙ signature-printed verity.corruption verity.ignore_zero_blocks verity.in_tasklet verity.parity verity.signature_key h.signature_key in
    rw (version_at-printed, below, hash, data_block, hash_block, blocks, start, root, salt, options, back.corruption, parity, key, back.ignores_zeros, back.in_tasklet) refl

printed-salt : (salt : List ℕ) → IsBytes salt → IsPrinted (salt_word salt)
printed-salt [] each = (omega arith, refl)
printed-salt (byte ∷ more) each = printed-bytes (byte ∷ more) (omega arith) each

printed-append : (front back : List Word) → ArePrinted front → ArePrinted back → ArePrinted (front ++ back)
printed-append [] back h g = g
printed-append (word ∷ front) back h g = (h.0, printed-append front back h.1 g)

printed-corruption : (mode : CorruptionMode) → ArePrinted (corruption_words mode)
printed-corruption Fail = tt
printed-corruption Restart = ((omega arith, refl), tt)
printed-corruption Panic = ((omega arith, refl), tt)

printed-if : (is_set : Bool) (word : Word) → IsPrinted word → ArePrinted (word_if is_set word)
printed-if true word h = (h, tt)
printed-if false word h = tt

printed-parity : (parity : Option Parity) → IfSome parity IsParityOfGrammar → ArePrinted (parity_words parity)
printed-parity None h = tt
printed-parity (Some parity) h =
    let most = h.most_roots in (
      (omega arith, refl),
      (
        printed-device parity.device h.device,
        (
          (omega arith, refl),
          (
            printed-decimal parity.blocks h.blocks,
            ((omega arith, refl), (printed-decimal parity.start h.start, ((omega arith, refl), (printed-decimal parity.roots (omega (arith, most)), tt)))),
          ),
        ),
      ),
    )

printed-signature : (key : Option Word) → IfSome key (λ key. is_key_description key ≡ true) → ArePrinted (signature_words key)
printed-signature None h = tt
printed-signature (Some key) h = ((omega arith, refl), (printed-description key h, tt))

printed-option : (verity : Verity) → IsVerityOfGrammar verity → ArePrinted (options_words (verity_options verity))
printed-option verity h =
    printed-counted (verity_options verity) (options-read verity.corruption verity.ignore_zero_blocks verity.in_tasklet verity.parity verity.signature_key).count
    (subst ArePrinted (sym (options-apart verity.corruption verity.ignore_zero_blocks verity.in_tasklet verity.parity verity.signature_key))
    (printed-append (corruption_words verity.corruption) _ (printed-corruption verity.corruption)
    (printed-append (word_if verity.ignore_zero_blocks ignore_zero_blocks) _ (printed-if verity.ignore_zero_blocks ignore_zero_blocks (omega arith, refl))
    (printed-append (word_if verity.in_tasklet try_verify_in_tasklet) _ (printed-if verity.in_tasklet try_verify_in_tasklet (omega arith, refl))
    (printed-append (parity_words verity.parity) _ (printed-parity verity.parity h.parity) (printed-signature verity.signature_key h.signature_key))))))

-- each word may be in a text
printed-verity : (verity : Verity) → IsVerityOfGrammar verity → ArePrinted (verity_words verity)
unfolding verity_words
printed-verity verity h =
    let size = h.root_size in (
      (omega arith, refl),
      (
        printed-device verity.data h.devices.below,
        (
          printed-device verity.hash h.devices.hash,
          (
            printed-decimal verity.data_block (block_size-fits verity.data_block h.places.data_block),
            (
              printed-decimal verity.hash_block (block_size-fits verity.hash_block h.places.hash_block),
              (
                printed-decimal verity.blocks h.places.blocks,
                (
                  printed-decimal verity.start h.places.start,
                  (
                    (omega arith, refl),
                    (printed-bytes verity.root (omega (arith, size)) h.root_bytes, (printed-salt verity.salt h.salt_bytes, printed-option verity h)),
                  ),
                ),
              ),
            ),
          ),
        ),
      ),
    )

-- the printed line reads back
pub verity-read_back : (verity : Verity) → IsVerityOfGrammar verity → ReadBack (targets.Verity verity) (codes "verity" ∷ verity_words verity)
verity-read_back verity h =
    read_back types.Verity (verity_words verity) (targets.Verity verity) (printed-verity verity h) (ap (λ r. r >>= (λ line. Ok (targets.Verity line))) (verity-printed verity h))
