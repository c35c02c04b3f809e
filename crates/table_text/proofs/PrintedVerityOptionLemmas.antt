-- The printed options of a `verity` line, read as its parity, its key description and its other options.
use Rattle.std.proofs.Common.{◌≡◌, ℕ, ◌^◌, ◌<◌, ◌≤◌, Bool, true, false, List, ◌++◌, length, decimal, Ok, Err, Option, Some, None, refl, ap, ◌∙◌, append_assoc, arith}
use Rattle.std.specs.Prelude.{IfSome, ◌&&◌, nat_le, if◌then◌else◌, is_some}
use Rattle.std.proofs.lemmas.Bool.{and_from, cond-false, cond-true, le-leb}
use Rattle.dm_table.specs.declared.verity.CorruptionMode.{CorruptionMode}
use Rattle.dm_table.specs.declared.verity.CorruptionMode.TheVariants.{Fail, Panic, Restart}
use Rattle.dm_table.specs.declared.fault.TextKind.TheVariants as kinds
use Rattle.dm_table.specs.Words.{Word}
use Rattle.dm_table.specs.Names.{is_device}
use Rattle.dm_table.specs.Reading.{◌>>=◌}
use Rattle.dm_table.specs.Arguments.{device_at}
use Rattle.dm_table.specs.Options.{are_options, is_one_of, option_name, option_names, value_of}
use Rattle.dm_table.specs.declared.parity.Parity.{Parity}
use Rattle.dm_table.specs.ValuedOptions.{root_hash_sig_key_desc, valued_options}
use Rattle.dm_table.specs.Parity.{fec_at, has_parity, parity_at, parity_words, roots_at, IsParityOfGrammar}
use Rattle.dm_table.specs.SignatureKey.{description_at, is_key_description, signature_key_at, signature_words}
use Rattle.dm_table.specs.Verity.{corruption_at, corruption_words, ignore_zero_blocks, known_verity_options, try_verify_in_tasklet, word_if}
use Rattle.table_text.proofs.PrintedLemmas.{number_at-decimal}
use Rattle.table_text.proofs.VerityLemmas.{description-read, signature_key-none, signature_key-some}

pub device_at-printed : (name : Word) → is_device name ≡ true → device_at name ≡ Ok name
device_at-printed name h = cond-true (is_device name) (Ok name) (Err kinds.Name) h

-- the options for these values, with their own values
abbrev pub options_of : CorruptionMode → Bool → Bool → Option Parity → Option Word → List Word
options_of mode ignores tasklet parity key = corruption_words mode ++ word_if ignores ignore_zero_blocks ++ word_if tasklet try_verify_in_tasklet ++ parity_words parity ++ signature_words key

abbrev pub names_of : CorruptionMode → Bool → Bool → Option Parity → Option Word → List Word
names_of mode ignores tasklet parity key = option_names valued_options false (options_of mode ignores tasklet parity key)

pub options-apart : (mode : CorruptionMode) (ignores tasklet : Bool) (parity : Option Parity) (key : Option Word)
    → options_of mode ignores tasklet parity key
    ≡ corruption_words mode ++ (word_if ignores ignore_zero_blocks ++ (word_if tasklet try_verify_in_tasklet ++ (parity_words parity ++ signature_words key)))
options-apart mode ignores tasklet parity key =
    append_assoc (corruption_words mode ++ word_if ignores ignore_zero_blocks ++ word_if tasklet try_verify_in_tasklet) (parity_words parity) (signature_words key)
    ∙ append_assoc (corruption_words mode ++ word_if ignores ignore_zero_blocks) (word_if tasklet try_verify_in_tasklet) (parity_words parity ++ signature_words key)
    ∙ append_assoc (corruption_words mode) (word_if ignores ignore_zero_blocks) (word_if tasklet try_verify_in_tasklet ++ (parity_words parity ++ signature_words key))

-- what these options are read as again
pub record AreReadBack (mode : CorruptionMode) (ignores tasklet : Bool) (parity : Option Parity) (key : Option Word) : Type 0 where
  pub known : are_options known_verity_options (names_of mode ignores tasklet parity key) ≡ true
  pub count : length (options_of mode ignores tasklet parity key) < 2 ^ 64
  pub corruption : corruption_at (names_of mode ignores tasklet parity key) ≡ Ok mode
  pub ignores_zeros : is_one_of ignore_zero_blocks (names_of mode ignores tasklet parity key) ≡ ignores
  pub in_tasklet : is_one_of try_verify_in_tasklet (names_of mode ignores tasklet parity key) ≡ tasklet
  pub has : has_parity (names_of mode ignores tasklet parity key) ≡ is_some parity
  pub signed : is_one_of root_hash_sig_key_desc (names_of mode ignores tasklet parity key) ≡ is_some key

pub options-read : (mode : CorruptionMode) (ignores tasklet : Bool) (parity : Option Parity) (key : Option Word) → AreReadBack mode ignores tasklet parity key
unfolding option_name option_names
options-read Fail true true None None = record { known = refl; count = omega arith; corruption = refl; ignores_zeros = refl; in_tasklet = refl; has = refl; signed = refl }
options-read Fail true true None (Some key) = record { known = refl; count = omega arith; corruption = refl; ignores_zeros = refl; in_tasklet = refl; has = refl; signed = refl }
options-read Fail true true (Some parity) None = record { known = refl; count = omega arith; corruption = refl; ignores_zeros = refl; in_tasklet = refl; has = refl; signed = refl }
options-read Fail true true (Some parity) (Some key) = record { known = refl; count = omega arith; corruption = refl; ignores_zeros = refl; in_tasklet = refl; has = refl; signed = refl }
options-read Fail true false None None = record { known = refl; count = omega arith; corruption = refl; ignores_zeros = refl; in_tasklet = refl; has = refl; signed = refl }
options-read Fail true false None (Some key) = record { known = refl; count = omega arith; corruption = refl; ignores_zeros = refl; in_tasklet = refl; has = refl; signed = refl }
options-read Fail true false (Some parity) None = record { known = refl; count = omega arith; corruption = refl; ignores_zeros = refl; in_tasklet = refl; has = refl; signed = refl }
options-read Fail true false (Some parity) (Some key) = record { known = refl; count = omega arith; corruption = refl; ignores_zeros = refl; in_tasklet = refl; has = refl; signed = refl }
options-read Fail false true None None = record { known = refl; count = omega arith; corruption = refl; ignores_zeros = refl; in_tasklet = refl; has = refl; signed = refl }
options-read Fail false true None (Some key) = record { known = refl; count = omega arith; corruption = refl; ignores_zeros = refl; in_tasklet = refl; has = refl; signed = refl }
options-read Fail false true (Some parity) None = record { known = refl; count = omega arith; corruption = refl; ignores_zeros = refl; in_tasklet = refl; has = refl; signed = refl }
options-read Fail false true (Some parity) (Some key) = record { known = refl; count = omega arith; corruption = refl; ignores_zeros = refl; in_tasklet = refl; has = refl; signed = refl }
options-read Fail false false None None = record { known = refl; count = omega arith; corruption = refl; ignores_zeros = refl; in_tasklet = refl; has = refl; signed = refl }
options-read Fail false false None (Some key) = record { known = refl; count = omega arith; corruption = refl; ignores_zeros = refl; in_tasklet = refl; has = refl; signed = refl }
options-read Fail false false (Some parity) None = record { known = refl; count = omega arith; corruption = refl; ignores_zeros = refl; in_tasklet = refl; has = refl; signed = refl }
options-read Fail false false (Some parity) (Some key) = record { known = refl; count = omega arith; corruption = refl; ignores_zeros = refl; in_tasklet = refl; has = refl; signed = refl }
options-read Restart true true None None = record { known = refl; count = omega arith; corruption = refl; ignores_zeros = refl; in_tasklet = refl; has = refl; signed = refl }
options-read Restart true true None (Some key) = record { known = refl; count = omega arith; corruption = refl; ignores_zeros = refl; in_tasklet = refl; has = refl; signed = refl }
options-read Restart true true (Some parity) None = record { known = refl; count = omega arith; corruption = refl; ignores_zeros = refl; in_tasklet = refl; has = refl; signed = refl }
options-read Restart true true (Some parity) (Some key) = record { known = refl; count = omega arith; corruption = refl; ignores_zeros = refl; in_tasklet = refl; has = refl; signed = refl }
options-read Restart true false None None = record { known = refl; count = omega arith; corruption = refl; ignores_zeros = refl; in_tasklet = refl; has = refl; signed = refl }
options-read Restart true false None (Some key) = record { known = refl; count = omega arith; corruption = refl; ignores_zeros = refl; in_tasklet = refl; has = refl; signed = refl }
options-read Restart true false (Some parity) None = record { known = refl; count = omega arith; corruption = refl; ignores_zeros = refl; in_tasklet = refl; has = refl; signed = refl }
options-read Restart true false (Some parity) (Some key) = record { known = refl; count = omega arith; corruption = refl; ignores_zeros = refl; in_tasklet = refl; has = refl; signed = refl }
options-read Restart false true None None = record { known = refl; count = omega arith; corruption = refl; ignores_zeros = refl; in_tasklet = refl; has = refl; signed = refl }
options-read Restart false true None (Some key) = record { known = refl; count = omega arith; corruption = refl; ignores_zeros = refl; in_tasklet = refl; has = refl; signed = refl }
options-read Restart false true (Some parity) None = record { known = refl; count = omega arith; corruption = refl; ignores_zeros = refl; in_tasklet = refl; has = refl; signed = refl }
options-read Restart false true (Some parity) (Some key) = record { known = refl; count = omega arith; corruption = refl; ignores_zeros = refl; in_tasklet = refl; has = refl; signed = refl }
options-read Restart false false None None = record { known = refl; count = omega arith; corruption = refl; ignores_zeros = refl; in_tasklet = refl; has = refl; signed = refl }
options-read Restart false false None (Some key) = record { known = refl; count = omega arith; corruption = refl; ignores_zeros = refl; in_tasklet = refl; has = refl; signed = refl }
options-read Restart false false (Some parity) None = record { known = refl; count = omega arith; corruption = refl; ignores_zeros = refl; in_tasklet = refl; has = refl; signed = refl }
options-read Restart false false (Some parity) (Some key) = record { known = refl; count = omega arith; corruption = refl; ignores_zeros = refl; in_tasklet = refl; has = refl; signed = refl }
options-read Panic true true None None = record { known = refl; count = omega arith; corruption = refl; ignores_zeros = refl; in_tasklet = refl; has = refl; signed = refl }
options-read Panic true true None (Some key) = record { known = refl; count = omega arith; corruption = refl; ignores_zeros = refl; in_tasklet = refl; has = refl; signed = refl }
options-read Panic true true (Some parity) None = record { known = refl; count = omega arith; corruption = refl; ignores_zeros = refl; in_tasklet = refl; has = refl; signed = refl }
options-read Panic true true (Some parity) (Some key) = record { known = refl; count = omega arith; corruption = refl; ignores_zeros = refl; in_tasklet = refl; has = refl; signed = refl }
options-read Panic true false None None = record { known = refl; count = omega arith; corruption = refl; ignores_zeros = refl; in_tasklet = refl; has = refl; signed = refl }
options-read Panic true false None (Some key) = record { known = refl; count = omega arith; corruption = refl; ignores_zeros = refl; in_tasklet = refl; has = refl; signed = refl }
options-read Panic true false (Some parity) None = record { known = refl; count = omega arith; corruption = refl; ignores_zeros = refl; in_tasklet = refl; has = refl; signed = refl }
options-read Panic true false (Some parity) (Some key) = record { known = refl; count = omega arith; corruption = refl; ignores_zeros = refl; in_tasklet = refl; has = refl; signed = refl }
options-read Panic false true None None = record { known = refl; count = omega arith; corruption = refl; ignores_zeros = refl; in_tasklet = refl; has = refl; signed = refl }
options-read Panic false true None (Some key) = record { known = refl; count = omega arith; corruption = refl; ignores_zeros = refl; in_tasklet = refl; has = refl; signed = refl }
options-read Panic false true (Some parity) None = record { known = refl; count = omega arith; corruption = refl; ignores_zeros = refl; in_tasklet = refl; has = refl; signed = refl }
options-read Panic false true (Some parity) (Some key) = record { known = refl; count = omega arith; corruption = refl; ignores_zeros = refl; in_tasklet = refl; has = refl; signed = refl }
options-read Panic false false None None = record { known = refl; count = omega arith; corruption = refl; ignores_zeros = refl; in_tasklet = refl; has = refl; signed = refl }
options-read Panic false false None (Some key) = record { known = refl; count = omega arith; corruption = refl; ignores_zeros = refl; in_tasklet = refl; has = refl; signed = refl }
options-read Panic false false (Some parity) None = record { known = refl; count = omega arith; corruption = refl; ignores_zeros = refl; in_tasklet = refl; has = refl; signed = refl }
options-read Panic false false (Some parity) (Some key) = record { known = refl; count = omega arith; corruption = refl; ignores_zeros = refl; in_tasklet = refl; has = refl; signed = refl }

roots_at-printed : (n : ℕ) → 2 ≤ n → n ≤ 24 → roots_at (decimal n) ≡ Ok n
roots_at-printed n some most =
    ap (λ r. r >>= (λ n. if nat_le 2 n && nat_le n 24 then Ok n else Err kinds.Option)) (number_at-decimal n (omega (arith, most)))
    ∙ cond-true _ _ _ (and_from _ _ (le-leb 2 n some) (le-leb n 24 most))

-- parity reads back, also among other options
fec-printed : (parity : Parity) (more : List Word) → IsParityOfGrammar parity → fec_at (parity_words (Some parity) ++ more) ≡ Ok parity
unfolding fec_at value_of
fec-printed parity more h =
    rw (device_at-printed parity.device h.device, roots_at-printed parity.roots h.some_roots h.most_roots, number_at-decimal parity.blocks h.blocks, number_at-decimal parity.start h.start) refl

fec-corruption : (mode : CorruptionMode) (more : List Word) → fec_at (corruption_words mode ++ more) ≡ fec_at more
unfolding fec_at value_of
fec-corruption Fail more = refl
fec-corruption Restart more = refl
fec-corruption Panic more = refl

fec-ignores : (is_set : Bool) (more : List Word) → fec_at (word_if is_set ignore_zero_blocks ++ more) ≡ fec_at more
unfolding fec_at value_of
fec-ignores true more = refl
fec-ignores false more = refl

fec-tasklet : (is_set : Bool) (more : List Word) → fec_at (word_if is_set try_verify_in_tasklet ++ more) ≡ fec_at more
unfolding fec_at value_of
fec-tasklet true more = refl
fec-tasklet false more = refl

pub parity-printed : (mode : CorruptionMode) (ignores tasklet : Bool) (parity : Option Parity) (key : Option Word) → IfSome parity IsParityOfGrammar
    → parity_at (names_of mode ignores tasklet parity key) (options_of mode ignores tasklet parity key) ≡ Ok parity
unfolding parity_at
parity-printed mode ignores tasklet None key h = cond-false _ _ _ (options-read mode ignores tasklet None key).has
parity-printed mode ignores tasklet (Some parity) key h =
    let words = parity_words (Some parity) ++ signature_words key in
    cond-true _ _ _ (options-read mode ignores tasklet (Some parity) key).has
    ∙ ap (λ r. r >>= (λ parity. Ok (Some parity)))
    (ap fec_at (options-apart mode ignores tasklet (Some parity) key) ∙ fec-corruption mode (word_if ignores ignore_zero_blocks ++ (word_if tasklet try_verify_in_tasklet ++ words))
    ∙ fec-ignores ignores (word_if tasklet try_verify_in_tasklet ++ words) ∙ fec-tasklet tasklet words ∙ fec-printed parity (signature_words key) h)

-- a key description reads back, also among other options
description-printed : (key : Word) → is_key_description key ≡ true → description_at (signature_words (Some key)) ≡ Ok key
unfolding value_of
description-printed key h = description-read (signature_words (Some key)) key refl h

description-corruption : (mode : CorruptionMode) (more : List Word) → description_at (corruption_words mode ++ more) ≡ description_at more
unfolding description_at value_of
description-corruption Fail more = refl
description-corruption Restart more = refl
description-corruption Panic more = refl

description-ignores : (is_set : Bool) (more : List Word) → description_at (word_if is_set ignore_zero_blocks ++ more) ≡ description_at more
unfolding description_at value_of
description-ignores true more = refl
description-ignores false more = refl

description-tasklet : (is_set : Bool) (more : List Word) → description_at (word_if is_set try_verify_in_tasklet ++ more) ≡ description_at more
unfolding description_at value_of
description-tasklet true more = refl
description-tasklet false more = refl

description-parity : (parity : Option Parity) (more : List Word) → description_at (parity_words parity ++ more) ≡ description_at more
unfolding description_at value_of
description-parity None more = refl
description-parity (Some parity) more = refl

pub signature-printed : (mode : CorruptionMode) (ignores tasklet : Bool) (parity : Option Parity) (key : Option Word) → IfSome key (λ key. is_key_description key ≡ true)
    → signature_key_at (names_of mode ignores tasklet parity key) (options_of mode ignores tasklet parity key) ≡ Ok key
signature-printed mode ignores tasklet parity None h = signature_key-none _ _ (options-read mode ignores tasklet parity None).signed
signature-printed mode ignores tasklet parity (Some key) h =
    let words = signature_words (Some key) in
    signature_key-some _ _ (Ok key) (options-read mode ignores tasklet parity (Some key)).signed
    (ap description_at (options-apart mode ignores tasklet parity (Some key))
    ∙ description-corruption mode (word_if ignores ignore_zero_blocks ++ (word_if tasklet try_verify_in_tasklet ++ (parity_words parity ++ words)))
    ∙ description-ignores ignores (word_if tasklet try_verify_in_tasklet ++ (parity_words parity ++ words)) ∙ description-tasklet tasklet (parity_words parity ++ words)
    ∙ description-parity parity words ∙ description-printed key h)
