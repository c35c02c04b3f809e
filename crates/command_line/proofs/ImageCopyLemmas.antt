-- Copies that are read one after the other.
use Rattle.std.proofs.Common.{◌≡◌, ◌<◌, ◌≤◌, ◌-◌, ◌==◌, ℕ, true, false, List, [], ◌∷◌, ◌++◌, length, map, take, drop, get_or, refl, ap, sym, ◌∙◌, arith, Bor, Option, Some, None, Ok, Err}
use Rattle.std.specs.Prelude.{option_map}
use Rattle.std.proofs.lemmas.List.{append_assoc, append-nil, map-append, take_all}
use Rattle.command_line.specs.declared.image_copies.ImageCopy.{ImageCopy}
use Rattle.command_line.specs.FormatOptions.{texts_of}
use Rattle.command_line.specs.declared.fault.WordsFault.{WordsFault}
use Rattle.command_line.specs.declared.fault.WordsFault.TheVariants.{NoMemory, Usage}
use Rattle.command_line.specs.CommandWords.{RefusesWords}
use Rattle.command_line.specs.ImageCopies.{AreCopies, ImageCopyRecord, copies_in_pairs, image_copy_record, one_file, said_copies}
use Rattle.command_line.specs.Misuses.{misuse_record}

-- copies, and more after them
abbrev pub behind : List ImageCopy → Option (List ImageCopyRecord) → Option (List ImageCopyRecord)
behind copies more = option_map (λ records. map image_copy_record copies ++ records) more

one-more : (copies : List ImageCopy) (copy : ImageCopy) (more : Option (List ImageCopyRecord))
    → behind copies (option_map (λ records. image_copy_record copy ∷ records) more) ≡ behind (copies ++ copy ∷ []) more
one-more copies copy None = refl
one-more copies copy (Some records) =
    ap (λ all. Some all) (sym (ap (λ front. front ++ records) (map-append image_copy_record copies (copy ∷ []))
    ∙ append_assoc (map image_copy_record copies) (image_copy_record copy ∷ []) records))

-- one copy more
pub behind-more : (copies : List ImageCopy) (rest : List (Bor (List ℕ))) (d : Bor (List ℕ)) → 2 ≤ length rest
    → behind copies (copies_in_pairs (texts_of rest))
    ≡ behind (copies ++ record { data_path = get_or rest 0 d; hash_path = get_or rest 1 d } ∷ []) (copies_in_pairs (texts_of (take (length rest - 2) (drop 2 rest))))
unfolding copies_in_pairs
behind-more copies [] d two = absurd (omega (arith, two))
behind-more copies (a ∷ []) d two = absurd (omega (arith, two))
behind-more copies (a ∷ b ∷ rest) d two =
    let fewer : length (a ∷ b ∷ rest) - 2 ≡ length rest = omega arith in
    one-more copies (record { data_path = a; hash_path = b }) (copies_in_pairs (texts_of rest))
    ∙ ap (λ words. behind (copies ++ record { data_path = a; hash_path = b } ∷ []) (copies_in_pairs (texts_of words)))
    (sym (ap (λ n. take n rest) fewer ∙ take_all (length rest) rest (omega arith)))

-- where no word is left, and where one is
pub behind-all : (copies : List ImageCopy) (rest : List (Bor (List ℕ))) → rest ≡ [] → behind copies (copies_in_pairs (texts_of rest)) ≡ Some (map image_copy_record copies)
unfolding copies_in_pairs
behind-all copies rest none = rw none (ap (λ all. Some all) (append-nil (map image_copy_record copies)))

pub behind-odd : (copies : List ImageCopy) (rest : List (Bor (List ℕ))) → length rest < 2 → (length rest == 0) ≡ false → behind copies (copies_in_pairs (texts_of rest)) ≡ None
unfolding copies_in_pairs
behind-odd copies [] few some = let clash : true ≡ false = some in cc
behind-odd copies (a ∷ []) few some = refl
behind-odd copies (a ∷ b ∷ rest) few some = absurd (omega (arith, few))

-- one copy after them
pub last-more : (said : Option (List ImageCopyRecord)) (copies : List ImageCopy) (last : ImageCopy) → AreCopies said copies
    → AreCopies (option_map (λ records. records ++ image_copy_record last ∷ []) said) (copies ++ last ∷ [])
last-more said copies last are =
    ap (option_map (λ records. records ++ image_copy_record last ∷ [])) are
    ∙ ap (λ all. Some all) (sym (map-append image_copy_record copies (last ∷ [])))

pub last-refused : (said : Option (List ImageCopyRecord)) (last : ImageCopyRecord) (fault : WordsFault) → RefusesWords (said_copies said) fault
    → RefusesWords (said_copies (option_map (λ records. records ++ last ∷ []) said)) fault
last-refused None last (Usage misuse) is = is
last-refused (Some records) last (Usage misuse) is = let clash : Ok records ≡ Err (misuse_record misuse) = is in cc
last-refused said last NoMemory refused = refused

pub one-files : (words : List (Bor (List ℕ))) → map (λ word. one_file word.now) words ≡ map one_file (texts_of words)
one-files [] = refl
one-files (w ∷ ws) = ap (λ more. one_file w.now ∷ more) (one-files ws)
