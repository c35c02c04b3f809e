-- A table printed with its keys or without them, read back.
use Rattle.std.proofs.Common.{◌≡◌, ℕ, ◌*◌, suc, zero, Bool, true, false, List, [], ◌∷◌, length, map, replicate, All, Ok, refl, ap, sym, subst, ◌∙◌, arith}
use Rattle.std.specs.Prelude.{◌⊎◌}
use Rattle.std.proofs.lemmas.List.{length-replicate, length-map}
use Rattle.std.proofs.lemmas.List.Elements.{All-cons, All-head, All-tail}
use Rattle.hex.specs.Hex.{IsBytes, encode_lower, encode_with}
use Rattle.dm_table.specs.declared.crypt.Crypt.{Crypt}
use Rattle.dm_table.specs.declared.table.Line.{Line}
use Rattle.dm_table.specs.declared.table.Target.{Target}
use Rattle.dm_table.specs.declared.table.Target.TheVariants.{Crypt as crypt_target}
use Rattle.dm_table.specs.Grammar.{IsCryptOfGrammar, IsTargetOfGrammar, IsLineOfGrammar, IsTableOfGrammar}
use Rattle.table_text.specs.ArgumentWords.{crypt_words}
use Rattle.dm_table.specs.TableText.{table_of}
use Rattle.table_text.specs.Print.{target_words, line_text, printed_table}
use Rattle.table_text.specs.Keys.{crypt_without_key, target_without_key, line_without_key, printed_lines}
use Rattle.table_text.proofs.RoundTripLemmas.{line-shown, table-shown}

-- zeros are the digits of bytes that are 0
digits-zeros : (n : ℕ) → encode_lower (replicate n 0) ≡ replicate (2 * n) 48
unfolding encode_with
digits-zeros zero = refl
digits-zeros (suc n) =
    ap (λ t. 48 ∷ 48 ∷ t) (digits-zeros n) ∙ ap (λ m. replicate m 48) (let twice : suc (suc (2 * n)) ≡ 2 * suc n = omega arith in twice)

bytes-zeros : (n : ℕ) → IsBytes (replicate n 0)
bytes-zeros zero i = omega arith
bytes-zeros (suc n) zero = omega arith
bytes-zeros (suc n) (suc i) = bytes-zeros n i

crypt-without_key : (crypt : Crypt) → IsCryptOfGrammar crypt → IsCryptOfGrammar (crypt_without_key crypt)
crypt-without_key crypt h =
    let same = length-replicate (length crypt.key) 0 in
    record {
      key_size = subst (λ n. (n ≡ 32) ⊎ (n ≡ 64)) (sym same) h.key_size;
      key_bytes = bytes-zeros (length crypt.key);
      iv_offset = h.iv_offset;
      base = h.base;
      options = h.options;
    }

target-without_key : (target : Target) → IsTargetOfGrammar target → IsTargetOfGrammar (target_without_key target)
target-without_key (crypt_target crypt) h = crypt-without_key crypt h
target-without_key target h = h

line-without_key : (line : Line) → IsLineOfGrammar line → IsLineOfGrammar (line_without_key line)
line-without_key line h = record { start = h.start; sectors = h.sectors; target = target-without_key line.target h.target }

lines-without_key : (lines : List Line) → All IsLineOfGrammar lines → All IsLineOfGrammar (map line_without_key lines)
lines-without_key [] h = h
lines-without_key (line ∷ lines) h =
    All-cons IsLineOfGrammar (line_without_key line) (map line_without_key lines)
    (line-without_key line (All-head IsLineOfGrammar line lines h))
    (lines-without_key lines (All-tail IsLineOfGrammar line lines h))

-- without its keys a table is printed as the table of zero keys is with them
target_words-hidden : (target : Target) → target_words false target ≡ target_words true (target_without_key target)
unfolding target_words crypt_words
target_words-hidden (crypt_target crypt) = rw (digits-zeros (length crypt.key)) refl
target_words-hidden target = refl

line_text-hidden : (line : Line) → line_text false line ≡ line_text true (line_without_key line)
unfolding line_text
line_text-hidden line = rw (target_words-hidden line.target) refl

table_text-hidden : (lines : List Line) → printed_table false lines ≡ printed_table true (map line_without_key lines)
table_text-hidden [] = refl
table_text-hidden (line ∷ lines) = rw (line_text-hidden line, table_text-hidden lines) refl

-- what was printed gives the line back, with its key or without it
pub one_line-printed : (show : Bool) (line : Line) → IsLineOfGrammar line → table_of (line_text show line) ≡ Ok (printed_lines show (line ∷ []))
one_line-printed true line h = line-shown line h
one_line-printed false line h = ap table_of (line_text-hidden line) ∙ line-shown (line_without_key line) (line-without_key line h)

-- what was printed gives the table back, with its keys or without them
pub table-printed : (show : Bool) (lines : List Line) → IsTableOfGrammar lines → table_of (printed_table show lines) ≡ Ok (printed_lines show lines)
table-printed true lines h = table-shown lines h
table-printed false lines h =
    let some = h.some in
    let same = length-map lines line_without_key in
    ap table_of (table_text-hidden lines)
    ∙ table-shown (map line_without_key lines) (record { some = omega (arith, same, some); each = lines-without_key lines h.each })
