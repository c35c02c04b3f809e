-- Printed bytes read back.
use Rattle.std.proofs.Common.{◌≡◌, ℕ, ◌-◌, ◌<◌, ◌≤◌, Bool, true, false, not, ◌&&◌, cond, leb, is_some, List, [], ◌∷◌, length, Some, None, Ok, ok_or, refl, ap, inl, inr, arith}
use Rattle.std.specs.Prelude.{◌⊎◌}
use Rattle.std.specs.List.{AllPass, list_all}
use Rattle.std.specs.Result.{result_ok}
use Rattle.std.proofs.lemmas.Bool.{and_parts, and_from, leb-true, le-leb, ne_eqb}
use Rattle.std.proofs.lemmas.List.Elements.{All-head, All-tail}
use Rattle.hex.specs.Hex.{IsBytes, encode_lower, is_hex_digit, lower_digits}
use Rattle.hex.proofs.HexLemmas.{decode_of-encode_lower, length-encode_with, decode_of-ok, decode_sized-encode_lower}
use Rattle.dm_table.specs.declared.fault.TextKind.{TextKind}
use Rattle.dm_table.specs.Words.{is_graphic}
use Rattle.dm_table.specs.Arguments.{bytes_at}
use Rattle.table_text.proofs.PrintedLemmas.{IsPrinted}

-- printed bytes read back
pub bytes_at-printed : (n : ℕ) (kind : TextKind) (bytes : List ℕ) → length bytes ≡ n → IsBytes bytes → bytes_at n kind (encode_lower bytes) ≡ Ok bytes
unfolding bytes_at
bytes_at-printed n kind bytes size each = ap (λ r. ok_or (result_ok r) kind) (decode_sized-encode_lower bytes n size each)

-- hexadecimal digits are printing characters
digit-cases : (t u v : Bool) (a b c : ℕ) → is_some (cond t (Some a) (cond u (Some b) (cond v (Some c) None))) ≡ true → (t ≡ true) ⊎ ((u ≡ true) ⊎ (v ≡ true))
digit-cases true u v a b c h = inl refl
digit-cases false true v a b c h = inr (inl refl)
digit-cases false false true a b c h = inr (inr refl)
digit-cases false false false a b c h = cc

graphic-from : (c : ℕ) → 33 ≤ c → c ≤ 126 → (c ≡ 92 → ⊥) → is_graphic c ≡ true
graphic-from c low high other = and_from _ _ (and_from _ _ (le-leb 33 c low) (le-leb c 126 high)) (ap not (ne_eqb c 92 other))

between : (a b c : ℕ) → (leb a c && leb c b) ≡ true → (a ≤ c) × (c ≤ b)
between a b c h = let parts = and_parts (leb a c) _ h in (leb-true a c parts.0, leb-true c b parts.1)

hex-graphic : (c : ℕ) → is_hex_digit c ≡ true → is_graphic c ≡ true
hex-graphic c h = elim (digit-cases (leb 65 c && leb c 70) (leb 97 c && leb c 102) (leb 48 c && leb c 57) (c - 55) (c - 87) (c - 48) h) [
  | inl upper ↦ let range = between 65 70 c upper in graphic-from c (omega (arith, range.0)) (omega (arith, range.1)) (λ e. omega (arith, range.1, e))
  | inr rest ↦ elim rest [
    | inl lower ↦ let range = between 97 102 c lower in graphic-from c (omega (arith, range.0)) (omega (arith, range.1)) (λ e. omega (arith, range.0, e))
    | inr digit ↦ let range = between 48 57 c digit in graphic-from c (omega (arith, range.0)) (omega (arith, range.1)) (λ e. omega (arith, range.1, e))
  ]
]

all-graphic : (text : List ℕ) → AllPass is_hex_digit text → list_all is_graphic text ≡ true
all-graphic [] h = refl
all-graphic (c ∷ text) h =
    and_from _ _ (hex-graphic c (All-head (λ x. is_hex_digit x ≡ true) c text h)) (all-graphic text (All-tail (λ x. is_hex_digit x ≡ true) c text h))

pub printed-bytes : (bytes : List ℕ) → 0 < length bytes → IsBytes bytes → IsPrinted (encode_lower bytes)
printed-bytes bytes some each =
    let twice = length-encode_with lower_digits bytes in
    (omega (arith, twice, some), all-graphic (encode_lower bytes) (decode_of-ok (encode_lower bytes) bytes (decode_of-encode_lower bytes each)).1)
