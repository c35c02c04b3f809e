-- A path that is printed byte by byte.
use Rattle.std.proofs.Common.{◌≡◌, ℕ, ◌+◌, ◌-◌, ◌<◌, ◌≤◌, ◌++◌, ◌∷◌, List, [], Bool, false, Option, length, get_or, take, drop, sym, ap, ◌∙◌, subst, append-nil, append_assoc, arith}
use Rattle.std.specs.Prelude.{codes, if◌then◌else◌}
use Rattle.std.specs.Io.KnownBytes.{Appends}
use Rattle.std.specs.List.{flat_map}
use Rattle.std.proofs.KnownBytes.{Appends-trans}
use Rattle.std.proofs.lemmas.List.{flat_map_more, take_more}
use Rattle.std.proofs.lemmas.List.Edits.{between_more}
use Rattle.hex.specs.Hex.{encode_lower}
use Rattle.io_fault_text.specs.Paths.{is_control, shown_byte, shown_path}

shown-more : (xs : List ℕ) (at : ℕ) → at < length xs → shown_path (take (at + 1) xs) ≡ shown_path (take at xs) ++ shown_byte (get_or xs at 0)
unfolding shown_path
shown-more xs at inside = ap (λ (l : List ℕ). flat_map shown_byte l) (take_more xs at 0 inside) ∙ sym (flat_map_more shown_byte [] (take at xs) (get_or xs at 0))

pub plain-none : (xs : List ℕ) (from : ℕ) → shown_path (take from xs) ≡ shown_path (take from xs) ++ take (from - from) (drop from xs)
plain-none xs from =
    let zero : from - from ≡ 0 = omega arith in
    sym (ap (λ (n : ℕ). shown_path (take from xs) ++ take n (drop from xs)) zero ∙ append-nil (shown_path (take from xs)))

module _ (xs : List ℕ) (from at : ℕ) (order : from ≤ at) (inside : at < length xs) (plain : shown_path (take at xs) ≡ shown_path (take from xs) ++ take (at - from) (drop from xs)) where
  -- a byte that stays as it is
  pub plain-more : is_control (get_or xs at 0) ≡ false → shown_path (take (at + 1) xs) ≡ shown_path (take from xs) ++ take (at + 1 - from) (drop from xs)
  plain-more is =
      let b : ℕ = get_or xs at 0 in
      let same : shown_byte b ≡ b ∷ [] = ap (λ (c : Bool). if c then codes "\\x" ++ encode_lower (b ∷ []) else b ∷ []) is in
      let run : take (at + 1 - from) (drop from xs) ≡ take (at - from) (drop from xs) ++ b ∷ [] = between_more xs from at 0 order inside in
      shown-more xs at inside
      ∙ ap (λ (l : List ℕ). l ++ shown_byte b) plain
      ∙ ap (λ (l : List ℕ). (shown_path (take from xs) ++ take (at - from) (drop from xs)) ++ l) same
      ∙ append_assoc (shown_path (take from xs)) (take (at - from) (drop from xs)) (b ∷ [])
      ∙ ap (λ (l : List ℕ). shown_path (take from xs) ++ l) (sym run)

  -- the bytes before a control character, and then the character
  pub control-written : (old now mid new : Option (List ℕ)) → Appends old now (shown_path (take from xs)) → Appends now mid (take (at - from) (drop from xs)) → Appends mid new (shown_byte (get_or xs at 0))
      → Appends old new (shown_path (take (at + 1) xs))
  control-written old now mid new p q r =
      let shown : shown_path (take (at + 1) xs) ≡ (shown_path (take from xs) ++ take (at - from) (drop from xs)) ++ shown_byte (get_or xs at 0) =
      shown-more xs at inside ∙ ap (λ (l : List ℕ). l ++ shown_byte (get_or xs at 0)) plain in
      subst (λ (l : List ℕ). Appends old new l) (sym shown)
      (Appends-trans old mid new (shown_path (take from xs) ++ take (at - from) (drop from xs)) (shown_byte (get_or xs at 0))
      (Appends-trans old now mid (shown_path (take from xs)) (take (at - from) (drop from xs)) p q) r)
