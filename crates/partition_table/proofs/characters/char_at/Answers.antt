use Rattle.std.proofs.Common.{◌≡◌, sym, ap, ◌∙◌, inl, inr, ◌∷◌, ℕ, ◌+◌, get_or, drop, Option, Some, None, SomeIff, IsSome, arith}
use Rattle.std.proofs.lemmas.List.{get_or_past}
use Rattle.std.specs.Char.Utf16.{lone_unit_char, utf16_chars}
use Rattle.std.proofs.str.Utf16.{IsPair, lone_unit_char_low, lone_unit_char_high, lone_unit_char_surrogate, utf16_chars-drop_lone, utf16_chars-drop_pair}
use Rattle.partition_table.proofs.characters.char_at.Goals as goal

is_value : (r : Option ℕ) (P : Type 0) (v : ℕ) → SomeIff r P v → IsSome r → Some v ≡ r
is_value None P v h some = cc
is_value (Some x) P v h some = ap Some (sym h.1)

pub returns-then-high-lt55296-clause-first : goal.returns-then-high-lt55296-clause-first
returns-then-high-lt55296-clause-first c =
    let xs = c.args.units.now in
    let at = c.args.at in
    let u = get_or xs at 0 in
    let fits = c.type_inv.units at in
    let made = is_value _ _ _ c.from_u32.ensures.value in
    let lone : lone_unit_char u ≡ c.from_u32.result = elim c.then-high-lt55296.branch [
      | goal.then-high-lt55296-via-then-high-lt55296 w ↦
          let low = w.if-high-lt55296.true in lone_unit_char_low u low ∙ made (c.from_u32.ensures.succeeds (inl low))
      | goal.then-high-lt55296-via-else-high-lt55296+then-high-ge57344 w ↦
          let high = w.if-high-ge57344.true in lone_unit_char_high u high ∙ made (c.from_u32.ensures.succeeds (inr (high, omega arith)))
    ] in
    utf16_chars-drop_lone xs at c.requires (λ pair. omega arith) ∙ ap (λ o. o ∷ utf16_chars (drop (at + 1) xs)) lone

pub returns-then-high-ge56320-clause-first : goal.returns-then-high-ge56320-clause-first
returns-then-high-ge56320-clause-first c =
    let xs = c.args.units.now in
    let at = c.args.at in
    let apart = λ (pair : IsPair (get_or xs at 0) (get_or xs (at + 1) 0)). elim c.then-high-ge56320.branch as (λ _. ⊥) [
      | goal.then-high-ge56320-via-then-high-ge56320 w ↦ omega arith
      | goal.then-high-ge56320-via-else-high-ge56320+then-units-at-lt2 w ↦ omega (arith, get_or_past xs (at + 1) 0 (omega arith))
    ] in
    utf16_chars-drop_lone xs at c.requires apart
    ∙ ap (λ o. o ∷ utf16_chars (drop (at + 1) xs)) (lone_unit_char_surrogate _ c.if-high-lt55296.false c.if-high-ge57344.false)

pub returns-then-low-lt56320-clause-first : goal.returns-then-low-lt56320-clause-first
returns-then-low-lt56320-clause-first c =
    let xs = c.args.units.now in
    let at = c.args.at in
    utf16_chars-drop_lone xs at c.requires (λ pair. omega arith)
    ∙ ap (λ o. o ∷ utf16_chars (drop (at + 1) xs)) (lone_unit_char_surrogate _ c.if-high-lt55296.false c.if-high-ge57344.false)

pub returns-clause-first : goal.returns-clause-first
returns-clause-first c =
    let xs = c.args.units.now in
    let at = c.args.at in
    let made = is_value _ _ _ c.from_u32-2.ensures.value (c.from_u32-2.ensures.succeeds (inr (omega arith, omega arith))) in
    utf16_chars-drop_pair xs at (omega arith) (omega arith, omega arith, omega arith, omega arith)
    ∙ ap (λ o. o ∷ utf16_chars (drop (at + 2) xs)) made
