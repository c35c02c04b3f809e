-- What a step of a reading shows: the value that was read, and its limits.
use Rattle.std.proofs.Common.{◌≡◌, ℕ, ◌^◌, ◌<◌, Bool, true, false, ◌&&◌, ltb, cond, length, Option, Some, None, Result, Ok, Err, ok_or, refl, ap, sym, subst, ◌∙◌, inl, inr}
use Rattle.std.specs.List.{list_all}
use Rattle.std.specs.Char.{is_ascii_digit}
use Rattle.std.specs.Str.Parse.{digits_value}
use Rattle.std.proofs.lemmas.Bool.{cases_Bool, cond-true, cond-false, and_parts, ltb-true}
use Rattle.dm_table.specs.declared.table.Base.{Base}
use Rattle.dm_table.specs.declared.fault.TextKind.TheVariants as kinds
use Rattle.dm_table.specs.Words.{Word}
use Rattle.dm_table.specs.Numbers.{number, number_if}
use Rattle.dm_table.specs.Names.{is_device}
use Rattle.dm_table.specs.Reading.{◌>>=◌}
use Rattle.dm_table.specs.Arguments.{device_at, number_at, base_at}
use Rattle.dm_table.specs.Grammar.{IsBaseOfGrammar}

-- a step that was made, and what follows it
pub bind_ok : {A B E : Type 0} (r : Result A E) (f : A → Result B E) (b : B) → (r >>= f) ≡ Ok b → (a : A) × (r ≡ Ok a) × (f a ≡ Ok b)
bind_ok (Ok a) f b e = (a, refl, e)
bind_ok (Err x) f b e = cc

pub ok_same : {A E : Type 0} (x y : A) → ◌≡◌ {A = Result A E} (Ok x) (Ok y) → x ≡ y
ok_same x y e = cc

pub ok_or_ok : {A E : Type 0} (o : Option A) (e : E) (x : A) → ok_or o e ≡ Ok x → o ≡ Some x
ok_or_ok None e x h = cc
ok_or_ok (Some y) e x h = cc

-- a choice between a result and a fault gave the result
pub chosen : {A E : Type 0} (b : Bool) (r : Result A E) (e : E) (x : A) → cond b r (Err e) ≡ Ok x → (b ≡ true) × (r ≡ Ok x)
chosen true r e x h = (refl, h)
chosen false r e x h = cc

kept_value : (before : Bool) (test : Bool) (value n : ℕ) → test ≡ (before && ltb value (2 ^ 64)) → cond test (Some value) None ≡ Some n → n < 2 ^ 64
kept_value before true value n t h =
    let same : value ≡ n = cc in
    subst (λ k. k < 2 ^ 64) same (ltb-true value (2 ^ 64) (and_parts before _ (sym t)).1)
kept_value before false value n t h = cc

pub number-fits : (word : Word) (n : ℕ) → number word ≡ Some n → n < 2 ^ 64
unfolding number
number-fits word n e = kept_value (ltb 0 (length word) && list_all is_ascii_digit word) _ (digits_value 10 word) n refl e

pub number_at-fits : (word : Word) (n : ℕ) → number_at word ≡ Ok n → n < 2 ^ 64
number_at-fits word n e = number-fits word n (ok_or_ok (number word) kinds.Number n e)

pub number_if-some : (test : ℕ → Bool) (o : Option ℕ) (n : ℕ) → number_if test o ≡ Some n → (o ≡ Some n) × (test n ≡ true)
number_if-some test None n e = cc
number_if-some test (Some m) n e = elim (cases_Bool (test m)) [
  | inl passes ↦
      let same : m ≡ n = let h = sym (cond-true (test m) (Some m) None passes) ∙ e in cc in
      (ap Some same, subst (λ k. test k ≡ true) same passes)
  | inr fails ↦ let h = sym (cond-false (test m) (Some m) None fails) ∙ e in cc
]

pub base-grammar : (name offset : Word) (base : Base) → base_at name offset ≡ Ok base → IsBaseOfGrammar base
unfolding base_at
base-grammar name offset base e =
    let device = bind_ok (device_at name) _ base e in
    let sector = bind_ok (number_at offset) _ base device.2 in
    let named = chosen (is_device name) (Ok name) kinds.Name device.0 device.1 in
    let same : name ≡ device.0 = ok_same name device.0 named.1 in
    let made : record { device = device.0; offset = sector.0 } ≡ base = ok_same _ base sector.2 in
    subst IsBaseOfGrammar made (record { device = subst (λ w. is_device w ≡ true) same named.0; offset = number_at-fits offset sector.0 sector.1 })
