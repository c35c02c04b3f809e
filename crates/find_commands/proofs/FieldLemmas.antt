-- Fields of headers.
use Rattle.std.proofs.Common.{◌≡◌, ◌↔◌, ◌<◌, ◌*◌, ◌^◌, ℕ, Bool, true, false, cond, not, nat_lt, is_some, Option, Some, None, Result, Ok, Err, IsOk, SomeIff, is_ok, refl, sym, ap, ◌∙◌, arith}
use Rattle.std.proofs.lemmas.Bool.Decides.{nat_tests}
use Rattle.std.specs.Result.{result_err}
use Rattle.find_commands.specs.Fields.{blocks_product}

chosen : (b : Bool) (o : Option ℕ) (m : ℕ) → (b ≡ true → m < 2 ^ 64) → (m < 2 ^ 64 → b ≡ true) → SomeIff o (m < 2 ^ 64) m → o ≡ cond b (Some m) None
chosen true None m low is denied = absurd (denied (low refl))
chosen false None m low is denied = refl
chosen true (Some x) m low is found = ap (λ (k : ℕ). Some k) found.1
chosen false (Some x) m low is found = let clash : false ≡ true = is found.0 in cc

low : (m n : ℕ) → nat_lt m n ≡ true → m < n
low m n h = grind (arith, nat_tests)

is_low : (m n : ℕ) → m < n → nat_lt m n ≡ true
is_low m n h = grind (arith, nat_tests)

-- a product that is computed if it fits
pub product-is : (o : Option ℕ) (blocks each : ℕ) → SomeIff o (blocks * each < 2 ^ 64) (blocks * each) → o ≡ blocks_product blocks each
product-is o blocks each is = chosen (nat_lt (blocks * each) (2 ^ 64)) o (blocks * each) (low (blocks * each) (2 ^ 64)) (is_low (blocks * each) (2 ^ 64)) is

-- a parser that refuses a text has no value of it
pub unparsed : {A B E : Type 0} (said : Option A) (r : Result B E) (e : E) → r ≡ Err e → (IsOk r ↔ ((value : A) × (said ≡ Some value))) → None ≡ said
unparsed {A} {B} {E} None r e is answers = refl
unparsed {A} {B} {E} (Some value) r e is answers = let clash : false ≡ true = ap (λ (x : Result B E). is_ok x) (sym is) ∙ answers.1 (value, refl) in cc

-- a decoder whose fault is known: it has a value if there is none
pub decoded : {T E : Type 0} (r : Result T E) (fault : Option E) → result_err r ≡ fault → is_ok r ≡ not (is_some fault)
decoded {E = E} (Ok value) fault e = ap (λ (o : Option E). not (is_some o)) e
decoded {E = E} (Err f) fault e = ap (λ (o : Option E). not (is_some o)) e
