-- The digits of a salt.
use Rattle.std.proofs.Common.{◌≡◌, ◌<◌, ◌*◌, ◌/◌, ◌%◌, ◌==◌, Bor, ℕ, Bool, true, false, List, length, nat_le, refl, ap, sym, ◌∙◌, arith, eq-eqb, Some, None, Result, Ok, Err, codes}
use Rattle.std.specs.Prelude.{Option, option_map, if◌then◌else◌}
use Rattle.std.specs.Option.{option_and_then}
use Rattle.std.specs.Result.{result_ok}
use Rattle.std.specs.Str.{bytes_eq}
use Rattle.std.proofs.lemmas.Bool.{eqb-true, leb-true}
use Rattle.hex.proofs.HexLemmas.{decode_of-ok}
use Rattle.hex.specs.Hex.{decode_of, decode_sized}
use Rattle.hex.specs.declared.error.FromHexError.{FromHexError}
use Rattle.command_line.specs.FormatOptions.{salt_of, text_of}
use Rattle.command_line.specs.ImageValues.{short_salt}
use Rattle.command_line.specs.Misuses.{misused, wanted_if}
use Rattle.command_line.specs.declared.misuse.Cause.TheVariants.{Salt}

-- room for half as many bytes
pub sized-half : (s : List ℕ) (n : ℕ) → n ≡ length s / 2 → decode_sized s n ≡ decode_of s
sized-half s n half = go (length s % 2 == 1) refl
  where
    go : (odd : Bool) → (length s % 2 == 1) ≡ odd → decode_sized s n ≡ decode_of s
    go true is = rw is refl
    go false is = let same : (length s / 2 == n) ≡ true = eq-eqb (length s / 2) n (sym half) in rw (is, same) refl

abbrev short_bytes : List ℕ → Option (List ℕ)
short_bytes bytes = if nat_le (length bytes) 256 then Some bytes else None

-- more than 512 digits are no salt
long-bytes : (bytes : List ℕ) → 256 < length bytes → short_bytes bytes ≡ None
long-bytes bytes long = go (nat_le (length bytes) 256) refl
  where
    go : (b : Bool) → nat_le (length bytes) 256 ≡ b → short_bytes bytes ≡ None
    go true is = absurd (omega (arith, long, leb-true (length bytes) 256 is))
    go false is = rw is refl

not-zero : (n : ℕ) → 512 < n → (n == 0) ≡ false
not-zero n long = go (n == 0) refl
  where
    go : (b : Bool) → (n == 0) ≡ b → (n == 0) ≡ false
    go true is = let none : n ≡ 0 = eqb-true n 0 is in absurd (omega (arith, long, none))
    go false is = is

short_salt-long : (s : List ℕ) → bytes_eq s (codes "-") ≡ false → 512 < length s → short_salt s ≡ None
short_salt-long s dash long =
    let some : (length s == 0) ≡ false = not-zero (length s) long in
    rw (dash, some) (go (decode_of s) refl)
  where
    go : (r : Result (List ℕ) FromHexError) → decode_of s ≡ r → option_and_then short_bytes (result_ok r) ≡ None
    go (Ok bytes) is = long-bytes bytes (let twice = (decode_of-ok s bytes is).2 in omega (arith, long, twice))
    go (Err e) is = refl

pub salt-long : (option : Option (Bor (List ℕ))) (word : Bor (List ℕ)) → option ≡ Some word → bytes_eq word.now (codes "-") ≡ false → 512 < length word.now
    → wanted_if (codes "--salt") Salt (option_map short_salt (text_of option)) ≡ misused (codes "--salt") Salt
salt-long option word is dash long = rw (is, short_salt-long word.now dash long) refl
