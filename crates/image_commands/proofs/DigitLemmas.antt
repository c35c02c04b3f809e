-- A root digest's digits, decoded.
use Rattle.std.proofs.Common.{◌≡◌, ℕ, List, refl, ap, sym, ◌∙◌, Some, None, Result, Ok, Err}
use Rattle.std.specs.Result.{result_ok, MatchResult}
use Rattle.hex.specs.Hex.{decode_sized}
use Rattle.hex.specs.declared.error.FromHexError.{FromHexError}
use Rattle.image_commands.specs.RootFiles.{digest_of}

-- what decoding the digits answers, and leaves in the 32 bytes
abbrev pub Decodes : List ℕ → List ℕ → Result Unit FromHexError → Type 0
Decodes digits out r = MatchResult (decode_sized digits 32) (λ bytes. (r ≡ Ok tt) × (out ≡ bytes)) (λ e. r ≡ Err e)

pub digest_of-ok : (digits out : List ℕ) (r : Result Unit FromHexError) (u : Unit) → r ≡ Ok u → Decodes digits out r → Some out ≡ digest_of digits
unfolding digest_of
digest_of-ok digits out r u is decodes = go (decode_sized digits 32) decodes
  where
    go : (x : Result (List ℕ) FromHexError) → MatchResult x (λ bytes. (r ≡ Ok tt) × (out ≡ bytes)) (λ e. r ≡ Err e) → Some out ≡ result_ok x
    go (Ok bytes) h = ap (λ b. Some b) h.1
    go (Err e) h = let clash : Ok u ≡ Err e = sym is ∙ h in cc

pub digest_of-err : (digits out : List ℕ) (r : Result Unit FromHexError) (fault : FromHexError) → r ≡ Err fault → Decodes digits out r → None ≡ digest_of digits
unfolding digest_of
digest_of-err digits out r fault is decodes = go (decode_sized digits 32) decodes
  where
    go : (x : Result (List ℕ) FromHexError) → MatchResult x (λ bytes. (r ≡ Ok tt) × (out ≡ bytes)) (λ e. r ≡ Err e) → None ≡ result_ok x
    go (Ok bytes) h = let clash : Err fault ≡ Ok tt = sym is ∙ h.0 in cc
    go (Err e) h = refl
