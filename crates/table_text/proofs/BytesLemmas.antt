-- Bytes read from hexadecimal digits.
use Rattle.std.proofs.Common.{◌≡◌, ℕ, List, length, Some, Result, Ok, Err, ok_or, refl, ap, sym, ◌∙◌, arith}
use Rattle.std.specs.Result.{result_ok, MatchResult}
use Rattle.hex.specs.Hex.{IsBytes, decode_sized}
use Rattle.hex.specs.declared.error.FromHexError.{FromHexError}
use Rattle.hex.proofs.HexLemmas.{decode_of-ok, decode_sized-ok, decode_sized-twice}
use Rattle.dm_table.specs.declared.fault.TextKind.{TextKind}
use Rattle.dm_table.specs.Words.{Word}
use Rattle.dm_table.specs.Arguments.{bytes_at}
use Rattle.table_text.proofs.ReadValueLemmas.{ok_or_ok}

-- what a decoder into room for n bytes answers
abbrev pub Decodes : ℕ → Word → List ℕ → Result Unit FromHexError → Type 0
Decodes n word out r = MatchResult (decode_sized word n) (λ bytes. (r ≡ Ok tt) × (out ≡ bytes)) (λ e. r ≡ Err e)

pub bytes_at-ok : (n : ℕ) (kind : TextKind) (word : Word) (out : List ℕ) (r : Result Unit FromHexError) (u : Unit) → r ≡ Ok u → Decodes n word out r → bytes_at n kind word ≡ Ok out
unfolding bytes_at
bytes_at-ok n kind word out r u is decodes = go (decode_sized word n) decodes
  where
    go : (x : Result (List ℕ) FromHexError) → MatchResult x (λ bytes. (r ≡ Ok tt) × (out ≡ bytes)) (λ e. r ≡ Err e) → ok_or (result_ok x) kind ≡ Ok out
    go (Ok bytes) h = ap Ok (sym h.1)
    go (Err e) h = let clash : Ok u ≡ Err e = sym is ∙ h in cc

pub bytes_at-err : (n : ℕ) (kind : TextKind) (word : Word) (out : List ℕ) (r : Result Unit FromHexError) (fault : FromHexError) → r ≡ Err fault → Decodes n word out r → bytes_at n kind word ≡ Err kind
unfolding bytes_at
bytes_at-err n kind word out r fault is decodes = go (decode_sized word n) decodes
  where
    go : (x : Result (List ℕ) FromHexError) → MatchResult x (λ bytes. (r ≡ Ok tt) × (out ≡ bytes)) (λ e. r ≡ Err e) → ok_or (result_ok x) kind ≡ Err kind
    go (Ok bytes) h = let clash : Err fault ≡ Ok tt = sym is ∙ h.0 in cc
    go (Err e) h = refl

-- the bytes that were read
result_ok-some : (r : Result (List ℕ) FromHexError) (bytes : List ℕ) → result_ok r ≡ Some bytes → r ≡ Ok bytes
result_ok-some (Ok xs) bytes h = let same : xs ≡ bytes = cc in ap Ok same
result_ok-some (Err e) bytes h = cc

pub bytes_at-grammar : (n : ℕ) (kind : TextKind) (word : Word) (bytes : List ℕ) → bytes_at n kind word ≡ Ok bytes → (length bytes ≡ n) × IsBytes bytes
unfolding bytes_at
bytes_at-grammar n kind word bytes e =
    let sized = result_ok-some (decode_sized word n) bytes (ok_or_ok (result_ok (decode_sized word n)) kind bytes e) in
    let twice = decode_sized-ok word n bytes sized in
    let decoded = decode_of-ok word bytes (sym (decode_sized-twice word n twice) ∙ sized) in
    let same = decoded.2 in
    (omega (arith, twice, same), decoded.3)
