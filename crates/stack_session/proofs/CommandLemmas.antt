-- What a line asks for, by its first word.
use Rattle.std.proofs.Common.{◌≡◌, ℕ, List, [], ◌∷◌, ap, sym, ◌∙◌, refl, Option, Some, None, Result, Ok, Err}
use Rattle.std.specs.Prelude.{option_map, slice_index}
use Rattle.std.specs.Result.{result_ok, MatchResult}
use Rattle.hex.specs.Hex.{decode_sized}
use Rattle.hex.specs.declared.error.FromHexError.{FromHexError}
use Rattle.dm_table.specs.Words.{words}
use Rattle.stack_session.specs.declared.verb.Verb.{Verb}
use Rattle.stack_session.specs.Commands.{line_command, words_command, verb_command, verb_of, hex_byte, nothing}

pub command_of-nothing : (line : List ℕ) → words line ≡ [] → line_command line ≡ nothing
unfolding line_command
command_of-nothing line none = ap (words_command line) none

-- a line that begins with a word
pub command_of-words : (line word : List ℕ) (more : List (List ℕ)) (verb : Option Verb) → words line ≡ word ∷ more → verb ≡ verb_of word → line_command line ≡ verb_command verb line more
unfolding line_command
command_of-words line word more verb cut is =
    ap (words_command line) cut ∙ ap (λ v. verb_command v line more) (sym is)

-- what a decoder into one byte answers
abbrev pub Decodes : List ℕ → List ℕ → Result Unit FromHexError → Type 0
Decodes word out r = MatchResult (decode_sized word 1) (λ bytes. (r ≡ Ok tt) × (out ≡ bytes)) (λ e. r ≡ Err e)

pub byte_of-ok : (word out : List ℕ) (r : Result Unit FromHexError) (u : Unit) → r ≡ Ok u → Decodes word out r → Some (slice_index out 0) ≡ hex_byte word
unfolding hex_byte
byte_of-ok word out r u is decodes = go (decode_sized word 1) decodes
  where
    go : (x : Result (List ℕ) FromHexError) → MatchResult x (λ bytes. (r ≡ Ok tt) × (out ≡ bytes)) (λ e. r ≡ Err e) → Some (slice_index out 0) ≡ option_map (λ bytes. slice_index bytes 0) (result_ok x)
    go (Ok bytes) h = ap (λ b. Some (slice_index b 0)) h.1
    go (Err e) h = let clash : Ok u ≡ Err e = sym is ∙ h in cc

pub byte_of-err : (word out : List ℕ) (r : Result Unit FromHexError) (fault : FromHexError) → r ≡ Err fault → Decodes word out r → None ≡ hex_byte word
unfolding hex_byte
byte_of-err word out r fault is decodes = go (decode_sized word 1) decodes
  where
    go : (x : Result (List ℕ) FromHexError) → MatchResult x (λ bytes. (r ≡ Ok tt) × (out ≡ bytes)) (λ e. r ≡ Err e) → None ≡ option_map (λ (bytes : List ℕ). slice_index bytes 0) (result_ok x)
    go (Ok bytes) h = let clash : Err fault ≡ Ok tt = sym is ∙ h.0 in cc
    go (Err e) h = refl
