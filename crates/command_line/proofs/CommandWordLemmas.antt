-- What words invoke.
use Rattle.std.proofs.Common.{◌≡◌, ◌↔◌, ◌<◌, ℕ, zero, suc, Bool, true, false, List, [], ◌∷◌, length, map, drop, take, get_or, refl, ap, sym, ◌∙◌, arith, Bor, Some, None, Result, Ok, Err}
use Rattle.std.specs.Prelude.{Option, IsOk, find, is_ok}
use Rattle.std.specs.Result.{result_ok, MatchResult}
use Rattle.hex.specs.Hex.{decode_sized}
use Rattle.hex.specs.declared.error.FromHexError.{FromHexError}
use Rattle.command_line.specs.declared.bindings.Binding.{Binding}
use Rattle.command_line.specs.declared.misuse.Cause.TheVariants as cause
use Rattle.command_line.specs.Bindings.{BindingRecord, binding_of, binding_record}
use Rattle.command_line.specs.BindingWords.{bindings_of}
use Rattle.command_line.specs.CommandWords.{is_option}
use Rattle.command_line.specs.FormatOptions.{text_of}
use Rattle.command_line.specs.Misuses.{misused}
use Rattle.command_line.specs.Values.{root_of}

abbrev pub texts : List (Bor (List ℕ)) → List (List ℕ)
texts words = map (λ word. word.now) words

pub bindings_of-all : (words : List (List ℕ)) (bindings : List BindingRecord) → map (λ binding. Some binding) bindings ≡ map binding_of words → bindings_of words ≡ Ok bindings
unfolding bindings_of
bindings_of-all [] [] e = refl
bindings_of-all [] (b ∷ bs) e = let clash : map (λ (binding : BindingRecord). Some binding) (b ∷ bs) ≡ [] = e in cc
bindings_of-all (w ∷ ws) [] e = let clash : [] ≡ binding_of w ∷ map binding_of ws = e in cc
bindings_of-all (w ∷ ws) (b ∷ bs) e =
    let both : Some b ∷ map (λ (binding : BindingRecord). Some binding) bs ≡ binding_of w ∷ map binding_of ws = e in
    let first : binding_of w ≡ Some b = cc in
    let rest : map (λ (binding : BindingRecord). Some binding) bs ≡ map binding_of ws = cc in
    rw (first, bindings_of-all ws bs rest) refl

-- the first word that is no binding
pub bindings_of-first : (words : List (Bor (List ℕ))) (bindings : List Binding) (i : ℕ) (d : Bor (List ℕ)) → i < length words
    → map (λ binding. Some (binding_record binding)) bindings ≡ map (λ word. binding_of word.now) (take i words) → binding_of (get_or words i d).now ≡ None
    → bindings_of (texts words) ≡ misused (get_or words i d).now cause.Binding
unfolding bindings_of
bindings_of-first [] bindings i d h e none = absurd (omega arith)
bindings_of-first (w ∷ ws) bindings zero d h e none = rw none refl
bindings_of-first (w ∷ ws) [] (suc i) d h e none = let clash : [] ≡ binding_of w.now ∷ map (λ word. binding_of word.now) (take i ws) = e in cc
bindings_of-first (w ∷ ws) (b ∷ bs) (suc i) d h e none =
    let both : Some (binding_record b) ∷ map (λ binding. Some (binding_record binding)) bs ≡ binding_of w.now ∷ map (λ word. binding_of word.now) (take i ws) = e in
    let first : binding_of w.now ≡ Some (binding_record b) = cc in
    let rest : map (λ binding. Some (binding_record binding)) bs ≡ map (λ word. binding_of word.now) (take i ws) = cc in
    rw (first, bindings_of-first ws bs i d (omega arith) rest none) refl

map-texts : (words : List (Bor (List ℕ))) → map binding_of (texts words) ≡ map (λ word. binding_of word.now) words
map-texts [] = refl
map-texts (w ∷ ws) = ap (λ more. binding_of w.now ∷ more) (map-texts ws)

map-binding_record : (bindings : List Binding) → map (λ binding. Some binding) (map binding_record bindings) ≡ map (λ binding. Some (binding_record binding)) bindings
map-binding_record [] = refl
map-binding_record (b ∷ bs) = ap (λ more. Some (binding_record b) ∷ more) (map-binding_record bs)

-- all words are bindings
pub bindings_of-each : (words : List (Bor (List ℕ))) (bindings : List Binding) → map (λ binding. Some (binding_record binding)) bindings ≡ map (λ word. binding_of word.now) words
    → bindings_of (texts words) ≡ Ok (map binding_record bindings)
bindings_of-each words bindings e = bindings_of-all (texts words) (map binding_record bindings) (map-binding_record bindings ∙ (e ∙ sym (map-texts words)))

find-texts : (words : List (Bor (List ℕ))) → text_of (find (λ word. is_option word.now) words) ≡ find is_option (texts words)
find-texts [] = refl
find-texts (w ∷ ws) = go (is_option w.now) refl (find-texts ws)
  where
    go : (b : Bool) → is_option w.now ≡ b → text_of (find (λ word. is_option word.now) ws) ≡ find is_option (texts ws)
        → text_of (find (λ word. is_option word.now) (w ∷ ws)) ≡ find is_option (texts (w ∷ ws))
    go true e more = rw e refl
    go false e more = rw e more

pub late_texts : (words : List (Bor (List ℕ))) → text_of (find (λ word. is_option word.now) (drop 1 words)) ≡ find is_option (drop 1 (texts words))
late_texts [] = refl
late_texts (w ∷ ws) = find-texts ws

-- what a decoder into a slice answers
abbrev pub Decodes : Result (List ℕ) FromHexError → List ℕ → Result Unit FromHexError → Type 0
Decodes said out r = MatchResult said (λ bytes. (r ≡ Ok tt) × (out ≡ bytes)) (λ e. r ≡ Err e)

pub decoded : (said : Result (List ℕ) FromHexError) (out : List ℕ) (r : Result Unit FromHexError) (u : Unit) → r ≡ Ok u → Decodes said out r → Some out ≡ result_ok said
decoded (Ok bytes) out r u is h = ap (λ b. Some b) h.1
decoded (Err e) out r u is h = let clash : Ok u ≡ Err e = sym is ∙ h in cc

pub undecoded : (said : Result (List ℕ) FromHexError) (out : List ℕ) (r : Result Unit FromHexError) (fault : FromHexError) → r ≡ Err fault → Decodes said out r → None ≡ result_ok said
undecoded (Ok bytes) out r fault is h = let clash : Err fault ≡ Ok tt = sym is ∙ h.0 in cc
undecoded (Err e) out r fault is h = refl

pub root_of-ok : (word out : List ℕ) (r : Result Unit FromHexError) (u : Unit) → r ≡ Ok u → Decodes (decode_sized word 32) out r → Some out ≡ root_of word
unfolding root_of
root_of-ok word out r u is decodes = decoded (decode_sized word 32) out r u is decodes

pub root_of-err : (word out : List ℕ) (r : Result Unit FromHexError) (fault : FromHexError) → r ≡ Err fault → Decodes (decode_sized word 32) out r → None ≡ root_of word
unfolding root_of
root_of-err word out r fault is decodes = undecoded (decode_sized word 32) out r fault is decodes

-- a parser that refuses a text has no value of it
pub unparsed : {A B E : Type 0} (said : Option A) (r : Result B E) (e : E) → r ≡ Err e → (IsOk r ↔ ((value : A) × (said ≡ Some value))) → None ≡ said
unparsed {A} {B} {E} None r e is answers = refl
unparsed {A} {B} {E} (Some value) r e is answers = let clash : false ≡ true = ap (λ (x : Result B E). is_ok x) (sym is) ∙ answers.1 (value, refl) in cc
