-- Tables of partition types, in whatever form their rows are.
use Rattle.std.proofs.Common.{◌≡◌, ◌∙◌, List, [], ◌∷◌, ℕ, Bool, true, false, cond, map, ap, refl, sym}
use Rattle.std.specs.Prelude.{Option, Some, find, is_some}
use Rattle.std.specs.Option.{option_map_or}
use Rattle.std.specs.Str.{bytes_eq}
use Rattle.partition_commands.specs.Kinds.{has_type, name_in}

-- a row that is the one, or isn't
chosen : {A B : Type 0} (f : A → B) (name : A → List ℕ) (name' : B → List ℕ) (is : Bool) (row : A) (rest : Option A) (rest' : Option B) (other : List ℕ) → name' (f row) ≡ name row
    → option_map_or name' rest' other ≡ option_map_or name rest other → option_map_or name' (cond is (Some (f row)) rest') other ≡ option_map_or name (cond is (Some row) rest) other
chosen f name name' true row rest rest' other same more = same
chosen f name name' false row rest rest' other same more = more

-- a table by the UUIDs and names of its rows
plain-name_in : {A : Type 0} (types : List A) (uuid name : A → List ℕ) (text other : List ℕ)
    → name_in (map (λ row. (uuid row, name row)) types) (λ (row : List ℕ × List ℕ). row.0) (λ (row : List ℕ × List ℕ). row.1) text other ≡ name_in types uuid name text other
unfolding name_in
plain-name_in [] uuid name text other = refl
plain-name_in (row ∷ rows) uuid name text other =
    chosen (λ row. (uuid row, name row)) name (λ (row : List ℕ × List ℕ). row.1) (bytes_eq (uuid row) text) row (find (λ row. bytes_eq (uuid row) text) rows)
    (find (λ (row : List ℕ × List ℕ). bytes_eq row.0 text) (map (λ row. (uuid row, name row)) rows)) other refl (plain-name_in rows uuid name text other)

-- two tables with the same UUIDs and names
pub same-name_in : {A B : Type 0} (types : List A) (uuid name : A → List ℕ) (rows : List B) (uuid' name' : B → List ℕ) → map {B = List ℕ × List ℕ} (λ row. (uuid row, name row)) types ≡ map {B = List ℕ × List ℕ} (λ row. (uuid' row, name' row)) rows
    → (text other : List ℕ) → name_in types uuid name text other ≡ name_in rows uuid' name' text other
same-name_in types uuid name rows uuid' name' same text other =
    sym (plain-name_in types uuid name text other)
    ∙ ap (λ (all : List (List ℕ × List ℕ)). name_in all (λ (row : List ℕ × List ℕ). row.0) (λ (row : List ℕ × List ℕ). row.1) text other) same
    ∙ plain-name_in rows uuid' name' text other

-- the UUID is in a row, or in one of the rest
either : {A B : Type 0} (is : Bool) (row : A) (row' : B) (rest : Option A) (rest' : Option B) → is_some rest' ≡ is_some rest → is_some (cond is (Some row') rest') ≡ is_some (cond is (Some row) rest)
either true row row' rest rest' more = refl
either false row row' rest rest' more = more

plain-has_type : {A : Type 0} (types : List A) (uuid : A → List ℕ) (text : List ℕ) → has_type (map uuid types) (λ (u : List ℕ). u) text ≡ has_type types uuid text
unfolding has_type
plain-has_type [] uuid text = refl
plain-has_type (row ∷ rows) uuid text =
    either (bytes_eq (uuid row) text) row (uuid row) (find (λ row. bytes_eq (uuid row) text) rows) (find (λ (u : List ℕ). bytes_eq u text) (map uuid rows)) (plain-has_type rows uuid text)

-- whether a UUID is in either of two tables with the same UUIDs
pub same-has_type : {A B : Type 0} (types : List A) (uuid : A → List ℕ) (rows : List B) (uuid' : B → List ℕ) → map uuid types ≡ map uuid' rows → (text : List ℕ) → has_type types uuid text ≡ has_type rows uuid' text
same-has_type types uuid rows uuid' same text =
    sym (plain-has_type types uuid text) ∙ ap (λ (all : List (List ℕ)). has_type all (λ (u : List ℕ). u) text) same ∙ plain-has_type rows uuid' text
