-- The place of the first element of a name, found from the last element on.
use Rattle.std.proofs.Common.{◌≡◌, ◌+◌, ◌<◌, ℕ, List, [], ◌∷◌, ◌++◌, refl, sym, ap, ◌∙◌, Bool, true, false, cond, Option, Some, None, length, drop, get_or, position, ◌≢◌}
use Rattle.std.specs.List.{position_from}
use Rattle.std.specs.Str.{bytes_eq}
use Rattle.std.proofs.lemmas.List.{at_drop_more}
use Rattle.std.proofs.lemmas.Iterator.Adapters.{position_from-zero}
use Rattle.std.proofs.lemmas.Slice.Eq.{bytes_eq-Decides}
use Rattle.dm_table.specs.Names.{mapper}
use Rattle.stack_rules.specs.Records.{DeviceRecord}
use Rattle.stack_rules.specs.Names.{path_of}

pub more_places : {X : Type 0} (name : X → List ℕ) (xs : List X) (j i : ℕ) (x : X) (bs q : List ℕ) (got before : Option ℕ) → j < length xs → x ≡ get_or xs j x → bs ≡ name x → i ≡ j + 1
    → before ≡ position_from (λ y. bytes_eq (name y) q) i (drop i xs) → got ≡ cond (bytes_eq bs q) (Some j) before → got ≡ position_from (λ y. bytes_eq (name y) q) j (drop j xs)
more_places name xs j i x bs q got before low is same next rest step =
    step ∙ ap (λ bs. cond (bytes_eq bs q) (Some j) before) (same ∙ ap name is) ∙ ap (λ before. cond (bytes_eq (name (get_or xs j x)) q) (Some j) before) (rest ∙ ap (λ i. position_from (λ y. bytes_eq (name y) q) i (drop i xs)) next)
    ∙ sym (at_drop_more (position_from (λ y. bytes_eq (name y) q) j) xs j x low)

pub all_places : {X : Type 0} (p : X → Bool) (xs : List X) (i : ℕ) → i ≡ 0 → position_from p i (drop i xs) ≡ position p xs
all_places p xs i none = ap (λ i. position_from p i (drop i xs)) none ∙ sym (position_from-zero p xs)

-- the place of a path: none where it is no path of a mapped device
place-none : (devices : List DeviceRecord) (path : List ℕ) (n : ℕ) → ((rest : List ℕ) → path ≢ mapper ++ rest) → position_from (λ d. bytes_eq (path_of d.name) path) n devices ≡ None
place-none [] path n none = refl
place-none (d ∷ more) path n none = rw (apart (bytes_eq (path_of d.name) path) refl) (place-none more path (n + 1) none)
  where
    apart : (b : Bool) → bytes_eq (path_of d.name) path ≡ b → bytes_eq (path_of d.name) path ≡ false
    apart true e = absurd (none d.name (sym ((bytes_eq-Decides (path_of d.name) path).0 e)))
    apart false e = e

pub no_path : (devices : List DeviceRecord) (path : List ℕ) → ((rest : List ℕ) → path ≢ mapper ++ rest) → None ≡ position (λ d. bytes_eq (path_of d.name) path) devices
no_path devices path none = sym (position_from-zero (λ (d : DeviceRecord). bytes_eq (path_of d.name) path) devices ∙ place-none devices path 0 none)

pub path_place : (devices : List DeviceRecord) (path rest : List ℕ) → path ≡ mapper ++ rest → position (λ d. bytes_eq d.name rest) devices ≡ position (λ d. bytes_eq (path_of d.name) path) devices
path_place devices path rest is = rw is refl
