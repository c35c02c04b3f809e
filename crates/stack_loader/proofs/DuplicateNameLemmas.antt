-- Entries whose name an earlier one has.
use Rattle.std.proofs.Common.{◌≡◌, ◌+◌, ◌<◌, ℕ, List, [], ◌∷◌, ◌++◌, refl, sym, ap, ◌∙◌, Bool, true, false, not, ◌||◌, cond, Option, Some, None, length, drop, take, get_or, map, filter}
use Rattle.std.specs.Prelude.{is_some, is_none}
use Rattle.std.specs.List.{list_any}
use Rattle.std.specs.Str.{bytes_eq}
use Rattle.std.proofs.lemmas.List.{at_drop_more, take_more, append_assoc, append-nil, map_push}
use Rattle.std.proofs.lemmas.Slice.Eq.{bytes_eq-Decides}
use Rattle.dm_table.specs.declared.stack.Entry.{Entry}
use Rattle.stack_rules.specs.Records.{DeviceRecord}
use Rattle.stack_rules.specs.Rules.{first, duplicate_names, new_device}

pub bytes_eq-sym : (xs ys : List ℕ) → bytes_eq xs ys ≡ bytes_eq ys xs
bytes_eq-sym xs ys = go (bytes_eq xs ys) (bytes_eq ys xs) refl refl
  where
    go : (a b : Bool) → bytes_eq xs ys ≡ a → bytes_eq ys xs ≡ b → a ≡ b
    go true true p q = refl
    go false false p q = refl
    go true false p q = sym ((bytes_eq-Decides ys xs).1 (sym ((bytes_eq-Decides xs ys).0 p))) ∙ q
    go false true p q = sym (sym ((bytes_eq-Decides xs ys).1 (sym ((bytes_eq-Decides ys xs).0 q))) ∙ p)

pub duplicate_more : (earlier : List (List ℕ)) (entries : List Entry) (i : ℕ) (e : Entry) (all : Option Rattle.stack_rules.specs.declared.refusal.Refusal.Refusal) → i < length entries → e ≡ get_or entries i e
    → list_any (bytes_eq e.name) earlier ≡ false → first (duplicate_names earlier (drop i entries)) ≡ all → first (duplicate_names (e.name ∷ earlier) (drop (i + 1) entries)) ≡ all
duplicate_more earlier entries i e all low is none before =
    let here : first (duplicate_names earlier (e ∷ drop (i + 1) entries)) ≡ first (duplicate_names (e.name ∷ earlier) (drop (i + 1) entries)) = rw none refl in
    sym here ∙ ap (λ e. first (duplicate_names earlier (e ∷ drop (i + 1) entries))) is ∙ sym (at_drop_more (λ es. first (duplicate_names earlier es)) entries i e low) ∙ before

-- the names that were met, after one more
pub names_more : (name q : List ℕ) (earlier : List (List ℕ)) (new old : Option (Unit {0})) → new ≡ cond (bytes_eq name q) (Some tt) old → is_some old ≡ list_any (bytes_eq q) earlier
    → is_some new ≡ list_any (bytes_eq q) (name ∷ earlier)
names_more name q earlier new old is before = ap is_some is ∙ go (bytes_eq name q) (bytes_eq q name) (bytes_eq-sym name q)
  where
    go : (a b : Bool) → a ≡ b → is_some (cond a (Some tt) old) ≡ (b || list_any (bytes_eq q) earlier)
    go true true p = refl
    go false false p = before
    go true false p = let clash : true ≡ false = p in cc
    go false true p = let clash : false ≡ true = p in cc

filter-push : {X : Type 0} (p : X → Bool) (xs : List X) (y : X) → filter p (xs ++ y ∷ []) ≡ filter p xs ++ cond (p y) (y ∷ []) []
filter-push p [] y = go (p y)
  where
    go : (b : Bool) → cond b (y ∷ []) [] ≡ [] ++ cond b (y ∷ []) []
    go true = refl
    go false = refl
filter-push p (x ∷ xs) y = go (p x) (filter-push p xs y)
  where
    go : (b : Bool) → filter p (xs ++ y ∷ []) ≡ filter p xs ++ cond (p y) (y ∷ []) [] → cond b (x ∷ filter p (xs ++ y ∷ [])) (filter p (xs ++ y ∷ [])) ≡ cond b (x ∷ filter p xs) (filter p xs) ++ cond (p y) (y ∷ []) []
    go true more = ap (λ zs. x ∷ zs) more
    go false more = more

pub filter_more : {X : Type 0} (p : X → Bool) (xs : List X) (i : ℕ) (x : X) → i < length xs → x ≡ get_or xs i x → filter p (take (i + 1) xs) ≡ filter p (take i xs) ++ cond (p x) (x ∷ []) []
filter_more p xs i x low is = ap (filter p) (take_more xs i x low) ∙ filter-push p (take i xs) (get_or xs i x) ∙ ap (λ x. filter p (take i xs) ++ cond (p x) (x ∷ []) []) (sym is)

-- ---- the devices that a load creates

pub new_more : (front : List DeviceRecord) (p : Entry → Bool) (entries : List Entry) (i : ℕ) (e : Entry) (next before : List DeviceRecord) → i < length entries → e ≡ get_or entries i e → p e ≡ true
    → before ≡ front ++ map new_device (filter p (take i entries)) → next ≡ before ++ new_device e ∷ [] → next ≡ front ++ map new_device (filter p (take (i + 1) entries))
new_more front p entries i e next before low is passes done step =
    step ∙ ap (λ xs. xs ++ new_device e ∷ []) done ∙ append_assoc front (map new_device (filter p (take i entries))) (new_device e ∷ [])
    ∙ ap (λ xs. front ++ xs) (sym (ap (map new_device) (filter_more p entries i e low is) ∙ ap (λ b. map new_device (filter p (take i entries) ++ cond b (e ∷ []) [])) passes ∙ map_push new_device (filter p (take i entries)) e))

pub old_more : (front : List DeviceRecord) (p : Entry → Bool) (entries : List Entry) (i : ℕ) (e : Entry) (before : List DeviceRecord) → i < length entries → e ≡ get_or entries i e → p e ≡ false
    → before ≡ front ++ map new_device (filter p (take i entries)) → before ≡ front ++ map new_device (filter p (take (i + 1) entries))
old_more front p entries i e before low is fails done =
    done ∙ ap (λ xs. front ++ map new_device xs) (sym (filter_more p entries i e low is ∙ ap (λ b. filter p (take i entries) ++ cond b (e ∷ []) []) fails ∙ append-nil (filter p (take i entries))))

pub none-of : {X : Type 0} (o : Option X) (b : Bool) → is_some o ≡ not b → is_none o ≡ b
none-of None true h = refl
none-of None false h = let clash : false ≡ true = h in cc
none-of (Some x) true h = let clash : true ≡ false = h in cc
none-of (Some x) false h = refl
