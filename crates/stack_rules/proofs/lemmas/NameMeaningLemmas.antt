-- What names mean, name by name and line by line.
use Rattle.std.proofs.Common.{◌≡◌, ◌+◌, ◌<◌, ℕ, zero, suc, List, [], ◌∷◌, ◌++◌, refl, sym, ap, ◌∙◌, Bool, true, false, ◌||◌, Some, None, length, take, get_or, map, arith}
use Rattle.std.specs.Prelude.{is_none}
use Rattle.std.specs.List.{list_any}
use Rattle.std.proofs.lemmas.List.{map_more, map_push, length-map}
use Rattle.dm_table.specs.declared.table.Base.{Base}
use Rattle.dm_table.specs.declared.table.Line.{Line}
use Rattle.stack_rules.specs.declared.lower.Lower.{Lower}
use Rattle.stack_rules.specs.Records.{Configuration, DeviceRecord}
use Rattle.stack_rules.specs.Names.{named, names}
use Rattle.stack_rules.specs.Kept.{meanings}
use Rattle.stack_rules.specs.Passing.{Mean, AreFound, RowsMean}
use Rattle.stack_rules.specs.declared.refusal.LoadKind.TheVariants.{NoSuchDevice}
use Rattle.stack_rules.specs.Rules.{first}
use Rattle.stack_rules.proofs.lemmas.UnknownNameLemmas.{unknown_line}

abbrev pub device_of : Base → List ℕ
device_of base = base.device

pub mean_more : (c : Configuration) (lowers : List Lower) (names : List (List ℕ)) (i : ℕ) (name : List ℕ) (lower : Lower) → i < length names → name ≡ get_or names i name → Some lower ≡ named c name
    → Mean c lowers (take i names) → Mean c (lowers ++ lower ∷ []) (take (i + 1) names)
mean_more c lowers names i name lower low is means before =
    map_push (λ (lower : Lower). Some lower) lowers lower
    ∙ ap (λ xs. xs ++ Some lower ∷ []) before
    ∙ ap (λ o. map (named c) (take i names) ++ o ∷ []) (means ∙ ap (named c) is)
    ∙ sym (map_more (named c) names i name low)

pub mean_none : (c : Configuration) (names : List (List ℕ)) (i : ℕ) (name : List ℕ) → i < length names → name ≡ get_or names i name → None ≡ named c name → list_any (λ name. is_none (named c name)) names ≡ true
mean_none c (n ∷ ns) zero name low is means = rw (ap (λ name. is_none (named c name)) (sym is) ∙ ap is_none (sym means)) refl
mean_none c (n ∷ ns) (suc i) name low is means = or-right (is_none (named c n)) _ (mean_none c ns i name (omega (arith, low)) is means)
  where
    or-right : (a b : Bool) → b ≡ true → (a || b) ≡ true
    or-right true b h = refl
    or-right false b h = h
mean_none c [] i name low is means = let no : ⊥ = omega (arith, low) in absurd no

-- where all names have a meaning, none has none
pub mean-known : (c : Configuration) (lowers : List Lower) (names : List (List ℕ)) → Mean c lowers names → list_any (λ name. is_none (named c name)) names ≡ false
mean-known c [] [] means = refl
mean-known c [] (n ∷ ns) means = let clash : [] ≡ map (named c) (n ∷ ns) = means in cc
mean-known c (l ∷ ls) [] means = let clash : map (λ (lower : Lower). Some lower) (l ∷ ls) ≡ [] = means in cc
mean-known c (l ∷ ls) (n ∷ ns) means =
    let here : Some l ≡ named c n = cc in
    let more : map (λ (lower : Lower). Some lower) ls ≡ map (named c) ns = cc in
    rw (← here) (mean-known c ls ns more)

-- the meaning of one name
pub mean-at : (c : Configuration) (lowers : List Lower) (names : List (List ℕ)) (i : ℕ) (name : List ℕ) (lower : Lower) → Mean c lowers names → i < length names
    → name ≡ get_or names i name → lower ≡ get_or lowers i lower → named c name ≡ Some lower
mean-at c [] (n ∷ ns) i name lower means low is read = let clash : [] ≡ map (named c) (n ∷ ns) = means in cc
mean-at c (l ∷ ls) (n ∷ ns) zero name lower means low is read = let here : Some l ≡ named c n = cc in ap (named c) is ∙ sym here ∙ ap (λ (l : Lower). Some l) (sym read)
mean-at c (l ∷ ls) (n ∷ ns) (suc i) name lower means low is read = let more : map (λ (lower : Lower). Some lower) ls ≡ map (named c) ns = cc in mean-at c ls ns i name lower more (omega (arith, low)) is read
mean-at c lowers [] i name lower means low is read = let no : ⊥ = omega (arith, low) in absurd no

pub length-mean : (c : Configuration) (lowers : List Lower) (names : List (List ℕ)) → Mean c lowers names → length lowers ≡ length names
length-mean c lowers names means = sym (length-map lowers (λ (lower : Lower). Some lower)) ∙ ap length means ∙ length-map names (named c)

pub rows_more : (c : Configuration) (rows : List (List Lower)) (lines : List Line) (i : ℕ) (line : Line) (row : List Lower) → i < length lines → line ≡ get_or lines i line → Mean c row (names line.target)
    → RowsMean c rows (take i lines) → RowsMean c (rows ++ row ∷ []) (take (i + 1) lines)
rows_more c rows lines i line row low is means before =
    map_push (map (λ (lower : Lower). Some lower)) rows row
    ∙ ap (λ xs. xs ++ map (λ (lower : Lower). Some lower) row ∷ []) before
    ∙ ap (λ o. map (λ (line : Line). map (named c) (names line.target)) (take i lines) ++ o ∷ []) (means ∙ ap (λ (line : Line). map (named c) (names line.target)) is)
    ∙ sym (map_more (λ (line : Line). map (named c) (names line.target)) lines i line low)

pub tables_more : (c : Configuration) (tables : List (List (List Lower))) (devices : List DeviceRecord) (i : ℕ) (x : DeviceRecord) (rows : List (List Lower)) → i < length devices → x ≡ get_or devices i x
    → RowsMean c rows x.table → map (map (map (λ lower. Some lower))) tables ≡ map (meanings c) (take i devices)
    → map (map (map (λ lower. Some lower))) (tables ++ rows ∷ []) ≡ map (meanings c) (take (i + 1) devices)
tables_more c tables devices i x rows low is means before =
    map_push (map (map (λ (lower : Lower). Some lower))) tables rows
    ∙ ap (λ xs. xs ++ map (map (λ (lower : Lower). Some lower)) rows ∷ []) before
    ∙ ap (λ o. map (meanings c) (take i devices) ++ o ∷ []) (means ∙ ap (meanings c) is)
    ∙ sym (map_more (meanings c) devices i x low)

-- ---- the names of one line

pub found-none : (c : Configuration) (d l : ℕ) (line : Line) → AreFound c None (names line.target) → first (unknown_line c d l line) ≡ Some (record { kind = NoSuchDevice; device = d; line = l })
found-none c d l line found = rw found refl

pub found-some : (c : Configuration) (d l : ℕ) (line : Line) (row : List Lower) → AreFound c (Some row) (names line.target) → Mean c row (names line.target) × (first (unknown_line c d l line) ≡ None)
found-some c d l line row found = (found, rw (mean-known c row (names line.target) found) refl)

-- ---- the rows of a table

pub row-at : (c : Configuration) (rows : List (List Lower)) (lines : List Line) (i : ℕ) (line : Line) (row : List Lower) → RowsMean c rows lines → i < length lines → line ≡ get_or lines i line → row ≡ get_or rows i row
    → Mean c row (names line.target)
row-at c rows [] i line row means low is read = let no : ⊥ = omega (arith, low) in absurd no
row-at c [] (x ∷ xs) i line row means low is read = let clash : [] ≡ map (λ (line : Line). map (named c) (names line.target)) (x ∷ xs) = means in cc
row-at c (r ∷ rs) (x ∷ xs) zero line row means low is read =
    let here : map (λ (lower : Lower). Some lower) r ≡ map (named c) (names x.target) = cc in
    ap (map (λ (lower : Lower). Some lower)) read ∙ here ∙ ap (λ (line : Line). map (named c) (names line.target)) (sym is)
row-at c (r ∷ rs) (x ∷ xs) (suc i) line row means low is read =
    let more : map (map (λ (lower : Lower). Some lower)) rs ≡ map (λ (line : Line). map (named c) (names line.target)) xs = cc in row-at c rs xs i line row more (omega (arith, low)) is read

pub length-rows : (c : Configuration) (rows : List (List Lower)) (lines : List Line) → RowsMean c rows lines → length rows ≡ length lines
length-rows c rows lines means = sym (length-map rows (map (λ (lower : Lower). Some lower))) ∙ ap length means ∙ length-map lines (λ (line : Line). map (named c) (names line.target))

pub table-at : (c : Configuration) (tables : List (List (List Lower))) (devices : List DeviceRecord) (i : ℕ) (x : DeviceRecord) (rows : List (List Lower)) → map (map (map (λ (lower : Lower). Some lower))) tables ≡ map (meanings c) devices → i < length devices
    → x ≡ get_or devices i x → rows ≡ get_or tables i rows → RowsMean c rows x.table
table-at c tables [] i x rows means low is read = let no : ⊥ = omega (arith, low) in absurd no
table-at c [] (d ∷ ds) i x rows means low is read = let clash : [] ≡ map (meanings c) (d ∷ ds) = means in cc
table-at c (t ∷ ts) (d ∷ ds) zero x rows means low is read =
    let here : map (map (λ (lower : Lower). Some lower)) t ≡ meanings c d = cc in
    ap (map (map (λ (lower : Lower). Some lower))) read ∙ here ∙ ap (meanings c) (sym is)
table-at c (t ∷ ts) (d ∷ ds) (suc i) x rows means low is read =
    let more : map (map (map (λ (lower : Lower). Some lower))) ts ≡ map (meanings c) ds = cc in table-at c ts ds i x rows more (omega (arith, low)) is read
