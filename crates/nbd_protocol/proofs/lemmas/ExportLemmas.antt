-- Exports by their names and by their places.
use Rattle.std.proofs.Common.{◌≡◌, ◌<◌, ℕ, zero, suc, ◌+◌, ◌==◌, Bool, true, false, inl, inr, List, [], ◌∷◌, ◌++◌, length, map, not, refl, ap, sym, ◌∙◌, subst, arith, Some, None}
use Rattle.std.specs.Prelude.{◌&&◌, ◌≤◌, All, IsTrue, Vec, cond, nat_le, nat_lt, position, if◌then◌else◌}
use Rattle.std.specs.List.{position_or_len}
use Rattle.std.specs.Global.{Global}
use Rattle.std.specs.Str.{bytes_eq}
use Rattle.std.proofs.lemmas.Bool.{and_parts}
use Rattle.std.proofs.lemmas.List.{get_or-map, length-map, map-append}
use Rattle.std.proofs.lemmas.List.Quantifiers.{position-Some}
use Rattle.std.proofs.lemmas.List.Elements.{All-append, All-get_or, All-map}
use Rattle.dm_table.specs.Names.{is_mapped_name}
use Rattle.stack_rules.specs.Records.{Configuration}
use Rattle.nbd_protocol.specs.Exports.{AreExports, HasShortName, HaveShortNames, ExportRecord, IsExport, asked, export_at, export_record, export_records, no_export, export_place}
use Rattle.nbd_protocol.specs.Offers.{AddsExport, Offers, longest_name, offers_more, offers_none}
use Rattle.nbd_protocol.specs.declared.export.Export.{Export}

module _ {X Y : Type 0} (f : X → Y) where
  place-mapped : (p : Y → Bool) (xs : List X) → position_or_len p (map f xs) ≡ position_or_len (λ x. p (f x)) xs
  place-mapped p [] = refl
  place-mapped p (x ∷ xs) = ap (λ n. cond (not (p (f x))) (1 + n) 0) (place-mapped p xs)

  pub position-mapped : (p : Y → Bool) (xs : List X) → position (λ x. p (f x)) xs ≡ position p (map f xs)
  position-mapped p xs =
      let place = sym (place-mapped p xs) in
      let size = sym (length-map xs f) in
      ap (λ n. cond (nat_lt n (length xs)) (Some n) None) place ∙ ap (λ n. cond (nat_lt (position_or_len p (map f xs)) n) (Some (position_or_len p (map f xs))) None) size

-- the place that is asked for is that of an export
pub asked-inside : (es : List ExportRecord) (name : List ℕ) (place : ℕ) → asked es name ≡ Some place → place < length es
unfolding asked
asked-inside es name place is = go ((length name == 0) && nat_lt 0 (length es)) refl is
  where
    go : (is_first : Bool) → ((length name == 0) && nat_lt 0 (length es)) ≡ is_first → (if is_first then Some 0 else export_place es name) ≡ Some place → place < length es
    go true first is = grind (arith)
    go false first is = (position-Some (λ e. bytes_eq e.name name) es place no_export is).0

-- ---- exports of a configuration

-- the only one
pub only-export : (c : Configuration) (e : Export) → IsExport c (export_record e) → AreExports c (e ∷ [])
only-export c e x zero d inside = x
only-export c e x (suc k) d inside = absurd (omega arith)

-- the protocol can tell them
pub exports-short : (c : Configuration) (exports : List Export) → AreExports c exports → HaveShortNames exports
exports-short c exports p = λ k d inside. (p k d inside).short

-- the one at a place
pub placed-export : (c : Configuration) (exports : List Export) (place : ℕ) → AreExports c exports → place < length (export_records exports) → IsExport c (export_at (export_records exports) place)
placed-export c exports place p inside = All-get_or (IsExport c) (export_records exports) place no_export inside (All-map (IsExport c) export_record exports p)

pub placed-short : (exports : List Export) (place : ℕ) → HaveShortNames exports → place < length exports → HasShortName (export_at (export_records exports) place)
placed-short exports place short inside = All-get_or HasShortName (export_records exports) place no_export (omega (arith, inside, length-map exports export_record)) (All-map HasShortName export_record exports short)

pub placed-inside : (exports : List Export) (place : ℕ) → place < length (export_records exports) → place < length exports
placed-inside exports place inside = omega (arith, inside, length-map exports export_record)

-- a device's name is short
pub name-short : (name : List ℕ) → IsTrue (is_mapped_name name) → length name ≤ longest_name
unfolding is_mapped_name
name-short name named =
    let sizes = (and_parts (nat_le 1 (length name) && nat_le (length name) 127) _ named).0 in
    grind (arith, (and_parts (nat_le 1 (length name)) _ sizes).1)

-- the next name
pub offers-next : (c : Configuration) (names names' : List (Vec ℕ Global)) (n : Vec ℕ Global) (name : List ℕ) (es es' : List ExportRecord) → names' ≡ names ++ n ∷ [] → name ≡ n.items
    → Offers c (map (λ v. v.items) names) es → AddsExport c name es es' → Offers c (map (λ v. v.items) names') es'
offers-next c names names' n name es es' more is o a =
    let listed = ap (map (λ (v : Vec ℕ Global). v.items)) more ∙ map-append (λ (v : Vec ℕ Global). v.items) names (n ∷ []) in
    subst (λ l. Offers c l es') (sym listed) (offers_more n.items o (subst (λ (l : List ℕ). AddsExport c l es es') is a))

-- those of some names
offers-each : (c : Configuration) {names : List (List ℕ)} {es : List ExportRecord} → Offers c names es → All (IsExport c) es
offers-each c offers_none = λ k d inside. absurd (omega arith)
offers-each c (offers_more {es = es} name o (inl a)) = subst (All (IsExport c)) (sym a.3) (All-append (IsExport c) es (a.0 ∷ []) (offers-each c o) (each a.1))
  where
    each : {e : ExportRecord} → IsExport c e → All (IsExport c) (e ∷ [])
    each x zero d inside = x
    each x (suc k) d inside = absurd (omega arith)
offers-each c (offers_more name o (inr a)) = subst (All (IsExport c)) (sym a.1) (offers-each c o)

pub offers-exports : (c : Configuration) (names : List (List ℕ)) (exports : List Export) → Offers c names (export_records exports) → AreExports c exports
offers-exports c names exports o = λ k d inside.
    subst (IsExport c) (get_or-map export_record exports k d (export_record d) inside)
    (All-get_or (IsExport c) (export_records exports) k (export_record d) (omega (arith, inside, length-map exports export_record)) (offers-each c o))
