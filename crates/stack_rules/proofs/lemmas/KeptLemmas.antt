-- What is kept of a configuration, read off by place.
use Rattle.std.proofs.Common.{◌≡◌, ◌<◌, ℕ, List, [], refl, sym, ap, ◌∙◌, Option, Some, None, length, get_or, map, arith}
use Rattle.std.specs.Prelude.{slice_get}
use Rattle.std.proofs.lemmas.List.{length-map}
use Rattle.std.specs.Option.{option_map_or}
use Rattle.std.proofs.lemmas.List.FromFn.{length-map-range_with_len, get_or-map-range_with_len}
use Rattle.dm_table.specs.declared.table.Line.{Line}
use Rattle.stack_rules.specs.declared.lower.Lower.{Lower}
use Rattle.stack_rules.specs.Records.{Configuration, DeviceRecord}
use Rattle.stack_rules.specs.Names.{mapped, named, names, lines_of}
use Rattle.stack_rules.specs.Lines.{names_at, lower_at}
use Rattle.stack_rules.specs.Kept.{each_mapped, meanings, AreLowers}
use Rattle.stack_rules.proofs.lemmas.ListLemmas.{same_row, same_at}

pub length-each_mapped : (f : Lower → ℕ) (n : ℕ) (v : List ℕ) → v ≡ each_mapped f n → length v ≡ n
length-each_mapped f n v is = ap length is ∙ length-map-range_with_len (λ d. f (mapped d)) 0 n

pub each_mapped-at : (f : Lower → ℕ) (n : ℕ) (v : List ℕ) (d r : ℕ) → v ≡ each_mapped f n → d < n → r ≡ get_or v d r → r ≡ f (mapped d)
each_mapped-at f n v d r is low read = read ∙ ap (λ v. get_or v d r) is ∙ get_or-map-range_with_len (λ d. f (mapped d)) 0 n d d r low (omega arith)

pub lines_of-read : (c : Configuration) (d : ℕ) (x : DeviceRecord) → slice_get c.devices d ≡ Some x → lines_of c d ≡ x.table
lines_of-read c d x is = ap (λ o. option_map_or (λ (x : DeviceRecord). x.table) o []) is

-- as many devices, lines and names
pub length-lowers : (c : Configuration) (lowers : List (List (List Lower))) → AreLowers c lowers → length lowers ≡ length c.devices
length-lowers c lowers are = sym (length-map lowers (map (map (λ lower. Some lower)))) ∙ ap length are ∙ length-map c.devices (meanings c)

line_of_names : (c : Configuration) (x : Option DeviceRecord) (l : ℕ) (rows : List (List Lower))
    → map (map (λ lower. Some lower)) rows ≡ option_map_or (meanings c) x []
    → map (λ lower. Some lower) (get_or rows l []) ≡ map (named c) (option_map_or (λ line. names line.target) (slice_get (option_map_or (λ x. x.table) x []) l) [])
line_of_names c None l rows e = same_none (same_row (λ lower. Some lower) (λ (y : Unit {0}). []) rows [] l e)
  where
    same_none : map (λ lower. Some lower) (get_or rows l []) ≡ [] → map (λ lower. Some lower) (get_or rows l []) ≡ []
    same_none h = h
line_of_names c (Some x) l rows e = same_row (λ lower. Some lower) (λ line. map (named c) (names line.target)) rows x.table l e ∙ move (slice_get x.table l)
  where
    move : (o : Option Rattle.dm_table.specs.declared.table.Line.Line) → option_map_or (λ line. map (named c) (names line.target)) o [] ≡ map (named c) (option_map_or (λ line. names line.target) o [])
    move None = refl
    move (Some line) = refl

pub row-lowers : (c : Configuration) (lowers : List (List (List Lower))) (d l : ℕ) → AreLowers c lowers
    → map (λ lower. Some lower) (get_or (get_or lowers d []) l []) ≡ map (named c) (names_at c d l)
row-lowers c lowers d l are = line_of_names c (slice_get c.devices d) l (get_or lowers d []) (same_row (map (λ lower. Some lower)) (meanings c) lowers c.devices d are)

pub length-row : (c : Configuration) (lowers : List (List (List Lower))) (d l : ℕ) → AreLowers c lowers → length (get_or (get_or lowers d []) l []) ≡ length (names_at c d l)
length-row c lowers d l are =
    sym (length-map (get_or (get_or lowers d []) l []) (λ lower. Some lower)) ∙ ap length (row-lowers c lowers d l are) ∙ length-map (names_at c d l) (named c)

pub lower_at-kept : (c : Configuration) (lowers : List (List (List Lower))) (d l i : ℕ) (r : Lower) → AreLowers c lowers
    → slice_get (get_or (get_or lowers d []) l []) i ≡ Some r → lower_at c d l i ≡ Some r
lower_at-kept c lowers d l i r are is = same_at (named c) (get_or (get_or lowers d []) l []) (names_at c d l) i r (row-lowers c lowers d l are) is
