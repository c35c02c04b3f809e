-- Keys and digests of zeros, read off by place.
use Rattle.std.proofs.Common.{◌≡◌, ◌+◌, ◌<◌, ℕ, zero, suc, List, [], ◌∷◌, refl, ap, ◌∙◌, true, false, ◌==◌, Option, Some, None, get_or, map, arith}
use Rattle.std.specs.Prelude.{slice_get, find, option_and_then}
use Rattle.std.specs.List.{cons_option}
use Rattle.std.proofs.lemmas.Bool.Decides.{nat_tests}
use Rattle.std.specs.Option.{option_map, option_map_or}
use Rattle.dm_table.specs.declared.table.Line.{Line}
use Rattle.stack_config.specs.declared.keys.LineKey.{LineKey}
use Rattle.stack_rules.specs.Records.{Configuration, DeviceRecord}
use Rattle.stack_rules.specs.Lines.{key_of, key_of_line, zero_digest_of, zero_digest_at}
use Rattle.stack_config.specs.Keys.{AreKeys, keys_from, AreZeroDigests, zero_digests_of}

keys-past : (n l : ℕ) (lines : List Line) → l < n → find (λ (k : LineKey). k.line == l) (keys_from n lines) ≡ None
keys-past n l [] low = refl
keys-past n l (line ∷ more) low = go (key_of line.target) (keys-past (n + 1) l more (omega (arith, low)))
  where
    apart : (n == l) ≡ false
    apart = grind (arith, nat_tests, low)

    go : (o : Option (List ℕ)) → find (λ (k : LineKey). k.line == l) (keys_from (n + 1) more) ≡ None
        → find (λ (k : LineKey). k.line == l) (cons_option (option_map (λ key. record { line = n; key = key }) o) (keys_from (n + 1) more)) ≡ None
    go None later = later
    go (Some key) later = rw apart later

-- the key that is kept for a line is its line's
find-key : (n l : ℕ) (lines : List Line) → option_map (λ (k : LineKey). k.key) (find (λ (k : LineKey). k.line == n + l) (keys_from n lines)) ≡ option_and_then (λ (line : Line). key_of line.target) (slice_get lines l)
find-key n l [] = refl
find-key n zero (line ∷ more) = go (key_of line.target) (keys-past (n + 1) (n + 0) more (omega arith))
  where
    here : (n == n + 0) ≡ true
    here = grind (arith, nat_tests)

    go : (o : Option (List ℕ)) → find (λ (k : LineKey). k.line == n + 0) (keys_from (n + 1) more) ≡ None
        → option_map (λ (k : LineKey). k.key) (find (λ (k : LineKey). k.line == n + 0) (cons_option (option_map (λ key. record { line = n; key = key }) o) (keys_from (n + 1) more))) ≡ o
    go None later = ap (option_map (λ (k : LineKey). k.key)) later
    go (Some key) later = rw here refl
find-key n (suc l) (line ∷ more) = go (key_of line.target) (find-key (n + 1) l more)
  where
    apart : (n == n + suc l) ≡ false
    apart = grind (arith, nat_tests)

    same : n + 1 + l ≡ n + suc l
    same = omega arith

    go : (o : Option (List ℕ)) → option_map (λ (k : LineKey). k.key) (find (λ (k : LineKey). k.line == n + 1 + l) (keys_from (n + 1) more)) ≡ option_and_then (λ (line : Line). key_of line.target) (slice_get more l)
        → option_map (λ (k : LineKey). k.key) (find (λ (k : LineKey). k.line == n + suc l) (cons_option (option_map (λ key. record { line = n; key = key }) o) (keys_from (n + 1) more)))
        ≡ option_and_then (λ (line : Line). key_of line.target) (slice_get more l)
    go None later = rw same at later
    go (Some key) later = rw apart (rw same at later)

pub key-kept : (c : Configuration) (keys : List (List LineKey)) (d l : ℕ) → AreKeys c.devices keys → option_map (λ (k : LineKey). k.key) (find (λ (k : LineKey). k.line == l) (get_or keys d [])) ≡ key_of_line c d l
key-kept c keys d l are = ap (λ keys. option_map (λ (k : LineKey). k.key) (find (λ (k : LineKey). k.line == l) (get_or keys d []))) are ∙ go c.devices d
  where
    first : (lines : List Line) → option_map (λ (k : LineKey). k.key) (find (λ (k : LineKey). k.line == l) (keys_from 0 lines)) ≡ option_and_then (λ (line : Line). key_of line.target) (slice_get lines l)
    first lines = let same : 0 + l ≡ l = omega arith in rw same at (find-key 0 l lines)

    go : (xs : List DeviceRecord) (d : ℕ) → option_map (λ (k : LineKey). k.key) (find (λ (k : LineKey). k.line == l) (get_or (map (λ (x : DeviceRecord). keys_from 0 x.table) xs) d []))
        ≡ option_and_then (λ (line : Line). key_of line.target) (slice_get (option_map_or (λ (x : DeviceRecord). x.table) (slice_get xs d) []) l)
    go [] d = refl
    go (x ∷ xs) zero = first x.table
    go (x ∷ xs) (suc d) = go xs d

-- the digest that is kept for a line is its line's
pub zero_digest-kept : (c : Configuration) (digests : List (List (Option (List ℕ)))) (d l : ℕ) → AreZeroDigests c.devices digests
    → option_and_then (λ (o : Option (List ℕ)). o) (slice_get (get_or digests d []) l) ≡ zero_digest_at c d l
zero_digest-kept c digests d l are = ap (λ (rows : List (List (Option (List ℕ)))). option_and_then (λ (o : Option (List ℕ)). o) (slice_get (get_or rows d []) l)) are ∙ go c.devices d
  where
    line : (lines : List Line) (l : ℕ) → option_and_then (λ (o : Option (List ℕ)). o) (slice_get (zero_digests_of lines) l) ≡ option_and_then (λ (line : Line). zero_digest_of line.target) (slice_get lines l)
    line [] l = refl
    line (x ∷ xs) zero = refl
    line (x ∷ xs) (suc l) = line xs l

    go : (xs : List DeviceRecord) (d : ℕ) → option_and_then (λ (o : Option (List ℕ)). o) (slice_get (get_or (map (λ (x : DeviceRecord). zero_digests_of x.table) xs) d []) l)
        ≡ option_and_then (λ (line : Line). zero_digest_of line.target) (slice_get (option_map_or (λ (x : DeviceRecord). x.table) (slice_get xs d) []) l)
    go [] d = refl
    go (x ∷ xs) zero = line x.table l
    go (x ∷ xs) (suc d) = go xs d
