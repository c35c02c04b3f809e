-- The types of root and /usr file systems and of their hash trees are 16 bytes, and none is that of an unused entry.
use Rattle.std.proofs.Common.{◌≡◌, ◌∙◌, ◌<◌, ◌&&◌, ◌==◌, ℕ, Bool, true, false, cond, not, nat_lt, List, [], ◌∷◌, ◌++◌, Option, None, Some, ap, arith, length, refl, replicate, subst, sym}
use Rattle.std.specs.Prelude.{codes, find}
use Rattle.std.specs.List.{list_all}
use Rattle.std.specs.Option.{option_map_or}
use Rattle.std.specs.Str.{bytes_eq}
use Rattle.std.proofs.lemmas.Bool.Decides.{nat_tests}
use Rattle.std.proofs.lemmas.List.Elements.{All-cons, All-nil}
use Rattle.uuid.specs.Text.{by_index, parsed}
use Rattle.disk_layout.specs.Written.{AreBytes, IsField}
use Rattle.partition_commands.specs.declared.root_types.TheConstants.{ROOT_TYPES}
use Rattle.partition_commands.specs.declared.usr_types.TheConstants.{USR_TYPES}
use Rattle.partition_commands.specs.Kinds.{name_in}
use Rattle.partition_commands.specs.NamedKinds.{kind_named, root_uuid, usr_uuid}
use Rattle.assemble_commands.specs.declared.kinds.DiskKinds.{DiskKinds}
use Rattle.assemble_commands.specs.Kinds.{both_kinds, disk_kinds, kind_text}

-- ---- tests

and-first : (a b : Bool) → (a && b) ≡ true → a ≡ true
and-first true b h = refl
and-first false b h = cc

and-second : (a b : Bool) → (a && b) ≡ true → b ≡ true
and-second true b h = h
and-second false b h = cc

small-of : (n : ℕ) → nat_lt n 256 ≡ true → n < 256
small-of n h = grind (arith, nat_tests)

equal-of : (m n : ℕ) → (m == n) ≡ true → m ≡ n
equal-of m n h = grind (arith, nat_tests)

bytes-of : (bytes : List ℕ) → list_all (λ b. nat_lt b 256) bytes ≡ true → AreBytes bytes
bytes-of [] h = All-nil (λ b. b < 256)
bytes-of (b ∷ bs) h = All-cons (λ b. b < 256) b bs (small-of b (and-first (nat_lt b 256) (list_all (λ b. nat_lt b 256) bs) h)) (bytes-of bs (and-second (nat_lt b 256) (list_all (λ b. nat_lt b 256) bs) h))

-- a type that an entry may have
is_kind : List ℕ → Bool
is_kind kind = (length kind == 16) && (list_all (λ b. nat_lt b 256) kind && not (bytes_eq kind (replicate 16 0)))

-- none, or one that an entry may have
may_be_kind : Option (List ℕ) → Bool
may_be_kind None = true
may_be_kind (Some kind) = is_kind kind

-- ---- the rows

either : {A : Type 0} (P : List ℕ → Bool) (value : A → List ℕ) (is : Bool) (row : A) (rest : Option A) (other : List ℕ) → P (value row) ≡ true → P (option_map_or value rest other) ≡ true
    → P (option_map_or value (cond is (Some row) rest) other) ≡ true
either P value true row rest other here more = here
either P value false row rest other here more = more

-- what holds of each value, and of the other text, holds of the value in the row with that key
each-name_in : {A : Type 0} (P : List ℕ → Bool) (rows : List A) (key value : A → List ℕ) (text other : List ℕ) → list_all (λ row. P (value row)) rows ≡ true → P other ≡ true → P (name_in rows key value text other) ≡ true
unfolding name_in
each-name_in P [] key value text other all last = last
each-name_in P (row ∷ rows) key value text other all last =
    either P value (bytes_eq (key row) text) row (find (λ row. bytes_eq (key row) text) rows) other (and-first (P (value row)) (list_all (λ row. P (value row)) rows) all)
    (each-name_in P rows key value text other (and-second (P (value row)) (list_all (λ row. P (value row)) rows) all) last)

abbrev is_text_of_kind : List ℕ → Bool
is_text_of_kind text = may_be_kind (parsed text)

usr-kinds : list_all (λ row. is_text_of_kind row.0.now) USR_TYPES.now ≡ true
unfolding by_index is_kind may_be_kind
usr-kinds = refl

root-kinds : list_all (λ row. is_text_of_kind row.0.now) ROOT_TYPES.now ≡ true
unfolding by_index is_kind may_be_kind
root-kinds = refl

named-kind : (name : List ℕ) → may_be_kind (kind_named name) ≡ true
unfolding kind_named root_uuid usr_uuid may_be_kind
named-kind name =
    each-name_in is_text_of_kind ROOT_TYPES.now (λ row. row.1.now) (λ row. row.0.now) name (usr_uuid name) root-kinds
    (each-name_in is_text_of_kind USR_TYPES.now (λ row. row.1.now) (λ row. row.0.now) name _ usr-kinds refl)

-- ---- the types of a disk

-- the fields of a type that an entry may have
pub record IsKind (kind : List ℕ) : Type 0 where
  pub field : IsField 16 kind
  pub used : not (bytes_eq kind (replicate 16 0)) ≡ true

kind-is : (kind : List ℕ) → is_kind kind ≡ true → IsKind kind
unfolding is_kind
kind-is kind h =
    let rest = and-second (length kind == 16) (list_all (λ b. nat_lt b 256) kind && not (bytes_eq kind (replicate 16 0))) h in
    record {
      field = (equal-of (length kind) 16 (and-first (length kind == 16) (list_all (λ b. nat_lt b 256) kind && not (bytes_eq kind (replicate 16 0))) h), bytes-of kind (and-first (list_all (λ b. nat_lt b 256) kind) (not (bytes_eq kind (replicate 16 0))) rest));
      used = and-second (list_all (λ b. nat_lt b 256) kind) (not (bytes_eq kind (replicate 16 0))) rest;
    }

kind-named : (name kind : List ℕ) → kind_named name ≡ Some kind → IsKind kind
unfolding may_be_kind
kind-named name kind is = kind-is kind (sym (ap may_be_kind is) ∙ named-kind name)

both-some : (x y : Option (List ℕ)) (kinds : DiskKinds) → both_kinds x y ≡ Some kinds → (x ≡ Some kinds.«data») × (y ≡ Some kinds.hash)
both-some (Some p) (Some q) kinds is = let same : record { «data» = p; hash = q } ≡ kinds = cc in (ap (λ (k : DiskKinds). Some k.«data») same, ap (λ (k : DiskKinds). Some k.hash) same)
both-some (Some p) None kinds is = cc
both-some None y kinds is = cc

-- both types may be those of an entry
pub disk-kinds : (kind arch : List ℕ) (kinds : DiskKinds) → disk_kinds kind arch ≡ Some kinds → IsKind kinds.«data» × IsKind kinds.hash
unfolding disk_kinds
disk-kinds kind arch kinds is =
    let both = both-some (kind_named (kind_text kind arch)) (kind_named (kind_text kind arch ++ codes "-verity")) kinds is in
    (kind-named (kind_text kind arch) kinds.«data» both.0, kind-named (kind_text kind arch ++ codes "-verity") kinds.hash both.1)
