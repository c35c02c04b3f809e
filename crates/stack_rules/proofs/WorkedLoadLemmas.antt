-- Worked loads.
use Rattle.std.proofs.Common.{◌≡◌, ℕ, List, [], ◌∷◌, refl, codes, Bool, true, false, Some, None, Option}
use Rattle.dm_table.specs.declared.stack.Entry.{Entry}
use Rattle.dm_table.specs.declared.table.Base.{Base}
use Rattle.dm_table.specs.declared.table.Line.{Line}
use Rattle.dm_table.specs.declared.table.Target.{Target}
use Rattle.dm_table.specs.declared.table.Target.TheVariants.{Linear, Striped, Zero}
use Rattle.stack_rules.specs.declared.refusal.LoadKind.{LoadKind}
use Rattle.stack_rules.specs.declared.refusal.LoadKind.TheVariants.{DuplicateName, NoSuchDevice, StandsOnItself, ZeroLength, Gap, TooLarge, StripesDontDivide, BeyondDevice, LowerReadOnly, TooDeep}
use Rattle.stack_rules.specs.declared.refusal.Refusal.{Refusal}
use Rattle.stack_rules.specs.declared.refusal.ConfigFault.TheVariants.{TooLarge as LeafTooLarge}
use Rattle.stack_rules.specs.Leaves.{first_leaf_fault}
use Rattle.stack_rules.specs.Records.{Configuration, LeafRecord}
use Rattle.stack_rules.specs.Descend.{descend, depth, read_cost, write_cost}
use Rattle.stack_rules.specs.Names.{mapped}
use Rattle.stack_rules.specs.Rules.{first_refusal, is_leaf_name}
use Rattle.stack_rules.specs.Cycles.{is_on_cycle, leads_below}

abbrev leaf_of : List ℕ → ℕ → LeafRecord
leaf_of name sectors = record { name = name; sectors = sectors; writable = true }

abbrev with_leaves : List LeafRecord → Configuration
with_leaves leaves = record { leaves = leaves; devices = [] }

abbrev base : List ℕ → ℕ → Base
base name offset = record { device = name; offset = offset }

abbrev line : ℕ → ℕ → Target → Line
line start sectors target = record { start = start; length = sectors; target = target }

abbrev entry : ℕ → List ℕ → Bool → List Line → Entry
entry number name rw lines = record { number = number; name = name; writable = rw; table = lines }

abbrev refused : LoadKind → ℕ → ℕ → Option Refusal
refused kind d l = Some (record { kind = kind; device = d; line = l })

-- stripes over two leaves
abbrev striped : ℕ → List Entry
striped n = entry 1 (codes "s") true (line 0 n (Striped 8 (base (codes "A") 0 ∷ base (codes "B") 16 ∷ [])) ∷ []) ∷ []

abbrev ab : Configuration
ab = with_leaves (leaf_of (codes "A") 16 ∷ leaf_of (codes "B") 32 ∷ [])

stripes : (first_refusal ab (striped 32) ≡ None) × (first_refusal ab (striped 24) ≡ refused StripesDontDivide 1 1)
unfolding first_refusal is_on_cycle leads_below descend
stripes = (refl, refl)

abbrev d8 : Configuration
d8 = with_leaves (leaf_of (codes "D") 8 ∷ [])

abbrev a : List Line → List Entry
a lines = entry 1 (codes "a") true lines ∷ []

gaps : (first_refusal d8 (a (line 0 8 (Linear (base (codes "D") 0)) ∷ line 9 8 Zero ∷ [])) ≡ refused Gap 1 2)
    × (first_refusal d8 (a (line 1 8 Zero ∷ [])) ≡ refused Gap 1 1)
    × (first_refusal d8 (a (line 3 0 Zero ∷ [])) ≡ refused ZeroLength 1 1)
unfolding first_refusal is_on_cycle leads_below descend
gaps = (refl, refl, refl)

ranges : (first_refusal d8 (a (line 0 6 (Linear (base (codes "D") 2)) ∷ [])) ≡ None) × (first_refusal d8 (a (line 0 6 (Linear (base (codes "D") 3)) ∷ [])) ≡ refused BeyondDevice 1 1)
unfolding first_refusal is_on_cycle leads_below descend
ranges = (refl, refl)

-- a leaf D of 16 sectors, mid over it, and top over mid
abbrev three : Configuration
three = record {
  leaves = leaf_of (codes "D") 16 ∷ [];
  devices = record { name = codes "mid"; writable = true; table = line 0 16 (Linear (base (codes "D") 0)) ∷ [] } ∷ record { name = codes "top"; writable = true; table = line 0 16 (Linear (base (codes "/dev/mapper/mid") 0)) ∷ [] } ∷ [];
}

-- the devices that are stacked on a replaced one are checked with it
replaced_under : first_refusal three (entry 1 (codes "mid") true (line 0 8 (Linear (base (codes "D") 0)) ∷ []) ∷ []) ≡ refused BeyondDevice 2 1
unfolding first_refusal is_on_cycle leads_below descend
replaced_under = refl

around : (first_refusal three (entry 1 (codes "mid") true (line 0 16 (Linear (base (codes "/dev/mapper/top") 0)) ∷ []) ∷ []) ≡ refused StandsOnItself 1 0)
    × (first_refusal (with_leaves []) (entry 1 (codes "x") true (line 0 1 (Linear (base (codes "/dev/mapper/x") 0)) ∷ []) ∷ []) ≡ refused StandsOnItself 1 0)
unfolding first_refusal is_on_cycle leads_below descend
around = (refl, refl)

abbrev over : ℕ → List ℕ → List ℕ → Entry
over n name lower = entry n name true (line 0 1 (Linear (base lower 0)) ∷ [])

abbrev eight : List Entry
eight = over 1 (codes "d1") (codes "D") ∷ over 2 (codes "d2") (codes "/dev/mapper/d1") ∷ over 3 (codes "d3") (codes "/dev/mapper/d2") ∷ over 4 (codes "d4") (codes "/dev/mapper/d3")
    ∷ over 5 (codes "d5") (codes "/dev/mapper/d4") ∷ over 6 (codes "d6") (codes "/dev/mapper/d5") ∷ over 7 (codes "d7") (codes "/dev/mapper/d6") ∷ over 8 (codes "d8") (codes "/dev/mapper/d7") ∷ []

depths : (first_refusal (with_leaves (leaf_of (codes "D") 1 ∷ [])) eight ≡ None)
    × (first_refusal (with_leaves (leaf_of (codes "D") 1 ∷ [])) (entry 9 (codes "d9") true (line 0 1 (Linear (base (codes "/dev/mapper/d8") 0)) ∷ []) ∷ eight) ≡ refused TooDeep 1 0)
unfolding first_refusal is_on_cycle leads_below descend
depths = (refl, refl)

names_and_flags : (first_refusal d8 (a (line 0 1 (Linear (base (codes "E") 0)) ∷ [])) ≡ refused NoSuchDevice 1 1)
    × (first_refusal d8 (entry 1 (codes "a") false (line 0 1 Zero ∷ []) ∷ entry 2 (codes "a") false (line 0 1 Zero ∷ []) ∷ []) ≡ refused DuplicateName 2 0)
    × (first_refusal d8 (entry 1 (codes "p") false (line 0 1 Zero ∷ []) ∷ entry 2 (codes "q") true (line 0 1 (Linear (base (codes "/dev/mapper/p") 0)) ∷ []) ∷ []) ≡ refused LowerReadOnly 2 1)
unfolding first_refusal is_on_cycle leads_below descend
names_and_flags = (refl, refl, refl)

large : first_refusal (with_leaves []) (a (line 0 18014398509481985 Zero ∷ [])) ≡ refused TooLarge 1 1
unfolding first_refusal is_on_cycle leads_below descend
large = refl

-- depths and costs of three: a leaf's are 0 and 1
costs : (depth three (mapped 0) ≡ 1) × (depth three (mapped 1) ≡ 2) × (read_cost three (mapped 1) ≡ 1) × (write_cost three (mapped 1) ≡ 1)
unfolding descend
costs = (refl, refl, refl, refl)

abbrev largest : Configuration
largest = with_leaves (leaf_of (codes "D") 18014398509481984 ∷ [])

-- a leaf has at most 2^54 sectors, and a line may map its last one
leaves : (first_leaf_fault largest.leaves ≡ None)
    × (first_leaf_fault (leaf_of (codes "D") 18014398509481985 ∷ []) ≡ Some LeafTooLarge)
    × (first_refusal largest (a (line 0 1 (Linear (base (codes "D") 18014398509481983)) ∷ [])) ≡ None)
    × (first_refusal largest (a (line 0 2 (Linear (base (codes "D") 18014398509481983)) ∷ [])) ≡ refused BeyondDevice 1 1)
unfolding first_leaf_fault is_leaf_name first_refusal is_on_cycle leads_below descend
leaves = (refl, refl, refl, refl)
