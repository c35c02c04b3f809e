-- What a check answers where one of its parts refuses.
use Rattle.std.proofs.Common.{◌≡◌, ◌<◌, ◌≤◌, ℕ, List, Option, Err, length, drop, get_or, arith}
use Rattle.allocation.specs.declared.out_of_memory.OutOfMemory.{OutOfMemory}
use Rattle.allocation.specs.Asked.{asked}
use Rattle.allocation.specs.Refusal.{IsOutOfMemory}
use Rattle.stack_rules.specs.declared.refusal.LoadFault.{LoadFault}
use Rattle.stack_rules.specs.declared.refusal.LoadFault.TheVariants.{Refused, NoMemory}
use Rattle.stack_rules.specs.declared.refusal.Refusal.{Refusal}
use Rattle.stack_rules.specs.Passing.{IsPassed, IsFirst}
use Rattle.stack_rules.specs.Rules.{first}
use Rattle.stack_rules.proofs.lemmas.FirstRefusalLemmas.{scan, scan_found}

-- the error of an allocation is evidence of a refusal, and of each greater bound
pub out_of_memory : (n : ℕ) (e : OutOfMemory) → asked e ≤ n → IsOutOfMemory n
out_of_memory n e low = (e.asked, low, e.refused)

pub out_of_memory-more : (m n : ℕ) → m ≤ n → IsOutOfMemory m → IsOutOfMemory n
out_of_memory-more m n low h = (h.0, omega (arith, low, h.1), h.2)

pub IsFirst-passed : {A : Type 0} (P : A → Type 0) (fault : LoadFault) (rules : List (Option Refusal)) → IsPassed {A = A} (Err fault) rules P → IsFirst fault rules
IsFirst-passed P (Refused r) rules h = h
IsFirst-passed P NoMemory rules h = h

pub passed-IsFirst : {A : Type 0} (P : A → Type 0) (fault : LoadFault) (rules : List (Option Refusal)) → IsFirst fault rules → IsPassed {A = A} (Err fault) rules P
passed-IsFirst P (Refused r) rules h = h
passed-IsFirst P NoMemory rules h = h

pub IsFirst-found : {X : Type 0} (f : ℕ → X → List (Option Refusal)) (xs : List X) (i n : ℕ) (x : X) (fault : LoadFault) (rules : List (Option Refusal)) → i < length xs → x ≡ get_or xs i x
    → IsFirst fault (f n x) → scan f n (drop i xs) ≡ first rules → IsFirst fault rules
IsFirst-found f xs i n x (Refused r) rules low is h before = scan_found f xs i n x r (first rules) low is h before
IsFirst-found f xs i n x NoMemory rules low is h before = h

pub passed_found : {A B : Type 0} (P : A → Type 0) (Q : B → Type 0) {X : Type 0} (f : ℕ → X → List (Option Refusal)) (xs : List X) (i n : ℕ) (x : X) (fault : LoadFault) (rules : List (Option Refusal)) → i < length xs → x ≡ get_or xs i x
    → IsPassed {A = A} (Err fault) (f n x) P → scan f n (drop i xs) ≡ first rules → IsPassed {A = B} (Err fault) rules Q
passed_found P Q f xs i n x fault rules low is h before = passed-IsFirst Q fault rules (IsFirst-found f xs i n x fault rules low is (IsFirst-passed P fault (f n x) h) before)
