-- What a valid configuration gives of each line.
use Rattle.std.proofs.Common.{◌≡◌, ◌+◌, ◌-◌, ◌≤◌, ◌<◌, ℕ, zero, suc, List, [], ◌∷◌, ◌++◌, refl, Bool, true, false, not, ◌&&◌, ◌||◌, ◌==◌, Option, Some, None, length, take, arith, nat_lt}
use Rattle.std.specs.Prelude.{flat_map, slice_get}
use Rattle.std.specs.List.{AllByRecursion, enumerate_from, list_any}
use Rattle.std.proofs.lemmas.Bool.Decides.{nat_tests}
use Rattle.std.proofs.lemmas.List.Sums.{sum_by-cons}
use Rattle.dm_table.specs.declared.table.Line.{Line}
use Rattle.stack_rules.specs.Records.{Configuration, DeviceRecord}
use Rattle.stack_rules.specs.declared.refusal.LoadKind.{LoadKind}
use Rattle.stack_rules.specs.declared.refusal.LoadKind.TheVariants.{TooMany}
use Rattle.stack_rules.specs.declared.refusal.Refusal.{Refusal}
use Rattle.stack_rules.specs.Names.{table_sectors}
use Rattle.stack_rules.specs.Lines.{Follow}
use Rattle.stack_rules.specs.Descend.{most_devices}
use Rattle.stack_rules.specs.Rules.{IsValid, first, each_device, device_rules, depth_rules, cost_rules, unknown_names, cycles, table_rules, line_faults, line_rules, refusals_at, refuse, is_too_many, most_lines, most_sectors, is_undivided, cuts_unit, is_off_unit, is_unprotected, is_beyond, is_uncovered, is_tree_beyond, needs_read_only, names_read_only}

-- two lists in which nothing refuses
pub parts : (xs ys : List (Option Refusal)) → first (xs ++ ys) ≡ None → (first xs ≡ None) × (first ys ≡ None)
parts [] ys h = (refl, h)
parts (None ∷ xs) ys h = parts xs ys h
parts (Some r ∷ xs) ys h = let clash : Some r ≡ None = h in cc

-- a list that begins with a rule that refuses nothing
pub apart : (kind : LoadKind) (d l : ℕ) (b : Bool) (more : List (Option Refusal)) → first (refuse kind d l b ∷ more) ≡ None → (b ≡ false) × (first more ≡ None)
apart kind d l true more h = let refused : Refusal = record { kind = kind; device = d; line = l } in let clash : Some refused ≡ None = h in cc
apart kind d l false more h = (refl, h)

-- what holds at each place of a list that counts from k
pub at_place : {X : Type 0} (f : ℕ → X → List (Option Refusal)) (k : ℕ) (xs : List X) → first (flat_map (λ p. f p.0 p.1) (enumerate_from k xs)) ≡ None
    → (i j : ℕ) (x : X) → slice_get xs i ≡ Some x → j ≡ i + k → first (f j x) ≡ None
at_place f k [] h i j x there place = let clash : None ≡ Some x = there in cc
at_place f k (y ∷ ys) h zero j x there place =
    let same : y ≡ x = cc in
    let here : j ≡ k = omega (arith, place) in
    rw (here, ← same) (parts (f k y) (flat_map (λ p. f p.0 p.1) (enumerate_from (k + 1) ys)) h).0
at_place f k (y ∷ ys) h (suc i) j x there place =
    at_place f (k + 1) ys (parts (f k y) (flat_map (λ p. f p.0 p.1) (enumerate_from (k + 1) ys)) h).1 i j x there (omega (arith, place))

-- what holds of each line of each device
pub line_at_place : (c : Configuration) (rule : ℕ → DeviceRecord → ℕ → Line → List (Option Refusal)) → first (each_device c (λ d x. flat_map (λ p. rule d x p.0 p.1) (enumerate_from 1 x.table))) ≡ None
    → (d : ℕ) (x : DeviceRecord) → slice_get c.devices d ≡ Some x → (l : ℕ) (line : Line) → slice_get x.table l ≡ Some line → first (rule (d + 1) x (l + 1) line) ≡ None
line_at_place c rule h d x device l line there =
    at_place (λ l line. rule (d + 1) x l line) 1 x.table
    (at_place (λ d x. flat_map (λ p. rule d x p.0 p.1) (enumerate_from 1 x.table)) 1 c.devices h d (d + 1) x device refl)
    l (l + 1) line there refl

-- the parts of the rules
pub record AreRules (c : Configuration) : Type 0 where
  pub many : is_too_many c.devices ≡ false
  pub known : first (unknown_names c) ≡ None
  pub around : first (cycles c) ≡ None
  pub lines : first (each_device c (table_rules c)) ≡ None
  pub depths : first (depth_rules c) ≡ None
  pub costs : first (cost_rules c) ≡ None

pub rules-of : (c : Configuration) → IsValid c → AreRules c
unfolding IsValid
rules-of c valid =
    let a = parts (device_rules c ++ depth_rules c) (cost_rules c) valid in
    let b = parts (device_rules c) (depth_rules c) a.0 in
    let e = parts (refuse TooMany 0 0 (is_too_many c.devices) ∷ unknown_names c ++ cycles c) (each_device c (table_rules c)) b.0 in
    let f = parts (refuse TooMany 0 0 (is_too_many c.devices) ∷ unknown_names c) (cycles c) e.0 in
    let g = apart TooMany 0 0 (is_too_many c.devices) (unknown_names c) f.0 in
    record { many = g.0; known = g.1; around = f.1; lines = e.1; depths = b.1; costs = a.1 }

-- rules that refuse nothing, and the other way round
pub faults-none : (d l : ℕ) (faults : List (LoadKind × Bool)) → first (refusals_at d l faults) ≡ None → AllByRecursion (λ (fault : LoadKind × Bool). fault.1 ≡ false) faults
faults-none d l [] h = tt
faults-none d l (f ∷ fs) h = let both = apart f.0 d l f.1 (refusals_at d l fs) h in (both.0, faults-none d l fs both.1)

pub none-faults : (d l : ℕ) (faults : List (LoadKind × Bool)) → AllByRecursion (λ (fault : LoadKind × Bool). fault.1 ≡ false) faults → first (refusals_at d l faults) ≡ None
none-faults d l [] all = refl
none-faults d l (f ∷ fs) all = rw all.0 (none-faults d l fs all.1)

at_least_one : (n : ℕ) → (n == 0) ≡ false → 0 < n
at_least_one n h = grind (arith, nat_tests)

pub equal : (m n : ℕ) → not (m == n) ≡ false → m ≡ n
equal m n h = grind (arith, nat_tests)

-- a line that no rule refuses
pub record IsSound (c : Configuration) (writable : Bool) (before : ℕ) (line : Line) : Type 0 where
  pub some : 0 < line.length
  pub start : line.start ≡ before
  pub low : line.start + line.length ≤ most_sectors
  pub divides : is_undivided line.length line.target ≡ false
  pub units : cuts_unit line.length line.target ≡ false
  pub offset : is_off_unit line.length line.target ≡ false
  pub protected : is_unprotected line.length line.target ≡ false
  pub inside : is_beyond c line.length line.target ≡ false
  pub covered : is_uncovered line.length line.target ≡ false
  pub tree : is_tree_beyond c line.target ≡ false
  pub read_only : (writable && needs_read_only line.length line.target) ≡ false
  pub lowers : (writable && names_read_only c line.target) ≡ false

pub sound : (c : Configuration) → IsValid c → (d : ℕ) (x : DeviceRecord) → slice_get c.devices d ≡ Some x
    → (l : ℕ) (line : Line) → slice_get x.table l ≡ Some line → IsSound c x.writable (table_sectors (take l x.table)) line
sound c valid d x device l line there =
    let all : first (line_rules c x.writable (d + 1) (l + 1) (table_sectors (take ((l + 1) - 1) x.table)) line) ≡ None =
    line_at_place c (λ d x l line. line_rules c x.writable d l (table_sectors (take (l - 1) x.table)) line) (rules-of c valid).lines d x device l line there in
    let here : (l + 1) - 1 ≡ l = omega arith in
    from (table_sectors (take l x.table)) (rw here at all)
  where
    from : (before : ℕ) → first (line_rules c x.writable (d + 1) (l + 1) before line) ≡ None → IsSound c x.writable before line
    from before h =
        let a = faults-none (d + 1) (l + 1) (line_faults c x.writable before line) h in
        record { some = at_least_one line.length a.0; start = equal line.start before a.1.0; low = Rattle.std.proofs.lemmas.Bool.ltb-false most_sectors (line.start + line.length) a.1.1.0; divides = a.1.1.1.0; units = a.1.1.1.1.0; offset = a.1.1.1.1.1.0; protected = a.1.1.1.1.1.1.0; inside = a.1.1.1.1.1.1.1.0; covered = a.1.1.1.1.1.1.1.1.0; tree = a.1.1.1.1.1.1.1.1.1.0; read_only = a.1.1.1.1.1.1.1.1.1.1.0; lowers = a.1.1.1.1.1.1.1.1.1.1.1.0 }

-- ---- lines follow each other

-- the facts of each line of a list, where the lines before it have some sectors
AllFollow : ℕ → List Line → Type 0
AllFollow n lines = (l : ℕ) (line : Line) → slice_get lines l ≡ Some line → (line.start ≡ n + table_sectors (take l lines)) × (0 < line.length)

follow-all : (n : ℕ) (lines : List Line) → AllFollow n lines → Follow n lines
unfolding AllFollow
follow-all n [] all = tt
follow-all n (line ∷ more) all =
    let here = all 0 line refl in
    (omega (arith, here.0), here.1, follow-all (n + line.length) more (λ l next there. let later = all (suc l) next there in (grind (arith, later.0, sum_by-cons (λ (line : Line). line.length) line (take l more)), later.1)))

-- the lines of a device of a valid configuration follow each other from 0 on
pub follow : (c : Configuration) → IsValid c → (d : ℕ) (x : DeviceRecord) → slice_get c.devices d ≡ Some x → Follow 0 x.table
unfolding AllFollow
follow c valid d x device = follow-all 0 x.table (λ l line there. let s = sound c valid d x device l line there in (omega (arith, s.start), s.some))

pub or-false : (a b : Bool) → (a || b) ≡ false → (a ≡ false) × (b ≡ false)
or-false true b h = let clash : true ≡ false = h in cc
or-false false b h = (refl, h)

-- at most 64 devices
pub few : (c : Configuration) → IsValid c → length c.devices ≤ most_devices
few c valid = Rattle.std.proofs.lemmas.Bool.ltb-false most_devices (length c.devices) (or-false _ _ (rules-of c valid).many).0

-- at most 256 lines in each
pub few_lines : (c : Configuration) → IsValid c → (d : ℕ) (x : DeviceRecord) → slice_get c.devices d ≡ Some x → length x.table ≤ most_lines
few_lines c valid d x device =
    go c.devices d (or-false (nat_lt most_devices (length c.devices)) (list_any (λ d. nat_lt most_lines (length d.table)) c.devices) (rules-of c valid).many).1 device
  where
    go : (xs : List DeviceRecord) (d : ℕ) → list_any (λ d. nat_lt most_lines (length d.table)) xs ≡ false → slice_get xs d ≡ Some x → length x.table ≤ most_lines
    go [] d h there = let clash : None ≡ Some x = there in cc
    go (y ∷ ys) zero h there =
        let same : y ≡ x = cc in
        let b = or-false (nat_lt most_lines (length y.table)) (list_any (λ d. nat_lt most_lines (length d.table)) ys) h in
        Rattle.std.proofs.lemmas.Bool.ltb-false most_lines (length x.table) (rw same at b.0)
    go (y ∷ ys) (suc d) h there = go ys d (or-false (nat_lt most_lines (length y.table)) (list_any (λ d. nat_lt most_lines (length d.table)) ys) h).1 there

-- lines that follow each other from n on end where their lengths add up to
follow-sum : (n most : ℕ) (lines : List Line) → n ≤ most → ((l : ℕ) (line : Line) → slice_get lines l ≡ Some line → line.start + line.length ≤ most) → Follow n lines → n + table_sectors lines ≤ most
follow-sum n most [] low all f = omega arith
follow-sum n most (line ∷ more) low all f =
    let here : line.start + line.length ≤ most = all 0 line refl in
    let later : n + line.length + table_sectors more ≤ most = follow-sum (n + line.length) most more (omega (arith, here, f.0)) (λ l next there. all (suc l) next there) f.2 in
    omega (arith, later, sum_by-cons (λ (line : Line). line.length) line more)

-- no device has more than 2^54 sectors
pub size-low : (c : Configuration) → IsValid c → (d : ℕ) (x : DeviceRecord) → slice_get c.devices d ≡ Some x → table_sectors x.table ≤ most_sectors
size-low c valid d x device =
    let all = follow-sum 0 most_sectors x.table (omega arith) (λ l line there. (sound c valid d x device l line there).low) (follow c valid d x device) in
    omega (arith, all)
