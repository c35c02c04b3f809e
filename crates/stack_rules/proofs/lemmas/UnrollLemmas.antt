-- A rule that depends only on what is directly beneath gives one answer, however many steps it goes
-- down, once they are more than the height.
use Rattle.std.proofs.Common.{◌≡◌, ℕ, zero, suc, ◌+◌, ◌<◌, ◌≤◌, List, [], ◌∷◌, refl, ap, arith, map}
use Rattle.std.specs.List.{AllByRecursion}
use Rattle.std.proofs.Math.Nat.{le-max_left, le-max_right}
use Rattle.stack_rules.specs.declared.lower.Lower.{Lower}
use Rattle.stack_rules.specs.declared.lower.Lower.TheVariants.{Leaf as leaf, Device as device}
use Rattle.stack_rules.specs.Records.{Configuration}
use Rattle.stack_rules.specs.Names.{lowers, lowers_of}
use Rattle.stack_rules.specs.Descend.{descend, after_steps, most_devices, greatest, depth, depth_rule}

-- ---- facts of each element

pub all-map : {X : Type 0} {P Q : X → Type 0} → ((x : X) → P x → Q x) → (xs : List X) → AllByRecursion P xs → AllByRecursion Q xs
all-map f [] all = tt
all-map f (x ∷ xs) all = (f x all.0, all-map f xs all.1)

pub data AllOf {ℓ} {X : Type 0} (P : X → Type ℓ) : List X → Type ℓ where
  all_none : AllOf P []
  all_and : {x : X} {xs : List X} → P x → AllOf P xs → AllOf P (x ∷ xs)

pub turn {ℓ} : {X : Type 0} {P : X → Type 0} {Q : X → Type ℓ} → ((x : X) → P x → Q x) → (xs : List X) → AllByRecursion P xs → AllOf Q xs
turn f [] all = all_none
turn f (x ∷ xs) all = all_and (f x all.0) (turn f xs all.1)

-- ---- a rule that depends only on what is directly beneath

abbrev pub IsLocal {ℓ} : {A : Type ℓ} → Configuration → ((Lower → A) → Lower → A) → Type ℓ
IsLocal {A = A} c rule = (f g : Lower → A) (x : Lower) → AllOf (λ y. f y ≡ g y) (lowers_of c x) → rule f x ≡ rule g x

-- heights that fall along each line
abbrev pub Falls : Configuration → (Lower → ℕ) → Type 0
Falls c height = (x : Lower) → AllByRecursion (λ y. height y < height x) (lowers_of c x)

pub after_steps-same {ℓ} : {A : Type ℓ} (c : Configuration) (none : A) (rule : (Lower → A) → Lower → A) → IsLocal c rule
    → (height : Lower → ℕ) → Falls c height → (m n : ℕ) (x : Lower) → height x < m → height x < n → after_steps none rule m x ≡ after_steps none rule n x
after_steps-same c none rule local height falls zero n x p q = let no : ⊥ = omega (arith, p) in absurd no
after_steps-same c none rule local height falls (suc m) zero x p q = let no : ⊥ = omega (arith, q) in absurd no
after_steps-same c none rule local height falls (suc m) (suc n) x p q =
    local (after_steps none rule m) (after_steps none rule n) x
    (turn (λ y lower. after_steps-same c none rule local height falls m n y (omega (arith, lower, p)) (omega (arith, lower, q))) (lowers_of c x) (falls x))

-- the equation that a definition by descend has where no height is above the number of devices
pub descend-rule {ℓ} : {A : Type ℓ} (c : Configuration) (none : A) (rule : (Lower → A) → Lower → A) → IsLocal c rule
    → (height : Lower → ℕ) → Falls c height → (x : Lower) → height x ≤ most_devices → descend none rule x ≡ rule (descend none rule) x
unfolding descend
descend-rule c none rule local height falls x low =
    local (after_steps none rule most_devices) (descend none rule) x
    (turn (λ y lower. after_steps-same c none rule local height falls most_devices (suc most_devices) y (omega (arith, lower, low)) (omega (arith, lower, low))) (lowers_of c x) (falls x))

-- ---- depths

greatest-same : {X : Type 0} (f g : X → ℕ) (xs : List X) → AllOf (λ y. f y ≡ g y) xs → greatest (map f xs) ≡ greatest (map g xs)
greatest-same f g [] all = refl
greatest-same f g (x ∷ xs) (all_and same more) = rw (same, greatest-same f g xs more) refl

pub depth_rule-local : (c : Configuration) → IsLocal c (depth_rule c)
depth_rule-local c f g (leaf i) all = refl
depth_rule-local c f g (device d) all = ap (λ n. 1 + n) (greatest-same f g (lowers c d.0) all)

each_below : {X : Type 0} (f : X → ℕ) (xs : List X) (n : ℕ) → greatest (map f xs) ≤ n → AllByRecursion (λ y. f y ≤ n) xs
each_below f [] n h = tt
each_below f (x ∷ xs) n h = (omega (arith, h, le-max_left (f x) (greatest (map f xs))), each_below f xs n (omega (arith, h, le-max_right (f x) (greatest (map f xs)))))

abbrev depth_in : Configuration → ℕ → Lower → ℕ
depth_in c n = after_steps 0 (depth_rule c) n

-- a depth below the steps that were made doesn't change with more steps
settled : (c : Configuration) (n : ℕ) (x : Lower) → depth_in c n x < n → depth_in c (suc n) x ≡ depth_in c n x
settled c zero x low = let no : ⊥ = omega (arith, low) in absurd no
settled c (suc n) (leaf i) low = refl
settled c (suc n) (device d) low =
    depth_rule-local c (depth_in c (suc n)) (depth_in c n) (device d)
    (turn (λ y below. settled c n y (omega (arith, below, low))) (lowers c d.0) (each_below (depth_in c n) (lowers c d.0) (greatest (map (depth_in c n) (lowers c d.0))) (omega arith)))

pub falls-at : (c : Configuration) → ((x : Lower) → depth c x < most_devices) → Falls c (depth c)
unfolding descend
falls-at c low (leaf i) = tt
falls-at c low (device d) =
    all-map (λ y below. let same : depth c y ≡ depth_in c most_devices y = settled c most_devices y (omega (arith, below, low (device d))) in omega (arith, below, same))
    (lowers c d.0) (each_below (depth_in c most_devices) (lowers c d.0) (greatest (map (depth_in c most_devices) (lowers c d.0))) (omega arith))

-- the equation of depths
pub depth-rule : (c : Configuration) → ((x : Lower) → depth c x < most_devices) → (x : Lower) → depth c x ≡ depth_rule c (depth c) x
depth-rule c low x = descend-rule c 0 (depth_rule c) (depth_rule-local c) (depth c) (falls-at c low) x (omega (arith, low x))
