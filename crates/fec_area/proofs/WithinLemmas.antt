-- At most how many sectors are read of the blocks of a round.
use Rattle.std.proofs.Common.{◌≡◌, ℕ, ◌+◌, ◌*◌, ◌/◌, ◌≤◌, Bool, cond, nat_lt, inl, inr, arith}
use Rattle.std.proofs.Math.Nat.{mul-le-mul_right}
use Rattle.std.proofs.lemmas.Bool.{cases_Bool, cond-false, cond-true}
use Rattle.block_device.specs.Device.{Device}
use Rattle.fec_area.specs.declared.layout.Layout.{Layout}
use Rattle.fec_area.specs.Asking.{AreAsked, AreReadWithin, sectors_on_data, sectors_on_hash}
use Rattle.fec_area.specs.Layouts.{covered_blocks}

cond-most : (b : Bool) (k : ℕ) → cond b k 0 ≤ k
cond-most b k = elim (cases_Bool b) [
  | inl is ↦ omega (arith, cond-true b k 0 is)
  | inr not ↦ omega (arith, cond-false b k 0 not)
]

-- those of one block
data-most : (l : Layout) (j : ℕ) → sectors_on_data l j ≤ l.block / 512
data-most l j = cond-most (nat_lt j l.data_blocks) (l.block / 512)

hash-most : (l : Layout) (j : ℕ) → sectors_on_hash l j ≤ l.block / 512
hash-most l j =
    let here : ℕ = cond (nat_lt j (covered_blocks l)) (l.block / 512) 0 in
    let most : here ≤ l.block / 512 = cond-most (nat_lt j (covered_blocks l)) (l.block / 512) in
    elim (cases_Bool (nat_lt j l.data_blocks)) [
      | inl is ↦ omega (arith, cond-true (nat_lt j l.data_blocks) 0 here is)
      | inr not ↦ omega (arith, cond-false (nat_lt j l.data_blocks) 0 here not, most)
    ]

pub within-none : (n : ℕ) (a b : Device) → AreReadWithin n a b a b
within-none n a b = record { data_most = omega arith; hash_most = omega arith }

-- at one place more
pub within-more : {a b c d e f : Device} (l : Layout) (j n : ℕ) → AreReadWithin (n * (l.block / 512)) a b c d → AreAsked (sectors_on_data l j) (sectors_on_hash l j) c d e f → AreReadWithin ((n + 1) * (l.block / 512)) a b e f
within-more l j n p q =
    let k : ℕ = l.block / 512 in
    let next : (n + 1) * k ≡ n * k + k = grind arith in
    record { data_most = omega (arith, p.data_most, q.of_data.most, data-most l j, next); hash_most = omega (arith, p.hash_most, q.of_hash.most, hash-most l j, next) }

-- at fewer places
pub within-least : {a b c d : Device} (n m k : ℕ) → n ≤ m → AreReadWithin (n * k) a b c d → AreReadWithin (m * k) a b c d
within-least n m k h p =
    let up : n * k ≤ m * k = mul-le-mul_right k h in
    record { data_most = omega (arith, p.data_most, up); hash_most = omega (arith, p.hash_most, up) }
