-- How far the reply to a READ has come.
use Rattle.std.proofs.Common.{◌≡◌, ◌<◌, ◌≤◌, ℕ, ◌+◌, ◌-◌, ◌*◌, arith, inl, inr}
use Rattle.std.proofs.lemmas.Bool.{cases_lt}
use Rattle.nbd_server.specs.Delivery.{few_sectors, most_piece_sectors, next_most, progress_again}
use Rattle.nbd_server.specs.declared.progress.Progress.{Progress}

-- a piece has 2,048 sectors at most
pub most-next : (p : Progress) → (0 < next_most p) × (next_most p ≤ most_piece_sectors)
most-next p = grind arith

-- single sectors aren't put off, and pieces of a few sectors aren't read again by such pieces
single-behind : (p : Progress) (sectors : ℕ) → 1 < sectors → sectors ≤ next_most p → p.single ≤ p.done
single-behind p sectors several small = grind (arith, several, small)

slow-behind : (p : Progress) (sectors : ℕ) → few_sectors < sectors → sectors ≤ next_most p → p.slow ≤ p.done
slow-behind p sectors many small = grind (arith, many, small)

-- what is left of a READ: three times its bytes, and one for each way in which the next byte isn't read again yet
abbrev pub left_of : ℕ → Progress → ℕ
left_of count p = 3 * (count - p.done) + ((1 - (p.slow - p.done)) + (1 - (p.single - p.done)))

pub again-smaller : (count : ℕ) (p : Progress) (size sectors : ℕ) → 0 < size → 1 < sectors → sectors ≤ next_most p → left_of count (progress_again p size sectors) < left_of count p
again-smaller count p size sectors some several small = elim (cases_lt few_sectors sectors) [
  | inl many ↦ grind (arith, some, many, slow-behind p sectors many small)
  | inr few ↦ grind (arith, some, few, single-behind p sectors several small)
]

pub again-done : (p : Progress) (size sectors : ℕ) → (progress_again p size sectors).done ≡ p.done
again-done p size sectors = elim (cases_lt few_sectors sectors) [ inl many ↦ grind (arith, many) | inr few ↦ grind (arith, few) ]
