-- Hash collisions.
use Rattle.std.specs.Prelude.{List, ℕ}
use Rattle.hash_tree.specs.Difference.{IsCollision}

-- two different inputs, each after the salt, have the same digest
abbrev pub Collide : List ℕ → Type 0
Collide salt = (a : List ℕ) × ((b : List ℕ) × IsCollision salt a b)
