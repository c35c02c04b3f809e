-- A salt stored in an array: its bytes, padded with zeros to the end of the array.
use Rattle.std.specs.Prelude.{◌≡◌, ℕ, ◌-◌, ◌≤◌, List, ◌++◌, length, take, replicate}
use Rattle.std.proofs.Common.{sym, refl, ap, ◌∙◌, arith}
use Rattle.std.proofs.lemmas.List.{length-take-le}
use Rattle.tree_shape.specs.declared.algorithm.Algorithm.{Algorithm}
use Rattle.tree_shape.specs.declared.algorithm.Algorithm.TheVariants.{Sha256}
use Rattle.tree_shape.specs.declared.salt.Salt.TheInside.{Inside}

-- the salt: the first `len` bytes of the array
abbrev pub salt_bytes : Inside → List ℕ
salt_bytes s = take s.len s.bytes

-- a salt of at most 256 bytes in an array of 256, padded with zeros
pub record IsSalt (s : Inside) : Type 0 where
  pub fits : s.len ≤ 256
  pub size : length s.bytes ≡ 256
  pub rest : s.bytes ≡ salt_bytes s ++ replicate (256 - s.len) 0

-- the array that stores a salt, with the algorithm SHA-256
abbrev pub inside_of : List ℕ → Inside
inside_of salt = record { algorithm = Sha256; bytes = salt ++ replicate (256 - length salt) 0; len = length salt }

-- SHA-256 is the only algorithm
only : (a : Algorithm) → Sha256 ≡ a
only Sha256 = refl

-- storing the bytes of a stored salt yields the same array
pub inside_of-salt_bytes : (s : Inside) → IsSalt s → inside_of (salt_bytes s) ≡ s
inside_of-salt_bytes s valid =
    let len : length (salt_bytes s) ≡ s.len = length-take-le s.len s.bytes (omega (arith, valid.fits, valid.size)) in
    let bytes : salt_bytes s ++ replicate (256 - length (salt_bytes s)) 0 ≡ s.bytes = ap (λ n. salt_bytes s ++ replicate (256 - n) 0) len ∙ sym valid.rest in
    rw (bytes, len, only s.algorithm) refl
