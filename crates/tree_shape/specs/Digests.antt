-- Digests of blocks, and the digests stored in a hash block.
use Rattle.std.specs.Prelude.{ℕ, ◌*◌, List, ◌++◌, take, drop}
use Rattle.sha2.specs.Sha256.{sha256}

-- the digest of a block: SHA-256 of the salt followed by the block
unfoldable pub digest : List ℕ → List ℕ → List ℕ
digest salt block = sha256 (salt ++ block)

-- the digest in a slot of a hash block: 32 bytes
unfoldable pub digest_in : List ℕ → ℕ → List ℕ
digest_in block slot = take 32 (drop (32 * slot) block)
