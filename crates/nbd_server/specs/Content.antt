-- Bytes that were read, as at most three chunks: a hole, data, and a hole.
use Rattle.std.specs.Prelude.{◌≡◌, ◌≢◌, ◌⊎◌, ◌<◌, ◌≤◌, ℕ, ◌+◌, ◌-◌, ◌%◌, ◌==◌, ◌&&◌, Bool, false, List, [], ◌++◌, length, replicate, take, drop, if◌then◌else◌}
use Rattle.nbd_protocol.specs.Chunks.{data_chunk, hole_chunk}

-- some byte isn't zero
abbrev pub HaveData : List ℕ → Type 0
HaveData bytes = bytes ≢ replicate (length bytes) 0

-- the block size in bytes by which zeros are found
abbrev pub zero_block : ℕ
zero_block = 4096

-- bytes begin with n zeros: with whole blocks, and the next block isn't zeros, or with all bytes
pub record AreZerosBefore (bytes : List ℕ) (n : ℕ) : Type 0 where
  pub inside : n ≤ length bytes
  pub zeros : take n bytes ≡ replicate n 0
  pub whole : n < length bytes → n % zero_block ≡ 0
  pub next : n < length bytes → HaveData (take zero_block (drop n bytes))

-- some bytes end with a block that isn't zeros, or are shorter than a block
abbrev pub EndWithData : List ℕ → Type 0
EndWithData bytes = zero_block ≤ length bytes → HaveData (drop (length bytes - zero_block) bytes)

-- bytes end with n zeros: with whole blocks, and the block before them isn't zeros
pub record AreZerosBehind (bytes : List ℕ) (n : ℕ) : Type 0 where
  pub inside : n ≤ length bytes
  pub zeros : drop (length bytes - n) bytes ≡ replicate n 0
  pub whole : n % zero_block ≡ 0
  pub last : EndWithData (take (length bytes - n) bytes)

-- a hole of n bytes, unless n is 0
abbrev pub some_hole : Bool → ℕ → ℕ → ℕ → List ℕ
some_hole last cookie at n = if n == 0 then [] else hole_chunk last cookie at n

-- data that aren't all zeros, then a hole for the whole blocks of zeros at their end
pub record TellsData (cookie : ℕ) (last : Bool) (at : ℕ) (bytes chunks : List ℕ) : Type 0 where
  pub content : List ℕ
  pub behind : ℕ
  pub some : HaveData content
  pub ends : EndWithData content
  pub whole : behind % zero_block ≡ 0
  pub bytes_are : bytes ≡ content ++ replicate behind 0
  pub chunks_are : chunks ≡ data_chunk ((behind == 0) && last) cookie at content ++ some_hole last cookie (at + length content) behind

-- a hole for the whole blocks of zeros at the beginning, then data whose first block isn't zeros
pub record TellsSome (cookie : ℕ) (last : Bool) (at : ℕ) (bytes chunks : List ℕ) : Type 0 where
  pub before : ℕ
  pub rest : List ℕ
  pub more : List ℕ
  pub told : TellsData cookie last (at + before) rest more
  pub whole : before % zero_block ≡ 0
  pub begins : HaveData (take zero_block rest)
  pub bytes_are : bytes ≡ replicate before 0 ++ rest
  pub chunks_are : chunks ≡ some_hole false cookie at before ++ more

-- all bytes are zeros: one hole
pub record TellsZeros (cookie : ℕ) (last : Bool) (at : ℕ) (bytes chunks : List ℕ) : Type 0 where
  pub some : 0 < length bytes
  pub bytes_are : bytes ≡ replicate (length bytes) 0
  pub chunks_are : chunks ≡ hole_chunk last cookie at (length bytes)

-- These chunks carry these bytes, from offset `at` on. If `last` is set, the last chunk is the last of the reply.
abbrev pub TellsContent : ℕ → Bool → ℕ → List ℕ → List ℕ → Type 0
TellsContent cookie last at bytes chunks = TellsSome cookie last at bytes chunks ⊎ TellsZeros cookie last at bytes chunks
