-- Hash block 0.
use Rattle.std.proofs.Common.{◌≡◌, ◌≤◌, ◌++◌, ◌-◌, ◌∙◌, ℕ, List, ap, drop, length, replicate, take}
use Rattle.std.proofs.lemmas.List.{drop-replicate, length-replicate, take-replicate}
use Rattle.verity_format.specs.Image.{first_block}
use Rattle.verity_format.specs.Superblock.{SuperRecord, spelling}

-- the superblock written at the beginning of zeros
pub first_block-is : (s : SuperRecord) (bytes old new : List ℕ) → new ≡ bytes ++ drop (length bytes) old → bytes ≡ spelling s → length bytes ≡ 512 → old ≡ replicate s.hash_block 0 → new ≡ first_block s
first_block-is s bytes old new is value size zeros =
    is
    ∙ ap (λ (n : ℕ). bytes ++ drop n old) size
    ∙ ap (λ (l : List ℕ). bytes ++ drop 512 l) zeros
    ∙ ap (λ (l : List ℕ). bytes ++ l) (drop-replicate 512 s.hash_block 0)
    ∙ ap (λ (l : List ℕ). l ++ replicate (s.hash_block - 512) 0) value

-- the first of some zeros
pub zeros-taken : (memory : List ℕ) (size count n : ℕ) → memory ≡ replicate count 0 → size ≡ n → n ≤ count → take size memory ≡ replicate n 0
zeros-taken memory size count n zeros same most = ap (λ (k : ℕ). take k memory) same ∙ ap (take n) zeros ∙ take-replicate n count 0 most

-- bytes in the place of zeros
pub zeros-length : (old new : List ℕ) (n : ℕ) → length new ≡ length old → old ≡ replicate n 0 → length new ≡ n
zeros-length old new n same zeros = same ∙ ap (λ (l : List ℕ). length l) zeros ∙ length-replicate {A = ℕ} n 0
