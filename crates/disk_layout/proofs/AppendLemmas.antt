-- A text that grows by parts, one after the other.
use Rattle.std.proofs.Common.{◌≡◌, ◌≤◌, ◌-◌, ◌++◌, ◌∙◌, ℕ, List, ap, append_assoc, arith, length, replicate, take}
use Rattle.std.proofs.lemmas.List.{length-append, length-replicate, length-take}
use Rattle.partition_table.specs.declared.sector_size.SectorSize.{SectorSize}
use Rattle.partition_table.specs.declared.sector_size.SectorSize.TheVariants.{Bytes4096, Bytes512}
use Rattle.partition_table.specs.Disks.{bytes_of_size}
use Rattle.disk_layout.specs.Numbers.{table_room}

pub append-two : (t t1 t2 a b : List ℕ) → t1 ≡ t ++ a → t2 ≡ t1 ++ b → t2 ≡ t ++ (a ++ b)
append-two t t1 t2 a b e1 e2 = e2 ∙ ap (λ (l : List ℕ). l ++ b) e1 ∙ append_assoc t a b

pub append-three : (t t1 t2 t3 a b m : List ℕ) → t1 ≡ t ++ a → t2 ≡ t1 ++ b → t3 ≡ t2 ++ m → t3 ≡ t ++ (a ++ (b ++ m))
append-three t t1 t2 t3 a b m e1 e2 e3 =
    e3 ∙ ap (λ (l : List ℕ). l ++ m) (e2 ∙ ap (λ (l : List ℕ). l ++ b) e1) ∙ append_assoc (t ++ a) b m ∙ append_assoc t a (b ++ m)

pub append-four : (t t1 t2 t3 t4 a b m n : List ℕ) → t1 ≡ t ++ a → t2 ≡ t1 ++ b → t3 ≡ t2 ++ m → t4 ≡ t3 ++ n → t4 ≡ t ++ (a ++ (b ++ (m ++ n)))
append-four t t1 t2 t3 t4 a b m n e1 e2 e3 e4 =
    append-three (t ++ a) t2 t3 t4 b m n (e2 ∙ ap (λ (l : List ℕ). l ++ b) e1) e3 e4 ∙ append_assoc t a (b ++ (m ++ n))

-- a padded text is as long as it was to be
pub length-padded : (n count : ℕ) (bytes : List ℕ) → count ≡ length bytes → length (take n bytes ++ replicate {A = ℕ} (n - count) 0) ≡ n
length-padded n count bytes same =
    let all = length-append (take n bytes) (replicate {A = ℕ} (n - count) 0) in
    omega (arith, all, same, length-take n bytes, length-replicate {A = ℕ} (n - count) 0)

-- a sector is no larger than the largest allocation
pub few-bytes : (size : SectorSize) → bytes_of_size size ≤ table_room
few-bytes Bytes512 = omega arith
few-bytes Bytes4096 = omega arith
