-- The length of a disk's stack text.
use Rattle.std.proofs.Common.{◌≡◌, ◌≤◌, ◌+◌, ◌^◌, ◌++◌, ℕ, List, codes, decimal, length, arith}
use Rattle.std.proofs.lemmas.Fmt.{length-decimal-le}
use Rattle.std.proofs.lemmas.List.{length-append}
use Rattle.stack_files.specs.DiskEntries.{entry_text, linear_line}
use Rattle.stack_files.specs.Disks.{disk_text}

length-parts : (name flags zero count linear first end : List ℕ) → length (name ++ (flags ++ ((zero ++ (count ++ (linear ++ first))) ++ end)))
    ≡ length name + (length flags + ((length zero + (length count + (length linear + length first))) + length end))
length-parts name flags zero count linear first end = omega (
  arith,
  length-append name (flags ++ ((zero ++ (count ++ (linear ++ first))) ++ end)),
  length-append flags ((zero ++ (count ++ (linear ++ first))) ++ end),
  length-append (zero ++ (count ++ (linear ++ first))) end,
  length-append zero (count ++ (linear ++ first)),
  length-append count (linear ++ first),
  length-append linear first,
)

pub length-disk_text : (sectors : ℕ) → sectors ≤ 2 ^ 54 → length (disk_text sectors) ≤ 2 ^ 20
unfolding disk_text entry_text linear_line
length-disk_text sectors few =
    let count : length (decimal sectors) ≤ 20 = length-decimal-le 20 sectors (omega arith) (omega (arith, few)) (omega (arith, few)) in
    let first : length (decimal 0) ≤ 1 = length-decimal-le 1 0 (omega arith) (omega arith) (omega arith) in
    let whole : length (disk_text sectors) ≡ 4 + (6 + ((2 + (length (decimal sectors) + (13 + length (decimal 0)))) + 2)) =
    length-parts (codes "disk") (codes ",,,ro,") (codes "0 ") (decimal sectors) (codes " linear DISK ") (decimal 0) (codes ";\n") in
    omega (arith, count, first, whole)
