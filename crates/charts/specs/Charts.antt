-- A map of blocks or sectors: at most 16 rows of 64 characters, each of which is for as many of them.
use Rattle.std.specs.Prelude.{ℕ, zero, suc, ◌+◌, ◌-◌, ◌*◌, ◌/◌, ◌%◌, ◌==◌, ◌&&◌, nat_lt, Bool, List, [], ◌++◌, codes, decimal, if◌then◌else◌}

-- how a cell is drawn, by its first block and how many it has
abbrev pub Marking : Type 0
Marking = ℕ → ℕ → List ℕ

-- the blocks of a cell: the smallest number with which 1,024 cells suffice
abbrev pub cell_width : ℕ → ℕ
cell_width total = (total - 1) / 1024 + 1

-- one of `width` blocks from `at` on is among `count` blocks from `first` on
abbrev pub is_touched : ℕ → ℕ → ℕ → ℕ → Bool
is_touched at width first count = nat_lt (first - at) width && nat_lt (at - first) count

-- a row ends after 64 cells, and after the last of the blocks that are left
abbrev pub row_end : ℕ → ℕ → ℕ → List ℕ
row_end i left width = if i % 64 == 63 then codes "\n" else if nat_lt width left then [] else codes "\n"

-- the cell of index i, if it has a block
unfoldable pub cell_text : Marking → ℕ → ℕ → List ℕ
cell_text mark total i =
    let width = cell_width total in
    if nat_lt (i * width) total then mark (i * width) width ++ row_end i (total - i * width) width else []

-- the first n cells
unfoldable pub cells_text : Marking → ℕ → ℕ → List ℕ
cells_text mark total zero = []
cells_text mark total (suc n) = cells_text mark total n ++ cell_text mark total n

-- `chart N`, in which N is the number of blocks of a cell, and the cells
unfoldable pub chart_text : Marking → ℕ → List ℕ
chart_text mark total = codes "chart " ++ (decimal (cell_width total) ++ (codes "\n" ++ cells_text mark total 1024))
