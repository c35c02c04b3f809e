-- The superblock that is read in the part of an assembled hash image.
use Rattle.std.proofs.Common.{◌≡◌, ◌∙◌, ◌+◌, ◌-◌, ◌*◌, ◌/◌, ◌≤◌, ℕ, suc, List, [], ◌∷◌, ◌++◌, ap, append-nil, append_assoc, arith, drop, length, replicate, subst, sym, take}
use Rattle.std.specs.Prelude.{slice_range}
use Rattle.std.specs.List.{concat}
use Rattle.std.proofs.lemmas.List.{take-append-le, take_all}
use Rattle.block_device.specs.Device.{sectors_of as cut_into}
use Rattle.verity_format.specs.Image.{area_over, first_block, formatted, image_sectors}
use Rattle.verity_format.specs.Superblock.{Carries, IsSuperblock, SuperRecord, field_number32, field_number64, shape_of, spelling, super_of}
use Rattle.verity_format.proofs.lemmas.SpellingLemmas.{carried-spelling}

-- the bytes store one superblock
same-record : (s t : SuperRecord) → s.uuid ≡ t.uuid → s.data_block ≡ t.data_block → s.hash_block ≡ t.hash_block → s.blocks ≡ t.blocks → s.salt ≡ t.salt → s ≡ t
same-record s t uuid data_block hash blocks salt =
    ap (λ (x : List ℕ). super_of x s.data_block s.hash_block s.blocks s.salt) uuid
    ∙ ap (λ (n : ℕ). super_of t.uuid n s.hash_block s.blocks s.salt) data_block
    ∙ ap (λ (n : ℕ). super_of t.uuid t.data_block n s.blocks s.salt) hash
    ∙ ap (λ (n : ℕ). super_of t.uuid t.data_block t.hash_block n s.salt) blocks
    ∙ ap (λ (x : List ℕ). super_of t.uuid t.data_block t.hash_block t.blocks x) salt

one-super : (s t : SuperRecord) (bytes : List ℕ) → Carries s bytes → Carries t bytes → s ≡ t
one-super s t bytes a b =
    let size : length s.salt ≡ length t.salt = sym a.salt_size ∙ b.salt_size in
    same-record s t (sym a.uuid ∙ b.uuid) (sym a.data_block ∙ b.data_block) (sym a.hash_block ∙ b.hash_block) (sym a.blocks ∙ b.blocks)
    (sym a.salt ∙ ap (λ (n : ℕ). slice_range bytes 88 (88 + n)) size ∙ b.salt)

-- the first sector of a formatted image
first-of : (s : SuperRecord) → IsSuperblock s → (bytes : List ℕ) (n : ℕ) (rest : List (List ℕ)) → 1 ≤ n → concat (take 1 (cut_into n (spelling s ++ bytes) ++ rest)) ≡ spelling s
unfolding cut_into
first-of s valid bytes n rest some =
    let long : length (spelling s) ≡ 512 = (carried-spelling s valid).size in
    let is : n ≡ suc (n - 1) = omega (arith, some) in
    ap (λ (m : ℕ). concat (take 1 (cut_into m (spelling s ++ bytes) ++ rest))) is
    ∙ append-nil (take 512 (spelling s ++ bytes))
    ∙ take-append-le 512 (spelling s) bytes (omega (arith, long))
    ∙ take_all 512 (spelling s) (omega (arith, long))

pub formatted-first : (s : SuperRecord) → IsSuperblock s → (data_image hash_image : List (List ℕ)) → 1 ≤ image_sectors (shape_of s) → concat (take 1 (formatted s data_image hash_image)) ≡ spelling s
formatted-first s valid data_image hash_image some =
    let area = concat (area_over (shape_of s) s.salt data_image) in
    let zeros = replicate (s.hash_block - 512) 0 in
    ap (λ (b : List ℕ). concat (take 1 (cut_into (image_sectors (shape_of s)) b ++ drop (0 + length (cut_into (image_sectors (shape_of s)) (first_block s ++ area))) hash_image))) (append_assoc (spelling s) zeros area)
    ∙ first-of s valid (zeros ++ area) (image_sectors (shape_of s)) _ some

pub super-is : (s t : SuperRecord) (bytes : List ℕ) → IsSuperblock s → bytes ≡ spelling s → Carries t bytes → t ≡ s
super-is s t bytes valid is carried = one-super t s bytes carried (subst (Carries s) (sym is) (carried-spelling s valid))
