-- Bytes that are written part after part, and the parts that are read from them.
use Rattle.std.proofs.Common.{◌≡◌, ◌≤◌, ◌<◌, ◌+◌, ◌-◌, ◌^◌, ◌==◌, ℕ, refl, ap, sym, ◌∙◌, arith, List, [], ◌++◌, length, take, drop, replicate, append_assoc, IsTrue, inl, inr, lit≤}
use Rattle.std.specs.Prelude.{slice_range, codes}
use Rattle.std.specs.List.{before_first}
use Rattle.std.specs.Int.{w16, w32, w64, from_le_bytes, to_le_bytes}
use Rattle.std.proofs.Math.Seq.{drop-append-add}
use Rattle.std.proofs.lemmas.List.{length-append, length-replicate, take_at, drop-replicate, replicate-append-replicate}
use Rattle.std.proofs.lemmas.Nat.{from_le_bytes-to_le_bytes_2, from_le_bytes-to_le_bytes_4, from_le_bytes-to_le_bytes_8}
use Rattle.tree_shape.specs.Shape.{is_block_size}
use Rattle.tree_shape.proofs.lemmas.ShapeFaultLemmas.{is_block_size-cases, blocks-le}
use Rattle.verity_format.specs.Superblock.{SuperRecord, shape_of, IsSuperblock, Carries, signature, spelling}

-- 512 bytes that begin with these bytes, followed by zeros
abbrev pub Begins : List ℕ → List ℕ → Type 0
Begins bytes front = bytes ≡ front ++ replicate (512 - length front) 0

-- the bytes with a part written at a place
abbrev pub put_at : List ℕ → ℕ → List ℕ → List ℕ
put_at old at x = take at old ++ x ++ drop (at + length x) old

-- a part is written right after the front
pub begins-put : (old new front x : List ℕ) (at : ℕ) → Begins old front → length front ≡ at → at + length x ≤ 512
    → new ≡ put_at old at x → Begins new (front ++ x)
begins-put old new front x at begins here fits is =
    let rest = replicate (512 - length front) 0 in
    let long : length (front ++ x) ≡ length front + length x = length-append front x in
    let count : 512 - length front - length x ≡ 512 - length (front ++ x) = omega (arith, long) in
    is
    ∙ ap (λ xs. take at xs ++ x ++ drop (at + length x) xs) begins
    ∙ ap (λ xs. xs ++ x ++ drop (at + length x) (front ++ rest)) (take_at front rest at here)
    ∙ ap (λ n. front ++ x ++ drop (n + length x) (front ++ rest)) (sym here)
    ∙ ap (λ xs. front ++ x ++ xs) (drop-append-add front rest (length x) ∙ drop-replicate (length x) (512 - length front) 0 ∙ ap (λ n. replicate n 0) count)

-- zeros after the front belong to it
pub begins-gap : (bytes front : List ℕ) (n : ℕ) → Begins bytes front → length front + n ≤ 512 → Begins bytes (front ++ replicate n 0)
begins-gap bytes front n begins fits =
    let long : length (front ++ replicate n 0) ≡ length front + n = length-append front (replicate n 0) ∙ ap (λ k. length front + k) (length-replicate {A = ℕ} n 0) in
    let count : 512 - length front ≡ n + (512 - length (front ++ replicate n 0)) = omega (arith, long) in
    begins
    ∙ ap (λ k. front ++ replicate k 0) count
    ∙ ap (λ xs. front ++ xs) (sym (replicate-append-replicate n (512 - length (front ++ replicate n 0)) 0))
    ∙ sym (append_assoc front (replicate n 0) (replicate (512 - length (front ++ replicate n 0)) 0))

-- the part of a list that is between two others
pub part : (front x rest : List ℕ) (a b : ℕ) → length front ≡ a → a + length x ≡ b → slice_range (front ++ x ++ rest) a b ≡ x
part front x rest a b here end =
    let shift : length front + 0 ≡ a = omega arith in
    let size : length x ≡ b - a = omega arith in
    ap (λ n. take (b - a) (drop n (front ++ x ++ rest))) (sym shift)
    ∙ ap (λ xs. take (b - a) (drop (length front + 0) xs)) (append_assoc front x rest)
    ∙ ap (take (b - a)) (drop-append-add front (x ++ rest) 0)
    ∙ take_at x rest (b - a) size

-- thirteen parts of such lengths, one after another
module _ (a b c d e f g h i j k l m : List ℕ) (a8 : length a ≡ 8) (b4 : length b ≡ 4) (c4 : length c ≡ 4) (d16 : length d ≡ 16) (e6 : length e ≡ 6) (f26 : length f ≡ 26)
    (g4 : length g ≡ 4) (h4 : length h ≡ 4) (i8 : length i ≡ 8) (j2 : length j ≡ 2) (k6 : length k ≡ 6) (room : length l + length m ≡ 424) where
  abbrev whole : List ℕ
  whole = a ++ b ++ c ++ d ++ e ++ f ++ g ++ h ++ i ++ j ++ k ++ l ++ m

  at : (front x rest : List ℕ) (p q : ℕ) → whole ≡ front ++ x ++ rest → length front ≡ p → p + length x ≡ q → slice_range whole p q ≡ x
  at front x rest p q is here end = ap (λ xs. slice_range xs p q) is ∙ part front x rest p q here end

  at-a : slice_range whole 0 8 ≡ a
  at-a = at [] a (b ++ c ++ d ++ e ++ f ++ g ++ h ++ i ++ j ++ k ++ l ++ m) 0 8 (simp append_assoc) refl (omega arith)

  at-b : slice_range whole 8 12 ≡ b
  at-b = at a b (c ++ d ++ e ++ f ++ g ++ h ++ i ++ j ++ k ++ l ++ m) 8 12 (simp append_assoc) a8 (omega arith)

  at-c : slice_range whole 12 16 ≡ c
  at-c = at (a ++ b) c (d ++ e ++ f ++ g ++ h ++ i ++ j ++ k ++ l ++ m) 12 16 (simp append_assoc) (omega (arith, length-append {A = ℕ})) (omega arith)

  at-d : slice_range whole 16 32 ≡ d
  at-d = at (a ++ b ++ c) d (e ++ f ++ g ++ h ++ i ++ j ++ k ++ l ++ m) 16 32 (simp append_assoc) (omega (arith, length-append {A = ℕ})) (omega arith)

  at-e : slice_range whole 32 64 ≡ e ++ f
  at-e = at (a ++ b ++ c ++ d) (e ++ f) (g ++ h ++ i ++ j ++ k ++ l ++ m) 32 64 (simp append_assoc) (omega (arith, length-append {A = ℕ})) (omega (arith, length-append {A = ℕ}))

  at-g : slice_range whole 64 68 ≡ g
  at-g = at (a ++ b ++ c ++ d ++ e ++ f) g (h ++ i ++ j ++ k ++ l ++ m) 64 68 (simp append_assoc) (omega (arith, length-append {A = ℕ})) (omega arith)

  at-h : slice_range whole 68 72 ≡ h
  at-h = at (a ++ b ++ c ++ d ++ e ++ f ++ g) h (i ++ j ++ k ++ l ++ m) 68 72 (simp append_assoc) (omega (arith, length-append {A = ℕ})) (omega arith)

  at-i : slice_range whole 72 80 ≡ i
  at-i = at (a ++ b ++ c ++ d ++ e ++ f ++ g ++ h) i (j ++ k ++ l ++ m) 72 80 (simp append_assoc) (omega (arith, length-append {A = ℕ})) (omega arith)

  at-j : slice_range whole 80 82 ≡ j
  at-j = at (a ++ b ++ c ++ d ++ e ++ f ++ g ++ h ++ i) j (k ++ l ++ m) 80 82 (simp append_assoc) (omega (arith, length-append {A = ℕ})) (omega arith)

  at-l : slice_range whole 88 (88 + length l) ≡ l
  at-l = at (a ++ b ++ c ++ d ++ e ++ f ++ g ++ h ++ i ++ j ++ k) l m 88 (88 + length l) (simp append_assoc) (omega (arith, length-append {A = ℕ})) (omega arith)

  length-whole : length whole ≡ 512
  length-whole = omega (arith, length-append {A = ℕ})

small : (n : ℕ) → IsTrue (is_block_size n) → n < 2 ^ 32
small n valid =
    elim (is_block_size-cases n valid) [
      | inl (inl e) ↦ omega arith
      | inl (inr e) ↦ omega arith
      | inr (inl e) ↦ omega arith
      | inr (inr e) ↦ omega arith
    ]

-- the spelling carries its superblock
pub carried-spelling : (s : SuperRecord) → IsSuperblock s → Carries s (spelling s)
unfolding spelling
carried-spelling s valid =
    let one = to_le_bytes w32 1 in
    let data_block = to_le_bytes w32 s.data_block in
    let hash_block = to_le_bytes w32 s.hash_block in
    let blocks = to_le_bytes w64 s.blocks in
    let salt_size = to_le_bytes w16 (length s.salt) in
    let rest = replicate (424 - length s.salt) 0 in
    let total : length s.salt + length rest ≡ 424 = omega (arith, valid.salt, length-replicate {A = ℕ} (424 - length s.salt) 0) in
    let few : s.blocks < 2 ^ 64 = omega (arith, (blocks-le (shape_of s) valid.shape).0) in
    let short : length s.salt < 2 ^ 16 = omega (arith, valid.salt) in
    record {
      valid = valid;
      size = length-whole signature one one s.uuid (codes "sha256") (replicate 26 0) data_block hash_block blocks salt_size (replicate 6 0) s.salt rest refl refl refl valid.uuid refl refl refl refl refl refl refl total;
      signature = at-a signature one one s.uuid (codes "sha256") (replicate 26 0) data_block hash_block blocks salt_size (replicate 6 0) s.salt rest refl refl refl valid.uuid refl refl refl refl refl refl refl total;
      version = ap (from_le_bytes w32) (at-b signature one one s.uuid (codes "sha256") (replicate 26 0) data_block hash_block blocks salt_size (replicate 6 0) s.salt rest refl refl refl valid.uuid refl refl refl refl refl refl refl total);
      hash_type = ap (from_le_bytes w32) (at-c signature one one s.uuid (codes "sha256") (replicate 26 0) data_block hash_block blocks salt_size (replicate 6 0) s.salt rest refl refl refl valid.uuid refl refl refl refl refl refl refl total);
      uuid = at-d signature one one s.uuid (codes "sha256") (replicate 26 0) data_block hash_block blocks salt_size (replicate 6 0) s.salt rest refl refl refl valid.uuid refl refl refl refl refl refl refl total;
      algorithm = ap (before_first (λ b. b == 0)) (at-e signature one one s.uuid (codes "sha256") (replicate 26 0) data_block hash_block blocks salt_size (replicate 6 0) s.salt rest refl refl refl valid.uuid refl refl refl refl refl refl refl total);
      data_block = ap (from_le_bytes w32) (at-g signature one one s.uuid (codes "sha256") (replicate 26 0) data_block hash_block blocks salt_size (replicate 6 0) s.salt rest refl refl refl valid.uuid refl refl refl refl refl refl refl total)
          ∙ from_le_bytes-to_le_bytes_4 s.data_block (small s.data_block valid.shape.data_size);
      hash_block = ap (from_le_bytes w32) (at-h signature one one s.uuid (codes "sha256") (replicate 26 0) data_block hash_block blocks salt_size (replicate 6 0) s.salt rest refl refl refl valid.uuid refl refl refl refl refl refl refl total)
          ∙ from_le_bytes-to_le_bytes_4 s.hash_block (small s.hash_block valid.shape.hash_size);
      blocks = ap (from_le_bytes w64) (at-i signature one one s.uuid (codes "sha256") (replicate 26 0) data_block hash_block blocks salt_size (replicate 6 0) s.salt rest refl refl refl valid.uuid refl refl refl refl refl refl refl total)
          ∙ from_le_bytes-to_le_bytes_8 s.blocks few;
      salt_size = ap (from_le_bytes w16) (at-j signature one one s.uuid (codes "sha256") (replicate 26 0) data_block hash_block blocks salt_size (replicate 6 0) s.salt rest refl refl refl valid.uuid refl refl refl refl refl refl refl total)
          ∙ from_le_bytes-to_le_bytes_2 (length s.salt) short;
      salt = at-l signature one one s.uuid (codes "sha256") (replicate 26 0) data_block hash_block blocks salt_size (replicate 6 0) s.salt rest refl refl refl valid.uuid refl refl refl refl refl refl refl total;
    }

-- ten parts written at their places
module _ (s : SuperRecord) (valid : IsSuperblock s) (b1 b2 b3 b4 b5 b6 b7 b8 b9 b10 : List ℕ)
    (e1 : b1 ≡ put_at (replicate 512 0) 0 signature) (e2 : b2 ≡ put_at b1 8 (to_le_bytes w32 1)) (e3 : b3 ≡ put_at b2 12 (to_le_bytes w32 1)) (e4 : b4 ≡ put_at b3 16 s.uuid)
    (e5 : b5 ≡ put_at b4 32 (codes "sha256")) (e6 : b6 ≡ put_at b5 64 (to_le_bytes w32 s.data_block)) (e7 : b7 ≡ put_at b6 68 (to_le_bytes w32 s.hash_block))
    (e8 : b8 ≡ put_at b7 72 (to_le_bytes w64 s.blocks)) (e9 : b9 ≡ put_at b8 80 (to_le_bytes w16 (length s.salt))) (e10 : b10 ≡ put_at b9 88 s.salt) where
  pub written : b10 ≡ spelling s
  unfolding spelling
  written =
      let one = to_le_bytes w32 1 in
      let data_block = to_le_bytes w32 s.data_block in
      let hash_block = to_le_bytes w32 s.hash_block in
      let blocks = to_le_bytes w64 s.blocks in
      let salt_size = to_le_bytes w16 (length s.salt) in
      let f4 = signature ++ one ++ one ++ s.uuid in
      let c4 : length f4 ≡ 32 = length-append (signature ++ one ++ one) s.uuid ∙ ap (λ n. 16 + n) valid.uuid in
      let f5 = f4 ++ codes "sha256" in
      let c5 : length f5 ≡ 38 = length-append f4 (codes "sha256") ∙ ap (λ n. n + 6) c4 in
      let f6 = f5 ++ replicate 26 0 in
      let c6 : length f6 ≡ 64 = length-append f5 (replicate 26 0) ∙ ap (λ n. n + 26) c5 in
      let f7 = f6 ++ data_block in
      let c7 : length f7 ≡ 68 = length-append f6 data_block ∙ ap (λ n. n + 4) c6 in
      let f8 = f7 ++ hash_block in
      let c8 : length f8 ≡ 72 = length-append f7 hash_block ∙ ap (λ n. n + 4) c7 in
      let f9 = f8 ++ blocks in
      let c9 : length f9 ≡ 80 = length-append f8 blocks ∙ ap (λ n. n + 8) c8 in
      let f10 = f9 ++ salt_size in
      let c10 : length f10 ≡ 82 = length-append f9 salt_size ∙ ap (λ n. n + 2) c9 in
      let f11 = f10 ++ replicate 6 0 in
      let c11 : length f11 ≡ 88 = length-append f10 (replicate 6 0) ∙ ap (λ n. n + 6) c10 in
      let g1 : Begins b1 signature = begins-put (replicate 512 0) b1 [] signature 0 refl refl (lit≤ tt) e1 in
      let g2 : Begins b2 (signature ++ one) = begins-put b1 b2 signature one 8 g1 refl (lit≤ tt) e2 in
      let g3 : Begins b3 (signature ++ one ++ one) = begins-put b2 b3 (signature ++ one) one 12 g2 refl (lit≤ tt) e3 in
      let g4 : Begins b4 f4 = begins-put b3 b4 (signature ++ one ++ one) s.uuid 16 g3 refl (omega (arith, valid.uuid)) e4 in
      let g5 : Begins b5 f5 = begins-put b4 b5 f4 (codes "sha256") 32 g4 c4 (lit≤ tt) e5 in
      let g6 : Begins b6 f7 = begins-put b5 b6 f6 data_block 64 (begins-gap b5 f5 26 g5 (omega (arith, c5))) c6 (lit≤ tt) e6 in
      let g7 : Begins b7 f8 = begins-put b6 b7 f7 hash_block 68 g6 c7 (lit≤ tt) e7 in
      let g8 : Begins b8 f9 = begins-put b7 b8 f8 blocks 72 g7 c8 (lit≤ tt) e8 in
      let g9 : Begins b9 f10 = begins-put b8 b9 f9 salt_size 80 g8 c9 (lit≤ tt) e9 in
      let g10 : Begins b10 (f11 ++ s.salt) = begins-put b9 b10 f11 s.salt 88 (begins-gap b9 f10 6 g9 (omega (arith, c10))) c11 (omega (arith, valid.salt)) e10 in
      let end : length (f11 ++ s.salt) ≡ 88 + length s.salt = length-append f11 s.salt ∙ ap (λ n. n + length s.salt) c11 in
      let rest : 512 - length (f11 ++ s.salt) ≡ 424 - length s.salt = omega (arith, end) in
      g10 ∙ ap (λ n. f11 ++ s.salt ++ replicate n 0) rest
