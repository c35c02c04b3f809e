-- One step of a builder: what a digest does to its levels.
use Rattle.std.proofs.Common.{◌≡◌, ◌≢◌, ◌≤◌, ◌<◌, ◌+◌, ℕ, suc, refl, sym, ap, ◌∙◌, arith, List, [], ◌∷◌, ◌++◌, length, take, drop, append_assoc, Option, Some, None}
use Rattle.std.proofs.lemmas.Bool.{lt-ltb, le-ltb}
use Rattle.std.proofs.Math.Seq.{take-length, take-append_seam, take-append-add}
use Rattle.std.proofs.lemmas.List.{take-append-drop}
use Rattle.std.specs.Option.{unwrap_or}
use Rattle.tree_shape.specs.Digests.{digest}
use Rattle.hash_tree.specs.Tree.{filled}
use Rattle.hash_tree.specs.Building.{LevelRecord, PlacedRecord, grow, done, HasSome, close, close_block}

module _ (size : ℕ) (salt : List ℕ) where
  pub grow-none : (levels : List LevelRecord) (root d : List ℕ) → length levels ≡ 0 → grow size salt levels root d ≡ record { levels = levels; root = d; placed = [] }
  unfolding grow
  grow-none [] root d none = refl
  grow-none (l ∷ above) root d none = absurd (omega (arith, none))

  pub grow-short : (l : LevelRecord) (above : List LevelRecord) (root d : List ℕ) → length (l.bytes ++ d) < size
      → grow size salt (l ∷ above) root d ≡ record { levels = record l { bytes = l.bytes ++ d } ∷ above; root = root; placed = [] }
  unfolding grow
  grow-short l above root d short = rw (lt-ltb (length (l.bytes ++ d)) size short) refl

  pub grow-full : (l : LevelRecord) (above : List LevelRecord) (root d : List ℕ) → size ≤ length (l.bytes ++ d)
      → grow size salt (l ∷ above) root d ≡ done l (l.bytes ++ d) (grow size salt above root (digest salt (l.bytes ++ d)))
  unfolding grow
  grow-full l above root d full = rw (le-ltb (length (l.bytes ++ d)) size full) refl

  pub close-none : (levels : List LevelRecord) (root : List ℕ) (coming : Option (List ℕ)) → length levels ≡ 0 → close size salt levels root coming ≡ record { root = unwrap_or coming root; placed = [] }
  unfolding close
  close-none [] root coming none = refl
  close-none (l ∷ above) root coming none = absurd (omega (arith, none))

  -- a level that is empty
  pub close-empty : (l : LevelRecord) (above : List LevelRecord) (root bytes : List ℕ) (coming : Option (List ℕ)) → bytes ≡ l.bytes ++ unwrap_or coming [] → length bytes ≡ 0
      → close size salt (l ∷ above) root coming ≡ close size salt above root None
  unfolding close
  close-empty l above root [] coming is none = ap (λ b. close_block size salt l.next b (close size salt above root)) (sym is)
  close-empty l above root (b ∷ bs) coming is none = absurd (omega (arith, none))

  -- a level whose last block is begun
  pub close-begun : (l : LevelRecord) (above : List LevelRecord) (root bytes : List ℕ) (coming : Option (List ℕ)) → bytes ≡ l.bytes ++ unwrap_or coming [] → length bytes ≢ 0
      → close size salt (l ∷ above) root coming ≡ record {
        root = (close size salt above root (Some (digest salt (filled size bytes)))).root;
        placed = record { block = l.next; bytes = filled size bytes } ∷ (close size salt above root (Some (digest salt (filled size bytes)))).placed;
      }
  unfolding close
  close-begun l above root [] coming is some = absurd (some refl)
  close-begun l above root (b ∷ bs) coming is some = ap (λ b. close_block size salt l.next b (close size salt above root)) (sym is)

-- one more of the blocks that come out
pub HasSome-more : (before middle after more : List PlacedRecord) (p : PlacedRecord) → middle ≡ before ++ p ∷ [] → HasSome middle more after → HasSome before (p ∷ more) after
HasSome-more before middle after more p pushed some = record {
  count = suc some.count;
  is = some.is ∙ ap (λ m. m ++ take some.count more) pushed ∙ append_assoc before (p ∷ []) (take some.count more);
}

-- the blocks put out, with those of the levels above
pub put-more : (before middle after more : List PlacedRecord) (p : PlacedRecord) → middle ≡ before ++ p ∷ [] → after ≡ middle ++ more → after ≡ before ++ p ∷ more
put-more before middle after more p pushed made = made ∙ ap (λ m. m ++ more) pushed ∙ append_assoc before (p ∷ []) more

pub cons-same : (a b : LevelRecord) (ls ks : List LevelRecord) → a ≡ b → ls ≡ ks → a ∷ ls ≡ b ∷ ks
cons-same a b ls ks first rest = ap (λ x. x ∷ ls) first ∙ ap (λ xs. b ∷ xs) rest

-- all of the blocks
pub HasSome-all : (before more after : List PlacedRecord) → after ≡ before ++ more → HasSome before more after
HasSome-all before more after is = record { count = length more; is = is ∙ ap (λ m. before ++ m) (sym (take-length more)) }

-- some of the next blocks, after those that are there already
pub HasSome-later : (before middle after past next rest : List PlacedRecord) → middle ≡ before ++ past → HasSome middle next after → HasSome before (past ++ (next ++ rest)) after
HasSome-later before middle after past next rest there some =
    let part : List PlacedRecord = take some.count next in
    let split : next ++ rest ≡ part ++ (drop some.count next ++ rest) =
    ap (λ m. m ++ rest) (sym (take-append-drop some.count next)) ∙ append_assoc part (drop some.count next) rest in
    record {
      count = length past + length part;
      is =
          some.is
          ∙ ap (λ m. m ++ part) there
          ∙ append_assoc before past part
          ∙ ap (λ m. before ++ (past ++ m)) (sym (ap (take (length part)) split ∙ take-append_seam part (drop some.count next ++ rest)))
          ∙ ap (λ m. before ++ m) (sym (take-append-add past (next ++ rest) (length part)));
    }
