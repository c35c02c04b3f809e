-- Each block that a builder puts out, at whatever time, is one of the area's.
use Rattle.std.proofs.Common.{ap, ◌≡◌, ◌≤◌, ◌-◌, ℕ, refl, arith, List, ◌++◌, length, replicate, subst}
use Rattle.std.proofs.lemmas.List.{length-append, length-replicate}
use Rattle.std.proofs.lemmas.List.Elements.{All-append, All-replicate, All-take, All-drop}
use Rattle.std.proofs.Math.Seq.{take-append_seam, drop-append_seam}
use Rattle.std.proofs.lemmas.List.Sorted.{All-permutation, IsPermutation-sym, length_permutation}
use Rattle.std.specs.List.{All}
use Rattle.tree_shape.specs.Shape.{ShapeRecord, IsShape, area_blocks}
use Rattle.hash_tree.specs.Tree.{area}
use Rattle.hash_tree.specs.Laws.{AreDigests}
use Rattle.hash_tree.proofs.lemmas.LawLemmas.{stands-in_shape}
use Rattle.hash_tree.proofs.lemmas.PackingLemmas.{AllOf}
use Rattle.hash_tree.specs.Building.{PlacedRecord, IsAreaBlock, numbered, begun_builder, pushed, completed, last_completed}
use Rattle.hash_tree.proofs.lemmas.BuilderLemmas.{completed-append}
use Rattle.hash_tree.proofs.lemmas.BuildingLemmas.{builds-area}
use Rattle.hash_tree.proofs.lemmas.PlacingLemmas.{numbered-inside, numbered-sized, length-numbered}

All-left : (P : PlacedRecord → Type 0) (xs ys : List PlacedRecord) → All P (xs ++ ys) → All P xs
All-left P xs ys all = subst (All P) (take-append_seam xs ys) (All-take P (length xs) (xs ++ ys) all)

All-right : (P : PlacedRecord → Type 0) (xs ys : List PlacedRecord) → All P (xs ++ ys) → All P ys
All-right P xs ys all = subst (All P) (drop-append_seam xs ys) (All-drop P (length xs) (xs ++ ys) all)

module _ (s : ShapeRecord) (valid : IsShape s) (salt : List ℕ) where
  -- over all digests
  all-inside : (ds : List (List ℕ)) → AreDigests s.blocks ds → All (IsAreaBlock s) (completed (begun_builder s salt) ds ++ last_completed (pushed (begun_builder s salt) ds))
  all-inside ds are =
      let built = builds-area s valid salt ds are in
      let stands = stands-in_shape s valid salt ds are in
      let blocks = area s.hash_block salt ds in
      All-permutation (IsAreaBlock s) (numbered s.start blocks) _ (IsPermutation-sym _ _ built.area)
      (λ k d inside.
      let place = numbered-inside s.start blocks k d inside in
      record {
        from = place.0;
        below = omega (arith, place.1, stands.total);
        size = numbered-sized s.start s.hash_block blocks stands.sized k d inside;
      })

  -- over as many digests as there are so far
  pub completed-inside : (ds : List (List ℕ)) → AllOf 32 ds → length ds ≤ s.blocks → All (IsAreaBlock s) (completed (begun_builder s salt) ds)
  completed-inside ds sized room =
      let zeros : List ℕ = replicate 32 0 in
      let more : List (List ℕ) = replicate (s.blocks - length ds) zeros in
      let are : AreDigests s.blocks (ds ++ more) = record {
        count = omega (arith, length-append ds more, length-replicate (s.blocks - length ds) zeros, room);
        sized = All-append (λ d. length d ≡ 32) ds more sized (All-replicate (λ d. length d ≡ 32) (s.blocks - length ds) zeros refl);
      } in
      let both = All-left (IsAreaBlock s) (completed (begun_builder s salt) (ds ++ more)) _ (all-inside (ds ++ more) are) in
      All-left (IsAreaBlock s) (completed (begun_builder s salt) ds) (completed (pushed (begun_builder s salt) ds) more)
      (subst (All (IsAreaBlock s)) (completed-append (begun_builder s salt) ds more) both)

  -- by some more digests after those
  pub next-inside : (ds next : List (List ℕ)) → AllOf 32 (ds ++ next) → length (ds ++ next) ≤ s.blocks → All (IsAreaBlock s) (completed (pushed (begun_builder s salt) ds) next)
  next-inside ds next sized room =
      All-right (IsAreaBlock s) (completed (begun_builder s salt) ds) (completed (pushed (begun_builder s salt) ds) next)
      (subst (All (IsAreaBlock s)) (completed-append (begun_builder s salt) ds next) (completed-inside (ds ++ next) sized room))

  -- at the end
  pub last-inside : (ds : List (List ℕ)) → AreDigests s.blocks ds → All (IsAreaBlock s) (last_completed (pushed (begun_builder s salt) ds))
  last-inside ds are = All-right (IsAreaBlock s) (completed (begun_builder s salt) ds) (last_completed (pushed (begun_builder s salt) ds)) (all-inside ds are)

  -- so many digests complete no more blocks than the area has
  pub completed-few : (ds : List (List ℕ)) → AllOf 32 ds → length ds ≤ s.blocks → length (completed (begun_builder s salt) ds) ≤ area_blocks s
  completed-few ds sized room =
      let zeros : List ℕ = replicate 32 0 in
      let more : List (List ℕ) = replicate (s.blocks - length ds) zeros in
      let b0 = begun_builder s salt in
      let are : AreDigests s.blocks (ds ++ more) = record {
        count = omega (arith, length-append ds more, length-replicate (s.blocks - length ds) zeros, room);
        sized = All-append (λ d. length d ≡ 32) ds more sized (All-replicate (λ d. length d ≡ 32) (s.blocks - length ds) zeros refl);
      } in
      let built = builds-area s valid salt (ds ++ more) are in
      let stands = stands-in_shape s valid salt (ds ++ more) are in
      let blocks = area s.hash_block salt (ds ++ more) in
      let first = completed b0 (ds ++ more) in
      let last = last_completed (pushed b0 (ds ++ more)) in
      omega (
        arith,
        length_permutation (first ++ last) (numbered s.start blocks) built.area,
        length-numbered s.start blocks,
        stands.total,
        length-append first last,
        ap length (completed-append b0 ds more),
        length-append (completed b0 ds) (completed (pushed b0 ds) more),
      )
