-- The digests of eight whole blocks, block by block.
use Rattle.std.proofs.Common.{◌≡◌, ℕ, zero, suc, Bool, true, false, ◌&&◌, not, ◌==◌, refl, eqb-true, ◌<◌, ◌≤◌, ◌+◌, ◌*◌, ◌/◌, ◌%◌, List, [], length, get_or, take, drop, map, sym, ap, ◌∙◌, arith, subst, ◌++◌}
use Rattle.std.proofs.Math.Nat.{mul-mod_right, mul-div_cancel_left, mul-le-mul_left}
use Rattle.std.proofs.lemmas.List.{get_or-map, get_or-take, get_or-drop, length-drop, length-take-le}
use Rattle.std.proofs.lemmas.List.Elements.{All-take, All-drop}
use Rattle.std.specs.List.{concat}
use Rattle.tree_shape.specs.Digests.{digest}
use Rattle.hash_tree.specs.Tree.{cut}
use Rattle.hash_tree.specs.Building.{BuilderRecord, PlacedRecord, are_whole_blocks, is_between, pushed, completed, pushed_block, completed_block, HasSome, IsPushed}
use Rattle.hash_tree.proofs.GroupLemmas.{length-cut_whole}
use Rattle.hash_tree.proofs.lemmas.PackingLemmas.{AllOf, length-concat, get_or-cut_whole}
use Rattle.hash_tree.proofs.lemmas.BlockwiseLemmas.{drop-concat, take-concat, pushed-block, completed-block, between-pushed_block, size-pushed, salt-pushed, IsPushed-next, HasSome-next}

both : (a b : Bool) → (a && b) ≡ true → (a ≡ true) × (b ≡ true)
both true b h = (refl, h)
both false b h = cc

some-size : (n : ℕ) → not (n == 0) ≡ true → 0 < n
some-size zero h = cc
some-size (suc n) h = omega arith

-- what a size of whole digests is
pub whole-size : (n : ℕ) → are_whole_blocks n ≡ true → (0 < n) × (n ≡ 32 * (n / 32))
whole-size n h =
    let parts = both (not (n == 0)) (n % 32 == 0) h in
    let rest : n % 32 ≡ 0 = eqb-true (n % 32) 0 parts.1 in
    (some-size n parts.0, omega (arith, rest))

module _ (ds : List (List ℕ)) (all : AllOf 32 ds) (size per : ℕ) (whole : size ≡ 32 * per) where
  -- the bytes of block k
  pub block-at : (k n : ℕ) (bytes : List ℕ) → bytes ≡ concat ds → n ≡ size → take n (drop (k * size) bytes) ≡ concat (take per (drop (per * k) ds))
  block-at k n bytes is width =
      let at : k * size ≡ 32 * (per * k) = let e : k * (32 * per) ≡ 32 * (per * k) = grind arith in ap (λ (s : ℕ). k * s) whole ∙ e in
      ap (λ b. take n (drop (k * size) b)) is
      ∙ ap (λ m. take m (drop (k * size) (concat ds))) (width ∙ whole)
      ∙ ap (λ m. take (32 * per) (drop m (concat ds))) at
      ∙ ap (take (32 * per)) (drop-concat 32 ds (per * k) all)
      ∙ take-concat 32 (drop (per * k) ds) per (All-drop (λ d. length d ≡ 32) (per * k) ds all)

  module _ (bytes : List ℕ) (is : bytes ≡ concat ds) (count : length ds ≡ per * 8) (some : 0 < size) where
    pub long : length bytes ≡ size * 8
    long = ap length is ∙ length-concat 32 ds all ∙ ap (λ n. 32 * n) count ∙ (let e : 32 * (per * 8) ≡ 32 * per * 8 = grind arith in e) ∙ ap (λ s. s * 8) (sym whole)

    pub no_rest : length bytes % size ≡ 0
    no_rest = ap (λ n. n % size) long ∙ mul-mod_right size 8

    pub eight : length bytes / size ≡ 8
    eight = ap (λ n. n / size) long ∙ mul-div_cancel_left 8 some

    -- the digest of block k
    pub digest-at : (salt : List ℕ) (made : List (List ℕ)) (k : ℕ) (d x : List ℕ) → k < 8 → made ≡ map (digest salt) (take 8 (drop (8 * 0) (cut size bytes))) → d ≡ get_or made k x
        → d ≡ digest salt (concat (take per (drop (per * k) ds)))
    digest-at salt made k d x inside are at =
        let cs : List (List ℕ) = cut size bytes in
        let each : length cs ≡ 8 = length-cut_whole size bytes some no_rest ∙ eight in
        let part : length (take 8 (drop (8 * 0) cs)) ≡ 8 = length-take-le 8 (drop (8 * 0) cs) (omega (arith, length-drop (8 * 0) cs, each)) in
        let order : size * (8 * 0 + k) ≡ k * size = let e : size * k ≡ k * size = grind arith in ap (λ (n : ℕ). size * n) (omega arith) ∙ e in
        at
        ∙ ap (λ ds. get_or ds k x) are
        ∙ get_or-map (digest salt) (take 8 (drop (8 * 0) cs)) k [] x (omega (arith, part, inside))
        ∙ ap (digest salt)
        (get_or-take 8 (drop (8 * 0) cs) k [] inside
        ∙ get_or-drop (8 * 0) cs k []
        ∙ get_or-cut_whole size (8 * 0 + k) bytes some no_rest (omega (arith, eight, inside))
        ∙ ap (λ n. take size (drop n bytes)) order
        ∙ block-at k size bytes is (omega arith))

-- block k of the digests, where those before it are pushed
module _ (b : BuilderRecord) (ds : List (List ℕ)) (all : AllOf 32 ds) (size : (0 < b.hash_block) × (b.hash_block ≡ 32 * (b.hash_block / 32)))
    (count : length ds ≡ b.hash_block / 32 * 8) (k : ℕ) (inside : k < 8) (here : BuilderRecord) (before middle : List PlacedRecord)
    (so : IsPushed b (take (b.hash_block / 32 * k) ds) here before middle) (between : is_between here.levels ≡ true) (block d : List ℕ)
    (is : block ≡ concat (take (b.hash_block / 32) (drop (b.hash_block / 32 * k) ds)))
    (made : d ≡ digest b.salt (concat (take (b.hash_block / 32) (drop (b.hash_block / 32 * k) ds)))) where
  abbrev part : List (List ℕ)
  part = take (b.hash_block / 32) (drop (b.hash_block / 32 * k) ds)

  same : here.hash_block ≡ b.hash_block
  same = ap (λ (b : BuilderRecord). b.hash_block) so.builder ∙ size-pushed b (take (b.hash_block / 32 * k) ds)

  salt : here.salt ≡ b.salt
  salt = ap (λ (b : BuilderRecord). b.salt) so.builder ∙ salt-pushed b (take (b.hash_block / 32 * k) ds)

  sized : AllOf 32 part
  sized = All-take (λ d. length d ≡ 32) (b.hash_block / 32) (drop (b.hash_block / 32 * k) ds) (All-drop (λ d. length d ≡ 32) (b.hash_block / 32 * k) ds all)

  few : length part ≡ here.hash_block / 32
  few =
      let most : b.hash_block / 32 * (k + 1) ≤ b.hash_block / 32 * 8 = mul-le-mul_left (b.hash_block / 32) (omega (arith, inside)) in
      let next : b.hash_block / 32 * (k + 1) ≡ b.hash_block / 32 * k + b.hash_block / 32 = grind arith in
      length-take-le (b.hash_block / 32) (drop (b.hash_block / 32 * k) ds) (omega (arith, length-drop (b.hash_block / 32 * k) ds, count, most, next)) ∙ ap (λ n. n / 32) (sym same)

  whole : 32 * (here.hash_block / 32) ≡ here.hash_block
  whole = ap (λ n. 32 * (n / 32)) same ∙ sym size.1 ∙ sym same

  is_made : d ≡ digest here.salt (concat part)
  is_made = made ∙ ap (λ s. digest s (concat part)) (sym salt)

  here-pushed : pushed here part ≡ pushed_block here block d
  here-pushed = pushed-block here part d between sized few whole (omega (arith, size.0, same)) is_made ∙ ap (λ b. pushed_block here b d) (sym is)

  here-completed : completed here part ≡ completed_block here block d
  here-completed = completed-block here part d between sized few whole (omega (arith, size.0, same)) is_made ∙ ap (λ b. completed_block here b d) (sym is)

  pub next-pushed : (after_it : BuilderRecord) (after : List PlacedRecord) → after_it ≡ pushed_block here block d → after ≡ middle ++ completed_block here block d
      → IsPushed b (take (b.hash_block / 32 * (k + 1)) ds) after_it before after
  next-pushed after_it after p q =
      let next : b.hash_block / 32 * k + b.hash_block / 32 ≡ b.hash_block / 32 * (k + 1) = grind arith in
      subst (λ n. IsPushed b (take n ds) after_it before after) next
      (IsPushed-next b here after_it (b.hash_block / 32 * k) (b.hash_block / 32) ds before middle after so
      (record { builder = p ∙ sym here-pushed; out = q ∙ ap (λ ps. middle ++ ps) (sym here-completed) }))

  pub next-between : (after_it : BuilderRecord) → after_it ≡ pushed_block here block d → is_between after_it.levels ≡ true
  next-between after_it p = ap (λ (b : BuilderRecord). is_between b.levels) p ∙ between-pushed_block here block d ∙ between

  pub next-some : (after : List PlacedRecord) → HasSome middle (completed_block here block d) after → HasSome before (completed b ds) after
  next-some after some =
      HasSome-next b here (b.hash_block / 32 * k) (b.hash_block / 32) ds before middle after so (subst (λ ps. HasSome middle ps after) (sym here-completed) some)
