-- Two trees that are compared, while data blocks are left.
use Rattle.std.proofs.Common.{◌≡◌, ◌≢◌, ◌≤◌, ◌<◌, ◌+◌, ◌-◌, ◌*◌, ◌/◌, ◌%◌, ◌^◌, ℕ, zero, suc, min, Bool, IsTrue, List, [], ◌∷◌, ◌++◌, length, get_or, replicate, Option, Some, None, refl, sym, ap, ◌∙◌, subst, arith, inl, inr}
use Rattle.std.specs.Prelude.{All}
use Rattle.std.proofs.Math.Nat.{zero-mod, zero-mul}
use Rattle.std.proofs.lemmas.Bool.{cases_lt}
use Rattle.std.proofs.lemmas.List.{length-append, length-replicate, get_or_append_left, get_or-append-add, get_or-replicate}
use Rattle.std.proofs.lemmas.List.Elements.{All-nil, All-cons, All-head, All-tail, All-weaker}
use Rattle.block_device.specs.Device.{Device}
use Rattle.tree_shape.specs.Shape.{ShapeRecord, levels, per_block}
use Rattle.verity_format.specs.Blocks.{IsFullRead, IsOnlyRead}
use Rattle.tree_path.specs.Path.{digest_on, stored_digest}
use Rattle.tree_path.specs.Spans.{IsTopAt}
use Rattle.verity_format.proofs.lemmas.DeviceLemmas.{full_read-none, full_read-then}
use Rattle.tree_path.proofs.lemmas.PathLemmas.{digest_on-along, digest_on-stored}
use Rattle.tree_path.proofs.lemmas.SpanLemmas.{along, lower-mod}
use Rattle.tree_shape.proofs.lemmas.ShapeFactLemmas.{two}
use Rattle.tree_shape.proofs.lemmas.ShapeLemmas.{pow_pos}
use Rattle.runs.specs.declared.kind.Kind.TheVariants.{Changed}
use Rattle.runs.specs.declared.tally.Tally.{Tally}
use Rattle.runs.specs.Kinds.{State, count_of}
use Rattle.runs.proofs.lemmas.ListingLemmas.{IsListed}
use Rattle.tree_difference.specs.declared.walk.Walk.{Walk}
use Rattle.tree_difference.specs.Comparisons.{AreDistinctPairs, AreBehind, AreEntered, AreStatesSeen, HashPair, IsEntered, DifferenceWorld, hash_images}
use Rattle.tree_difference.specs.Differences.{CanCompare, HaveTrees, trees_in}
use Rattle.tree_difference.specs.Trees.{Trees, AreWays, IsSeenAs, IsStoredAs, first_digest, second_digest}
use Rattle.tree_difference.specs.Walks.{AreSameTrees, HasStopped, HaveBlock, IsOn, walk_sides}
use Rattle.tree_difference.proofs.AlongLemmas.{HasWidth, IsTop, first-same, next-same, none-above, on-along, on-higher, second-same}
use Rattle.tree_difference.proofs.WalkLemmas.{have-then, on-was, trees-none, trees-then}

-- what the loop has beside the walk
pub record Progress : Type 0 where
  pub tally : Tally
  pub changed : ℕ
  pub at : ℕ

abbrev pub progress : Tally → ℕ → ℕ → Progress
progress tally changed at = record { tally = tally; changed = changed; at = at }

abbrev pub width : Walk → ℕ
width w = per_block w.first.shape

-- the data blocks before that one are compared
pub record IsUnderway (w0 w : Walk) (i : DifferenceWorld) (most : Option ℕ) (g : Progress) : Type 0 where
  pub compared : List State
  pub here : g.at ≡ length compared
  pub within : g.at ≤ w0.blocks
  pub trees : AreSameTrees w0 w
  pub next : g.at < w0.blocks → (k : ℕ) → k ≤ w0.levels → IsTop (width w0) w0.levels g.at k → IsOn w i.first i.second g.at k
  pub seen : AreStatesSeen (trees_in w0) i compared
  pub entries : List HashPair
  pub entered : AreEntered (trees_in w0) entries
  pub before : All (λ (e : HashPair). e.index < g.at) entries
  pub first_read : IsFullRead i.first (length entries * (w0.first.shape.hash_block / 512)) i.first'
  pub second_read : IsFullRead i.second (length entries * (w0.second.shape.hash_block / 512)) i.second'
  pub listed : IsListed most compared g.tally i.printed i.printed'
  pub counted : g.changed ≡ count_of Changed compared

-- ---- the hash blocks that were entered

-- those of the levels from l on, n of them, on the way to a data block
abbrev pub entered_from : ℕ → ℕ → ℕ → List HashPair → List HashPair
entered_from at l zero rest = rest
entered_from at l (suc n) rest = record { index = at; level = l } ∷ entered_from at (l + 1) n rest

length-entered : (at l n : ℕ) (rest : List HashPair) → length (entered_from at l n rest) ≡ n + length rest
length-entered at l zero rest = omega arith
length-entered at l (suc n) rest = omega (arith, length-entered at (l + 1) n rest)

behind-all : (e : HashPair) (rest : List HashPair) → All (λ (f : HashPair). f.index < e.index) rest → AreBehind e rest
behind-all e [] all = tt
behind-all e (f ∷ rest) all = (inl (All-head (λ (f : HashPair). f.index < e.index) f rest all), behind-all e rest (All-tail (λ (f : HashPair). f.index < e.index) f rest all))

behind-entered : (at l k n : ℕ) (rest : List HashPair) → l < k → All (λ (f : HashPair). f.index < at) rest → AreBehind (record { index = at; level = l }) (entered_from at k n rest)
behind-entered at l k zero rest low all = behind-all (record { index = at; level = l }) rest all
behind-entered at l k (suc n) rest low all = (inr (refl, low), behind-entered at l (k + 1) n rest (omega (arith, low)) all)

apart-entered : (at l n : ℕ) (rest : List HashPair) → All (λ (f : HashPair). f.index < at) rest → AreDistinctPairs rest → AreDistinctPairs (entered_from at l n rest)
apart-entered at l zero rest all apart = apart
apart-entered at l (suc n) rest all apart = (behind-entered at l (l + 1) n rest (omega arith) all, apart-entered at (l + 1) n rest all apart)

all-entered : (P : HashPair → Type 0) (at l n : ℕ) (rest : List HashPair) → All P rest → ((k : ℕ) → l ≤ k → k < l + n → P (record { index = at; level = k })) → All P (entered_from at l n rest)
all-entered P at l zero rest all each = all
all-entered P at l (suc n) rest all each =
    All-cons P (record { index = at; level = l }) (entered_from at (l + 1) n rest) (each l (omega arith) (omega arith))
    (all-entered P at (l + 1) n rest all (λ k low high. each k (omega (arith, low)) (omega (arith, high))))

-- ---- one subtree more

-- what is known of it
pub record IsNext (w0 w w' : Walk) (i i' : DifferenceWorld) (at top level count : ℕ) : Type 0 where
  pub trees : AreSameTrees w0 w'
  pub inside : at < w0.blocks
  pub top_is : IsTopAt (width w0) w0.levels at top
  pub few : level ≤ top
  pub on : IsOn w' i.first i.second at level
  pub span : count ≡ min (width w0 ^ level) (w0.blocks - at)
  pub first_same : i'.first ≡ i.first
  pub second_same : i'.second ≡ i.second
  pub first_read : IsFullRead i.first' ((top - level) * (w0.first.shape.hash_block / 512)) i'.first'
  pub second_read : IsFullRead i.second' ((top - level) * (w0.second.shape.hash_block / 512)) i'.second'

module _ (w0 w w' : Walk) (d e : Device) (have : HaveTrees w0 d e) (i i' : DifferenceWorld) (at top level count : ℕ) (n : IsNext w0 w w' i i' at top level count) where
  t : Trees
  t = trees_in w0

  some : 0 < width w0
  some = omega (arith, two w0.first.shape have.first_valid)

  widths : HasWidth w' (width w0)
  widths = record {
    first = ap per_block n.trees.first.shape_is;
    second = ap per_block n.trees.second.shape_is ∙ ap (λ (h : ℕ). h / 32) have.alike.hash_block;
  }

  begins : at % width w0 ^ level ≡ 0
  begins = lower-mod (width w0) some at level top n.few n.top_is.begins

  pub count-some : 1 ≤ count
  count-some = omega (arith, n.span, pow_pos (width w0) level some, n.inside)

  pub count-inside : at + count ≤ w0.blocks
  count-inside = omega (arith, n.span, n.inside)

  -- a data block of the subtree has the same blocks above it
  above : (j : ℕ) → j < count → (m : ℕ) → level ≤ m → (at + j) / width w0 ^ m ≡ at / width w0 ^ m
  above j low m le = along (width w0) some at (at + j) level m le begins (omega arith) (omega (arith, low, n.span))

  on-block : (j : ℕ) → j < count → IsOn w' i.first i.second (at + j) level
  on-block j low = on-along w' i.first i.second (width w0) at (at + j) level widths (λ m more. sym (above j low m (omega (arith, more)))) n.on

  first-on : (j : ℕ) → j < count → digest_on w'.first (at + j) level ≡ digest_on w'.first at level
  first-on j low = digest_on-along w'.first (at + j) at level (first-same w' (width w0) (at + j) at level widths (above j low level (omega arith)))

  second-on : (j : ℕ) → j < count → digest_on w'.second (at + j) level ≡ digest_on w'.second at level
  second-on j low = digest_on-along w'.second (at + j) at level (second-same w' (width w0) (at + j) at level widths (above j low level (omega arith)))

  few-levels : level ≤ w0.levels
  few-levels = omega (arith, n.few, n.top_is.few)

  ways : (j k : ℕ) → j ≤ w0.blocks → k ≤ w0.levels → IsOn w' i.first i.second j k → AreWays (trees_in w0) j k w'.first w'.second
  ways j k in' few on = record {
    first_is = n.trees.first;
    second_is = n.trees.second;
    few = omega (arith, few, have.of.levels);
    first_leads = on.first_leads;
    second_leads = on.second_leads;
  }

  -- the digests that are on the devices
  first-stored : (j m : ℕ) → IsTrue i.first.steady → m ≤ w0.levels → level ≤ m → IsOn w' i.first i.second j level → digest_on w'.first j m ≡ first_digest (trees_in w0) (hash_images i) j m
  first-stored j m steady few le on =
      digest_on-stored w'.first i.first.image j m (omega (arith, few, have.of.levels, ap levels n.trees.first.shape_is)) (λ low. (on.first_stored steady).up m le low)
      ∙ ap (λ (s : ShapeRecord). stored_digest s w'.first.root i.first.image j m) n.trees.first.shape_is
      ∙ ap (λ (r : List ℕ). stored_digest w0.first.shape r i.first.image j m) n.trees.first.root_is

  second-stored : (j m : ℕ) → IsTrue i.second.steady → m ≤ w0.levels → level ≤ m → IsOn w' i.first i.second j level → digest_on w'.second j m ≡ second_digest (trees_in w0) (hash_images i) j m
  second-stored j m steady few le on =
      digest_on-stored w'.second i.second.image j m (omega (arith, few, have.of.levels, ap levels n.trees.second.shape_is)) (λ low. (on.second_stored steady).up m le low)
      ∙ ap (λ (s : ShapeRecord). stored_digest s w'.second.root i.second.image j m) n.trees.second.shape_is
      ∙ ap (λ (r : List ℕ). stored_digest w0.second.shape r i.second.image j m) n.trees.second.root_is

  -- its data blocks are the same
  pub seen-same : digest_on w'.first at level ≡ digest_on w'.second at level → (j : ℕ) → j < count → IsSeenAs (trees_in w0) (at + j) None
  seen-same same j low =
      (level, (w'.first, (w'.second, (ways (at + j) level (omega (arith, low, count-inside)) few-levels (on-block j low), first-on j low ∙ same ∙ sym (second-on j low)))))

  pub stored-same : digest_on w'.first at level ≡ digest_on w'.second at level → IsTrue i.first.steady → IsTrue i.second.steady → (j : ℕ) → j < count → IsStoredAs (trees_in w0) (hash_images i) (at + j) None
  stored-same same steady steady' j low = (
    level,
    (
      omega (arith, few-levels, have.of.levels),
      sym (first-stored (at + j) level steady few-levels (omega arith) (on-block j low)) ∙ first-on j low ∙ same ∙ sym (second-on j low) ∙ second-stored (at + j) level steady' few-levels (omega arith) (on-block j low),
    ),
  )

  -- or they are changed
  pub seen-changed : level ≡ 0 → digest_on w'.first at level ≢ digest_on w'.second at level → (j : ℕ) → j < count → IsSeenAs (trees_in w0) (at + j) (Some Changed)
  seen-changed low_level differ j low = (
    w'.first,
    (
      w'.second,
      (
        subst (λ (k : ℕ). AreWays (trees_in w0) (at + j) k w'.first w'.second) low_level (ways (at + j) level (omega (arith, low, count-inside)) few-levels (on-block j low)),
        subst (λ (k : ℕ). digest_on w'.first (at + j) k ≢ digest_on w'.second (at + j) k) low_level (λ same. differ (sym (first-on j low) ∙ same ∙ second-on j low)),
      ),
    ),
  )

  pub stored-changed : level ≡ 0 → digest_on w'.first at level ≢ digest_on w'.second at level → IsTrue i.first.steady → IsTrue i.second.steady → (j : ℕ) → j < count → IsStoredAs (trees_in w0) (hash_images i) (at + j) (Some Changed)
  stored-changed low_level differ steady steady' j low m most =
      let few : m ≤ w0.levels = omega (arith, most, have.of.levels) in
      let le : level ≤ m = omega (arith, low_level) in
      λ same.
      let both : digest_on w'.first (at + j) m ≡ digest_on w'.second (at + j) m = first-stored (at + j) m steady few le (on-block j low) ∙ same ∙ sym (second-stored (at + j) m steady' few le (on-block j low)) in
      elim (cases_lt level m) [
        | inl high ↦ (on-block j low).differ m high (omega (arith, few, n.trees.levels)) both
        | inr not ↦
            let here : m ≡ level = omega (arith, le, not) in
            differ (sym (first-on j low) ∙ ap (digest_on w'.first (at + j)) (sym here) ∙ both ∙ ap (digest_on w'.second (at + j)) here ∙ second-on j low)
      ]

  -- above the levels that both trees have there is one block
  lone : (j m : ℕ) → j < w0.blocks → w0.levels ≤ m → j / width w0 ^ m ≡ 0
  lone j m low high = elim (cases_lt (levels w0.first.shape) (levels w0.second.shape)) [
    | inl less ↦ none-above w0.first.shape have.first_valid j m (omega (arith, low, have.of.blocks)) (omega (arith, high, have.of.levels, less))
    | inr more ↦
        ap (λ (p : ℕ). j / p ^ m) (sym (ap (λ (h : ℕ). h / 32) have.alike.hash_block))
        ∙ none-above w0.second.shape have.second_valid j m (omega (arith, low, have.of.blocks)) (omega (arith, high, have.of.levels, more))
  ]

  -- what is on the way to the next one
  pub next-on : at + count < w0.blocks → (k : ℕ) → k ≤ w0.levels → IsTop (width w0) w0.levels (at + count) k → IsOn w' i.first i.second (at + count) k
  next-on low k few is =
      let wide : count ≡ width w0 ^ level = omega (arith, n.span, low) in
      let is' : IsTop (width w0) w0.levels (at + width w0 ^ level) k = subst (λ (c : ℕ). IsTop (width w0) w0.levels (at + c) k) wide is in
      let both = next-same (width w0) w0.levels at level k some begins few-levels few
      (λ m high. lone (at + width w0 ^ level) m (omega (arith, low, wide)) (omega (arith, high)) ∙ sym (lone at m n.inside (omega (arith, high)))) is' in
      on-along w' i.first i.second (width w0) at (at + count) k widths
      (λ m high. sym (ap (λ (c : ℕ). (at + c) / width w0 ^ m) wide ∙ both.1 m high))
      (on-higher w' i.first i.second at level k both.0 n.on)

  -- the pairs of hash blocks that were entered
  pub entered-next : (entries : List HashPair) → All (λ (e : HashPair). e.index < at) entries → AreEntered (trees_in w0) entries → AreEntered (trees_in w0) (entered_from at level (top - level) entries)
  entered-next entries before entered = record {
    each = all-entered (IsEntered (trees_in w0)) at level (top - level) entries entered.each (λ k low high. record {
      p = w'.first;
      q = w'.second;
      ways = ways at (k + 1) (omega (arith, n.inside)) (omega (arith, high, n.top_is.few, n.few)) (on-higher w' i.first i.second at level (k + 1) (omega (arith, low)) n.on);
      differ = n.on.differ (k + 1) (omega (arith, low)) (omega (arith, high, n.top_is.few, n.few, n.trees.levels));
      begins = lower-mod (width w0) some at (k + 1) top (omega (arith, high, n.few)) n.top_is.begins;
    });
    apart = apart-entered at level (top - level) entries before entered.apart;
  }

  pub before-next : (entries : List HashPair) → All (λ (e : HashPair). e.index < at) entries → All (λ (e : HashPair). e.index < at + count) (entered_from at level (top - level) entries)
  before-next entries before =
      all-entered (λ (e : HashPair). e.index < at + count) at level (top - level) entries
      (All-weaker (λ (e : HashPair). e.index < at) (λ (e : HashPair). e.index < at + count) (λ e low. omega (arith, low)) entries before)
      (λ k low high. omega (arith, count-some))

  pub reads-next : (d0 dm d' : Device) (entries : List HashPair) (size : ℕ) → IsFullRead d0 (length entries * size) dm → IsFullRead dm ((top - level) * size) d' → IsFullRead d0 (length (entered_from at level (top - level) entries) * size) d'
  reads-next d0 dm d' entries size p q =
      full_read-then (length entries * size) ((top - level) * size) (length (entered_from at level (top - level) entries) * size) p q
      ((let e : length entries * size + (top - level) * size ≡ (top - level + length entries) * size = grind arith in e) ∙ ap (λ (k : ℕ). k * size) (sym (length-entered at level (top - level) entries)))

  -- the states of the blocks so far and of these
  pub seen-next : (compared : List State) (x : State) → at ≡ length compared → AreStatesSeen (trees_in w0) i compared → ((j : ℕ) → j < count → IsSeenAs (trees_in w0) (at + j) x)
      → (IsTrue i.first.steady → IsTrue i.second.steady → (j : ℕ) → j < count → IsStoredAs (trees_in w0) (hash_images i) (at + j) x) → AreStatesSeen (trees_in w0) i (compared ++ replicate count x)
  seen-next compared x here seen each stored = record {
    seen = λ j inside. both (IsSeenAs (trees_in w0)) seen.seen each j inside;
    stored = λ steady steady' j inside. both (IsStoredAs (trees_in w0) (hash_images i)) (seen.stored steady steady') (stored steady steady') j inside;
  }
    where
      both : (P : ℕ → State → Type 0) → ((j : ℕ) → j < length compared → P j (get_or compared j None)) → ((j : ℕ) → j < count → P (at + j) x)
          → (j : ℕ) → j < length (compared ++ replicate count x) → P j (get_or (compared ++ replicate count x) j None)
      both P old new j inside = elim (cases_lt j (length compared)) [
        | inl low ↦ subst (P j) (sym (get_or_append_left compared (replicate count x) None j low)) (old j low)
        | inr high ↦
            let k : ℕ = j - length compared in
            let at_is : at + k ≡ j = omega (arith, here, high) in
            let low : k < count = omega (arith, high, inside, length-append compared (replicate count x), length-replicate {A = State} count x) in
            let there : length compared + k ≡ j = omega (arith, high) in
            let is : get_or (compared ++ replicate count x) j None ≡ x =
            ap (λ (n : ℕ). get_or (compared ++ replicate count x) n None) (sym there) ∙ get_or-append-add compared (replicate count x) k None ∙ get_or-replicate count k x None low in
            subst (P j) (sym is) (subst (λ (n : ℕ). P n x) at_is (new k low))
      ]

-- ---- the loop's invariant

pub underway-none : (w0 : Walk) (d e : Device) (most : Option ℕ) (printed : Option (List ℕ)) (tally : Tally) → CanCompare w0 d e → IsListed most [] tally printed printed
    → IsUnderway w0 w0 (record { first = d; second = e; first' = d; second' = e; printed = printed; printed' = printed }) most (progress tally 0 0)
underway-none w0 d e most printed tally can listed = record {
  compared = [];
  here = refl;
  within = omega arith;
  trees = trees-none w0;
  next = λ low k few is. elim is [
    | inl top ↦ subst (IsOn w0 d e 0) (sym top) can.on
    | inr apart ↦ absurd (apart (zero_mod (width w0 ^ suc k)))
  ];
  seen = record { seen = λ j low. absurd (omega (arith, low)); stored = λ steady steady' j low. absurd (omega (arith, low)) };
  entries = [];
  entered = record { each = All-nil (IsEntered (trees_in w0)); apart = tt };
  before = All-nil (λ (e : HashPair). e.index < 0);
  first_read = rw zero-mul (full_read-none d);
  second_read = rw zero-mul (full_read-none e);
  listed = listed;
  counted = refl;
}
  where
    zero_mod : (b : ℕ) → 0 % b ≡ 0
    zero_mod b = zero-mod b

-- one subtree more, of data blocks in that state
pub underway-next : (w0 w w' : Walk) (d e : Device) (have : HaveTrees w0 d e) (i i' : DifferenceWorld) (most : Option ℕ) (g g' : Progress) (top level count : ℕ) (x : State)
    → (u : IsUnderway w0 w i most g) (n : IsNext w0 w w' i i' g.at top level count)
    → ((j : ℕ) → j < count → IsSeenAs (trees_in w0) (g.at + j) x)
    → (IsTrue i.first.steady → IsTrue i.second.steady → (j : ℕ) → j < count → IsStoredAs (trees_in w0) (hash_images i) (g.at + j) x)
    → IsListed most (u.compared ++ replicate count x) g'.tally i'.printed i'.printed' → g'.changed ≡ count_of Changed (u.compared ++ replicate count x) → g'.at ≡ g.at + count
    → IsUnderway w0 w' i' most g'
underway-next w0 w w' d e have i i' most g g' top level count x u n seen stored listed counted at_is = record {
  compared = u.compared ++ replicate count x;
  here = omega (arith, at_is, u.here, length-append u.compared (replicate count x), length-replicate {A = State} count x);
  within = omega (arith, at_is, count-inside w0 w w' d e have i i' g.at top level count n);
  trees = n.trees;
  next = λ low k few is.
      let low' : g.at + count < w0.blocks = omega (arith, low, at_is) in
      let on : IsOn w' i.first i.second (g.at + count) k = next-on w0 w w' d e have i i' g.at top level count n low' k few (subst (λ (a : ℕ). IsTop (width w0) w0.levels a k) at_is is) in
      subst (λ (a : ℕ). IsOn w' i'.first i'.second a k) (sym at_is)
      (subst (λ (y : Device). IsOn w' i'.first y (g.at + count) k) (sym n.second_same) (subst (λ (y : Device). IsOn w' y i.second (g.at + count) k) (sym n.first_same) on));
  seen =
      let both : AreStatesSeen (trees_in w0) i (u.compared ++ replicate count x) = seen-next w0 w w' d e have i i' g.at top level count n u.compared x u.here u.seen seen stored in
      record {
        seen = both.seen;
        stored = subst (λ (y : Device). IsTrue y.steady → IsTrue i'.second.steady → (j : ℕ) → j < length (u.compared ++ replicate count x) → IsStoredAs (trees_in w0) (record { first_image = y.image; second_image = i'.second.image }) j (get_or (u.compared ++ replicate count x) j None)) (sym n.first_same)
            (subst (λ (y : Device). IsTrue i.first.steady → IsTrue y.steady → (j : ℕ) → j < length (u.compared ++ replicate count x) → IsStoredAs (trees_in w0) (record { first_image = i.first.image; second_image = y.image }) j (get_or (u.compared ++ replicate count x) j None)) (sym n.second_same) both.stored);
      };
  entries = entered_from g.at level (top - level) u.entries;
  entered = entered-next w0 w w' d e have i i' g.at top level count n u.entries u.before u.entered;
  before = subst (λ (a : ℕ). All (λ (e : HashPair). e.index < a) (entered_from g.at level (top - level) u.entries)) (sym at_is) (before-next w0 w w' d e have i i' g.at top level count n u.entries u.before);
  first_read = subst (λ (y : Device). IsFullRead y (length (entered_from g.at level (top - level) u.entries) * (w0.first.shape.hash_block / 512)) i'.first') (sym n.first_same)
      (reads-next w0 w w' d e have i i' g.at top level count n i.first i.first' i'.first' u.entries (w0.first.shape.hash_block / 512) u.first_read n.first_read);
  second_read = subst (λ (y : Device). IsFullRead y (length (entered_from g.at level (top - level) u.entries) * (w0.second.shape.hash_block / 512)) i'.second') (sym n.second_same)
      (reads-next w0 w w' d e have i i' g.at top level count n i.second i.second' i'.second' u.entries (w0.second.shape.hash_block / 512) u.second_read n.second_read);
  listed = listed;
  counted = counted;
}

-- both trees have each data block of the common ones
pub have-block : (w0 w : Walk) (d0 e0 d e : Device) (at : ℕ) → HaveTrees w0 d0 e0 → AreSameTrees w0 w → at < w0.blocks → d.size ≡ d0.size → e.size ≡ e0.size → HaveBlock w d e at
have-block w0 w d0 e0 d e at have trees inside ds es = have-then w0 w d0 e0 d e at trees ds es (record {
  first_levels = omega (arith, have.of.levels);
  second_levels = omega (arith, have.of.levels);
  first_block = omega (arith, have.of.blocks, inside);
  second_block = omega (arith, have.of.blocks, inside);
  first_fits = have.first_fits;
  second_fits = have.second_fits;
})

pub top-of : (p most i k : ℕ) → IsTopAt p most i k → IsTop p most i k
top-of p most i k is = elim (cases_lt k most) [
  | inl low ↦ inr (is.top low)
  | inr high ↦ inl (omega (arith, is.few, high))
]

-- a walk that ended is the next subtree
pub next-of : (w0 w w' : Walk) (d0 e0 d e d' e' : Device) (old now new : Option (List ℕ)) (at top level count : ℕ) (same : Bool) → AreSameTrees w0 w → at < w0.blocks → IsTopAt (width w0) w0.levels at top → IsOnlyRead d0 d → IsOnlyRead e0 e
    → HasStopped (walk_sides w w' d e d' e') at top level same → count ≡ min (width w0 ^ level) (w0.blocks - at)
    → IsNext w0 w w' (record { first = d0; second = e0; first' = d; second' = e; printed = old; printed' = now }) (record { first = d0; second = e0; first' = d'; second' = e'; printed = old; printed' = new }) at top level count
next-of w0 w w' d0 e0 d e d' e' old now new at top level count same trees inside is p q h span = record {
  trees = trees-then w0 w w' trees h.trees;
  inside = inside;
  top_is = is;
  few = h.few;
  on = on-was w' d0 e0 d e at level p q h.on;
  span = span;
  first_same = refl;
  second_same = refl;
  first_read = subst (λ (s : ShapeRecord). IsFullRead d ((top - level) * (s.hash_block / 512)) d') trees.first.shape_is h.first_read;
  second_read = subst (λ (s : ShapeRecord). IsFullRead e ((top - level) * (s.hash_block / 512)) e') trees.second.shape_is h.second_read;
}
