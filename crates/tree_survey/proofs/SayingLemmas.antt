-- Hash blocks that are scanned, while some are left.
use Rattle.std.proofs.Common.{◌≡◌, ◌≤◌, ◌<◌, ◌+◌, ◌-◌, ◌*◌, ◌/◌, ◌^◌, ℕ, suc, min, Bool, true, false, IsTrue, List, [], ◌∷◌, ◌++◌, Option, ◌⊎◌, length, length-append, refl, sym, ap, ◌∙◌, subst, arith, inl, inr}
use Rattle.std.specs.Prelude.{◌&&◌}
use Rattle.std.specs.Io.KnownBytes.{Appends}
use Rattle.std.proofs.KnownBytes.{Appends-nil, Appends-trans}
use Rattle.std.proofs.Math.Nat.{mul-le-mul_right, zero-mul}
use Rattle.std.proofs.lemmas.Nat.{div-add-mod', div-mul-add}
use Rattle.std.proofs.lemmas.Bool.{cases_lt, false≢true}
use Rattle.std.proofs.lemmas.List.{append-nil, append_assoc}
use Rattle.block_device.specs.Device.{Device, HasFailed}
use Rattle.tree_shape.specs.Shape.{ShapeRecord, IsShape, level_blocks, levels, per_block}
use Rattle.tree_shape.proofs.lemmas.ShapeFactLemmas.{level_blocks-is, two}
use Rattle.tree_shape.proofs.lemmas.ShapeLemmas.{pow_pos}
use Rattle.tree_path.specs.Path.{PathRecord, IsPathOf}
use Rattle.verity_format.proofs.lemmas.DeviceLemmas.{steady-then}
use Rattle.tree_survey.specs.Failing.{HasFailedRead, IsReadOver}
use Rattle.tree_survey.specs.Hashes.{AreBad, HashBlock, HasUnreadMore, IsCompared, AreWithinHashes, SaysLevel, TellsHashes, bad_of_level, bad_of_levels, first_below, hash_line, hash_lines, is_good_on, is_whole, tree_of_path, with_bad}
use Rattle.tree_survey.specs.Surveys.{Tree}
use Rattle.tree_survey.proofs.FailingLemmas.{failed-later, failed-more, over-none, over-then, times-both, times-more, times-next, times-none}
use Rattle.tree_survey.proofs.HashLemmas.{path-none, path-then}

-- the hash blocks of the levels from that one up were scanned
pub record IsSayingTree (p q : PathRecord) (d d' : Device) (level : ℕ) (old new : Option (List ℕ)) (whole : Bool) : Type 0 where
  pub high : level ≤ levels p.shape
  pub same : IsPathOf p.shape p.salt p.root q
  pub over : IsReadOver d d'
  pub bad : List HashBlock
  pub are : AreBad (λ image. bad_of_levels (tree_of_path p) image (levels p.shape - level)) d d' bad
  pub whole_is : whole ≡ is_whole bad
  pub printed_are : Appends old new (hash_lines bad)

-- the first n hash blocks of a level were
pub record IsSayingLevel (p q : PathRecord) (d d' : Device) (level n : ℕ) (old new : Option (List ℕ)) (whole : Bool) : Type 0 where
  pub same : IsPathOf p.shape p.salt p.root q
  pub over : IsReadOver d d'
  pub bad : List HashBlock
  pub are : AreBad (λ image. bad_of_level (tree_of_path p) image level n) d d' bad
  pub whole_is : whole ≡ is_whole bad
  pub printed_are : Appends old new (hash_lines bad)

-- ---- lists within others

within-cons : (xs : List HashBlock) (y : HashBlock) (ys : List HashBlock) → AreWithinHashes xs ys → AreWithinHashes xs (y ∷ ys)
within-cons [] y ys h = tt
within-cons (x ∷ xs) y ys h = inr h

within-append : (xs xs' ys ys' : List HashBlock) → AreWithinHashes xs ys → AreWithinHashes xs' ys' → AreWithinHashes (xs ++ xs') (ys ++ ys')
within-append [] xs' [] ys' u v = v
within-append [] xs' (y ∷ ys) ys' u v = within-cons xs' y (ys ++ ys') (within-append [] xs' ys ys' tt v)
within-append (x ∷ xs) xs' [] ys' u v = absurd u
within-append (x ∷ xs) xs' (y ∷ ys) ys' (inl (same, u)) v = inl (same, within-append xs xs' ys ys' u v)
within-append (x ∷ xs) xs' (y ∷ ys) ys' (inr u) v = inr (within-append (x ∷ xs) xs' ys ys' u v)

within-next : (good : Bool) (x : HashBlock) (xs ys : List HashBlock) → AreWithinHashes xs ys → AreWithinHashes (with_bad good x xs) (ys ++ x ∷ [])
within-next true x xs ys h = subst (λ (zs : List HashBlock). AreWithinHashes zs (ys ++ x ∷ [])) (append-nil xs) (within-append xs [] ys (x ∷ []) h tt)
within-next false x xs ys h = within-append xs (x ∷ []) ys (x ∷ []) h (inl (refl, tt))

-- ---- listed blocks that aren't bad ones

unread-none : (d : Device) → HasUnreadMore d d [] []
unread-none d = record { unread = 0; count = refl; failed = times-none d }

unread-more : (d d' d'' : Device) (xs ys : List HashBlock) → HasUnreadMore d d' xs ys → d'.failures ≤ d''.failures → HasUnreadMore d d'' xs ys
unread-more d d' d'' xs ys u more = record { unread = u.unread; count = u.count; failed = times-more d d' d'' u.unread u.failed more }

-- one that is bad, and one of which a read failed
unread-bad : (d d' : Device) (x : HashBlock) (xs ys : List HashBlock) → HasUnreadMore d d' xs ys → HasUnreadMore d d' (xs ++ x ∷ []) (ys ++ x ∷ [])
unread-bad d d' x xs ys u = record { unread = u.unread; count = omega (arith, u.count, length-append xs (x ∷ []), length-append ys (x ∷ [])); failed = u.failed }

unread-next : (d d' d'' : Device) (x : HashBlock) (xs ys : List HashBlock) → HasUnreadMore d d' xs ys → d'.failures ≤ d''.failures → HasFailed d' d'' → HasUnreadMore d d'' xs (ys ++ x ∷ [])
unread-next d d' d'' x xs ys u more failed = record {
  unread = u.unread + 1;
  count = omega (arith, u.count, length-append ys (x ∷ []));
  failed = times-next d d' d'' u.unread (u.unread + 1) u.failed more failed refl;
}

-- whether it is bad or not
unread-either : (d d' d'' : Device) (good : Bool) (x : HashBlock) (xs ys : List HashBlock) → HasUnreadMore d d' xs ys → d'.failures ≤ d''.failures → HasFailed d' d'' → HasUnreadMore d d'' (with_bad good x xs) (ys ++ x ∷ [])
unread-either d d' d'' true x xs ys u more failed = unread-next d d' d'' x xs ys u more failed
unread-either d d' d'' false x xs ys u more failed = unread-bad d d'' x xs ys (unread-more d d' d'' xs ys u more)

unread-then : (d d' d'' : Device) (xs xs' ys ys' : List HashBlock) → HasUnreadMore d d' xs ys → HasUnreadMore d' d'' xs' ys' → HasUnreadMore d d'' (xs ++ xs') (ys ++ ys')
unread-then d d' d'' xs xs' ys ys' u v = record {
  unread = u.unread + v.unread;
  count = omega (arith, u.count, v.count, length-append xs xs', length-append ys ys');
  failed = times-both d d' d'' u.unread v.unread u.failed v.failed;
}

pub saying-none : (p : PathRecord) (d : Device) (level : ℕ) (old : Option (List ℕ)) → level ≡ levels p.shape → IsSayingTree p p d d level old old true
saying-none p d level old top =
    let none : levels p.shape - level ≡ 0 = omega (arith, top) in
    record {
      high = omega (arith, top);
      same = path-none p;
      over = over-none d;
      bad = [];
      are = record {
        all = λ steady. subst (λ (n : ℕ). AreWithinHashes (bad_of_levels (tree_of_path p) d.image n) []) (sym none) tt;
        stored = λ steady. inl (sym (ap (bad_of_levels (tree_of_path p) d.image) none));
        few = λ steady. subst (λ (n : ℕ). HasUnreadMore d d (bad_of_levels (tree_of_path p) d.image n) []) (sym none) (unread-none d);
      };
      whole_is = refl;
      printed_are = Appends-nil old;
    }

pub level-none : (p : PathRecord) (d : Device) (level : ℕ) (old : Option (List ℕ)) → IsSayingLevel p p d d level 0 old old true
level-none p d level old = record {
  same = path-none p;
  over = over-none d;
  bad = [];
  are = record { all = λ steady. tt; stored = λ steady. inl refl; few = λ steady. unread-none d };
  whole_is = refl;
  printed_are = Appends-nil old;
}

lines-append : (xs ys : List HashBlock) → hash_lines (xs ++ ys) ≡ hash_lines xs ++ hash_lines ys
lines-append [] ys = refl
lines-append (x ∷ xs) ys = ap (λ (l : List ℕ). hash_line x ++ l) (lines-append xs ys) ∙ sym (append_assoc (hash_line x) (hash_lines xs) (hash_lines ys))

whole-append : (xs ys : List HashBlock) → is_whole (xs ++ ys) ≡ (is_whole xs && is_whole ys)
whole-append [] ys = refl
whole-append (x ∷ xs) ys = refl

-- what was printed of a level holds under the path and the device before
pub tree-same : (p q : PathRecord) → IsPathOf p.shape p.salt p.root q → tree_of_path q ≡ tree_of_path p
tree-same p q is =
    let f : ShapeRecord → List ℕ → List ℕ → Tree = λ s x r. record { shape = s; salt = x; root = r } in
    ap (λ (s : ShapeRecord). f s q.salt q.root) is.shape_is ∙ ap (λ (x : List ℕ). f p.shape x q.root) is.salt_is ∙ ap (f p.shape p.salt) is.root_is

-- ---- one hash block more of a level

module _ (p q r : PathRecord) (d d' d'' : Device) (level n i : ℕ) (old now : Option (List ℕ)) (whole : Bool) (u : IsSayingLevel p q d d' level n old now whole) (at : i ≡ first_below p.shape level n) (over : IsReadOver d' d'') where
  abbrev here : HashBlock
  here = record { level = level; number = n }

  abbrev before : List HashBlock
  before = bad_of_level (tree_of_path p) d.image level n

  good-seen : (good : Bool) → IsTrue d.steady → good ≡ is_good_on (tree_of_path q) d'.image level i → good ≡ is_good_on (tree_of_path p) d.image level (first_below p.shape level n)
  good-seen good steady e =
      e ∙ ap (λ (t : Tree). is_good_on t d'.image level i) (tree-same p q u.same)
      ∙ ap (λ (im : List (List ℕ)). is_good_on (tree_of_path p) im level i) (u.over.read.image steady)
      ∙ ap (is_good_on (tree_of_path p) d.image level) at

  is-good : (good : Bool) → IsCompared q r d' d'' level i good → IsTrue d.steady
      → (good ≡ is_good_on (tree_of_path p) d.image level (first_below p.shape level n)) ⊎ ((good ≡ false) × HasFailedRead d d'')
  is-good good h steady = elim (h.stored (steady-then u.over.read.same steady)) [
    | inl e ↦ inl (good-seen good steady e)
    | inr unread ↦ inr (unread.0, failed-later u.over over unread.1)
  ]

  seen-good : IsCompared q r d' d'' level i true → IsTrue d.steady → true ≡ is_good_on (tree_of_path p) d.image level (first_below p.shape level n)
  seen-good h steady = elim (is-good true h steady) [
    | inl e ↦ e
    | inr unread ↦ absurd (false≢true (sym unread.0))
  ]

  pub level-good : IsCompared q r d' d'' level i true → IsSayingLevel p r d d'' level (suc n) old now whole
  level-good h = record {
    same = path-then p q r u.same h.same;
    over = over-then u.over over;
    bad = u.bad;
    are = record {
      all = λ steady. subst (λ (b : Bool). AreWithinHashes (with_bad b here before) u.bad) (seen-good h steady) (u.are.all steady);
      stored = λ steady. elim (u.are.stored steady) [
        | inl e ↦ inl (e ∙ ap (λ (b : Bool). with_bad b here before) (seen-good h steady))
        | inr failed ↦ inr (failed-more d failed over)
      ];
      few = λ steady. subst (λ (b : Bool). HasUnreadMore d d'' (with_bad b here before) u.bad) (seen-good h steady) (unread-more d d' d'' before u.bad (u.are.few steady) over.more);
    };
    whole_is = u.whole_is;
    printed_are = u.printed_are;
  }

  bad-stored : IsCompared q r d' d'' level i false → IsTrue d.steady → (u.bad ++ here ∷ [] ≡ bad_of_level (tree_of_path p) d.image level (suc n)) ⊎ HasFailedRead d d''
  bad-stored h steady = elim (u.are.stored steady) [
    | inr failed ↦ inr (failed-more d failed over)
    | inl e ↦
        elim (is-good false h steady) [
          | inr unread ↦ inr unread.1
          | inl bad ↦ inl (ap (λ (xs : List HashBlock). xs ++ here ∷ []) e ∙ ap (λ (b : Bool). with_bad b here before) bad)
        ]
  ]

  bad-few : IsCompared q r d' d'' level i false → IsTrue d.steady → HasUnreadMore d d'' (bad_of_level (tree_of_path p) d.image level (suc n)) (u.bad ++ here ∷ [])
  bad-few h steady = elim (h.stored (steady-then u.over.read.same steady)) [
    | inr unread ↦ unread-either d d' d'' (is_good_on (tree_of_path p) d.image level (first_below p.shape level n)) here before u.bad (u.are.few steady) over.more unread.1.0
    | inl e ↦ subst (λ (b : Bool). HasUnreadMore d d'' (with_bad b here before) (u.bad ++ here ∷ [])) (good-seen false steady e) (unread-bad d d'' here before u.bad (unread-more d d' d'' before u.bad (u.are.few steady) over.more))
  ]

  pub level-bad : (new : Option (List ℕ)) → IsCompared q r d' d'' level i false → Appends now new (hash_line (record { level = level; number = n })) → IsSayingLevel p r d d'' level (suc n) old new false
  level-bad new h told = record {
    same = path-then p q r u.same h.same;
    over = over-then u.over over;
    bad = u.bad ++ here ∷ [];
    are = record {
      all = λ steady. within-next (is_good_on (tree_of_path p) d.image level (first_below p.shape level n)) here before u.bad (u.are.all steady);
      stored = bad-stored h;
      few = bad-few h;
    };
    whole_is = last u.bad;
    printed_are = subst (Appends old new) (ap (λ (l : List ℕ). hash_lines u.bad ++ l) (sym (append-nil (hash_line here))) ∙ sym (lines-append u.bad (here ∷ [])))
        (Appends-trans old now new (hash_lines u.bad) (hash_line here) u.printed_are told);
  }
    where
      last : (xs : List HashBlock) → false ≡ is_whole (xs ++ here ∷ [])
      last [] = refl
      last (x ∷ xs) = refl

pub level-all : (p q : PathRecord) (d d' : Device) (level n : ℕ) (old new : Option (List ℕ)) (whole : Bool) → n ≡ level_blocks p.shape level → IsSayingLevel p q d d' level n old new whole → SaysLevel p q d d' level old new whole
level-all p q d d' level n old new whole all u = record {
  same = u.same;
  bad = u.bad;
  are = subst (λ (m : ℕ). AreBad (λ image. bad_of_level (tree_of_path p) image level m) d d' u.bad) all u.are;
  whole_is = u.whole_is;
  printed_are = u.printed_are;
}

-- ---- one level more

module _ (p q r : PathRecord) (d d' d'' : Device) (above l : ℕ) (old now new : Option (List ℕ)) (whole good : Bool) (is : above ≡ l + 1) (u : IsSayingTree p q d d' above old now whole) (over : IsReadOver d' d'') (h : SaysLevel q r d' d'' l now new good) where
  abbrev higher : List HashBlock
  higher = bad_of_levels (tree_of_path p) d.image (levels p.shape - above)

  abbrev there : List HashBlock
  there = bad_of_level (tree_of_path p) d.image l (level_blocks p.shape l)

  levels-more : bad_of_levels (tree_of_path p) d.image (levels p.shape - l) ≡ higher ++ there
  levels-more =
      let more : levels p.shape - l ≡ suc (levels p.shape - above) = omega (arith, u.high, is) in
      let down : levels p.shape - suc (levels p.shape - above) ≡ l = omega (arith, u.high, is) in
      ap (bad_of_levels (tree_of_path p) d.image) more
      ∙ ap (λ (m : ℕ). bad_of_levels (tree_of_path p) d.image (levels p.shape - above) ++ bad_of_level (tree_of_path p) d.image m (level_blocks p.shape m)) down

  level-same : IsTrue d.steady → bad_of_level (tree_of_path q) d'.image l (level_blocks q.shape l) ≡ there
  level-same steady =
      ap (λ (s : ShapeRecord). bad_of_level (tree_of_path q) d'.image l (level_blocks s l)) u.same.shape_is
      ∙ ap (λ (t : Tree). bad_of_level t d'.image l (level_blocks p.shape l)) (tree-same p q u.same)
      ∙ ap (λ (im : List (List ℕ)). bad_of_level (tree_of_path p) im l (level_blocks p.shape l)) (u.over.read.image steady)

  tree-stored : IsTrue d.steady → (u.bad ++ h.bad ≡ bad_of_levels (tree_of_path p) d.image (levels p.shape - l)) ⊎ HasFailedRead d d''
  tree-stored steady = elim (u.are.stored steady) [
    | inr failed ↦ inr (failed-more d failed over)
    | inl e ↦
        elim (h.are.stored (steady-then u.over.read.same steady)) [
          | inr failed ↦ inr (failed-later u.over over failed)
          | inl f ↦ inl (ap (λ (xs : List HashBlock). xs ++ h.bad) e ∙ ap (λ (ys : List HashBlock). higher ++ ys) (f ∙ level-same steady) ∙ sym levels-more)
        ]
  ]

  tree-within : IsTrue d.steady → AreWithinHashes (bad_of_levels (tree_of_path p) d.image (levels p.shape - l)) (u.bad ++ h.bad)
  tree-within steady =
      subst (λ (xs : List HashBlock). AreWithinHashes xs (u.bad ++ h.bad)) (sym levels-more)
      (within-append higher there u.bad h.bad (u.are.all steady) (subst (λ (xs : List HashBlock). AreWithinHashes xs h.bad) (level-same steady) (h.are.all (steady-then u.over.read.same steady))))

  tree-few : IsTrue d.steady → HasUnreadMore d d'' (bad_of_levels (tree_of_path p) d.image (levels p.shape - l)) (u.bad ++ h.bad)
  tree-few steady =
      subst (λ (xs : List HashBlock). HasUnreadMore d d'' xs (u.bad ++ h.bad)) (sym levels-more)
      (unread-then d d' d'' higher there u.bad h.bad (u.are.few steady) (subst (λ (xs : List HashBlock). HasUnreadMore d' d'' xs h.bad) (level-same steady) (h.are.few (steady-then u.over.read.same steady))))

  pub tree-next : IsSayingTree p r d d'' l old new (whole && good)
  tree-next = record {
    high = omega (arith, u.high, is);
    same = path-then p q r u.same h.same;
    over = over-then u.over over;
    bad = u.bad ++ h.bad;
    are = record { all = tree-within; stored = tree-stored; few = tree-few };
    whole_is = ap (λ (b : Bool). b && good) u.whole_is ∙ ap (λ (b : Bool). is_whole u.bad && b) h.whole_is ∙ sym (whole-append u.bad h.bad);
    printed_are = subst (Appends old new) (sym (lines-append u.bad h.bad)) (Appends-trans old now new (hash_lines u.bad) (hash_lines h.bad) u.printed_are h.printed_are);
  }

pub tree-all : (p q : PathRecord) (d d' : Device) (level : ℕ) (old new : Option (List ℕ)) (whole : Bool) → level ≡ 0 → IsSayingTree p q d d' level old new whole → TellsHashes (tree_of_path p) d d' old new whole
tree-all p q d d' level old new whole none u =
    let all : levels p.shape - level ≡ levels p.shape = omega (arith, none) in
    record {
      found = record { bad = u.bad; are = subst (λ (m : ℕ). AreBad (λ image. bad_of_levels (tree_of_path p) image m) d d' u.bad) all u.are };
      whole_is = u.whole_is;
      printed_are = u.printed_are;
    }

-- ---- where the hash blocks of a level begin

module _ (s : ShapeRecord) (valid : IsShape s) (l n : ℕ) (low : n < level_blocks s l) where
  abbrev wide : ℕ
  wide = per_block s ^ (l + 1)

  some : 0 < wide
  some = pow_pos (per_block s) (l + 1) (omega (arith, two s valid))

  quotient : n ≤ (s.blocks - 1) / wide
  quotient = omega (arith, low, level_blocks-is s valid l)

  pub first-inside : first_below s l n < s.blocks
  first-inside =
      let less : n * wide ≤ (s.blocks - 1) / wide * wide = mul-le-mul_right wide quotient in
      omega (arith, less, div-add-mod' (s.blocks - 1) wide, valid.some)

  pub width-same : n * min wide s.blocks ≡ first_below s l n
  width-same = elim (cases_lt s.blocks wide) [
    | inl less ↦
        let none : (s.blocks - 1) / wide ≡ 0 = (let e : s.blocks - 1 ≡ 0 * wide + (s.blocks - 1) = omega (arith, zero-mul wide) in ap (λ (q : ℕ). q / wide) e) ∙ div-mul-add 0 wide (s.blocks - 1) (omega (arith, less)) in
        let first : n ≡ 0 = omega (arith, quotient, none) in
        ap (λ (k : ℕ). k * min wide s.blocks) first ∙ zero-mul (min wide s.blocks) ∙ sym (zero-mul wide) ∙ sym (ap (λ (k : ℕ). k * wide) first)
    | inr more ↦ let is : min wide s.blocks ≡ wide = omega (arith, more) in ap (λ (k : ℕ). n * k) is
  ]

-- and in code, where the width is at most the number of data blocks
pub first-at : (s t : ShapeRecord) → IsShape s → t ≡ s → (l n width blocks count : ℕ) → width ≡ min (per_block t ^ (l + 1)) blocks → blocks ≡ t.blocks → count ≡ level_blocks t l → n < count
    → (n * width ≡ first_below s l n) × (first_below s l n < s.blocks)
first-at s t valid same l n width blocks count width_is blocks_is count_is low =
    let low' : n < level_blocks s l = omega (arith, low, count_is, ap (λ (x : ShapeRecord). level_blocks x l) same) in (
      ap (λ (k : ℕ). n * k) width_is
          ∙ ap (λ (k : ℕ). n * min (per_block t ^ (l + 1)) k) (blocks_is ∙ ap (λ (x : ShapeRecord). x.blocks) same)
          ∙ ap (λ (x : ShapeRecord). n * min (per_block x ^ (l + 1)) s.blocks) same
          ∙ width-same s valid l n low',
      first-inside s valid l n low',
    )
