-- The hash blocks on the way to a data block, and to the next one.
use Rattle.std.proofs.Common.{◌≡◌, ◌≢◌, ◌≤◌, ◌<◌, ◌+◌, ◌-◌, ◌*◌, ◌/◌, ◌%◌, ◌^◌, ℕ, zero, suc, Bool, true, false, cond, ltb, IsTrue, List, [], Option, ◌⊎◌, refl, sym, ap, ◌∙◌, subst, arith, inl, inr, Some, None}
use Rattle.std.specs.Str.{bytes_eq}
use Rattle.std.proofs.Math.Nat.{pow-zero, zero-mul, zero-mod}
use Rattle.std.proofs.lemmas.Nat.{div-add-mod', div-mul-add, mod_below}
use Rattle.std.proofs.lemmas.Bool.{cases_lt, false≢true, lt-ltb}
use Rattle.std.proofs.lemmas.Slice.Eq.{bytes_eq-Decides}
use Rattle.block_device.specs.Device.{Device}
use Rattle.tree_shape.specs.Digests.{digest}
use Rattle.tree_shape.specs.Shape.{ShapeRecord, IsShape, levels, ancestor, per_block}
use Rattle.tree_shape.proofs.lemmas.ShapeFactLemmas.{quotient-le, two}
use Rattle.tree_shape.proofs.lemmas.ShapeLemmas.{pow_pos}
use Rattle.hash_tree.proofs.lemmas.LawLemmas.{levels-least}
use Rattle.verity_format.specs.Blocks.{IsOnlyRead}
use Rattle.tree_path.specs.Path.{IsPathOf, AreStored, block_of, digest_on, stored_block, stored_digest}
use Rattle.tree_path.specs.Spans.{IsTopAt}
use Rattle.verity_format.proofs.lemmas.DeviceLemmas.{steady-then}
use Rattle.tree_path.proofs.lemmas.PathLemmas.{digest_on-along, digest_on-stored, leads-along, leads-higher, stored-along, stored-higher}
use Rattle.tree_path.proofs.lemmas.SpanLemmas.{behind, lower-mod, power-least}
use Rattle.runs.specs.declared.kind.Kind.TheVariants.{Changed, Unknown}
use Rattle.tree_survey.specs.declared.checked_path.CheckedPath.{CheckedPath}
use Rattle.tree_survey.specs.CheckedPaths.{IsOnWay, IsReady, read_to, state_at, state_with}
use Rattle.tree_survey.specs.Surveys.{AllStand, IsLedTo, IsContentSeenAs, IsStoredBy, IsUnknownAt, IsUnreadAs, IsWay, Tree}

-- ---- the hash blocks that were read

-- the level down to which they were read is that of the good ones, or one lower
read-between : (unread : Bool) (n : ℕ) → (n - 1 ≤ cond unread n (n - 1)) × (cond unread n (n - 1) ≤ n)
read-between true n = (omega arith, omega arith)
read-between false n = (omega arith, omega arith)

-- ---- a device that was read

pub on-was : (w : CheckedPath) (d d' : Device) (i : ℕ) → IsOnlyRead d d' → IsOnWay w d' i → IsOnWay w d i
on-was w d d' i read on = record {
  few = on.few;
  leads = on.leads;
  bad = on.bad;
  stored = λ steady. subst (λ (im : List (List ℕ)). AreStored w.path im i (read_to w)) (read.image steady) (on.stored (steady-then read.same steady));
}

pub on-read : (w : CheckedPath) (d d' : Device) (i : ℕ) → IsOnlyRead d d' → IsOnWay w d i → IsOnWay w d' i
on-read w d d' i read on = record {
  few = on.few;
  leads = on.leads;
  bad = on.bad;
  stored = λ steady. let was : IsTrue d.steady = subst IsTrue read.same.steady steady in subst (λ (im : List (List ℕ)). AreStored w.path im i (read_to w)) (sym (read.image was)) (on.stored was);
}

pub ready-read : (w : CheckedPath) (d d' : Device) (i : ℕ) → IsOnlyRead d d' → IsReady w d i → IsReady w d' i
ready-read w d d' i read r = record {
  stays = λ top is low. on-read w d d' i read (r.stays top is low);
  leads = r.leads;
  stored = λ steady top is low.
      let was : IsTrue d.steady = subst IsTrue read.same.steady steady in
      subst (λ (im : List (List ℕ)). AreStored w.path im i top) (sym (read.image was)) (r.stored was top is low);
}

-- ---- the next data block

ancestor-is : (s : ShapeRecord) (m i : ℕ) → ancestor s m i ≡ i / per_block s ^ m
unfolding ancestor
ancestor-is s m i = refl

-- above the levels of a tree there is one block
none-above : (s : ShapeRecord) → IsShape s → (i m : ℕ) → i < s.blocks → levels s ≤ m → i / per_block s ^ m ≡ 0
none-above s valid i m inside high =
    let some : 0 < per_block s = omega (arith, two s valid) in
    let big : ℕ = per_block s ^ m in
    let less : i / big ≤ (s.blocks - 1) / big = quotient-le i (s.blocks - 1) big (pow_pos (per_block s) m some) (omega arith) in
    let none : (s.blocks - 1) / per_block s ^ levels s ≡ 0 = (levels-least s valid).0 in
    let lower : (s.blocks - 1) < per_block s ^ levels s = below (s.blocks - 1) (per_block s ^ levels s) (pow_pos (per_block s) (levels s) some) none in
    let wide : per_block s ^ levels s ≤ big = power-least (per_block s) (levels s) m some high in
    let zero_over : (s.blocks - 1) / big ≡ 0 = over (s.blocks - 1) big (omega (arith, lower, wide)) in
    omega (arith, less, zero_over)
  where
    below : (n b : ℕ) → 0 < b → n / b ≡ 0 → n < b
    below n b some none = omega (arith, mod_below n b some, div-add-mod' n b, (let e : n / b * b ≡ 0 = ap (λ q. q * b) none ∙ zero-mul b in e))

    over : (n b : ℕ) → n < b → n / b ≡ 0
    over n b low = (let e : n ≡ 0 * b + n = omega (arith, zero-mul b) in ap (λ q. q / b) e) ∙ div-mul-add 0 b n low

module _ (s : ShapeRecord) (valid : IsShape s) (i top : ℕ) (inside : i + 1 < s.blocks) (is : IsTopAt (per_block s) (levels s) (i + 1) top) where
  some : 0 < per_block s
  some = omega (arith, two s valid)

  whole : i % per_block s ^ 0 ≡ 0
  whole = let small : i % per_block s ^ 0 < per_block s ^ 0 = mod_below i (per_block s ^ 0) (pow_pos (per_block s) 0 some) in omega (arith, small, pow-zero (per_block s))

  -- the next data block has the same ones above the subtree that begins there
  pub same-above : (m : ℕ) → top < m → ancestor s m i ≡ ancestor s m (i + 1)
  same-above m high = elim (cases_lt (levels s) m) [
    | inl above ↦ ancestor-is s m i ∙ none-above s valid i m (omega (arith, inside)) (omega (arith, above)) ∙ sym (none-above s valid (i + 1) m inside (omega (arith, above))) ∙ sym (ancestor-is s m (i + 1))
    | inr within ↦
        let one : i + per_block s ^ 0 ≡ i + 1 = ap (λ (n : ℕ). i + n) (pow-zero (per_block s)) in
        let apart : (i + per_block s ^ 0) % per_block s ^ m ≢ 0 =
        λ none. is.top (omega (arith, high, within)) (lower-mod (per_block s) some (i + 1) (suc top) m (omega (arith, high)) (ap (λ (n : ℕ). n % per_block s ^ m) (sym one) ∙ none)) in
        ancestor-is s m i ∙ sym (behind (per_block s) some i 0 m (omega arith) whole apart) ∙ ap (λ (n : ℕ). n / per_block s ^ m) one ∙ sym (ancestor-is s m (i + 1))
  ]

module _ (w : CheckedPath) (valid : IsShape w.path.shape) (d : Device) (i : ℕ) (inside : i + 1 < w.path.shape.blocks) (on : IsOnWay w d i) where
  pub ready-next : IsReady w d (i + 1)
  ready-next = record {
    stays = λ top is low.
        let same = same-above w.path.shape valid i top inside is in
        record {
          few = on.few;
          leads = leads-along w.path i (i + 1) w.good (λ m high. same m (omega (arith, high, low))) on.leads;
          bad = λ some read. subst (λ (x : List ℕ). digest w.path.salt (block_of w.path (w.good - 1)) ≢ x) (digest_on-along w.path i (i + 1) w.good (same w.good low)) (on.bad some read);
          stored = λ steady. stored-along w.path i (i + 1) (read_to w) (λ m high. same m (omega (arith, high, low, (read-between w.unread w.good).0))) d.image (on.stored steady);
        };
    leads = λ top is low. leads-along w.path i (i + 1) top (same-above w.path.shape valid i top inside is) (leads-higher w.path i w.good top low on.leads);
    stored = λ steady top is low. stored-along w.path i (i + 1) top (same-above w.path.shape valid i top inside is) d.image (stored-higher w.path d.image i (read_to w) top (omega (arith, low, (read-between w.unread w.good).1)) (on.stored steady));
  }

-- the first one
pub ready-none : (w : CheckedPath) (d : Device) → w.good ≡ levels w.path.shape → IsReady w d 0
ready-none w d none = record {
  stays = λ top is low. absurd (is.top (omega (arith, low, none)) (zero-mod (per_block w.path.shape ^ suc top)));
  leads = λ top is low. record { up = λ l high under. absurd (omega (arith, high, under, low, none)) };
  stored = λ steady top is low. record { up = λ l high under. absurd (omega (arith, high, under, low, none)) };
}

-- ---- what is said of the data block

-- it has the digest of that content, or couldn't be read
abbrev pub IsDigestOr : Type 0 → List ℕ → List ℕ → Option (List ℕ) → Type 0
IsDigestOr failed salt content (Some found) = found ≡ digest salt content
IsDigestOr failed salt content None = failed

positive : (n : ℕ) → ltb 0 n ≡ true → 0 < n
positive zero e = absurd (false≢true e)
positive (suc n) e = omega arith

not-positive : (n : ℕ) → ltb 0 n ≡ false → n ≡ 0
not-positive n e = elim (cases_lt 0 n) [
  | inl some ↦ absurd (false≢true (sym e ∙ lt-ltb 0 n some))
  | inr not ↦ omega (arith, not)
]

module _ (t : Tree) (w : CheckedPath) (d : Device) (i : ℕ) (is : IsPathOf t.shape t.salt t.root w.path) (on : IsOnWay w d i) (data_failed hash_failed : Type 0) (unread : w.unread ≡ true → hash_failed) (content : List ℕ) where
  way : IsWay t i w.good w.path
  way = record { is = is; few = omega (arith, on.few, ap levels is.shape_is); leads = on.leads }

  many : 0 < w.good → 0 < levels t.shape
  many some = omega (arith, some, way.few)

  unknown-read : 0 < w.good → w.unread ≡ false → IsUnknownAt t i
  unknown-read some read =
      let next : w.good - 1 + 1 ≡ w.good = omega (arith, some) in
      let bad : digest t.salt (block_of w.path (w.good - 1)) ≢ digest_on w.path i w.good = subst (λ (z : List ℕ). digest z (block_of w.path (w.good - 1)) ≢ digest_on w.path i w.good) is.salt_is (on.bad some read) in (
        w.good - 1,
        (
          w.path,
          (
            omega (arith, some, way.few),
            (
              subst (λ (k : ℕ). IsWay t i k w.path) (sym next) way,
              subst (λ (k : ℕ). digest t.salt (block_of w.path (w.good - 1)) ≢ digest_on w.path i k) (sym next) bad,
            ),
          ),
        ),
      )

  unknown-seen : (b : Bool) → w.unread ≡ b → 0 < w.good → IsUnknownAt t i ⊎ ((0 < levels t.shape) × hash_failed)
  unknown-seen true e some = inr (many some, unread e)
  unknown-seen false e some = inl (unknown-read some e)

  way0 : w.good ≡ 0 → IsWay t i 0 w.path
  way0 none = subst (λ (k : ℕ). IsWay t i k w.path) none way

  digest-seen : (found : List ℕ) (e : Bool) → w.good ≡ 0 → found ≡ digest t.salt content → bytes_eq found (digest_on w.path i 0) ≡ e → IsContentSeenAs t i content (cond e None (Some Changed))
  digest-seen found true none h e = (w.path, (way0 none, sym h ∙ (bytes_eq-Decides found (digest_on w.path i 0)).0 e))
  digest-seen found false none h e = (w.path, (way0 none, λ same. false≢true (sym e ∙ (bytes_eq-Decides found (digest_on w.path i 0)).1 (h ∙ same))))

  seen-by : (found : Option (List ℕ)) (b : Bool) → IsDigestOr data_failed t.salt content found → ltb 0 w.good ≡ b
      → IsContentSeenAs t i content (cond b (Some Unknown) (state_with w.path i found)) ⊎ IsUnreadAs t (IsLedTo t i) data_failed hash_failed (cond b (Some Unknown) (state_with w.path i found))
  seen-by found true h bad = unknown-seen w.unread refl (positive w.good bad)
  seen-by (Some x) false h bad = digest-told (bytes_eq x (digest_on w.path i 0)) refl
    where
      digest-told : (e : Bool) → bytes_eq x (digest_on w.path i 0) ≡ e → IsContentSeenAs t i content (cond e None (Some Changed)) ⊎ IsUnreadAs t (IsLedTo t i) data_failed hash_failed (cond e None (Some Changed))
      digest-told e test = inl (digest-seen x e (not-positive w.good bad) h test)
  seen-by None false h bad = inr ((w.path, way0 (not-positive w.good bad)), h)

  pub seen-at : (found : Option (List ℕ)) → IsDigestOr data_failed t.salt content found
      → IsContentSeenAs t i content (state_at w i found) ⊎ IsUnreadAs t (IsLedTo t i) data_failed hash_failed (state_at w i found)
  seen-at found h = seen-by found (ltb 0 w.good) h refl

  -- ---- over a steady device

  module _ (steady : IsTrue d.steady) where
    digest-stored : (m : ℕ) → m ≤ levels w.path.shape → read_to w ≤ m → digest_on w.path i m ≡ stored_digest t.shape t.root d.image i m
    digest-stored m few high =
        digest_on-stored w.path d.image i m few (λ low. (on.stored steady).up m high low)
        ∙ ap (λ (s : ShapeRecord). stored_digest s w.path.root d.image i m) is.shape_is
        ∙ ap (λ (r : List ℕ). stored_digest t.shape r d.image i m) is.root_is

    block-stored : (l : ℕ) → read_to w ≤ l → l < levels w.path.shape → digest w.path.salt (block_of w.path l) ≡ digest t.salt (stored_block t.shape d.image l i)
    block-stored l high low =
        ap (digest w.path.salt) ((on.stored steady).up l high low)
        ∙ ap (λ (z : List ℕ). digest z (stored_block w.path.shape d.image l i)) is.salt_is
        ∙ ap (λ (s : ShapeRecord). digest t.salt (stored_block s d.image l i)) is.shape_is

    all-stand : w.good ≡ 0 → AllStand t d.image i
    all-stand none l low =
        let low' : l < levels w.path.shape = omega (arith, low, ap levels is.shape_is) in
        let under : read_to w ≤ 0 = omega (arith, none, (read-between w.unread w.good).1) in
        sym (block-stored l (omega (arith, under)) low') ∙ on.leads.up l (omega (arith, none)) low' ∙ digest-stored (l + 1) (omega (arith, low')) (omega (arith, under))

    bad-stored : 0 < w.good → w.unread ≡ false → IsStoredBy t d.image i [] (Some Unknown)
    bad-stored some read =
        let next : w.good - 1 + 1 ≡ w.good = omega (arith, some) in
        let low : w.good - 1 < levels w.path.shape = omega (arith, some, on.few) in
        let here : read_to w ≡ w.good - 1 = ap (λ (b : Bool). cond b w.good (w.good - 1)) read in (
          w.good - 1,
          (
            omega (arith, low, ap levels is.shape_is),
            λ stands. on.bad some read
                (block-stored (w.good - 1) (omega (arith, here)) low ∙ stands ∙ sym (digest-stored (w.good - 1 + 1) (omega (arith, low)) (omega (arith, here))) ∙ ap (digest_on w.path i) next),
          ),
        )

    unknown-stored : (b : Bool) → w.unread ≡ b → 0 < w.good → IsStoredBy t d.image i [] (Some Unknown) ⊎ ((0 < levels t.shape) × hash_failed)
    unknown-stored true e some = inr (many some, unread e)
    unknown-stored false e some = inl (bad-stored some e)

    digest-stands : w.good ≡ 0 → digest_on w.path i 0 ≡ stored_digest t.shape t.root d.image i 0
    digest-stands none = digest-stored 0 (omega arith) (omega (arith, none, (read-between w.unread w.good).1))

    stands-by : (found : List ℕ) (e : Bool) → w.good ≡ 0 → found ≡ digest t.salt content → bytes_eq found (digest_on w.path i 0) ≡ e → IsStoredBy t d.image i (digest t.salt content) (cond e None (Some Changed))
    stands-by found true none h e = (all-stand none, sym h ∙ (bytes_eq-Decides found (digest_on w.path i 0)).0 e ∙ digest-stands none)
    stands-by found false none h e = (all-stand none, λ same. false≢true (sym e ∙ (bytes_eq-Decides found (digest_on w.path i 0)).1 (h ∙ same ∙ sym (digest-stands none))))

    stored-by : (found : Option (List ℕ)) (b : Bool) → IsDigestOr data_failed t.salt content found → ltb 0 w.good ≡ b
        → IsStoredBy t d.image i (digest t.salt content) (cond b (Some Unknown) (state_with w.path i found)) ⊎ IsUnreadAs t (AllStand t d.image i) data_failed hash_failed (cond b (Some Unknown) (state_with w.path i found))
    stored-by found true h bad = unknown-stored w.unread refl (positive w.good bad)
    stored-by (Some x) false h bad = stands-told (bytes_eq x (digest_on w.path i 0)) refl
      where
        stands-told : (e : Bool) → bytes_eq x (digest_on w.path i 0) ≡ e → IsStoredBy t d.image i (digest t.salt content) (cond e None (Some Changed)) ⊎ IsUnreadAs t (AllStand t d.image i) data_failed hash_failed (cond e None (Some Changed))
        stands-told e test = inl (stands-by x e (not-positive w.good bad) h test)
    stored-by None false h bad = inr (all-stand (not-positive w.good bad), h)

    pub stored-at : (found : Option (List ℕ)) → IsDigestOr data_failed t.salt content found
        → IsStoredBy t d.image i (digest t.salt content) (state_at w i found) ⊎ IsUnreadAs t (AllStand t d.image i) data_failed hash_failed (state_at w i found)
    stored-at found h = stored-by found (ltb 0 w.good) h refl
