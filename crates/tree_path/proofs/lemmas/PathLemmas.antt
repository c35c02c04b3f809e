-- What a path leads to, and one hash block more of it.
use Rattle.std.proofs.Common.{◌≡◌, ◌≢◌, ◌≤◌, ◌<◌, ◌+◌, ◌-◌, ◌*◌, ◌/◌, ◌==◌, ℕ, suc, Bool, true, false, cond, IsTrue, List, [], refl, sym, ap, ◌∙◌, subst, arith, inl, inr, get_or-set_other, get_or-set_same}
use Rattle.std.specs.Str.{bytes_eq}
use Rattle.std.proofs.lemmas.Bool.{eq-eqb, ne_eqb, cases_lt, false≢true}
use Rattle.std.proofs.lemmas.Slice.Eq.{bytes_eq-Decides}
use Rattle.block_device.specs.Device.{Device}
use Rattle.tree_shape.specs.Digests.{digest, digest_in}
use Rattle.tree_shape.specs.Shape.{ShapeRecord, levels, slot, ancestor, position}
use Rattle.verity_format.specs.Blocks.{IsFullRead, block_at}
use Rattle.tree_path.specs.Path.{PathRecord, LeadsTo, AreStored, block_of, digest_on, stored_block, stored_digest}
use Rattle.tree_path.specs.Steps.{steps, IsDown, IsKeptAbove, IsStepLoaded, IsUnloaded}
use Rattle.verity_format.proofs.lemmas.DeviceLemmas.{full_read-none, full_read-then, steady-then}

module _ (p : PathRecord) (i m : ℕ) where
  pub digest_on-top : m ≡ levels p.shape → digest_on p i m ≡ p.root
  unfolding digest_on
  digest_on-top e = ap (λ (b : Bool). cond b p.root (digest_in (block_of p m) (slot p.shape (ancestor p.shape m i)))) (eq-eqb m (levels p.shape) e)

  pub digest_on-below : m < levels p.shape → digest_on p i m ≡ digest_in (block_of p m) (slot p.shape (ancestor p.shape m i))
  unfolding digest_on
  digest_on-below low = ap (λ (b : Bool). cond b p.root (digest_in (block_of p m) (slot p.shape (ancestor p.shape m i)))) (ne_eqb m (levels p.shape) (λ e. omega (arith, e, low)))

-- two paths of one shape and root that have the same block at a level have the same digest there
pub digest_on-same : (p q : PathRecord) (i m : ℕ) → p.shape ≡ q.shape → p.root ≡ q.root → block_of p m ≡ block_of q m → digest_on p i m ≡ digest_on q i m
unfolding digest_on
digest_on-same p q i m shape root block =
    let f : ShapeRecord → List ℕ → List ℕ → List ℕ = λ s r b. cond (m == levels s) r (digest_in b (slot s (ancestor s m i))) in
    ap (λ (s : ShapeRecord). f s p.root (block_of p m)) shape ∙ ap (λ (r : List ℕ). f q.shape r (block_of p m)) root ∙ ap (f q.shape q.root) block

-- two data blocks that have the same hash block above them have the same digest there
pub digest_on-along : (p : PathRecord) (i j m : ℕ) → ancestor p.shape m i ≡ ancestor p.shape m j → digest_on p i m ≡ digest_on p j m
unfolding digest_on
digest_on-along p i j m same = ap (λ (k : ℕ). cond (m == levels p.shape) p.root (digest_in (block_of p m) (slot p.shape k))) same

-- blocks that are stored on a device have the digests that are stored there
pub digest_on-stored : (p : PathRecord) (image : List (List ℕ)) (i m : ℕ) → m ≤ levels p.shape → (m < levels p.shape → block_of p m ≡ stored_block p.shape image m i) → digest_on p i m ≡ stored_digest p.shape p.root image i m
unfolding stored_digest
digest_on-stored p image i m few stored =
    elim (cases_lt m (levels p.shape)) [
      | inl low ↦
          digest_on-below p i m low ∙ ap (λ (b : List ℕ). digest_in b (slot p.shape (ancestor p.shape m i))) (stored low)
          ∙ sym (ap (λ (b : Bool). cond b p.root (digest_in (stored_block p.shape image m i) (slot p.shape (ancestor p.shape m i)))) (ne_eqb m (levels p.shape) (λ e. omega (arith, e, low))))
      | inr high ↦
          let top : m ≡ levels p.shape = omega (arith, few, high) in
          digest_on-top p i m top
          ∙ sym (ap (λ (b : Bool). cond b p.root (digest_in (stored_block p.shape image m i) (slot p.shape (ancestor p.shape m i)))) (eq-eqb m (levels p.shape) top))
    ]

-- two lists of bytes are the same or not
pub is_same-cases : (xs ys : List ℕ) (b : Bool) → b ≡ bytes_eq xs ys → cond b (xs ≡ ys) (xs ≢ ys)
is_same-cases xs ys true e = (bytes_eq-Decides xs ys).0 (sym e)
is_same-cases xs ys false e = λ same. false≢true (e ∙ (bytes_eq-Decides xs ys).1 same)

-- nothing was read
pub down-none : (p : PathRecord) (d : Device) (index from : ℕ) → IsDown (steps p p d d index from) from from
down-none p d index from = record {
  same = record { shape_is = refl; salt_is = refl; root_is = refl };
  kept = λ l le. refl;
  goods = λ l le low. absurd (omega (arith, le, low));
  stored = λ steady l le low. absurd (omega (arith, le, low));
  full = (let none : from - from ≡ 0 = omega arith in let zero_sectors : (from - from) * (p.shape.hash_block / 512) ≡ 0 = grind arith in rw zero_sectors (full_read-none d));
}

-- one level more
module _ (old mid new : PathRecord) (d dm d' : Device) (index from l : ℕ) (low : l < from) (down : IsDown (steps old mid d dm index from) (suc l) (suc l)) (good : Bool) (loaded : IsStepLoaded (steps mid new dm d' index l) good) where
  new-shape : new.shape ≡ mid.shape
  new-shape = ap (λ (p : PathRecord). p.shape) loaded.is

  new-salt : new.salt ≡ mid.salt
  new-salt = ap (λ (p : PathRecord). p.salt) loaded.is

  new-root : new.root ≡ mid.root
  new-root = ap (λ (p : PathRecord). p.root) loaded.is

  here : block_of new l ≡ loaded.block
  here = ap (λ (p : PathRecord). block_of p l) loaded.is ∙ get_or-set_same mid.blocks l loaded.block [] loaded.inside

  other : (k : ℕ) → k ≢ l → block_of new k ≡ block_of mid k
  other k ne = ap (λ (p : PathRecord). block_of p k) loaded.is ∙ get_or-set_other mid.blocks l k loaded.block [] ne

  above : (k : ℕ) → l < k → digest_on new index k ≡ digest_on mid index k
  above k high = digest_on-same new mid index k new-shape new-root (other k (λ e. omega (arith, e, high)))

  goods-more : (k : ℕ) → suc l ≤ k → k < from → digest new.salt (block_of new k) ≡ digest_on new index (k + 1)
  goods-more k high under =
      ap (λ (s : List ℕ). digest s (block_of new k)) new-salt ∙ ap (digest mid.salt) (other k (λ e. omega (arith, e, high)))
      ∙ down.goods k high under ∙ sym (above (k + 1) (omega (arith, high)))

  stored-more : IsTrue d.steady → (k : ℕ) → l ≤ k → k < from → block_of new k ≡ stored_block old.shape d.image k index
  stored-more steady k le under = elim (cases_lt l k) [
    | inl high ↦ other k (λ e. omega (arith, e, high)) ∙ down.stored steady k high under
    | inr not ↦
        let at : k ≡ l = omega (arith, le, not) in
        ap (block_of new) at ∙ here ∙ loaded.read.bytes (steady-then down.full.read.same steady)
        ∙ ap (λ (im : List (List ℕ)). stored_block mid.shape im l index) (down.full.read.image steady)
        ∙ ap (λ (s : ShapeRecord). stored_block s d.image l index) down.same.shape_is
        ∙ ap (λ (j : ℕ). stored_block old.shape d.image j index) (sym at)
  ]

  full-more : IsFullRead d ((from - l) * (old.shape.hash_block / 512)) d'
  full-more =
      let n : ℕ = old.shape.hash_block / 512 in
      let same : IsFullRead dm n d' = subst (λ (s : ShapeRecord). IsFullRead dm (s.hash_block / 512) d') down.same.shape_is loaded.read.full in
      let less : from - l ≡ suc (from - suc l) = omega (arith, low) in
      full_read-then ((from - suc l) * n) n ((from - l) * n) down.full same (let e : (from - suc l) * n + n ≡ suc (from - suc l) * n = grind arith in e ∙ ap (λ (k : ℕ). k * n) (sym less))

  pub down-read : IsDown (steps old new d d' index from) (suc l) l
  down-read = record {
    same = record { shape_is = new-shape ∙ down.same.shape_is; salt_is = new-salt ∙ down.same.salt_is; root_is = new-root ∙ down.same.root_is };
    kept = λ k le. other k (λ e. omega (arith, e, le, low)) ∙ down.kept k le;
    goods = goods-more;
    stored = stored-more;
    full = full-more;
  }

  here-digest : digest new.salt (block_of new l) ≡ digest mid.salt loaded.block
  here-digest = ap (λ (s : List ℕ). digest s (block_of new l)) new-salt ∙ ap (digest mid.salt) here

  pub down-good : good ≡ true → IsDown (steps old new d d' index from) l l
  down-good e = record {
    same = down-read.same;
    kept = down-read.kept;
    goods = λ k le under. elim (cases_lt l k) [
      | inl high ↦ goods-more k high under
      | inr not ↦
          let at : k ≡ l = omega (arith, le, not) in
          let stands : digest mid.salt loaded.block ≡ digest_on mid index (l + 1) = (bytes_eq-Decides _ _).0 (sym loaded.test ∙ e) in
          ap (λ (j : ℕ). digest new.salt (block_of new j)) at ∙ here-digest ∙ stands ∙ sym (above (l + 1) (omega arith)) ∙ ap (λ (j : ℕ). digest_on new index (j + 1)) (sym at)
    ];
    stored = down-read.stored;
    full = down-read.full;
  }

  pub down-bad : good ≡ false → digest new.salt (block_of new l) ≢ digest_on new index (l + 1)
  down-bad e same =
      false≢true (sym e ∙ loaded.test ∙ (bytes_eq-Decides (digest mid.salt loaded.block) (digest_on mid index (l + 1))).1 (sym here-digest ∙ same ∙ above (l + 1) (omega arith)))

-- the next one couldn't be read
pub kept-unloaded : (old mid new : PathRecord) (d dm d' : Device) (index from good level l : ℕ) → l < from → IsDown (steps old mid d dm index from) good level → IsUnloaded (steps mid new dm d' index l)
    → IsKeptAbove (steps old new d d' index from)
kept-unloaded old mid new d dm d' index from good level l low down un = record {
  same = record {
    shape_is = ap (λ (p : PathRecord). p.shape) un.is ∙ down.same.shape_is;
    salt_is = ap (λ (p : PathRecord). p.salt) un.is ∙ down.same.salt_is;
    root_is = ap (λ (p : PathRecord). p.root) un.is ∙ down.same.root_is;
  };
  kept = λ k le. ap (λ (p : PathRecord). block_of p k) un.is ∙ get_or-set_other mid.blocks l k un.block [] (λ e. omega (arith, e, le, low)) ∙ down.kept k le;
}

-- ---- what was read down from a level

module _ (p q : PathRecord) (d d' : Device) (i from good level : ℕ) (down : IsDown (steps p q d d' i from) good level) where
  pub digests-down : (m : ℕ) → from ≤ m → digest_on q i m ≡ digest_on p i m
  digests-down m le = digest_on-same q p i m down.same.shape_is down.same.root_is (down.kept m le)

  pub leads-down : LeadsTo p i from → LeadsTo q i good
  leads-down leads = record {
    up = λ l le under. elim (cases_lt l from) [
      | inl low ↦ down.goods l le low
      | inr high ↦
          ap (λ (s : List ℕ). digest s (block_of q l)) down.same.salt_is ∙ ap (digest p.salt) (down.kept l high)
          ∙ leads.up l high (omega (arith, under, ap levels down.same.shape_is)) ∙ sym (digests-down (l + 1) (omega (arith, high)))
    ];
  }

  pub stored-down : IsTrue d.steady → AreStored p d.image i from → AreStored q d.image i level
  stored-down steady stored = record {
    up = λ l le under. elim (cases_lt l from) [
      | inl low ↦ down.stored steady l le low ∙ ap (λ (s : ShapeRecord). stored_block s d.image l i) (sym down.same.shape_is)
      | inr high ↦
          down.kept l high ∙ stored.up l high (omega (arith, under, ap levels down.same.shape_is))
          ∙ ap (λ (s : ShapeRecord). stored_block s d.image l i) (sym down.same.shape_is)
    ];
  }

-- ---- another data block that has the same blocks above it

module _ (p : PathRecord) (i j k : ℕ) (same : (m : ℕ) → k < m → ancestor p.shape m i ≡ ancestor p.shape m j) where
  pub leads-along : LeadsTo p i k → LeadsTo p j k
  leads-along leads = record { up = λ l le under. leads.up l le under ∙ digest_on-along p i j (l + 1) (same (l + 1) (omega (arith, le))) }

  pub stored-along : (image : List (List ℕ)) → AreStored p image i k → AreStored p image j k
  stored-along image stored = record {
    up = λ l le under. stored.up l le under ∙ ap (λ (n : ℕ). block_at image p.shape.hash_block (position p.shape l n)) (same (l + 1) (omega (arith, le)));
  }

-- from a higher level up
pub leads-higher : (p : PathRecord) (i k m : ℕ) → k ≤ m → LeadsTo p i k → LeadsTo p i m
leads-higher p i k m le leads = record { up = λ l high under. leads.up l (omega (arith, le, high)) under }

pub stored-higher : (p : PathRecord) (image : List (List ℕ)) (i k m : ℕ) → k ≤ m → AreStored p image i k → AreStored p image i m
stored-higher p image i k m le stored = record { up = λ l high under. stored.up l (omega (arith, le, high)) under }
