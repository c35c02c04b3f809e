-- A covered block that is as it was formatted stays so.
use Rattle.std.proofs.Common.{◌≡◌, ◌≤◌, ◌<◌, ◌+◌, ◌-◌, ◌*◌, ◌/◌, ℕ, zero, suc, Bool, true, false, IsTrue, List, [], ◌∷◌, length, refl, sym, ap, ◌∙◌, arith, inl, inr, ◌⊎◌}
use Rattle.std.specs.List.{concat}
use Rattle.std.proofs.lemmas.Bool.{cases_lt}
use Rattle.std.proofs.lemmas.List.Elements.{All-cons, All-nil}
use Rattle.block_device.specs.Device.{Device}
use Rattle.fec_area.specs.declared.layout.Layout.{Layout}
use Rattle.fec_area.specs.Layouts.{covered, covered_blocks}
use Rattle.fec_area.proofs.LayoutLemmas.{covered-data, covered-hash, covered-past}
use Rattle.hash_tree.specs.Laws.{FormedChainsAreGood}
use Rattle.tree_shape.specs.Shape.{ShapeRecord, IsShape, ancestor, position}
use Rattle.tree_path.specs.Laws.{Collide}
use Rattle.verity_format.proofs.lemmas.DeviceLemmas.{steady-then}
use Rattle.verity_format.proofs.lemmas.SizeLemmas.{block-inside}
use Rattle.verity_format.specs.Blocks.{block_at}
use Rattle.tree_repair.specs.declared.mending.Mended.{Mended}
use Rattle.tree_repair.specs.declared.mending.Mended.TheVariants as mended
use Rattle.tree_repair.specs.Mending.{IsAllowedPut, IsMended, BlockCheck}
use Rattle.tree_repair.specs.Runs.{IsDone, IsVisited, Job, VisitsAll, Visit, look_at, other, own, visit}
use Rattle.tree_repair.specs.Standing.{IsNotLost, StandsGood}
use Rattle.tree_repair.specs.WithinParity.{FormattedBlocksStay, FormerImage, HasTreeSizes, IsFormerOf}
use Rattle.tree_repair.specs.Worlds.{HasCountedNone, IsImageUnfailed, IsWorldRead, RepairWorld}
use Rattle.tree_repair.proofs.FormerLemmas.{former-stands}
use Rattle.tree_repair.proofs.PutLemmas.{look-run, lost-image}
use Rattle.tree_repair.proofs.RunLemmas.{AreSame, other-image, read-same, runs-one, visited-same}
use Rattle.tree_repair.proofs.StandLemmas.{IsReady, image-ready, runs-ready, runs-stand}
use Rattle.tree_repair.proofs.UnfailedLemmas.{own-sure, put-done, sure-after, sure-before, sure-from}

-- ---- a check of a block of a device that counted no failure

put-sure : (write : Bool) (old : Device) (first sectors : ℕ) (bytes : List ℕ) (done : Bool) (new : Device) → IsAllowedPut write old first sectors bytes done new → HasCountedNone old new
    → (new.image ≡ old.image) ⊎ (IsTrue write × (done ≡ true))
put-sure true old first sectors bytes done new put none = inr (refl, put-done true old first sectors bytes done new put none)
put-sure false old first sectors bytes done new put none = inl (ap (λ (d : Device). d.image) put.0)

-- leaves it as it is, or was to write, and did
look-sure : (l : BlockCheck) (bytes : List ℕ) (done : Bool) (m : Mended) → IsMended l bytes done m → HasCountedNone l.old l.new → IsTrue l.old.steady
    → (l.new.image ≡ l.old.image) ⊎ (IsTrue l.write × ((done ≡ true) × IsNotLost m))
look-sure l bytes done mended.Good found none steady = inl (found.read.image steady)
look-sure l bytes done (mended.Copy k) found none steady =
    elim (put-sure l.write found.between l.first l.w.sectors bytes done l.new found.put (sure-from l none found.between found.more)) [
      | inl same ↦ inl (same ∙ found.read.image steady)
      | inr wrote ↦ inr (wrote.0, (wrote.1, tt))
    ]
look-sure l bytes done mended.Remade found none steady =
    elim (put-sure l.write found.between l.first l.w.sectors bytes done l.new found.put (sure-from l none found.between (omega (arith, found.more, found.beneath_more)))) [
      | inl same ↦ inl (same ∙ found.beneath_read.image (steady-then found.read.same steady) ∙ found.read.image steady)
      | inr wrote ↦ inr (wrote.0, (wrote.1, tt))
    ]
look-sure l bytes done mended.Parity found none steady =
    let r = found.replaced in
    elim (put-sure l.write r.between l.first l.w.sectors bytes done l.new r.put (sure-from l none r.between r.more)) [
      | inl same ↦ inl (same ∙ r.read.image steady)
      | inr wrote ↦ inr (wrote.0, (wrote.1, tt))
    ]
look-sure l bytes done mended.Lost found none steady = inl (lost-image l bytes done found steady)

-- ---- what is stored on both devices

pub record HaveSameImages (a b : RepairWorld) : Type 0 where
  pub data_same : b.data_dev.image ≡ a.data_dev.image
  pub hash_same : b.hash_dev.image ≡ a.hash_dev.image

both-images : (h : ℕ) (a b : RepairWorld) → (own h b).image ≡ (own h a).image → (other h b).image ≡ (other h a).image → HaveSameImages a b
both-images zero a b here there = record { data_same = here; hash_same = there }
both-images (suc l) a b here there = record { data_same = there; hash_same = here }

pub read-images : (s : ShapeRecord) (a b : RepairWorld) → IsWorldRead a b → IsReady s a → HaveSameImages a b
read-images s a b read ready = record { data_same = read.data_read.image ready.data_ready.steady; hash_same = read.hash_read.image ready.hash_ready.steady }

pub ready-same : (s : ShapeRecord) (a b : RepairWorld) → AreSame a b → HaveSameImages a b → IsReady s a → IsReady s b
ready-same s a b same images ready = record {
  data_ready = record { steady = steady-then same.data_same ready.data_ready.steady; room = omega (arith, ready.data_ready.room, ap length images.data_same) };
  hash_ready = record { steady = steady-then same.hash_same ready.hash_ready.steady; room = omega (arith, ready.hash_ready.room, ap length images.hash_same) };
}

pub own-steady : (s : ShapeRecord) (h : ℕ) (w : RepairWorld) → IsReady s w → IsTrue (own h w).steady
own-steady s zero w ready = ready.data_ready.steady
own-steady s (suc l) w ready = ready.hash_ready.steady

other-steady : (s : ShapeRecord) (h : ℕ) (w : RepairWorld) → IsReady s w → IsTrue (other h w).steady
other-steady s zero w ready = ready.hash_ready.steady
other-steady s (suc l) w ready = ready.data_ready.steady

-- ---- a visit

module _ (j : Job) (valid : IsShape j.tree.shape) where
  module _ (v : Visit) (a b : RepairWorld) (here : IsVisited j v a b) (sure : IsImageUnfailed a b) (ready : IsReady j.tree.shape a) where
    -- leaves both devices as they are, or its block was written, and is good
    visit-sure : HaveSameImages a b ⊎ (IsTrue j.write × ((v.done ≡ true) × IsNotLost v.mended))
    visit-sure =
        elim (look-sure (look_at j here.p v.height v.index a b) v.bytes v.done v.mended here.mended_as (own-sure v.height a b sure) (own-steady j.tree.shape v.height a ready)) [
          | inl same ↦ inl (both-images v.height a b same (other-image v.height v.mended (other v.height a) (other v.height b) here.other_stays (other-steady j.tree.shape v.height a ready)))
          | inr wrote ↦ inr wrote
        ]

    pub visit-ready : IsReady j.tree.shape b
    visit-ready = elim visit-sure [
      | inl same ↦ ready-same j.tree.shape a b (visited-same j v a b here) same ready
      | inr wrote ↦ runs-ready j valid wrote.0 (v ∷ []) a b (runs-one j v a b here) (All-cons IsDone v [] wrote.1.0 (All-nil IsDone)) ready
    ]

    pub visit-stands : IsTrue j.write → v.done ≡ true → IsNotLost v.mended → StandsGood j v.height v.index b
    visit-stands write done kept =
        runs-stand j valid write (v ∷ []) a b (runs-one j v a b here) (All-cons IsDone v [] done (All-nil IsDone)) ready v.height v.index here.inside
        (inl (record { at = record { height_is = refl; same = refl }; kept = kept }))

-- ---- a run, from its first visit on

module _ (j : Job) (v : Visit) (more : List Visit) (a x y b : RepairWorld) (read : IsWorldRead a x) (here : IsVisited j v x y) (rest : VisitsAll j more y b) (sure : IsImageUnfailed a b) where
  pub rest-sure : IsImageUnfailed y b
  rest-sure = sure-after j (v ∷ []) x y b (runs-one j v x y here) (sure-after j [] a x b read sure)

  pub visit-sure-in : IsImageUnfailed x y
  visit-sure-in = sure-before j more x y b rest (sure-after j [] a x b read sure)

-- ---- covered blocks

pub covered-same : (l : Layout) (a b : RepairWorld) (n : ℕ) → HaveSameImages a b → covered l b.data_dev.image b.hash_dev.image n ≡ covered l a.data_dev.image a.hash_dev.image n
covered-same l a b n same =
    ap (λ (x : List (List ℕ)). covered l x b.hash_dev.image n) same.data_same ∙ ap (λ (x : List (List ℕ)). covered l a.data_dev.image x n) same.hash_same

module _ (form : FormedChainsAreGood) (j : Job) (valid : IsShape j.tree.shape) (f : FormerImage) (former : IsFormerOf j.tree f) (l : Layout) (fits : HasTreeSizes j.tree.shape l) where
  abbrev now : RepairWorld → ℕ → List ℕ
  now w n = covered l w.data_dev.image w.hash_dev.image n

  abbrev formerly : ℕ → List ℕ
  formerly n = covered l f.data_image f.hash_image n

  abbrev place_of : ℕ → ℕ
  place_of n = l.hash_first + (n - l.data_blocks)

  on-data : (data_image hash_image : List (List ℕ)) (n : ℕ) → n < l.data_blocks → covered l data_image hash_image n ≡ block_at data_image j.tree.shape.data_block n
  on-data data_image hash_image n low = covered-data l data_image hash_image n low ∙ ap (λ (k : ℕ). block_at data_image k n) fits.data_size

  on-hash : (data_image hash_image : List (List ℕ)) (n : ℕ) → l.data_blocks ≤ n → n < covered_blocks l → covered l data_image hash_image n ≡ block_at hash_image j.tree.shape.hash_block (place_of n)
  on-hash data_image hash_image n high inside = covered-hash l data_image hash_image n high inside ∙ ap (λ (k : ℕ). block_at hash_image k (place_of n)) fits.hash_size

  -- two blocks of one size are the same, or have no sector in common
  same-or-apart : (size n m : ℕ) → (n ≡ m) ⊎ ((n * (size / 512) + size / 512 ≤ m * (size / 512)) ⊎ (m * (size / 512) + size / 512 ≤ n * (size / 512)))
  same-or-apart size n m = elim (cases_lt n m) [
    | inl low ↦ inr (inl (block-inside n m (size / 512) low))
    | inr not ↦ elim (cases_lt m n) [
      | inl high ↦ inr (inr (block-inside m n (size / 512) high))
      | inr nor ↦ inl (omega (arith, not, nor))
    ]
  ]

  -- a data block was written
  module _ (i : ℕ) (m : Mended) (bytes : List ℕ) (done : Bool) (a b : RepairWorld) (here : IsVisited j (visit 0 i m bytes done) a b) (ready : IsReady j.tree.shape a) (stands : StandsGood j zero i b) where
    data-kept : (n : ℕ) → n < l.data_blocks → now a n ≡ formerly n → (now b n ≡ formerly n) ⊎ Collide j.tree.salt
    unfolding block_at
    data-kept n low was = elim (same-or-apart j.tree.shape.data_block n i) [
      | inl same ↦ elim (former-stands form j valid f former zero i b here.inside stands) [
        | inr clash ↦ inr clash
        | inl is ↦ inl (
            on-data b.data_dev.image b.hash_dev.image n low ∙ ap (block_at b.data_dev.image j.tree.shape.data_block) same ∙ is
            ∙ ap (block_at f.data_image j.tree.shape.data_block) (sym same) ∙ sym (on-data f.data_image f.hash_image n low))
      ]
      | inr away ↦ inl (
          on-data b.data_dev.image b.hash_dev.image n low
          ∙ ap concat (look-run (n * (j.tree.shape.data_block / 512)) (j.tree.shape.data_block / 512) (look_at j here.p zero i a b) bytes done m here.mended_as ready.data_ready.steady away)
          ∙ sym (on-data a.data_dev.image a.hash_dev.image n low) ∙ was)
    ]

    data-visit-kept : (n : ℕ) → n < covered_blocks l → now a n ≡ formerly n → (now b n ≡ formerly n) ⊎ Collide j.tree.salt
    data-visit-kept n inside was = elim (cases_lt n l.data_blocks) [
      | inl low ↦ data-kept n low was
      | inr high ↦ inl (
          on-hash b.data_dev.image b.hash_dev.image n high inside
          ∙ ap (λ (x : List (List ℕ)). block_at x j.tree.shape.hash_block (place_of n)) (other-image zero m a.hash_dev b.hash_dev here.other_stays ready.hash_ready.steady)
          ∙ sym (on-hash a.data_dev.image a.hash_dev.image n high inside) ∙ was)
    ]

  -- a hash block was written
  module _ (g i : ℕ) (m : Mended) (bytes : List ℕ) (done : Bool) (a b : RepairWorld) (here : IsVisited j (visit (suc g) i m bytes done) a b) (ready : IsReady j.tree.shape a) (stands : StandsGood j (suc g) i b) where
    hash-kept : (n : ℕ) → l.data_blocks ≤ n → n < covered_blocks l → now a n ≡ formerly n → (now b n ≡ formerly n) ⊎ Collide j.tree.salt
    unfolding block_at
    hash-kept n high inside was = elim (same-or-apart j.tree.shape.hash_block (place_of n) (position j.tree.shape g (ancestor j.tree.shape (g + 1) i))) [
      | inl same ↦ elim (former-stands form j valid f former (suc g) i b here.inside stands) [
        | inr clash ↦ inr clash
        | inl is ↦ inl (
            on-hash b.data_dev.image b.hash_dev.image n high inside ∙ ap (block_at b.hash_dev.image j.tree.shape.hash_block) same ∙ is
            ∙ ap (block_at f.hash_image j.tree.shape.hash_block) (sym same) ∙ sym (on-hash f.data_image f.hash_image n high inside))
      ]
      | inr away ↦ inl (
          on-hash b.data_dev.image b.hash_dev.image n high inside
          ∙ ap concat (look-run (place_of n * (j.tree.shape.hash_block / 512)) (j.tree.shape.hash_block / 512) (look_at j here.p (suc g) i a b) bytes done m here.mended_as ready.hash_ready.steady away)
          ∙ sym (on-hash a.data_dev.image a.hash_dev.image n high inside) ∙ was)
    ]

    hash-visit-kept : (n : ℕ) → n < covered_blocks l → now a n ≡ formerly n → (now b n ≡ formerly n) ⊎ Collide j.tree.salt
    hash-visit-kept n inside was = elim (cases_lt n l.data_blocks) [
      | inl low ↦ inl (
          on-data b.data_dev.image b.hash_dev.image n low
          ∙ ap (λ (x : List (List ℕ)). block_at x j.tree.shape.data_block n) (other-image (suc g) m a.data_dev b.data_dev here.other_stays ready.data_ready.steady)
          ∙ sym (on-data a.data_dev.image a.hash_dev.image n low) ∙ was)
      | inr high ↦ hash-kept n high inside was
    ]

  written-kept : (h i : ℕ) (m : Mended) (bytes : List ℕ) (done : Bool) (a b : RepairWorld) → IsVisited j (visit h i m bytes done) a b → IsReady j.tree.shape a → StandsGood j h i b
      → (n : ℕ) → n < covered_blocks l
      → now a n ≡ formerly n → (now b n ≡ formerly n) ⊎ Collide j.tree.salt
  written-kept zero i m bytes done a b here ready stands = data-visit-kept i m bytes done a b here ready stands
  written-kept (suc g) i m bytes done a b here ready stands = hash-visit-kept g i m bytes done a b here ready stands

  -- ---- one visit, and many

  visit-kept : (v : Visit) (a b : RepairWorld) → IsVisited j v a b → IsImageUnfailed a b → IsReady j.tree.shape a → (n : ℕ) → n < covered_blocks l → now a n ≡ formerly n
      → (now b n ≡ formerly n) ⊎ Collide j.tree.salt
  visit-kept v a b here sure ready n inside was = elim (visit-sure j valid v a b here sure ready) [
    | inl same ↦ inl (covered-same l a b n same ∙ was)
    | inr wrote ↦ written-kept v.height v.index v.mended v.bytes v.done a b here ready (visit-stands j valid v a b here sure ready wrote.0 wrote.1.0 wrote.1.1) n inside was
  ]

  pub runs-kept : (vs : List Visit) (a b : RepairWorld) → VisitsAll j vs a b → IsImageUnfailed a b → IsReady j.tree.shape a → (n : ℕ) → n < covered_blocks l → now a n ≡ formerly n
      → (now b n ≡ formerly n) ⊎ Collide j.tree.salt
  runs-kept [] a b read sure ready n inside was = inl (covered-same l a b n (read-images j.tree.shape a b read ready) ∙ was)
  runs-kept (v ∷ more) a b (x, (y, (read, (here, rest)))) sure ready n inside was =
      let same : HaveSameImages a x = read-images j.tree.shape a x read ready in
      let sure_then : IsImageUnfailed x y = visit-sure-in j v more a x y b read here rest sure in
      let ready_then : IsReady j.tree.shape x = ready-same j.tree.shape a x (read-same a x read) same ready in
      elim (visit-kept v x y here sure_then ready_then n inside (covered-same l a x n same ∙ was)) [
        | inr clash ↦ inr clash
        | inl still ↦ runs-kept more y b rest (rest-sure j v more a x y b read here rest sure) (visit-ready j valid v x y here sure_then ready_then) n inside still
      ]

-- steady devices that counted no failure keep their length
pub runs-ready-sure : (j : Job) → IsShape j.tree.shape → (vs : List Visit) (a b : RepairWorld) → VisitsAll j vs a b → IsImageUnfailed a b → IsReady j.tree.shape a → IsReady j.tree.shape b
runs-ready-sure j valid [] a b read sure ready = ready-same j.tree.shape a b (read-same a b read) (read-images j.tree.shape a b read ready) ready
runs-ready-sure j valid (v ∷ more) a b (x, (y, (read, (here, rest)))) sure ready =
    let sure_then : IsImageUnfailed x y = visit-sure-in j v more a x y b read here rest sure in
    let ready_then : IsReady j.tree.shape x = ready-same j.tree.shape a x (read-same a x read) (read-images j.tree.shape a x read ready) ready in
    runs-ready-sure j valid more y b rest (rest-sure j v more a x y b read here rest sure) (visit-ready j valid v x y here sure_then ready_then)

pub formatted-stay : FormedChainsAreGood → FormattedBlocksStay
formatted-stay form j f former l fits vs w w' runs image sure n was = elim (cases_lt n (covered_blocks l)) [
  | inl inside ↦ runs-kept form j image.valid f former l fits vs w w' runs sure (image-ready j.tree.shape w image) n inside was
  | inr past ↦ inl (covered-past l w'.data_dev.image w'.hash_dev.image n past ∙ sym (covered-past l f.data_image f.hash_image n past))
]
