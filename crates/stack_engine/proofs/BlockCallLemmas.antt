-- Calls of reads of whole data blocks of a `verity` line: what those of a block say of all.
use Rattle.std.proofs.Common.{◌≡◌, ◌⊎◌, ℕ, zero, suc, ◌+◌, ◌-◌, ◌*◌, ◌/◌, ◌<◌, ◌≤◌, max, Bool, false, List, [], ◌∷◌, ◌++◌, length, take, drop, Option, None, Some, Result, Ok, Err, inl, inr, refl, sym, ap, ◌∙◌, subst, arith}
use Rattle.std.proofs.lemmas.Bool.{cases_lt}
use Rattle.std.proofs.lemmas.List.{append-nil, drop-drop, drop-take, drop_all, take-append-drop, take_all}
use Rattle.std.proofs.lemmas.Slice.{drop-put_mid, take-put_mid, take-put_mid_below, between-put_mid}
use Rattle.std.proofs.Math.Seq.{take-add}
use Rattle.std.proofs.Math.Nat.{add-mul, mul-le-mul_right}
use borrow.Rule.Slice.PartMut.{put_mid}
use Rattle.block_device.specs.Call.{Call}
use Rattle.stack_rules.specs.declared.lower.Lower.{Lower}
use Rattle.stack_rules.specs.Records.{Configuration}
use Rattle.stack_rules.specs.Trees.{block_sectors}
use Rattle.stack_meaning.specs.Blocks.{is_ignored}
use Rattle.stack_meaning.specs.declared.fault.IoFault.{IoFault}
use Rattle.stack_meaning.specs.declared.fault.IoFault.TheVariants as io
use Rattle.stack_lines.specs.declared.source.Source.TheVariants.{Below, Blocks}
use Rattle.stack_lines.specs.declared.source.VerityPart.{VerityPart}
use Rattle.stack_lines.specs.declared.tree.Extent.{Extent}
use Rattle.verified_cache.specs.Cache.{CachedBlock}
use Rattle.stack_engine.specs.declared.backing.Backing.{Backing}
use Rattle.stack_engine.specs.Backings.{served}
use Rattle.stack_engine.specs.Healing.{IsHealed, IsSettled, alone_after, row_answer}
use Rattle.stack_engine.specs.ReadSteps.{GivesAny}
use Rattle.stack_engine.specs.Restored.{Served}
use Rattle.stack_engine.specs.SectorCalls.{AreReadTogether, DataPlace, DataRead, Gives, LeadsTo, ReadsBy, blocks_of, bytes_before, data_of, last_bytes, blocks_left, place_at, whole_data, blocks_read, together_lost, together_read, together_unread, blocks_end, blocks_next, blocks_full}
use Rattle.stack_engine.proofs.ReadCallLemmas.{reads-none, reads-as, reads-then}
use Rattle.stack_engine.proofs.SectorCallLemmas.{before-none}

-- the bytes of blocks j to r that were read, in a buffer
abbrev pub ahead : ℕ → ℕ → ℕ → List ℕ → List ℕ
ahead size r j out = take ((r - j) * size) (drop (j * size) out)

-- The first j of n sectors' blocks are in the buffer, those up to block a are read alone, and those up to block r were read: with the
-- calls that read the rest, all are read. And the same after the way to block j, of which that digest is expected, where the last hash
-- block has those bytes.
pub record BlocksUpTo {D : Type 0} (does : D → Call → D → Type 0) (c : Configuration) (x : VerityPart) (n r a j : ℕ) (out : List ℕ) (old mid : Served D) : Type 0 where
  pub later : (new : Served D) (answer : Result (List ℕ) IoFault) → ReadsBy does c (blocks_of (place_at x (x.first / block_sectors x.verity.now + j)) (n / block_sectors x.verity.now - j) (a - j) (ahead x.verity.now.data_block (r - (a - j)) j out)) mid new answer
      → Gives does c (Blocks x) n old new (bytes_before (take (j * x.verity.now.data_block) out) answer)

pub record WayFrom {D : Type 0} (does : D → Call → D → Type 0) (c : Configuration) (x : VerityPart) (n r a j : ℕ) (out : List ℕ) (way : List ℕ × List ℕ) (old mid : Served D) : Type 0 where
  pub later : (new : Served D) (answer : Result (List ℕ) IoFault) → ReadsBy does c (data_of (place_at x (x.first / block_sectors x.verity.now + j)) 0 way.0 way.1 (blocks_left (n / block_sectors x.verity.now - j) (a - j) (ahead x.verity.now.data_block (r - (a - j)) j out))) mid new answer
      → Gives does c (Blocks x) n old new (bytes_before (take (j * x.verity.now.data_block) out) answer)

-- if none of the rest is read alone, or block j is

pub record WayUpTo {D : Type 0} (does : D → Call → D → Type 0) (c : Configuration) (x : VerityPart) (n r j : ℕ) (out : List ℕ) (way : List ℕ × List ℕ) (old mid : Served D) : Type 0 where
  pub later : (new : Served D) (answer : Result (List ℕ) IoFault) → ReadsBy does c (data_of (place_at x (x.first / block_sectors x.verity.now + j)) 0 way.0 way.1 (blocks_left (n / block_sectors x.verity.now - j) 0 (ahead x.verity.now.data_block r j out))) mid new answer
      → Gives does c (Blocks x) n old new (bytes_before (take (j * x.verity.now.data_block) out) answer)

pub record AloneUpTo {D : Type 0} (does : D → Call → D → Type 0) (c : Configuration) (x : VerityPart) (n k j : ℕ) (out : List ℕ) (way : List ℕ × List ℕ) (old mid : Served D) : Type 0 where
  pub later : (new : Served D) (answer : Result (List ℕ) IoFault) → ReadsBy does c (data_of (place_at x (x.first / block_sectors x.verity.now + j)) 0 way.0 way.1 (blocks_left (n / block_sectors x.verity.now - j) k [])) mid new answer
      → Gives does c (Blocks x) n old new (bytes_before (take (j * x.verity.now.data_block) out) answer)

pub ahead-none : (size r j : ℕ) (out : List ℕ) → r ≤ j → ahead size r j out ≡ []
ahead-none size r j out low = let zero_left : r - j ≡ 0 = omega (arith, low) in let nothing : 0 * size ≡ 0 = omega arith in let none : (r - j) * size ≡ 0 = ap (λ (k : ℕ). k * size) zero_left ∙ nothing in ap (λ (k : ℕ). take k (drop (j * size) out)) none

-- the bytes of a row, which may be none
pub row-some : (many size u : ℕ) (slice : List ℕ) → length slice ≡ many * size → 512 * u ≡ size → 1 ≤ u → 0 < many → 0 < length slice
row-some many size u slice len whole some more = let least : 1 * size ≤ many * size = mul-le-mul_right size more in omega (arith, least, len, whole, some)

pub row-asked : (many size : ℕ) (slice : List ℕ) → length slice ≡ many * size → (length slice ≡ 0 → ⊥) → 0 < many
row-asked zero size slice len some = let none : 0 * size ≡ 0 = omega arith in absurd (some (len ∙ none))
row-asked (suc k) size slice len some = omega arith

pub row-begins : (u i k : ℕ) {on : Lower} {e : Extent} → e ≡ record { lower = on; first = u * i; sectors = u } → i ≡ k → e.first ≡ u * k
row-begins u i k is index = ap (λ (x : Extent). x.first) is ∙ ap (λ (n : ℕ). u * n) index

pub path-last : {l m : ℕ} {slice path : List CachedBlock} → slice ≡ path → l ≡ m → last_bytes (take l slice) ≡ last_bytes (take m path)
path-last {l = l} {path = path} same levels_are = ap (λ (s : List CachedBlock). last_bytes (take l s)) same ∙ ap (λ (k : ℕ). last_bytes (take k path)) levels_are

-- one block less
ahead-less : (size r j : ℕ) → j < r → (r - j) * size ≡ size + (r - (j + 1)) * size
ahead-less size r j low = let count : r - j ≡ 1 + (r - (j + 1)) = omega (arith, low) in let split = add-mul 1 (r - (j + 1)) size in let all : (1 + (r - (j + 1))) * size ≡ size + (r - (j + 1)) * size = omega (arith, split) in ap (λ (k : ℕ). k * size) count ∙ all

next-place : (size j : ℕ) → (j + 1) * size ≡ j * size + size
next-place size j = let split = add-mul j 1 size in omega (arith, split)

-- a block is written over bytes of a buffer
module _ (size j w : ℕ) (out block : List ℕ) (fits : j * size ≤ length out) (w_is : w ≡ size) (wide : length block ≡ size) where
  pub block-front : take (j * size) out ++ block ≡ take ((j + 1) * size) (put_mid (j * size) w out block)
  block-front = sym (take-put_mid (j * size) w out block ((j + 1) * size) (next-place size j ∙ ap (λ (k : ℕ). j * size + k) (sym wide)) fits)

  block-behind : (m : ℕ) → take m (drop (j * size + size) out) ≡ take m (drop ((j + 1) * size) (put_mid (j * size) w out block))
  block-behind m =
      let past : j * size + w ≤ j * size + size = omega (arith, w_is) in
      ap (take m) (sym (drop-put_mid (j * size) w out block (j * size + size) past fits (wide ∙ sym w_is))) ∙ ap (λ (k : ℕ). take m (drop k (put_mid (j * size) w out block))) (sym (next-place size j))

  -- what was read and is after it
  pub ahead-rest : (r : ℕ) → drop size (ahead size r j out) ≡ ahead size r (j + 1) (put_mid (j * size) w out block)
  ahead-rest r = elim (cases_lt j r) [
    | inl low ↦ ap (λ (k : ℕ). drop size (take k (drop (j * size) out))) (ahead-less size r j low) ∙ drop-take size ((r - (j + 1)) * size) (drop (j * size) out)
        ∙ ap (take ((r - (j + 1)) * size)) (drop-drop size (j * size) out) ∙ block-behind ((r - (j + 1)) * size)
    | inr high ↦ ap (drop size) (ahead-none size r j out high) ∙ drop_all size [] (omega arith) ∙ sym (ahead-none size r (j + 1) (put_mid (j * size) w out block) (omega (arith, high)))
  ]

-- the block that is there comes first
pub ahead-first : (size r j : ℕ) (out : List ℕ) → j < r → take size (drop (j * size) out) ++ drop size (ahead size r j out) ≡ ahead size r j out
ahead-first size r j out low =
    let n : ℕ = (r - (j + 1)) * size in
    let l : List ℕ = drop (j * size) out in
    let all : ahead size r j out ≡ take (size + n) l = ap (λ (k : ℕ). take k l) (ahead-less size r j low) in
    ap (λ (k : List ℕ). take size l ++ drop size k) all ∙ ap (λ (k : List ℕ). take size l ++ k) (drop-take size n l) ∙ sym (take-add size n l) ∙ sym all

put-none : (a : ℕ) (xs ys : List ℕ) → length ys ≡ 0 → put_mid a 0 xs ys ≡ xs
put-none a xs [] none = take-append-drop a xs
put-none a xs (y ∷ ys) none = absurd (omega (arith, none))

-- what is known of a row, and of the read of its bytes, by where block j is
pub together-at : (x : VerityPart) (n j many : ℕ) (expected : List ℕ) {p : DataPlace} {left : ℕ} {ignored : Bool} {last way : List ℕ} → p ≡ place_at x (x.first / block_sectors x.verity.now + j) → left ≡ n / block_sectors x.verity.now → last ≡ way → ignored ≡ is_ignored x.verity.now expected
    → (ignored ≡ false) × AreReadTogether p last (left - j) many → (is_ignored x.verity.now expected ≡ false) × AreReadTogether (place_at x (x.first / block_sectors x.verity.now + j)) way (n / block_sectors x.verity.now - j) many
together-at x n j many expected {p = p} {left = left} {last = last} {way = way} same all goes is together =
    (sym is ∙ together.0, subst (λ (q : DataPlace). AreReadTogether q way (n / block_sectors x.verity.now - j) many) same (subst (λ (k : ℕ). AreReadTogether p way (k - j) many) all (subst (λ (l : List ℕ). AreReadTogether p l (left - j) many) goes together.1)))

module _ {D : Type 0} {does : D → Call → D → Type 0} {c : Configuration} (x : VerityPart) where
  pub row-stays : (size many : ℕ) {from : Lower} {first : ℕ} {slice : List ℕ} {old new : Backing D} {answer : Result (List ℕ) IoFault} → length slice ≡ many * size → GivesAny does c (from, first) slice old new answer → many ≡ 0 → served new ≡ served old
  row-stays size many {slice = slice} len gives none = let nothing : 0 * size ≡ 0 = omega arith in let empty : length slice ≡ 0 = len ∙ ap (λ (k : ℕ). k * size) none ∙ nothing in (gives.none empty).0

  pub gives-at : (j many : ℕ) {from : Lower} {first : ℕ} {slice : List ℕ} {old new : Backing D} {answer : Result (List ℕ) IoFault} → from ≡ x.data → first ≡ block_sectors x.verity.now * (x.first / block_sectors x.verity.now + j) → length slice / 512 ≡ many * block_sectors x.verity.now → 0 < length slice
      → GivesAny does c (from, first) slice old new answer → Gives does c (Below x.data (block_sectors x.verity.now * (x.first / block_sectors x.verity.now + j))) (many * block_sectors x.verity.now) (served old) (served new) answer
  gives-at j many {from = from} {first = first} {slice = slice} {old = old} {new = new} {answer = answer} on at sectors some gives =
      subst (λ (l : Lower). Gives does c (Below l (block_sectors x.verity.now * (x.first / block_sectors x.verity.now + j))) (many * block_sectors x.verity.now) (served old) (served new) answer) on
      (subst (λ (s : ℕ). Gives does c (Below from s) (many * block_sectors x.verity.now) (served old) (served new) answer) at
      (subst (λ (k : ℕ). Gives does c (Below from first) k (served old) (served new) answer) sectors (gives.some some)))

-- the size of a block of a part, how many of them n sectors are, and where the j-th is
abbrev pub block_size : VerityPart → ℕ
block_size x = x.verity.now.data_block

abbrev pub blocks_in : VerityPart → ℕ → ℕ
blocks_in x n = n / block_sectors x.verity.now

abbrev pub nth_place : VerityPart → ℕ → DataPlace
nth_place x j = place_at x (x.first / block_sectors x.verity.now + j)

none-alone : (r a j : ℕ) → a ≤ j → (a - j ≡ 0) × (r - (a - j) ≡ r)
none-alone r a j low = (omega (arith, low), omega (arith, low))

none-ahead : (size r a j : ℕ) (out : List ℕ) → r ≤ a → ahead size (r - (a - j)) j out ≡ []
none-ahead size r a j out low = ahead-none size (r - (a - j)) j out (omega (arith, low))

abbrev Rest : {D : Type 0} → (D → Call → D → Type 0) → Configuration → VerityPart → ℕ → ℕ → List ℕ × List ℕ → Served D → ℕ → List ℕ → Served D → Result (List ℕ) IoFault → Type 0
Rest does c x n j way mid k bytes new answer = ReadsBy does c (data_of (nth_place x j) 0 way.0 way.1 (blocks_left (blocks_in x n - j) k bytes)) mid new answer

module _ {D : Type 0} {does : D → Call → D → Type 0} {c : Configuration} {x : VerityPart} {n : ℕ} where
  -- none of them yet
  pub blocks-begin : (out : List ℕ) {old : Served D} → BlocksUpTo does c x n 0 0 0 out old old
  blocks-begin out {old = old} = record {
    later = λ new answer h.
        let at : x.first / block_sectors x.verity.now + 0 ≡ x.first / block_sectors x.verity.now = omega arith in
        let all : blocks_in x n - 0 ≡ blocks_in x n = omega arith in
        let none : 0 * block_size x ≡ 0 = omega arith in
        subst (λ (k : ℕ). Gives does c (Blocks x) n old new (bytes_before (take k out) answer)) (sym none)
        (subst (λ (a : Result (List ℕ) IoFault). Gives does c (Blocks x) n old new a) (sym (before-none answer))
        (reads-as (λ calls a. blocks_read a)
        (subst (λ (k : ℕ). ReadsBy does c (blocks_of (place_at x k) (blocks_in x n) 0 []) old new answer) at
        (subst (λ (k : ℕ). ReadsBy does c (blocks_of (nth_place x 0) k 0 []) old new answer) all
        (subst (λ (l : List ℕ). ReadsBy does c (blocks_of (nth_place x 0) (blocks_in x n - 0) 0 l) old new answer) (ahead-none (block_size x) 0 0 out (omega arith)) h)))));
  }

  -- all of them
  pub blocks-given : {r a j : ℕ} {out : List ℕ} {old new : Served D} → BlocksUpTo does c x n r a j out old new → blocks_in x n ≤ j → length out ≤ j * block_size x → Gives does c (Blocks x) n old new (Ok out)
  blocks-given {r = r} {a = a} {j = j} {out = out} {old = old} {new = new} h last long =
      let bytes : List ℕ = ahead (block_size x) (r - (a - j)) j out in
      let none : 0 ≡ blocks_in x n - j = omega (arith, last) in
      let one = h.later new (Ok []) (subst (λ (k : ℕ). ReadsBy does c (blocks_of (nth_place x j) k (a - j) bytes) new new (Ok [])) none (reads-none (blocks_end (nth_place x j) (a - j) bytes))) in
      subst (λ (l : List ℕ). Gives does c (Blocks x) n old new (Ok l)) (append-nil (take (j * block_size x) out) ∙ take_all (j * block_size x) out long) one

  -- memory ran out before the next one
  pub blocks-short : {r a j : ℕ} {out : List ℕ} {old new : Served D} → BlocksUpTo does c x n r a j out old new → Gives does c (Blocks x) n old new (Err io.NoMemory)
  blocks-short {r = r} {a = a} {j = j} {out = out} {new = new} h = h.later new (Err io.NoMemory) (reads-none (blocks_full (nth_place x j) (blocks_in x n - j) (a - j) (ahead (block_size x) (r - (a - j)) j out)))

  -- the way to the next one was walked, or ended by a fault
  module _ {r a j : ℕ} {out : List ℕ} {old mid : Served D} (h : BlocksUpTo does c x n r a j out old mid) (more : j < blocks_in x n) where
    left : blocks_in x n - j ≡ suc (blocks_in x n - (j + 1))
    left = omega (arith, more)

    abbrev bytes_ahead : List ℕ
    bytes_ahead = ahead (block_size x) (r - (a - j)) j out

    from-way : {new : Served D} {answer : Result (List ℕ) IoFault} → ReadsBy does c (whole_data (nth_place x j) (blocks_left (blocks_in x n - j) (a - j) bytes_ahead)) mid new answer → Gives does c (Blocks x) n old new (bytes_before (take (j * block_size x) out) answer)
    from-way {new = new} {answer = answer} calls =
        h.later new answer (subst (λ (k : ℕ). ReadsBy does c (blocks_of (nth_place x j) k (a - j) bytes_ahead) mid new answer) (sym left)
        (reads-as (λ calls b. blocks_next b) (subst (λ (k : ℕ). ReadsBy does c (whole_data (nth_place x j) (blocks_left k (a - j) bytes_ahead)) mid new answer) left calls)))

    pub blocks-way : {p : DataPlace} {expected last : List ℕ} {walk : Served D} → p ≡ nth_place x j → ((next : DataRead) → LeadsTo does c (whole_data p next) (data_of p 0 expected last next) mid walk) → WayFrom does c x n r a j out (expected, last) old walk
    blocks-way {p = p} {expected = expected} {last = last} {walk = walk} same led =
        let next : DataRead = blocks_left (blocks_in x n - j) (a - j) bytes_ahead in
        let here = subst (λ (q : DataPlace). LeadsTo does c (whole_data q next) (data_of q 0 expected last next) mid walk) same (led next) in
        record { later = λ new answer rest. from-way (here.later new answer rest) }

    pub blocks-unled : {p : DataPlace} {fault : IoFault} {walk : Served D} → p ≡ nth_place x j → ((next : DataRead) → ReadsBy does c (whole_data p next) mid walk (Err fault)) → Gives does c (Blocks x) n old walk (Err fault)
    blocks-unled {p = p} {fault = fault} {walk = walk} same ended =
        let next : DataRead = blocks_left (blocks_in x n - j) (a - j) bytes_ahead in
        from-way (subst (λ (q : DataPlace). ReadsBy does c (whole_data q next) mid walk (Err fault)) same (ended next))

  -- none of the rest is read alone, or the next one is
  module _ {r a j : ℕ} {out : List ℕ} {way : List ℕ × List ℕ} {old mid : Served D} where
    pub way-plain : a ≤ j → WayFrom does c x n r a j out way old mid → WayUpTo does c x n r j out way old mid
    way-plain low h = record {
      later = λ new answer rest. h.later new answer
          (subst (λ (k : ℕ). Rest does c x n j way mid k (ahead (block_size x) (r - (a - j)) j out) new answer) (sym (none-alone r a j low).0)
          (subst (λ (k : ℕ). Rest does c x n j way mid 0 (ahead (block_size x) k j out) new answer) (sym (none-alone r a j low).1) rest));
    }

    way-from : a ≤ j → WayUpTo does c x n r j out way old mid → WayFrom does c x n r a j out way old mid
    way-from low h = record {
      later = λ new answer rest. h.later new answer
          (subst (λ (k : ℕ). Rest does c x n j way mid 0 (ahead (block_size x) k j out) new answer) (none-alone r a j low).1
          (subst (λ (k : ℕ). Rest does c x n j way mid k (ahead (block_size x) (r - (a - j)) j out) new answer) (none-alone r a j low).0 rest));
    }

    pub way-alone : r ≤ a → WayFrom does c x n r a j out way old mid → AloneUpTo does c x n (a - j) j out way old mid
    way-alone low h = record { later = λ new answer rest. h.later new answer (subst (λ (l : List ℕ). Rest does c x n j way mid (a - j) l new answer) (sym (none-ahead (block_size x) r a j out low)) rest) }

    alone-from : (k : ℕ) → k ≡ a - j → r ≤ a → AloneUpTo does c x n k j out way old mid → WayFrom does c x n r a j out way old mid
    alone-from k is low h = record {
      later = λ new answer rest. h.later new answer
          (subst (λ (m : ℕ). Rest does c x n j way mid m [] new answer) (sym is) (subst (λ (l : List ℕ). Rest does c x n j way mid (a - j) l new answer) (none-ahead (block_size x) r a j out low) rest));
    }

  -- a row of blocks was read, or none
  module _ {r j : ℕ} {out : List ℕ} {way : List ℕ × List ℕ} {old walk : Served D} (h : WayUpTo does c x n r j out way old walk) (many : ℕ) where
    row-given : {row : List ℕ} {new : Served D} (w : ℕ) → w ≡ many * block_size x → length row ≡ many * block_size x → j * block_size x + many * block_size x ≤ length out → (many ≡ 0) ⊎ (r ≤ j)
        → (0 < many → (is_ignored x.verity.now way.0 ≡ false) × AreReadTogether (nth_place x j) way.1 (blocks_in x n - j) many)
        → (many ≡ 0 → new ≡ walk) → (0 < many → Gives does c (Below x.data (block_sectors x.verity.now * (x.first / block_sectors x.verity.now + j))) (many * block_sectors x.verity.now) walk new (Ok row))
        → WayUpTo does c x n (max r (j + many)) j (put_mid (j * block_size x) w out row) way old new
    row-given {row = row} {new = new} w w_is wide fits fresh together same gives = record {
      later = λ end answer rest. elim (cases_lt 0 many) [
        | inl some ↦
            let low : r ≤ j = elim fresh [ inl none ↦ omega (arith, none, some) | inr old ↦ old ] in
            let rows : max r (j + many) - j ≡ many = omega (arith, low) in
            let width : many * block_size x ≡ j * block_size x + many * block_size x - j * block_size x = omega arith in
            let next : ahead (block_size x) (max r (j + many)) j (put_mid (j * block_size x) w out row) ≡ row =
            ap (λ (k : ℕ). take (k * block_size x) (drop (j * block_size x) (put_mid (j * block_size x) w out row))) rows ∙ ap (λ (k : ℕ). take k (drop (j * block_size x) (put_mid (j * block_size x) w out row))) width
            ∙ between-put_mid (j * block_size x) w out row (j * block_size x + many * block_size x) (omega (arith, fits)) (omega (arith, wide)) in
            let front : take (j * block_size x) (put_mid (j * block_size x) w out row) ≡ take (j * block_size x) out = take-put_mid_below (j * block_size x) w out row (j * block_size x) (omega arith) (omega (arith, fits)) in
            let later = subst (λ (l : List ℕ). ReadsBy does c (data_of (nth_place x j) 0 way.0 way.1 (blocks_left (blocks_in x n - j) 0 l)) new end answer) next rest in
            let one : ReadsBy does c (data_of (nth_place x j) 0 way.0 way.1 (blocks_left (blocks_in x n - j) 0 [])) walk end answer = reads-then (λ calls later a b. together_read (together some).0 (together some).1 a b) (gives some) later in
            subst (λ (l : List ℕ). Gives does c (Blocks x) n old end (bytes_before l answer)) (sym front)
            (h.later end answer (subst (λ (l : List ℕ). ReadsBy does c (data_of (nth_place x j) 0 way.0 way.1 (blocks_left (blocks_in x n - j) 0 l)) walk end answer) (sym (ahead-none (block_size x) r j out low)) one))
        | inr high ↦
            let none : many ≡ 0 = omega (arith, high) in
            let nothing : 0 * block_size x ≡ 0 = omega arith in
            let w_none : w ≡ 0 = w_is ∙ ap (λ (k : ℕ). k * block_size x) none ∙ nothing in
            let empty : length row ≡ 0 = wide ∙ ap (λ (k : ℕ). k * block_size x) none ∙ nothing in
            let stays : put_mid (j * block_size x) w out row ≡ out = ap (λ (k : ℕ). put_mid (j * block_size x) k out row) w_none ∙ put-none (j * block_size x) out row empty in
            let rows : max r (j + many) - j ≡ r - j = omega (arith, none) in
            let later = subst (λ (k : ℕ). ReadsBy does c (data_of (nth_place x j) 0 way.0 way.1 (blocks_left (blocks_in x n - j) 0 (take (k * block_size x) (drop (j * block_size x) out)))) new end answer) rows
            (subst (λ (l : List ℕ). ReadsBy does c (data_of (nth_place x j) 0 way.0 way.1 (blocks_left (blocks_in x n - j) 0 (ahead (block_size x) (max r (j + many)) j l))) new end answer) stays rest) in
            subst (λ (l : List ℕ). Gives does c (Blocks x) n old end (bytes_before (take (j * block_size x) l) answer)) (sym stays)
            (h.later end answer (subst (λ (ds : Served D). ReadsBy does c (data_of (nth_place x j) 0 way.0 way.1 (blocks_left (blocks_in x n - j) 0 (ahead (block_size x) r j out))) ds end answer) (same none) later))
      ];
    }

    -- it can't be read: each of its blocks is read alone, if there is parity
    row-lost : {fault : IoFault} {new : Served D} (row : List ℕ) (w : ℕ) → j * block_size x + many * block_size x ≤ length out → r ≤ j → IsHealed x.verity.now.parity fault
        → (is_ignored x.verity.now way.0 ≡ false) × AreReadTogether (nth_place x j) way.1 (blocks_in x n - j) many
        → Gives does c (Below x.data (block_sectors x.verity.now * (x.first / block_sectors x.verity.now + j))) (many * block_sectors x.verity.now) walk new (Err fault)
        → AloneUpTo does c x n many j (put_mid (j * block_size x) w out row) way old new
    row-lost {new = new} row w fits low heals together gives = record {
      later = λ end answer rest.
          let front : take (j * block_size x) (put_mid (j * block_size x) w out row) ≡ take (j * block_size x) out = take-put_mid_below (j * block_size x) w out row (j * block_size x) (omega arith) (omega (arith, fits)) in
          let one : ReadsBy does c (data_of (nth_place x j) 0 way.0 way.1 (blocks_left (blocks_in x n - j) 0 [])) walk end answer = reads-then (λ calls later a b. together_lost together.0 together.1 heals a b) gives rest in
          subst (λ (l : List ℕ). Gives does c (Blocks x) n old end (bytes_before l answer)) (sym front)
          (h.later end answer (subst (λ (l : List ℕ). ReadsBy does c (data_of (nth_place x j) 0 way.0 way.1 (blocks_left (blocks_in x n - j) 0 l)) walk end answer) (sym (ahead-none (block_size x) r j out low)) one));
    }

    pub row-ungiven : {fault : IoFault} {new : Served D} → r ≤ j → IsSettled x.verity.now.parity fault → (is_ignored x.verity.now way.0 ≡ false) × AreReadTogether (nth_place x j) way.1 (blocks_in x n - j) many
        → Gives does c (Below x.data (block_sectors x.verity.now * (x.first / block_sectors x.verity.now + j))) (many * block_sectors x.verity.now) walk new (Err fault) → Gives does c (Blocks x) n old new (Err fault)
    row-ungiven {fault = fault} {new = new} low settled together gives =
        h.later new (Err fault) (subst (λ (l : List ℕ). ReadsBy does c (data_of (nth_place x j) 0 way.0 way.1 (blocks_left (blocks_in x n - j) 0 l)) walk new (Err fault)) (sym (ahead-none (block_size x) r j out low)) (reads-as (λ calls a. together_unread together.0 together.1 settled a) gives))

  -- a row was read, or none, or its blocks are read alone
  module _ {r a j : ℕ} {out : List ℕ} {way : List ℕ × List ℕ} {old walk : Served D} (h : WayFrom does c x n r a j out way old walk) (many : ℕ) (lone : j < a → r ≡ a) (fits : j * block_size x + many * block_size x ≤ length out) (fresh : (many ≡ 0) ⊎ (r ≤ j))
      (together : 0 < many → (is_ignored x.verity.now way.0 ≡ false) × AreReadTogether (nth_place x j) way.1 (blocks_in x n - j) many) where
    -- none is read while blocks are read alone
    row-none : j < a → many ≡ 0
    row-none low = elim fresh [ inl none ↦ none | inr old ↦ absurd (omega (arith, old, low, lone low)) ]

    pub row-after : {new : Served D} (lost : Option IoFault) (row : List ℕ) (w : ℕ) → w ≡ many * block_size x → length row ≡ many * block_size x → ((fault : IoFault) → lost ≡ Some fault → (0 < many) × IsHealed x.verity.now.parity fault) → (many ≡ 0 → new ≡ walk)
        → (0 < many → Gives does c (Below x.data (block_sectors x.verity.now * (x.first / block_sectors x.verity.now + j))) (many * block_sectors x.verity.now) walk new (row_answer (Ok lost) row))
        → WayFrom does c x n (max r (j + many)) (alone_after lost (max r (j + many)) a) j (put_mid (j * block_size x) w out row) way old new
    row-after {new = new} None row w w_is wide heals same gives = elim (cases_lt j a) [
      | inl low ↦
          let none : many ≡ 0 = row-none low in
          let nothing : 0 * block_size x ≡ 0 = omega arith in
          let w_none : w ≡ 0 = w_is ∙ ap (λ (k : ℕ). k * block_size x) none ∙ nothing in
          let empty : length row ≡ 0 = wide ∙ ap (λ (k : ℕ). k * block_size x) none ∙ nothing in
          let stays : put_mid (j * block_size x) w out row ≡ out = ap (λ (k : ℕ). put_mid (j * block_size x) k out row) w_none ∙ put-none (j * block_size x) out row empty in
          let far : max r (j + many) ≡ r = omega (arith, none, low, lone low) in
          subst (λ (k : ℕ). WayFrom does c x n k a j (put_mid (j * block_size x) w out row) way old new) (sym far)
          (subst (λ (l : List ℕ). WayFrom does c x n r a j l way old new) (sym stays) (subst (λ (ds : Served D). WayFrom does c x n r a j out way old ds) (sym (same none)) h))
      | inr high ↦ way-from high (row-given (way-plain high h) many w w_is wide fits fresh together same gives)
    ]
    row-after (Some fault) row w w_is wide heals same gives =
        let some : 0 < many = (heals fault refl).0 in
        let low : r ≤ j = elim fresh [ inl none ↦ absurd (omega (arith, none, some)) | inr old ↦ old ] in
        let high : a ≤ j = elim (cases_lt j a) [ inl alone ↦ absurd (omega (arith, row-none alone, some)) | inr high ↦ high ] in
        alone-from many (omega (arith, low)) (omega arith) (row-lost (way-plain high h) many row w fits low (heals fault refl).1 (together some) (gives some))
