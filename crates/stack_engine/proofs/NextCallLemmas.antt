-- Calls of the read of the next whole data block of a `verity` line, after the way to it: it was read together with others, or is read
-- alone.
use Rattle.std.proofs.Common.{◌≡◌, ℕ, suc, ◌+◌, ◌-◌, ◌*◌, ◌/◌, ◌<◌, ◌≤◌, Bool, true, false, List, [], ◌++◌, length, take, drop, replicate, Result, Ok, Err, refl, sym, ap, ◌∙◌, subst, arith}
use Rattle.std.proofs.lemmas.List.{length-drop, length-replicate, length-take-le}
use borrow.Rule.Slice.PartMut.{put_mid}
use Rattle.tree_shape.specs.Digests.{digest}
use Rattle.block_device.specs.Call.{Call}
use Rattle.stack_rules.specs.Records.{Configuration}
use Rattle.stack_rules.specs.Trees.{block_sectors, zero_block}
use Rattle.stack_meaning.specs.Blocks.{is_ignored}
use Rattle.stack_meaning.specs.declared.fault.Fault.TheVariants as why
use Rattle.stack_meaning.specs.declared.fault.IoFault.{IoFault}
use Rattle.stack_meaning.specs.declared.fault.IoFault.TheVariants as io
use Rattle.stack_lines.specs.declared.source.Source.TheVariants.{Blocks}
use Rattle.stack_lines.specs.declared.source.VerityPart.{VerityPart}
use Rattle.stack_engine.specs.Healing.{unhealed}
use Rattle.stack_engine.specs.Restored.{Served, after_spare}
use Rattle.stack_engine.specs.SectorCalls.{Gives, ReadsBy, blocks_of, bytes_before, data_of, next_place, blocks_left, place_at, next_ignored, next_checked, next_healed, next_differs, next_alone, next_unread, one_block, spare_of}
use Rattle.stack_engine.proofs.LeafCallLemmas.{makes-then}
use Rattle.stack_engine.proofs.ReadCallLemmas.{reads-as, reads-then}
use Rattle.stack_engine.proofs.SectorCallLemmas.{before-before}
use Rattle.stack_engine.proofs.BlockCallLemmas.{ahead, ahead-first, ahead-none, ahead-rest, block-front, block_size, blocks_in, nth_place, AloneUpTo, BlocksUpTo, WayUpTo}

module _ {D : Type 0} {does : D → Call → D → Type 0} {c : Configuration} {x : VerityPart} {n : ℕ} where
  -- ---- the block itself

  module _ {r j : ℕ} {out : List ℕ} {way : List ℕ × List ℕ} {old new : Served D} (h : WayUpTo does c x n r j out way old new) (w : ℕ) (w_is : w ≡ block_size x) (more : j < blocks_in x n) (whole : block_size x ≡ 512 * block_sectors x.verity.now) (end : j * block_size x + block_size x ≤ length out) where
    abbrev stood : List ℕ
    stood = take w (drop (j * block_size x) out)

    stood-is : take (block_size x) (drop (j * block_size x) out) ≡ stood
    stood-is = ap (λ (k : ℕ). take k (drop (j * block_size x) out)) (sym w_is)

    stood-wide : length stood ≡ block_size x
    stood-wide = length-take-le w (drop (j * block_size x) out) (omega (arith, end, w_is, length-drop (j * block_size x) out)) ∙ w_is

    starts : j * block_size x ≤ length out
    starts = omega (arith, end)

    stood-first : j < r → stood ++ drop (block_size x) (ahead (block_size x) r j out) ≡ ahead (block_size x) r j out
    stood-first low = ap (λ (l : List ℕ). l ++ drop (block_size x) (ahead (block_size x) r j out)) (sym stood-is) ∙ ahead-first (block_size x) r j out low

    -- it has another digest, and its spare can't be read
    pub block-unhealed : is_ignored x.verity.now way.0 ≡ false → j < r → (digest x.verity.now.salt stood ≡ way.0 → ⊥) → {to : Served D} (vain : IoFault) → ReadsBy does c (spare_of (nth_place x j) way.0) new to (Err vain) → Gives does c (Blocks x) n old to (Err (unhealed (io.Stack why.Mismatch) vain))
    block-unhealed used low other {to = to} vain got =
        h.later to (Err (unhealed (io.Stack why.Mismatch) vain)) (subst (λ (l : List ℕ). ReadsBy does c (data_of (nth_place x j) 0 way.0 way.1 (blocks_left (blocks_in x n - j) 0 l)) new to (Err (unhealed (io.Stack why.Mismatch) vain))) (stood-first low)
        (reads-as (λ calls a. next_differs (blocks_in x n - j) stood (drop (block_size x) (ahead (block_size x) r j out)) way.1 used (stood-wide ∙ whole) other a) got))

    block-on : {a : ℕ} {to : Served D} (block : List ℕ) → a ≤ j → length block ≡ block_size x
        → ((end : Served D) (answer : Result (List ℕ) IoFault) → ReadsBy does c (blocks_of (next_place (nth_place x j)) (blocks_in x n - (j + 1)) 0 (drop (block_size x) (ahead (block_size x) r j out))) to end answer → ReadsBy does c (data_of (nth_place x j) 0 way.0 way.1 (blocks_left (suc (blocks_in x n - (j + 1))) 0 (ahead (block_size x) r j out))) new end (bytes_before block answer))
        → BlocksUpTo does c x n r a (j + 1) (put_mid (j * block_size x) w out block) old to
    block-on {a = a} {to = to} block few wide step = record {
      later = λ end answer rest.
          let left : blocks_in x n - j ≡ suc (blocks_in x n - (j + 1)) = omega (arith, more) in
          let at : x.first / block_sectors x.verity.now + (j + 1) ≡ x.first / block_sectors x.verity.now + j + 1 = omega arith in
          let none : a - (j + 1) ≡ 0 = omega (arith, few) in
          let far : r - (a - (j + 1)) ≡ r = omega (arith, few) in
          let plain = subst (λ (k : ℕ). ReadsBy does c (blocks_of (nth_place x (j + 1)) (blocks_in x n - (j + 1)) 0 (ahead (block_size x) k (j + 1) (put_mid (j * block_size x) w out block))) to end answer) far
          (subst (λ (k : ℕ). ReadsBy does c (blocks_of (nth_place x (j + 1)) (blocks_in x n - (j + 1)) k (ahead (block_size x) (r - (a - (j + 1))) (j + 1) (put_mid (j * block_size x) w out block))) to end answer) none rest) in
          let later = subst (λ (k : ℕ). ReadsBy does c (blocks_of (place_at x k) (blocks_in x n - (j + 1)) 0 (drop (block_size x) (ahead (block_size x) r j out))) to end answer) at
          (subst (λ (l : List ℕ). ReadsBy does c (blocks_of (nth_place x (j + 1)) (blocks_in x n - (j + 1)) 0 l) to end answer) (sym (ahead-rest (block_size x) j w out block starts w_is wide r)) plain) in
          let all = h.later end (bytes_before block answer) (subst (λ (k : ℕ). ReadsBy does c (data_of (nth_place x j) 0 way.0 way.1 (blocks_left k 0 (ahead (block_size x) r j out))) new end (bytes_before block answer)) (sym left) (step end answer later)) in
          subst (λ (a : Result (List ℕ) IoFault). Gives does c (Blocks x) n old end a) (before-before (take (j * block_size x) out) block answer ∙ ap (λ (l : List ℕ). bytes_before l answer) (block-front (block_size x) j w out block starts w_is wide)) all;
    }

    -- it is ignored, or has the digest
    pub block-settled : {a : ℕ} (ignored : Bool) (block : List ℕ) → a ≤ j → ignored ≡ is_ignored x.verity.now way.0 → (ignored ≡ false → j < r) → (ignored ≡ true → block ≡ replicate (length stood) 0) → (ignored ≡ false → (digest x.verity.now.salt stood ≡ way.0) × (block ≡ stood))
        → BlocksUpTo does c x n r a (j + 1) (put_mid (j * block_size x) w out block) old new
    block-settled {a = a} true block few is low zeros good =
        subst (λ (b : List ℕ). BlocksUpTo does c x n r a (j + 1) (put_mid (j * block_size x) w out b) old new) (sym (zeros refl ∙ ap (λ (k : ℕ). replicate k 0) stood-wide))
        (block-on (zero_block x.verity.now) few (length-replicate (block_size x) 0) (λ end answer rest. reads-as (λ calls a. next_ignored way.1 (sym is) a) rest))
    block-settled {a = a} false block few is low zeros good =
        subst (λ (b : List ℕ). BlocksUpTo does c x n r a (j + 1) (put_mid (j * block_size x) w out b) old new) (sym (good refl).1)
        (block-on stood few stood-wide (λ end answer rest.
        subst (λ (l : List ℕ). ReadsBy does c (data_of (nth_place x j) 0 way.0 way.1 (blocks_left (suc (blocks_in x n - (j + 1))) 0 l)) new end (bytes_before stood answer)) (stood-first (low refl))
        (reads-as (λ calls a. next_checked stood way.1 (sym is) (stood-wide ∙ whole, (good refl).0) a) rest)))

    -- or its spare is in its place
    pub block-mended : {a : ℕ} → a ≤ j → is_ignored x.verity.now way.0 ≡ false → j < r → (digest x.verity.now.salt stood ≡ way.0 → ⊥) → {to : Served D} (spare : List ℕ) → length spare ≡ block_size x → ReadsBy does c (spare_of (nth_place x j) way.0) new to (Ok spare)
        → BlocksUpTo does c x n r a (j + 1) (put_mid (j * block_size x) w out spare) old (after_spare {A = List ℕ} (Ok spare) to)
    block-mended few used low other {to = to} spare wide got =
        block-on spare few wide (λ end answer rest.
        subst (λ (l : List ℕ). ReadsBy does c (data_of (nth_place x j) 0 way.0 way.1 (blocks_left (suc (blocks_in x n - (j + 1))) 0 l)) new end (bytes_before spare answer)) (stood-first low)
        (record { made = makes-then (λ calls later a b. next_healed stood way.1 used (stood-wide ∙ whole) other a b) got.made rest.made }))

  -- it is read alone
  module _ {a j : ℕ} {out : List ℕ} {way : List ℕ × List ℕ} {old new : Served D} (h : AloneUpTo does c x n (a - j) j out way old new) (lone : j < a) where
    one-less : a - j ≡ suc (a - (j + 1))
    one-less = omega (arith, lone)

    pub alone-ended : {fault : IoFault} {to : Served D} → ReadsBy does c (data_of (nth_place x j) 0 way.0 way.1 one_block) new to (Err fault) → Gives does c (Blocks x) n old to (Err fault)
    alone-ended {fault = fault} {to = to} got =
        h.later to (Err fault) (subst (λ (k : ℕ). ReadsBy does c (data_of (nth_place x j) 0 way.0 way.1 (blocks_left (blocks_in x n - j) k [])) new to (Err fault)) (sym one-less)
        (reads-as (λ calls b. next_unread (blocks_in x n - j) (a - (j + 1)) b) got))

    pub alone-on : {r : ℕ} (w : ℕ) → w ≡ block_size x → j < blocks_in x n → j * block_size x + block_size x ≤ length out → r ≤ a → {to : Served D} (block : List ℕ) → length block ≡ block_size x
        → ReadsBy does c (data_of (nth_place x j) 0 way.0 way.1 one_block) new to (Ok block) → BlocksUpTo does c x n r a (j + 1) (put_mid (j * block_size x) w out block) old to
    alone-on {r = r} w w_is more fits few {to = to} block wide got = record {
      later = λ end answer rest.
          let all : List ℕ = put_mid (j * block_size x) w out block in
          let left : blocks_in x n - j ≡ suc (blocks_in x n - (j + 1)) = omega (arith, more) in
          let at : x.first / block_sectors x.verity.now + (j + 1) ≡ x.first / block_sectors x.verity.now + j + 1 = omega arith in
          let none : ahead (block_size x) (r - (a - (j + 1))) (j + 1) all ≡ [] = ahead-none (block_size x) (r - (a - (j + 1))) (j + 1) all (omega (arith, few, lone)) in
          let later = subst (λ (k : ℕ). ReadsBy does c (blocks_of (place_at x k) (blocks_in x n - (j + 1)) (a - (j + 1)) []) to end answer) at
          (subst (λ (l : List ℕ). ReadsBy does c (blocks_of (nth_place x (j + 1)) (blocks_in x n - (j + 1)) (a - (j + 1)) l) to end answer) none rest) in
          let one : ReadsBy does c (data_of (nth_place x j) 0 way.0 way.1 (blocks_left (suc (blocks_in x n - (j + 1))) (suc (a - (j + 1))) [])) new end (bytes_before block answer) = reads-then (λ calls later b d. next_alone b d) got later in
          let both = h.later end (bytes_before block answer) (subst (λ (k : ℕ). ReadsBy does c (data_of (nth_place x j) 0 way.0 way.1 (blocks_left k (a - j) [])) new end (bytes_before block answer)) (sym left)
          (subst (λ (k : ℕ). ReadsBy does c (data_of (nth_place x j) 0 way.0 way.1 (blocks_left (suc (blocks_in x n - (j + 1))) k [])) new end (bytes_before block answer)) (sym one-less) one)) in
          subst (λ (y : Result (List ℕ) IoFault). Gives does c (Blocks x) n old end y) (before-before (take (j * block_size x) out) block answer ∙ ap (λ (l : List ℕ). bytes_before l answer) (block-front (block_size x) j w out block (omega (arith, fits)) w_is wide)) both;
    }
