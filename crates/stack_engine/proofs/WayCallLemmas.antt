-- Calls of reads of blocks on the way to data of a `verity` line.
use Rattle.std.proofs.Common.{◌≡◌, ℕ, suc, ◌+◌, ◌-◌, ◌*◌, ◌/◌, ◌<◌, ◌≤◌, Bool, IsTrue, true, false, List, [], ◌∷◌, ◌++◌, length, get_or, Option, Some, Result, Ok, Err, inl, inr, refl, sym, ap, ◌∙◌, subst, arith}
use Rattle.std.specs.Prelude.{IfErr, nat_lt}
use Rattle.std.proofs.lemmas.Bool.{cases_lt}
use Rattle.hash_tree.specs.Chain.{ChainRecord, IsGood}
use Rattle.tree_shape.specs.Digests.{digest}
use Rattle.tree_shape.specs.Shape.{ancestor, slot}
use Rattle.block_device.specs.Call.{Call}
use Rattle.stack_rules.specs.declared.lower.Lower.{Lower}
use Rattle.stack_rules.specs.Records.{Configuration}
use Rattle.stack_rules.specs.Trees.{tree_of, block_sectors}
use Rattle.stack_meaning.specs.Blocks.{next_digest, is_ignored}
use Rattle.stack_meaning.specs.declared.fault.Fault.TheVariants as why
use Rattle.stack_meaning.specs.declared.fault.IoFault.{IoFault}
use Rattle.stack_meaning.specs.declared.fault.IoFault.TheVariants as io
use Rattle.stack_lines.specs.declared.source.Source.TheVariants.{Below, Block}
use Rattle.stack_lines.specs.declared.source.VerityPart.{VerityPart}
use Rattle.stack_lines.specs.declared.tree.Extent.{Extent}
use Rattle.stack_lines.specs.declared.tree.Tree.{Tree}
use Rattle.stack_lines.specs.Walks.{IsBlockOfDigest}
use Rattle.verified_cache.specs.Cache.{CachedBlock}
use Rattle.stack_engine.specs.LeafCalls.{LeafCall}
use Rattle.stack_engine.specs.Restored.{Served, after_spare, restored_after}
use Rattle.stack_engine.specs.SectorCalls.{AreReadTogether, DataPlace, digest_after, DataRead, ExpectedBlock, Gives, LeadsTo, ReadCalls, ReadOf, ReadsBy, block_of, block_part, data_of, expected_data, expected_hash, hash_at, hash_of, last_bytes, asked_of, one_asked, one_block, one_kept, one_fetched, place_at, place_in, spare_of, whole_data, chain_found, data_read, data_unread, data_full, block_checked, block_differs, block_unread, hash_read, way_had, way_healed, way_lost, way_of, way_down, way_stops, way_full, one_read, one_healed}
use Rattle.stack_engine.specs.Healing.{IsHealed, IsSettled, healed_result}
use Rattle.stack_engine.proofs.LeafCallLemmas.{makes-then}
use Rattle.stack_engine.proofs.ReadCallLemmas.{reads-none, reads-as, reads-then}

-- the last block of a path
pub last-push : (path : List CachedBlock) (x : CachedBlock) → last_bytes (path ++ (x ∷ [])) ≡ x.bytes
last-push [] x = refl
last-push (y ∷ []) x = refl
last-push (y ∷ (z ∷ path)) x = last-push (z ∷ path) x

pub last-get : (path : List CachedBlock) (x : CachedBlock) → 0 < length path → last_bytes path ≡ (get_or path (length path - 1) x).bytes
last-get [] x some = absurd (omega (arith, some))
last-get (y ∷ []) x some = refl
last-get (y ∷ (z ∷ path)) x some =
    let one : length (y ∷ (z ∷ path)) - 1 ≡ suc (length (z ∷ path) - 1) = omega arith in
    last-get (z ∷ path) x (omega arith) ∙ sym (ap (λ (k : ℕ). (get_or (y ∷ (z ∷ path)) k x).bytes) one)

-- a block more, of which the last hash block has the digest, and which isn't ignored
pub together-more : {p : DataPlace} {last : List ℕ} {left many : ℕ} → many < left → (p.verity.ignore_zero_blocks ≡ true → 32 * (slot (tree_of p.verity) (ancestor (tree_of p.verity) 0 p.index) + many) + 32 ≤ length last) → is_ignored p.verity (digest_after p last many) ≡ false
    → AreReadTogether p last left many → AreReadTogether p last left (many + 1)
together-more {p = p} {last = last} {many = many} more here unlike h = record {
  some = omega arith;
  most = omega (arith, more);
  known = λ k low high on. elim (cases_lt k many) [
    | inl less ↦ h.known k low less on
    | inr most ↦ let same : many ≡ k = omega (arith, most, high) in subst (λ (i : ℕ). 32 * (slot (tree_of p.verity) (ancestor (tree_of p.verity) 0 p.index) + i) + 32 ≤ length last) same (here on)
  ];
  used = λ k low high. elim (cases_lt k many) [
    | inl less ↦ h.used k low less
    | inr most ↦ let same : many ≡ k = omega (arith, most, high) in subst (λ (i : ℕ). is_ignored p.verity (digest_after p last i) ≡ false) same unlike
  ];
}

-- a place by the tree of a part's line is the part's place
pub place-same : (x : VerityPart) (tree : Tree) (i : ℕ) {hash parity : Option Lower} → hash ≡ Some tree.hash → hash ≡ Some x.hash → tree.data ≡ x.data → parity ≡ tree.parity → parity ≡ x.parity → place_in x.verity.now tree i ≡ place_at x i
place-same x tree i is own under stored kept =
    let both : Some tree.hash ≡ Some x.hash = sym is ∙ own in
    let same : tree.hash ≡ x.hash = cc in
    ap {B = DataPlace} (λ (l : Lower). record { verity = x.verity.now; on_data = l; on_hash = tree.hash; on_parity = tree.parity; index = i }) under
    ∙ ap {B = DataPlace} (λ (l : Lower). record { verity = x.verity.now; on_data = x.data; on_hash = l; on_parity = tree.parity; index = i }) same
    ∙ ap {B = DataPlace} (λ (l : Option Lower). record { verity = x.verity.now; on_data = x.data; on_hash = x.hash; on_parity = l; index = i }) (sym stored ∙ kept)

pub place-turn : (x : VerityPart) (tree : Tree) (i j : ℕ) {hash parity : Option Lower} → hash ≡ Some tree.hash → hash ≡ Some x.hash → tree.data ≡ x.data → parity ≡ tree.parity → parity ≡ x.parity → i ≡ x.first / block_sectors x.verity.now + j → place_in x.verity.now tree i ≡ place_at x (x.first / block_sectors x.verity.now + j)
place-turn x tree i j is own under stored kept index = place-same x tree i is own under stored kept ∙ ap (λ (k : ℕ). place_at x k) index

module _ {D : Type 0} {does : D → Call → D → Type 0} {c : Configuration} where
  -- ---- an expected block

  -- of a place
  pub reads-expected : {x y : ExpectedBlock} {old new : Served D} {answer : Result (List ℕ) IoFault} (of : ExpectedBlock → ReadOf) → x ≡ y → ReadsBy does c (of x) old new answer → ReadsBy does c (of y) old new answer
  reads-expected {old = old} {new = new} {answer = answer} of same h = subst (λ (x : ExpectedBlock). ReadsBy does c (of x) old new answer) same h

  pub checked-given : {e : Extent} {n : ℕ} {salt expected bytes : List ℕ} {old new : Served D} → n ≡ e.sectors → digest salt bytes ≡ expected → Gives does c (Below e.lower e.first) n old new (Ok bytes)
      → ReadsBy does c (block_of (record { extent = e; salt = salt; digest = expected })) old new (Ok bytes)
  checked-given {e = e} {bytes = bytes} {old = old} {new = new} count good h = reads-as (λ calls a. block_checked a good) (subst (λ (k : ℕ). Gives does c (Below e.lower e.first) k old new (Ok bytes)) count h)

  pub differs-given : {e : Extent} {n : ℕ} {salt expected bytes : List ℕ} {old new : Served D} → n ≡ e.sectors → (digest salt bytes ≡ expected → ⊥) → Gives does c (Below e.lower e.first) n old new (Ok bytes)
      → ReadsBy does c (block_of (record { extent = e; salt = salt; digest = expected })) old new (Err (io.Stack why.Mismatch))
  differs-given {e = e} {bytes = bytes} {old = old} {new = new} count other h = reads-as (λ calls a. block_differs a other) (subst (λ (k : ℕ). Gives does c (Below e.lower e.first) k old new (Ok bytes)) count h)

  pub block-ungiven : {e : Extent} {n : ℕ} {salt expected : List ℕ} {fault : IoFault} {old new : Served D} → n ≡ e.sectors → Gives does c (Below e.lower e.first) n old new (Err fault)
      → ReadsBy does c (block_of (record { extent = e; salt = salt; digest = expected })) old new (Err fault)
  block-ungiven {e = e} {fault = fault} {old = old} {new = new} count h = reads-as (λ calls a. block_unread a) (subst (λ (k : ℕ). Gives does c (Below e.lower e.first) k old new (Err fault)) count h)

  pub hash-given : {x : ExpectedBlock} {old new : Served D} {answer : Result (List ℕ) IoFault} → ReadsBy does c (block_of x) old new answer → ReadsBy does c (hash_of x) old new answer
  hash-given h = reads-as (λ calls a. hash_read a) h

  -- calls after which the spare that they read is counted
  counted : {what rest both : ReadOf} {old mid new : Served D} {answer spare end : Result (List ℕ) IoFault} → ((calls more : List LeafCall) → ReadCalls c what calls old.restored mid.restored answer → ReadCalls c rest more mid.restored new.restored spare → ReadCalls c both (calls ++ more) old.restored (restored_after spare new.restored) end)
      → ReadsBy does c what old mid answer → ReadsBy does c rest mid new spare → ReadsBy does c both old (after_spare spare new) end
  counted both h k = record { made = makes-then both h.made k.made }

  -- ---- a hash block on the way

  pub way-had : {p : DataPlace} {l : ℕ} {expected : List ℕ} {old new : Served D} {answer : Result (List ℕ) IoFault} → IfErr answer (IsSettled p.verity.parity) → ReadsBy does c (hash_of (expected_hash p l expected)) old new answer → ReadsBy does c (way_of p l expected) old new answer
  way-had settled h = reads-as (λ calls a. way_had settled a) h

  pub way-healed : {p : DataPlace} {l : ℕ} {expected : List ℕ} {fault : IoFault} {old mid new : Served D} {spare : Result (List ℕ) IoFault} → IsHealed p.verity.parity fault → ReadsBy does c (hash_of (expected_hash p l expected)) old mid (Err fault) → ReadsBy does c (spare_of (hash_at p l) expected) mid new spare
      → ReadsBy does c (way_of p l expected) old (after_spare spare new) (healed_result fault spare)
  way-healed heals h got = counted (λ calls later a b. way_healed heals a b) h got

  pub way-ungiven : {p : DataPlace} {l : ℕ} {expected bytes : List ℕ} {old new : Served D} → ReadsBy does c (way_of p l expected) old new (Ok bytes) → ReadsBy does c (way_of p l expected) old new (Err io.NoMemory)
  way-ungiven h = reads-as (λ calls a. way_lost a) h

  -- ---- the way

  pub leads-begin : (what : ReadOf) {old : Served D} → LeadsTo does c what what old old
  leads-begin what = record { later = λ new answer h. h }

  pub way-led : (n l : ℕ) (block : List ℕ) {what : ReadOf} {p : DataPlace} {expected last : List ℕ} {next : DataRead} {old mid new : Served D} → n ≡ suc l → LeadsTo does c what (data_of p n expected last next) old mid → ReadsBy does c (way_of p l expected) mid new (Ok block)
      → LeadsTo does c what (data_of p l (next_digest p.verity l p.index block) block next) old new
  way-led n l block {p = p} {expected = expected} {last = last} {next = next} {mid = mid} above led got = record {
    later = λ end answer rest. led.later end answer (subst (λ (k : ℕ). ReadsBy does c (data_of p k expected last next) mid end answer) (sym above) (reads-then (λ calls later a b. way_down a b) got rest));
  }

  pub way-unled : (n l : ℕ) {what : ReadOf} {p : DataPlace} {expected last : List ℕ} {next : DataRead} {old mid new : Served D} {fault : IoFault} → n ≡ suc l → LeadsTo does c what (data_of p n expected last next) old mid → ReadsBy does c (way_of p l expected) mid new (Err fault)
      → ReadsBy does c what old new (Err fault)
  way-unled n l {p = p} {expected = expected} {last = last} {next = next} {mid = mid} {new = new} {fault = fault} above led got =
      led.later new (Err fault) (subst (λ (k : ℕ). ReadsBy does c (data_of p k expected last next) mid new (Err fault)) (sym above) (reads-as (λ calls a. way_stops last next a) got))

  pub way-short : {what : ReadOf} {p : DataPlace} {l : ℕ} {expected last : List ℕ} {next : DataRead} {old mid : Served D} → LeadsTo does c what (data_of p l expected last next) old mid → ReadsBy does c what old mid (Err io.NoMemory)
  way-short {p = p} {l = l} {expected = expected} {last = last} {next = next} {mid = mid} led = led.later mid (Err io.NoMemory) (reads-none (way_full p l expected last next))

  -- the data at its end
  pub way-ended : (n : ℕ) {what : ReadOf} {p : DataPlace} {expected last : List ℕ} {next : DataRead} {old mid new : Served D} {answer : Result (List ℕ) IoFault} → n ≡ 0 → LeadsTo does c what (data_of p n expected last next) old mid → ReadsBy does c (data_of p 0 expected last next) mid new answer
      → ReadsBy does c what old new answer
  way-ended n {p = p} {expected = expected} {last = last} {next = next} {mid = mid} {new = new} {answer = answer} none led got = led.later new answer (subst (λ (k : ℕ). ReadsBy does c (data_of p k expected last next) mid new answer) (sym none) got)

  -- ---- one data block

  pub one-given : {p : DataPlace} {e : Extent} {expected : List ℕ} {old new : Served D} {answer : Result (List ℕ) IoFault} (last : List ℕ) → is_ignored p.verity expected ≡ false → e ≡ (expected_data p expected).extent → IfErr answer (IsSettled p.verity.parity)
      → ReadsBy does c (block_of (record { extent = e; salt = p.verity.salt; digest = expected })) old new answer → ReadsBy does c (data_of p 0 expected last one_block) old new answer
  one-given {p = p} {expected = expected} {old = old} {new = new} {answer = answer} last used at settled h =
      reads-as (λ calls a. one_read last used settled a) (subst (λ (x : Extent). ReadsBy does c (block_of (record { extent = x; salt = p.verity.salt; digest = expected })) old new answer) at h)

  -- by its spare
  pub one-healed : {p : DataPlace} {e : Extent} {expected : List ℕ} {fault : IoFault} {old mid new : Served D} {spare : Result (List ℕ) IoFault} (last : List ℕ) → is_ignored p.verity expected ≡ false → IsHealed p.verity.parity fault → e ≡ (expected_data p expected).extent
      → ReadsBy does c (block_of (record { extent = e; salt = p.verity.salt; digest = expected })) old mid (Err fault) → ReadsBy does c (spare_of p expected) mid new spare → ReadsBy does c (data_of p 0 expected last one_block) old (after_spare spare new) (healed_result fault spare)
  one-healed {p = p} {expected = expected} {fault = fault} {old = old} {mid = mid} last used heals at h got =
      counted (λ calls later a b. one_healed last used heals a b) (subst (λ (x : Extent). ReadsBy does c (block_of (record { extent = x; salt = p.verity.salt; digest = expected })) old mid (Err fault)) at h) got

  -- of all of it, or of a part of it alone
  pub one-asked : {p : DataPlace} {expected last : List ℕ} {old new : Served D} {answer : Result (List ℕ) IoFault} (part : Bool) → ReadsBy does c (data_of p 0 expected last one_block) old new answer → ReadsBy does c (data_of p 0 expected last (one_asked part)) old new answer
  one-asked true h = reads-as (λ calls a. one_fetched a) h
  one-asked false h = h

  -- of a part of it, from the kept one
  pub one-kept : (p : DataPlace) {expected : List ℕ} (last bytes : List ℕ) {old : Served D} (part : Bool) → IsTrue part → is_ignored p.verity expected ≡ false → IsBlockOfDigest (block_sectors p.verity) p.verity.salt expected bytes → ReadsBy does c (data_of p 0 expected last (one_asked part)) old old (Ok bytes)
  one-kept p last bytes true is used good = reads-none (one_kept p last bytes used good)
  one-kept p last bytes false is used good = absurd cc

  -- of a part
  module _ (x : VerityPart) (n : ℕ) {p : DataPlace} {s : ℕ} (sectors : s ≡ block_sectors x.verity.now) (same : p ≡ place_at x (x.first / s)) {part : Bool} (is_part : part ≡ nat_lt n s) where
    here : {old new : Served D} {answer : Result (List ℕ) IoFault} → ReadsBy does c (whole_data p (one_asked part)) old new answer → ReadsBy does c (whole_data (place_at x (x.first / block_sectors x.verity.now)) (asked_of x n)) old new answer
    here {old = old} {new = new} {answer = answer} h = subst (λ (b : Bool). ReadsBy does c (whole_data (place_at x (x.first / block_sectors x.verity.now)) (one_asked b)) old new answer) (is_part ∙ ap (nat_lt n) sectors)
        (subst (λ (q : DataPlace). ReadsBy does c (whole_data q (one_asked part)) old new answer) (same ∙ ap (λ (k : ℕ). place_at x (x.first / k)) sectors) h)

    pub data-given : {content bytes : List ℕ} {old new : Served D} → bytes ≡ block_part x n content → ReadsBy does c (whole_data p (one_asked part)) old new (Ok content) → Gives does c (Block x) n old new (Ok bytes)
    data-given {old = old} {new = new} is h = subst (λ (b : List ℕ). Gives does c (Block x) n old new (Ok b)) (sym is) (reads-as (λ calls a. data_read n a) (here h))

    pub data-ungiven : {fault : IoFault} {old new : Served D} → ReadsBy does c (whole_data p (one_asked part)) old new (Err fault) → Gives does c (Block x) n old new (Err fault)
    data-ungiven h = reads-as (λ calls a. data_unread n a) (here h)

    pub data-short : {content : List ℕ} {old new : Served D} → ReadsBy does c (whole_data p (one_asked part)) old new (Ok content) → Gives does c (Block x) n old new (Err io.NoMemory)
    data-short h = reads-as (λ calls a. data_full n a) (here h)

  pub chain-given : (x : VerityPart) (n : ℕ) {bytes : List ℕ} {old : Served D} (chain : ChainRecord) → bytes ≡ block_part x n chain.content → chain.index ≡ x.first / block_sectors x.verity.now → IsGood (tree_of x.verity.now) x.verity.now.salt x.verity.now.root chain → Gives does c (Block x) n old old (Ok bytes)
  chain-given x n {old = old} chain is number good = subst (λ (b : List ℕ). Gives does c (Block x) n old old (Ok b)) (sym is) (reads-none (chain_found n chain number good))
