-- A tree that is handed over, call after call.
use Rattle.std.proofs.Common.{◌≡◌, ◌+◌, ◌-◌, ◌*◌, ◌/◌, ◌≤◌, ◌++◌, ◌∷◌, ◌∙◌, [], ℕ, Bool, true, false, suc, IsTrue, List, length, map, take, refl, sym, ap, subst, arith, inl, inr}
use Rattle.std.proofs.Math.Nat.{zero-mul}
use Rattle.std.proofs.lemmas.List.{append_assoc, append-nil, length-append}
use Rattle.block_device.specs.Call.{Call, Calls, Read, Sync, Write}
use Rattle.block_device.specs.CallList.{all_read}
use Rattle.block_device.proofs.lemmas.CallLemmas.{calls-append, calls-last}
use Rattle.tree_shape.specs.Digests.{digest}
use Rattle.tree_shape.specs.Shape.{ShapeRecord}
use Rattle.hash_tree.specs.Building.{BuilderRecord, PlacedRecord, begun_builder, built_root, completed, last_completed, pushed}
use Rattle.hash_tree.specs.Tree.{cut}
use Rattle.hash_tree.proofs.lemmas.BuilderLemmas.{completed-append, completed-none, left-begun, left-pushed, pushed-append, pushed-none}
use Rattle.verity_format.specs.Handing.{AreReadsFrom, AsksOnce, GivesRun, HandsBlocks, HandsGrowth, HandsPart, HandsSome, HandsTree, TakesGrowth, digests_read, tree_blocks, writes_of}
use Rattle.verity_format.specs.Image.{data_sectors}
use Rattle.verity_format.proofs.lemmas.RunLemmas.{sectors-more}

pub writes-append : (size : ℕ) (ps qs : List PlacedRecord) → writes_of size (ps ++ qs) ≡ writes_of size ps ++ writes_of size qs
writes-append size [] qs = refl
writes-append size (p ∷ ps) qs = ap (λ (calls : List Call). Write (p.block * (size / 512)) p.bytes true ∷ calls) (writes-append size ps qs)

pub digests-last : (salt : List ℕ) (size : ℕ) (calls : List Call) (first : ℕ) (bytes : List ℕ) (ok : Bool)
    → digests_read salt size (calls ++ Read first bytes ok ∷ []) ≡ digests_read salt size calls ++ map (digest salt) (cut size bytes)
digests-last salt size [] first bytes ok = append-nil (map (digest salt) (cut size bytes))
digests-last salt size (Read at given well ∷ more) first bytes ok =
    ap (λ (ds : List (List ℕ)). map (digest salt) (cut size given) ++ ds) (digests-last salt size more first bytes ok)
    ∙ sym (append_assoc (map (digest salt) (cut size given)) (digests_read salt size more) (map (digest salt) (cut size bytes)))
digests-last salt size (Write at given well ∷ more) first bytes ok = digests-last salt size more first bytes ok
digests-last salt size (Sync well ∷ more) first bytes ok = digests-last salt size more first bytes ok

pub in_order-last : (at : ℕ) (calls : List Call) (first : ℕ) (bytes : List ℕ) → AreReadsFrom at calls → first ≡ at + all_read calls → AreReadsFrom at (calls ++ Read first bytes true ∷ [])
in_order-last at [] first bytes h is = (omega (arith, is), refl, tt)
in_order-last at (Read begin given ok ∷ more) first bytes h is = (h.0, h.1, in_order-last (at + length given / 512) more first bytes h.2 (omega (arith, is)))
in_order-last at (Write begin given ok ∷ more) first bytes h is = absurd h
in_order-last at (Sync ok ∷ more) first bytes h is = absurd h

pub all_read-last : (calls : List Call) (first : ℕ) (bytes : List ℕ) (ok : Bool) → all_read (calls ++ Read first bytes ok ∷ []) ≡ all_read calls + length bytes / 512
all_read-last [] first bytes ok = omega arith
all_read-last (Read at given well ∷ more) first bytes ok = omega (arith, all_read-last more first bytes ok)
all_read-last (Write at given well ∷ more) first bytes ok = omega (arith, all_read-last more first bytes ok)
all_read-last (Sync well ∷ more) first bytes ok = omega (arith, all_read-last more first bytes ok)

pub take-behind : (ps qs : List PlacedRecord) (n : ℕ) → take (length ps + n) (ps ++ qs) ≡ ps ++ take n qs
take-behind [] qs n = ap (λ (k : ℕ). take k qs) (omega arith)
take-behind (p ∷ ps) qs n =
    let next : length (p ∷ ps) + n ≡ suc (length ps + n) = omega arith in
    ap (λ (k : ℕ). take k (p ∷ (ps ++ qs))) next ∙ ap (λ (rest : List PlacedRecord). p ∷ rest) (take-behind ps qs n)

-- blocks that were written, and the first of some more
pub some-then : {H : Type 0} (does : H → Call → H → Type 0) (size : ℕ) (ps out : List PlacedRecord) (a b c : H) → Calls does a (writes_of size ps) b → HandsSome does size out b c → HandsSome does size (ps ++ out) a c
some-then does size ps out a b c done some =
    let call : Call = Write (some.last.block * (size / 512)) some.last.bytes false in
    record {
      number = length ps + some.number;
      before = ps ++ some.before;
      last = some.last;
      first_are = take-behind ps out some.number ∙ ap (λ (rest : List PlacedRecord). ps ++ rest) some.first_are ∙ sym (append_assoc ps some.before (some.last ∷ []));
      made =
          subst (λ (calls : List Call). Calls does a calls c)
          (sym (append_assoc (writes_of size ps) (writes_of size some.before) (call ∷ [])) ∙ ap (λ (calls : List Call). calls ++ call ∷ []) (sym (writes-append size ps some.before)))
          (calls-append does a b c (writes_of size ps) (writes_of size some.before ++ call ∷ []) done some.made);
    }

module _ {D : Type 0} (asks : D → Call → D → Type 0) (s : ShapeRecord) (salt : List ℕ) where
  -- no data block yet
  abbrev pub taken-begun : (d : D) → TakesGrowth asks s salt d d (begun_builder s salt)
  taken-begun d = record {
    reads = [];
    in_order = tt;
    count = sym (zero-mul (s.data_block / 512));
    few = omega arith;
    after = sym (pushed-none (begun_builder s salt));
    asked = refl;
  }

  -- once all data blocks were read
  pub count-all : (d d' : D) (x : BuilderRecord) (here : TakesGrowth asks s salt d d' x) → x.left ≡ 0 → length (digests_read salt s.data_block here.reads) ≡ s.blocks
  count-all d d' x here none =
      let ds = digests_read salt s.data_block here.reads in
      let left : x.left ≡ s.blocks - length ds = ap (λ (b : BuilderRecord). b.left) here.after ∙ left-pushed (begun_builder s salt) ds ∙ ap (λ (n : ℕ). n - length ds) (left-begun s salt) in
      omega (arith, left, none, here.few)

  -- a run more
  module _ (d d' : D) (x : BuilderRecord) (here : TakesGrowth asks s salt d d' x) (d'' : D) (y : BuilderRecord) (out : List PlacedRecord) (run : GivesRun asks s salt d' d'' x y out) where
    abbrev pub ds : List (List ℕ)
    ds = digests_read salt s.data_block here.reads

    pub left-growth : x.left ≡ s.blocks - length ds
    left-growth = ap (λ (b : BuilderRecord). b.left) here.after ∙ left-pushed (begun_builder s salt) ds ∙ ap (λ (n : ℕ). n - length ds) (left-begun s salt)

    abbrev pub call : Call
    call = Read ((s.blocks - x.left) * (s.data_block / 512)) run.given.bytes true

    abbrev pub next_reads : List Call
    next_reads = here.reads ++ call ∷ []

    pub next_digests : digests_read salt s.data_block next_reads ≡ ds ++ run.digests
    next_digests = digests-last salt s.data_block here.reads _ run.given.bytes true ∙ ap (λ (more : List (List ℕ)). ds ++ more) (sym (run.given.are refl))

    pub next_order : AreReadsFrom 0 next_reads
    next_order =
        let at : s.blocks - x.left ≡ length ds = omega (arith, left-growth, here.few) in
        let same : (s.blocks - x.left) * (s.data_block / 512) ≡ length ds * (s.data_block / 512) = ap (λ (n : ℕ). n * (s.data_block / 512)) at in
        in_order-last 0 here.reads _ run.given.bytes here.in_order (omega (arith, same, here.count))

    abbrev pub taken-more : TakesGrowth asks s salt d d'' y
    taken-more =
        let sum : length (digests_read salt s.data_block next_reads) ≡ length ds + length run.digests = ap length next_digests ∙ length-append ds run.digests in
        record {
          reads = next_reads;
          in_order = next_order;
          count =
              all_read-last here.reads _ run.given.bytes true
              ∙ omega (arith, here.count, run.given.sectors, sectors-more s.data_block (length ds) (length run.digests) (length (digests_read salt s.data_block next_reads)) (sym sum));
          few = omega (arith, sum, left-growth, run.few, here.few);
          after =
              run.after ∙ ap (λ (b : BuilderRecord). pushed b run.digests) here.after ∙ sym (pushed-append (begun_builder s salt) ds run.digests)
              ∙ ap (pushed (begun_builder s salt)) (sym next_digests);
          asked = calls-last asks d d' d'' here.reads call here.asked run.given.made;
        }

    pub next_blocks : completed (begun_builder s salt) (digests_read salt s.data_block taken-more.reads) ≡ completed (begun_builder s salt) ds ++ out
    next_blocks =
        ap (completed (begun_builder s salt)) next_digests
        ∙ completed-append (begun_builder s salt) ds run.digests
        ∙ ap (λ (b : BuilderRecord). completed (begun_builder s salt) ds ++ completed b run.digests) (sym here.after)
        ∙ ap (λ (ps : List PlacedRecord). completed (begun_builder s salt) ds ++ ps) (sym run.placed)

module _ {D H : Type 0} (asks : D → Call → D → Type 0) (does : H → Call → H → Type 0) (s : ShapeRecord) (salt : List ℕ) where
  pub growth-none : (d : D) (h : H) → HandsGrowth asks does s salt d h d h (begun_builder s salt)
  growth-none d h = record {
    taken = taken-begun asks s salt d;
    handed = subst (λ (ps : List PlacedRecord). Calls does h (writes_of s.hash_block ps) h) (sym (completed-none (begun_builder s salt))) refl;
  }

  -- nothing was asked yet
  pub stopped-none : (d : D) (h : H) → HandsPart asks does s salt d h d h
  stopped-none d h = record {
    reads = [];
    in_order = tt;
    between = d;
    asked = refl;
    rest = record { calls = []; reads = tt; few = omega arith; made = refl };
    stopped = inl (subst (λ (ps : List PlacedRecord). Calls does h (writes_of s.hash_block ps) h) (sym (completed-none (begun_builder s salt))) refl);
  }

  module _ (d : D) (h : H) (d' : D) (h' : H) (x : BuilderRecord) (here : HandsGrowth asks does s salt d h d' h' x) where
    abbrev written_digests : List (List ℕ)
    written_digests = digests_read salt s.data_block here.taken.reads

    -- at most one read more, and no write
    pub stopped-asked : (d'' : D) → AsksOnce asks d' d'' → HandsPart asks does s salt d h d'' h'
    stopped-asked d'' rest = record { reads = here.taken.reads; in_order = here.taken.in_order; between = d'; asked = here.taken.asked; rest = rest; stopped = inl here.handed }

    module _ (d'' : D) (y : BuilderRecord) (out : List PlacedRecord) (run : GivesRun asks s salt d' d'' x y out) where
      -- the blocks of a run more, all of them
      pub growth-then : (h'' : H) → Calls does h' (writes_of s.hash_block out) h'' → HandsGrowth asks does s salt d h d'' h'' y
      growth-then h'' done =
          record {
            taken = taken-more asks s salt d d' x here.taken d'' y out run;
            handed =
                subst (λ (calls : List Call). Calls does h calls h'')
                (sym (writes-append s.hash_block (completed (begun_builder s salt) written_digests) out) ∙ ap (writes_of s.hash_block) (sym (next_blocks asks s salt d d' x here.taken d'' y out run)))
                (calls-append does h h' h'' (writes_of s.hash_block (completed (begun_builder s salt) written_digests)) (writes_of s.hash_block out) here.handed done);
          }

      -- the first of them, the last of these in vain
      pub stopped-run : (h'' : H) → HandsSome does s.hash_block out h' h'' → HandsPart asks does s salt d h d'' h''
      stopped-run h'' some =
          let next = taken-more asks s salt d d' x here.taken d'' y out run in
          record {
            reads = next.reads;
            in_order = next.in_order;
            between = d'';
            asked = next.asked;
            rest = record { calls = []; reads = tt; few = omega arith; made = refl };
            stopped =
                inr (inl (subst (λ (ps : List PlacedRecord). HandsSome does s.hash_block ps h h'') (sym (next_blocks asks s salt d d' x here.taken d'' y out run))
                (some-then does s.hash_block (completed (begun_builder s salt) written_digests) out h h' h'' here.handed some)));
          }

    -- once all data blocks were read
    module _ (none : x.left ≡ 0) (out : List PlacedRecord) (is : out ≡ last_completed x) where
      all_blocks : completed (begun_builder s salt) written_digests ++ out ≡ tree_blocks s salt written_digests
      all_blocks = ap (λ (ps : List PlacedRecord). completed (begun_builder s salt) written_digests ++ ps) (is ∙ ap last_completed here.taken.after)

      pub stopped-last : (h'' : H) → HandsSome does s.hash_block out h' h'' → HandsPart asks does s salt d h d' h''
      stopped-last h'' some = record {
        reads = here.taken.reads;
        in_order = here.taken.in_order;
        between = d';
        asked = here.taken.asked;
        rest = record { calls = []; reads = tt; few = omega arith; made = refl };
        stopped =
            inr (inr (
              count-all asks s salt d d' x here.taken none,
              subst (λ (ps : List PlacedRecord). HandsSome does s.hash_block ps h h'') all_blocks
                  (some-then does s.hash_block (completed (begun_builder s salt) written_digests) out h h' h'' here.handed some),
            ));
      }

      pub tree-all : (h'' : H) → Calls does h' (writes_of s.hash_block out) h'' → (root : List ℕ) → root ≡ built_root x → HandsTree asks does s salt d h d' h'' root
      tree-all h'' done root is_root = record {
        reads = here.taken.reads;
        in_order = here.taken.in_order;
        all = here.taken.count ∙ ap (λ (n : ℕ). n * (s.data_block / 512)) (count-all asks s salt d d' x here.taken none);
        asked = here.taken.asked;
        handed =
            subst (λ (calls : List Call). Calls does h calls h'') (sym (writes-append s.hash_block (completed (begun_builder s salt) written_digests) out) ∙ ap (writes_of s.hash_block) all_blocks)
            (calls-append does h h' h'' (writes_of s.hash_block (completed (begun_builder s salt) written_digests)) (writes_of s.hash_block out) here.handed done);
        root_is = is_root ∙ ap built_root here.taken.after;
      }

module _ {D H : Type 0} (asks : D → Call → D → Type 0) (does : H → Call → H → Type 0) (s t : ShapeRecord) (salt salt' : List ℕ) (d : D) (h : H) (d' : D) (h' : H) where
  -- what was handed over, told of an equal shape
  pub tree-shape : (root : List ℕ) → s ≡ t → salt ≡ salt' → HandsTree asks does s salt d h d' h' root → HandsTree asks does t salt' d h d' h' root
  tree-shape root p q here = subst (λ (x : List ℕ). HandsTree asks does t x d h d' h' root) q (subst (λ (x : ShapeRecord). HandsTree asks does x salt d h d' h' root) p here)

  pub stopped-shape : s ≡ t → salt ≡ salt' → HandsPart asks does s salt d h d' h' → HandsPart asks does t salt' d h d' h'
  stopped-shape p q here = subst (λ (x : List ℕ). HandsPart asks does t x d h d' h') q (subst (λ (x : ShapeRecord). HandsPart asks does x salt d h d' h') p here)
