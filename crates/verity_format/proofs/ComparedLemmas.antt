-- Hash blocks that are read and compared, call after call.
use Rattle.std.proofs.Common.{◌≡◌, ◌≢◌, ◌+◌, ◌*◌, ◌/◌, ◌<◌, ◌≤◌, ◌++◌, ◌∷◌, ◌∙◌, [], ℕ, Bool, true, false, suc, All, List, Option, Some, None, length, min, take, refl, sym, ap, subst, arith, inl, inr, append_assoc}
use Rattle.std.proofs.Math.Nat.{zero-mul}
use Rattle.std.proofs.lemmas.Bool.{cases_lt}
use Rattle.std.proofs.lemmas.List.{append-nil}
use Rattle.std.proofs.lemmas.List.Elements.{All-nil, All-push, Contains-append_left, Contains-append_right}
use Rattle.block_device.specs.Call.{Call, Calls, Read}
use Rattle.block_device.proofs.lemmas.CallLemmas.{calls-append, calls-last}
use Rattle.tree_shape.specs.Shape.{ShapeRecord}
use Rattle.hash_tree.specs.Building.{BuilderRecord, PlacedRecord, begun_builder, built_root, completed, last_completed}
use Rattle.hash_tree.specs.Placing.{lesser}
use Rattle.hash_tree.proofs.lemmas.BuilderLemmas.{completed-none}
use Rattle.verity_format.specs.ComparedCalls.{ComparedBlock, ComparesAll, ComparesGrowth, ComparesPart, ComparesSome, ComparesWhole, IsFirstChanged, IsLeastChanged, IsUnchanged, ReadsBlocks, block_read, block_reads, placed_of}
use Rattle.verity_format.specs.Handing.{AsksOnce, GivesRun, TakesGrowth, digests_read, tree_blocks}
use Rattle.verity_format.specs.Image.{data_sectors}
use Rattle.verity_format.proofs.HandingLemmas.{count-all, next_blocks, take-behind, taken-begun, taken-more}

pub reads-append : (size : ℕ) (xs ys : List ComparedBlock) → block_reads size (xs ++ ys) ≡ block_reads size xs ++ block_reads size ys
reads-append size [] ys = refl
reads-append size (x ∷ xs) ys = ap (λ (calls : List Call). block_read size x.placed x.given true ∷ calls) (reads-append size xs ys)

pub placed-append : (xs ys : List ComparedBlock) → placed_of (xs ++ ys) ≡ placed_of xs ++ placed_of ys
placed-append [] ys = refl
placed-append (x ∷ xs) ys = ap (λ (ps : List PlacedRecord). x.placed ∷ ps) (placed-append xs ys)

-- One more block that is compared.
module _ (xs : List ComparedBlock) (x : ComparedBlock) where
  pub changed-same : (best : Option ℕ) → IsUnchanged x → IsLeastChanged xs best → IsLeastChanged (xs ++ x ∷ []) best
  changed-same None same none = All-push IsUnchanged xs x none same
  changed-same (Some n) same first = record {
    block = first.block;
    among = Contains-append_left xs (x ∷ []) _ first.among;
    number = first.number;
    changed = first.changed;
    below = All-push (λ c. c.placed.block < n → IsUnchanged c) xs x first.below (λ less. same);
  }

  changed-new : x.given ≢ x.placed.bytes → All (λ c. c.placed.block < x.placed.block → IsUnchanged c) xs → IsFirstChanged (xs ++ x ∷ []) x.placed.block
  changed-new differ below = record {
    block = x;
    among = Contains-append_right xs (x ∷ []) x (0, omega arith, refl);
    number = refl;
    changed = differ;
    below = All-push (λ c. c.placed.block < x.placed.block → IsUnchanged c) xs x below (λ less. absurd (omega (arith, less)));
  }

  changed-less : (n : ℕ) → x.given ≢ x.placed.bytes → x.placed.block < n → IsFirstChanged xs n → IsFirstChanged (xs ++ x ∷ []) x.placed.block
  changed-less n differ low first = changed-new differ (λ k d inside. λ less. first.below k d inside (omega (arith, less, low)))

  changed-more : (n : ℕ) → n ≤ x.placed.block → IsFirstChanged xs n → IsFirstChanged (xs ++ x ∷ []) n
  changed-more n high first = record {
    block = first.block;
    among = Contains-append_left xs (x ∷ []) _ first.among;
    number = first.number;
    changed = first.changed;
    below = All-push (λ c. c.placed.block < n → IsUnchanged c) xs x first.below (λ less. absurd (omega (arith, less, high)));
  }

  pub changed-next : (best : Option ℕ) → x.given ≢ x.placed.bytes → IsLeastChanged xs best → IsLeastChanged (xs ++ x ∷ []) (Some (lesser best x.placed.block))
  changed-next None differ none = changed-new differ (λ k d inside. λ less. none k d inside)
  changed-next (Some n) differ first =
      elim (cases_lt x.placed.block n) [
        | inl low ↦ let is : x.placed.block ≡ min n x.placed.block = omega (arith, low) in subst (λ m. IsLeastChanged (xs ++ x ∷ []) (Some m)) is (changed-less n differ low first)
        | inr high ↦ let is : n ≡ min n x.placed.block = omega (arith, high) in subst (λ m. IsLeastChanged (xs ++ x ∷ []) (Some m)) is (changed-more n high first)
      ]

-- no block yet
pub compares-none : {H : Type 0} (does : H → Call → H → Type 0) (size : ℕ) (least : Option ℕ) (h : H) → ComparesAll does size [] least least h h
compares-none does size least h = record {
  compared = [];
  are = refl;
  made = refl;
  least = λ others so. subst (λ (xs : List ComparedBlock). IsLeastChanged xs least) (sym (append-nil others)) so;
}

-- a block more
module _ {H : Type 0} (does : H → Call → H → Type 0) (size : ℕ) (blocks : List PlacedRecord) (before least : Option ℕ) (a b : H) (here : ComparesAll does size blocks before least a b) (p : PlacedRecord) (given : List ℕ) (c : H) where
  abbrev one : ComparedBlock
  one = record { placed = p; given = given }

  pub compares-more : (next : Option ℕ) → does b (block_read size p given true) c → ((xs : List ComparedBlock) → IsLeastChanged xs least → IsLeastChanged (xs ++ one ∷ []) next)
      → ComparesAll does size (blocks ++ p ∷ []) before next a c
  compares-more next call step = record {
    compared = here.compared ++ one ∷ [];
    are = placed-append here.compared (one ∷ []) ∙ ap (λ (ps : List PlacedRecord). ps ++ p ∷ []) here.are;
    made =
        subst (λ (calls : List Call). Calls does a calls c) (sym (reads-append size here.compared (one ∷ [])))
        (calls-last does a b c (block_reads size here.compared) (block_read size p given true) here.made call);
    least = λ others so.
        subst (λ (xs : List ComparedBlock). IsLeastChanged xs next) (append_assoc others here.compared (one ∷ [])) (step (others ++ here.compared) (here.least others so));
  }

  -- the read of a block more failed
  pub compares-failed : (all : List PlacedRecord) (number : ℕ) → take number all ≡ blocks ++ p ∷ [] → does b (block_read size p given false) c → ComparesSome does size all a c
  compares-failed all number first call = record {
    number = number;
    compared = here.compared;
    last = p;
    given = given;
    first_are = first ∙ ap (λ (ps : List PlacedRecord). ps ++ p ∷ []) (sym here.are);
    made = calls-last does a b c (block_reads size here.compared) (block_read size p given false) here.made call;
  }

-- blocks that were read, and the first of some more
pub compared-then : {H : Type 0} (does : H → Call → H → Type 0) (size : ℕ) (xs : List ComparedBlock) (ps out : List PlacedRecord) → placed_of xs ≡ ps → (a b c : H)
    → Calls does a (block_reads size xs) b → ComparesSome does size out b c → ComparesSome does size (ps ++ out) a c
compared-then does size xs ps out are a b c done some =
    let call : Call = block_read size some.last some.given false in
    record {
      number = length ps + some.number;
      compared = xs ++ some.compared;
      last = some.last;
      given = some.given;
      first_are =
          take-behind ps out some.number ∙ ap (λ (rest : List PlacedRecord). ps ++ rest) some.first_are ∙ sym (append_assoc ps (placed_of some.compared) (some.last ∷ []))
          ∙ ap (λ (rest : List PlacedRecord). rest ++ some.last ∷ []) (ap (λ (qs : List PlacedRecord). qs ++ placed_of some.compared) (sym are) ∙ sym (placed-append xs some.compared));
      made =
          subst (λ (calls : List Call). Calls does a calls c)
          (sym (append_assoc (block_reads size xs) (block_reads size some.compared) (call ∷ [])) ∙ ap (λ (calls : List Call). calls ++ call ∷ []) (sym (reads-append size xs some.compared)))
          (calls-append does a b c (block_reads size xs) (block_reads size some.compared ++ call ∷ []) done some.made);
    }

module _ {D H : Type 0} (asks : D → Call → D → Type 0) (does : H → Call → H → Type 0) (s : ShapeRecord) (salt : List ℕ) where
  pub compares-begun : (d : D) (h : H) → ComparesGrowth asks does s salt d h d h (begun_builder s salt) None
  compares-begun d h = record {
    taken = taken-begun asks s salt d;
    compared = [];
    are = sym (completed-none (begun_builder s salt));
    made = refl;
    least_is = All-nil IsUnchanged;
  }

  -- nothing was asked yet
  pub compared-nothing : (d : D) (h : H) → ComparesPart asks does s salt d h d h
  compared-nothing d h = record {
    reads = [];
    in_order = tt;
    between = d;
    asked = refl;
    rest = record { calls = []; reads = tt; few = omega arith; made = refl };
    stopped = inl (record { compared = []; are = sym (completed-none (begun_builder s salt)); made = refl });
  }

  module _ (d : D) (h : H) (d' : D) (h' : H) (x : BuilderRecord) (least : Option ℕ) (here : ComparesGrowth asks does s salt d h d' h' x least) where
    abbrev ds : List (List ℕ)
    ds = digests_read salt s.data_block here.taken.reads

    -- at most one read of data more, and no read of a hash block
    pub compared-asked : (d'' : D) → AsksOnce asks d' d'' → ComparesPart asks does s salt d h d'' h'
    compared-asked d'' rest = record {
      reads = here.taken.reads;
      in_order = here.taken.in_order;
      between = d';
      asked = here.taken.asked;
      rest = rest;
      stopped = inl (record { compared = here.compared; are = here.are; made = here.made });
    }

    module _ (d'' : D) (y : BuilderRecord) (out : List PlacedRecord) (run : GivesRun asks s salt d' d'' x y out) where
      -- the blocks of a run more, all of them
      pub compares-then : (h'' : H) (next : Option ℕ) → ComparesAll does s.hash_block out least next h' h'' → ComparesGrowth asks does s salt d h d'' h'' y next
      compares-then h'' next done = record {
        taken = taken-more asks s salt d d' x here.taken d'' y out run;
        compared = here.compared ++ done.compared;
        are =
            placed-append here.compared done.compared ∙ ap (λ (ps : List PlacedRecord). ps ++ placed_of done.compared) here.are
            ∙ ap (λ (ps : List PlacedRecord). completed (begun_builder s salt) ds ++ ps) done.are ∙ sym (next_blocks asks s salt d d' x here.taken d'' y out run);
        made =
            subst (λ (calls : List Call). Calls does h calls h'') (sym (reads-append s.hash_block here.compared done.compared))
            (calls-append does h h' h'' (block_reads s.hash_block here.compared) (block_reads s.hash_block done.compared) here.made done.made);
        least_is = done.least here.compared here.least_is;
      }

      -- the first of them, the last of these in vain
      pub compared-run : (h'' : H) → ComparesSome does s.hash_block out h' h'' → ComparesPart asks does s salt d h d'' h''
      compared-run h'' some =
          let next = taken-more asks s salt d d' x here.taken d'' y out run in
          record {
            reads = next.reads;
            in_order = next.in_order;
            between = d'';
            asked = next.asked;
            rest = record { calls = []; reads = tt; few = omega arith; made = refl };
            stopped =
                inr (inl (subst (λ (ps : List PlacedRecord). ComparesSome does s.hash_block ps h h'') (sym (next_blocks asks s salt d d' x here.taken d'' y out run))
                (compared-then does s.hash_block here.compared (completed (begun_builder s salt) ds) out here.are h h' h'' here.made some)));
          }

    -- once all data blocks were read
    module _ (none : x.left ≡ 0) (out : List PlacedRecord) (is : out ≡ last_completed x) where
      all_blocks : completed (begun_builder s salt) ds ++ out ≡ tree_blocks s salt ds
      all_blocks = ap (λ (ps : List PlacedRecord). completed (begun_builder s salt) ds ++ ps) (is ∙ ap last_completed here.taken.after)

      pub compared-last : (h'' : H) → ComparesSome does s.hash_block out h' h'' → ComparesPart asks does s salt d h d' h''
      compared-last h'' some = record {
        reads = here.taken.reads;
        in_order = here.taken.in_order;
        between = d';
        asked = here.taken.asked;
        rest = record { calls = []; reads = tt; few = omega arith; made = refl };
        stopped =
            inr (inr (
              count-all asks s salt d d' x here.taken none,
              subst (λ (ps : List PlacedRecord). ComparesSome does s.hash_block ps h h'') all_blocks
                  (compared-then does s.hash_block here.compared (completed (begun_builder s salt) ds) out here.are h h' h'' here.made some),
            ));
      }

      pub compared-whole : (h'' : H) (next : Option ℕ) → ComparesAll does s.hash_block out least next h' h'' → (root : List ℕ) → root ≡ built_root x → ComparesWhole asks does s salt d h d' h'' next root
      compared-whole h'' next done root is_root = record {
        reads = here.taken.reads;
        in_order = here.taken.in_order;
        all = here.taken.count ∙ ap (λ (n : ℕ). n * (s.data_block / 512)) (count-all asks s salt d d' x here.taken none);
        asked = here.taken.asked;
        compared = here.compared ++ done.compared;
        are =
            placed-append here.compared done.compared ∙ ap (λ (ps : List PlacedRecord). ps ++ placed_of done.compared) here.are
            ∙ ap (λ (ps : List PlacedRecord). completed (begun_builder s salt) ds ++ ps) done.are ∙ all_blocks;
        made =
            subst (λ (calls : List Call). Calls does h calls h'') (sym (reads-append s.hash_block here.compared done.compared))
            (calls-append does h h' h'' (block_reads s.hash_block here.compared) (block_reads s.hash_block done.compared) here.made done.made);
        least_is = done.least here.compared here.least_is;
        root_is = is_root ∙ ap built_root here.taken.after;
      }
