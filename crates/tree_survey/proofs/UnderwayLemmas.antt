-- Data blocks that are scanned, while some are left.
use Rattle.std.proofs.Common.{◌≡◌, ◌≤◌, ◌<◌, ◌+◌, ◌-◌, ◌*◌, ◌/◌, ◌^◌, ◌⊎◌, ℕ, Bool, true, false, IsTrue, List, [], ◌∷◌, ◌++◌, length, get_or, Contains, Option, Some, None, refl, sym, ap, ◌∙◌, subst, arith, inl, inr}
use Rattle.std.specs.Io.KnownBytes.{Appends}
use Rattle.std.proofs.lemmas.Bool.{cases_lt, false≢true}
use Rattle.std.proofs.lemmas.List.{get_or_append_left, length-append}
use Rattle.std.proofs.lemmas.List.Elements.{Contains-push}
use Rattle.std.proofs.lemmas.List.FromFn.{get_or-map-range_with_len, map-range_with_len_more}
use Rattle.block_device.specs.Device.{Device}
use Rattle.tree_shape.specs.Digests.{digest}
use Rattle.tree_shape.specs.Shape.{ShapeRecord, IsShape, levels, per_block}
use Rattle.tree_shape.proofs.lemmas.ShapeFaultLemmas.{blocks-le}
use Rattle.verity_format.specs.Blocks.{block_at, blocks_at}
use Rattle.verity_format.specs.Image.{tree_sectors}
use Rattle.tree_path.specs.Path.{IsPathOf}
use Rattle.tree_path.specs.Spans.{IsTopAt}
use Rattle.runs.specs.declared.kind.Kind.TheVariants.{Changed, Unknown, Removed, Added}
use Rattle.runs.specs.Limits.{begun, limited_lines}
use Rattle.runs.specs.Kinds.{State}
use Rattle.runs.specs.Tallies.{EndsAt, listed}
use Rattle.runs.proofs.lemmas.ListingLemmas.{IsListed, listed-all, listed-ends, listed-none}
use Rattle.tree_survey.specs.declared.counts.Counts.{Counts}
use Rattle.tree_survey.specs.declared.counts.Totals.{Totals}
use Rattle.tree_survey.specs.declared.checked_path.CheckedPath.{CheckedPath}
use Rattle.tree_survey.specs.Counts.{AreFew, IsAdded, closed_at, counted, totals_of}
use Rattle.tree_survey.specs.Passes.{CanPass, Surveys, pass, tree_in}
use Rattle.tree_survey.specs.Failing.{HasFailedRead, HasFailedTimes, IsReadOver, IsReadThrough}
use Rattle.tree_survey.specs.Hashes.{HashBlock, IsUnderOne, hash_block_beneath}
use Rattle.tree_survey.specs.CheckedPaths.{CanGoDown, HasGone, IsOnWay, IsReady, state_at}
use Rattle.tree_survey.specs.Surveys.{AllStand, IsLedTo, IsContentSeenAs, IsStoredBy, IsUnreadAs, Tree}
use Rattle.tree_survey.proofs.FailingLemmas.{failed-later, failed-more, or-more, over-none, over-then, times-more, times-next, times-none}
use Rattle.tree_survey.proofs.HashLemmas.{path-none}
use Rattle.tree_survey.proofs.LostLemmas.{AreHashesLost, hashes-kept, hashes-next, lost-still, lost_with}
use Rattle.tree_survey.proofs.StateLemmas.{count-few, get_or-last, good-few, length-last, listed-next, totals-next}
use Rattle.tree_survey.proofs.CheckedPathLemmas.{IsDigestOr, on-was, ready-next, ready-none, ready-read, same-above, seen-at, stored-at}

-- the data blocks before that one were scanned
pub record IsUnderway (t : Tree) (data_dev hash_dev data_dev' hash_dev' : Device) (old now : Option (List ℕ)) (w : CheckedPath) (g : Counts) (at : ℕ) : Type 0 where
  pub is_of : IsPathOf t.shape t.salt t.root w.path
  pub shape : w.shape ≡ w.path.shape
  pub within : at ≤ t.shape.blocks
  pub ready : at < t.shape.blocks → IsReady w hash_dev at
  pub lost : List ℕ
  pub times : HasFailedTimes data_dev (length lost) data_dev'
  pub hashes : List HashBlock
  pub hash_times : HasFailedTimes hash_dev (length hashes) hash_dev'
  pub above : w.unread ≡ true → (top : ℕ) → IsTopAt (per_block t.shape) (levels t.shape) at top → top < w.good → at < t.shape.blocks → Contains hashes (hash_block_beneath t.shape w.good at)
  pub contents : List (List ℕ)
  pub states : List State
  pub here : at ≡ length contents
  pub also : at ≡ length states
  pub over : IsTrue data_dev.steady → contents ≡ blocks_at data_dev.image t.shape.data_block 0 at
  pub seen : (i : ℕ) → i < at
      → IsContentSeenAs t i (get_or contents i []) (get_or states i None) ⊎ IsUnreadAs t (IsLedTo t i) (Contains lost i × HasFailedRead data_dev data_dev') (IsUnderOne t.shape hashes i × HasFailedRead hash_dev hash_dev') (get_or states i None)
  pub stored : IsTrue hash_dev.steady → (i : ℕ) → i < at
      → IsStoredBy t hash_dev.image i (digest t.salt (get_or contents i [])) (get_or states i None)
      ⊎ IsUnreadAs t (AllStand t hash_dev.image i) (Contains lost i × HasFailedRead data_dev data_dev') (IsUnderOne t.shape hashes i × HasFailedRead hash_dev hash_dev') (get_or states i None)
  pub data_over : IsReadOver data_dev data_dev'
  pub hash_over : IsReadOver hash_dev hash_dev'
  pub unread : w.unread ≡ true → HasFailedRead hash_dev hash_dev'
  pub listed : IsListed None states g.tally old now
  pub totals : g.totals ≡ totals_of states

pub underway-none : (w : CheckedPath) (salt : List ℕ) (data_dev hash_dev : Device) (old : Option (List ℕ)) (g : Counts) → CanPass w salt data_dev hash_dev
    → g ≡ record { tally = record { last = None; limit = begun None }; totals = record { good = 0; changed = 0; unknown = 0 } } → IsUnderway (tree_in w) data_dev hash_dev data_dev hash_dev old old w g 0
underway-none w salt data_dev hash_dev old g can is = record {
  is_of = path-none w.path;
  shape = can.shape;
  within = omega arith;
  ready = λ some. ready-none w hash_dev can.none;
  lost = [];
  times = times-none data_dev;
  hashes = [];
  hash_times = times-none hash_dev;
  above = λ unread. absurd (false≢true (sym can.all_read ∙ unread));
  contents = [];
  states = [];
  here = refl;
  also = refl;
  over = λ steady. refl;
  seen = λ i low. absurd (omega (arith, low));
  stored = λ steady i low. absurd (omega (arith, low));
  data_over = over-none data_dev;
  hash_over = over-none hash_dev;
  unread = λ unread. absurd (false≢true (sym can.all_read ∙ unread));
  listed = listed-none None old g.tally (ap (λ (x : Counts). x.tally) is);
  totals = ap (λ (x : Counts). x.totals) is;
}

-- ---- later reads

unread-more : (t : Tree) (above data_failed hash_failed data_failed' hash_failed' : Type 0) (state : State) → (data_failed → data_failed') → (hash_failed → hash_failed') → IsUnreadAs t above data_failed hash_failed state
    → IsUnreadAs t above data_failed' hash_failed' state
unread-more t above a b a' b' None f g h = absurd h
unread-more t above a b a' b' (Some Changed) f g (good, failed) = (good, f failed)
unread-more t above a b a' b' (Some Unknown) f g (some, failed) = (some, g failed)
unread-more t above a b a' b' (Some Removed) f g h = absurd h
unread-more t above a b a' b' (Some Added) f g h = absurd h

-- the two devices were read further
module _ (t : Tree) (data_dev hash_dev data_dev' hash_dev' data_dev'' hash_dev'' : Device) (old now : Option (List ℕ)) (w : CheckedPath) (g : Counts) (at : ℕ) (u : IsUnderway t data_dev hash_dev data_dev' hash_dev' old now w g at) (data_read : IsReadOver data_dev' data_dev'') (hash_read : IsReadOver hash_dev' hash_dev'') where
  hidden-more : (i : ℕ) (above : Type 0) (state : State) → IsUnreadAs t above (Contains u.lost i × HasFailedRead data_dev data_dev') (IsUnderOne t.shape u.hashes i × HasFailedRead hash_dev hash_dev') state
      → IsUnreadAs t above (Contains u.lost i × HasFailedRead data_dev data_dev'') (IsUnderOne t.shape u.hashes i × HasFailedRead hash_dev hash_dev'') state
  hidden-more i above state = unread-more t above _ _ _ _ state (λ h. (h.0, failed-more data_dev h.1 data_read)) (λ h. (h.0, failed-more hash_dev h.1 hash_read))

  pub underway-more : IsUnderway t data_dev hash_dev data_dev'' hash_dev'' old now w g at
  underway-more = record {
    is_of = u.is_of;
    shape = u.shape;
    within = u.within;
    ready = u.ready;
    lost = u.lost;
    times = times-more data_dev data_dev' data_dev'' (length u.lost) u.times data_read.more;
    hashes = u.hashes;
    hash_times = times-more hash_dev hash_dev' hash_dev'' (length u.hashes) u.hash_times hash_read.more;
    above = u.above;
    contents = u.contents;
    states = u.states;
    here = u.here;
    also = u.also;
    over = u.over;
    seen = λ i low. or-more _ _ _ (hidden-more i (IsLedTo t i) (get_or u.states i None)) (u.seen i low);
    stored = λ steady i low. or-more _ _ _ (hidden-more i (AllStand t hash_dev.image i) (get_or u.states i None)) (u.stored steady i low);
    data_over = over-then u.data_over data_read;
    hash_over = over-then u.hash_over hash_read;
    unread = λ unread. failed-more hash_dev (u.unread unread) hash_read;
    listed = u.listed;
    totals = u.totals;
  }

module _ (t : Tree) (valid : IsShape t.shape) (data_dev hash_dev data_dev' hash_dev' : Device) (old now : Option (List ℕ)) (w : CheckedPath) (g : Counts) (at : ℕ) (u : IsUnderway t data_dev hash_dev data_dev' hash_dev' old now w g at) where
  pub ends-at : EndsAt g.tally.last at
  ends-at = subst (EndsAt g.tally.last) (sym u.also) (listed-ends None u.states g.tally old now u.listed)

  module _ (low : at < t.shape.blocks) where
    pub few : at < 2 ^ 54
    few = omega (arith, low, (blocks-le t.shape valid).0)

    pub are-few : AreFew g.totals
    are-few = subst AreFew (sym u.totals) (record {
      good = omega (arith, few, good-few u.states, u.also);
      changed = omega (arith, few, count-few Changed u.states, u.also);
      unknown = omega (arith, few, count-few Unknown u.states, u.also);
    })

    pub can-go : tree_sectors t.shape ≤ hash_dev.size → CanGoDown w hash_dev' at
    can-go fits = record {
      index = omega (arith, low, ap (λ (s : ShapeRecord). s.blocks) u.is_of.shape_is);
      fits = omega (arith, fits, u.hash_over.read.same.size, ap tree_sectors u.is_of.shape_is);
      shape = u.shape;
      ready = ready-read w hash_dev hash_dev' at u.hash_over.read (u.ready low);
    }

    module _ (w' : CheckedPath) (data_dev'' hash_dev'' : Device) (gone : HasGone w w' hash_dev' hash_dev'' at) (data_read : IsReadOver data_dev' data_dev'') (hash_read : IsReadOver hash_dev' hash_dev'') (content : List ℕ) (found : Option (List ℕ)) (told : IsDigestOr (HasFailedRead data_dev' data_dev'') t.salt content found) where
      is_of' : IsPathOf t.shape t.salt t.root w'.path
      is_of' = record { shape_is = gone.same.shape_is ∙ u.is_of.shape_is; salt_is = gone.same.salt_is ∙ u.is_of.salt_is; root_is = gone.same.root_is ∙ u.is_of.root_is }

      later : IsUnderway t data_dev hash_dev data_dev'' hash_dev'' old now w g at
      later = underway-more t data_dev hash_dev data_dev' hash_dev' data_dev'' hash_dev'' old now w g at u data_read hash_read

      unread' : w'.unread ≡ true → HasFailedRead hash_dev hash_dev''
      unread' e = elim (gone.failed e) [
        | inl stayed ↦ later.unread (ap (λ (v : CheckedPath). v.unread) (sym stayed.is) ∙ e)
        | inr failed ↦ failed-later u.hash_over hash_read failed.1
      ]

      on : IsOnWay w' hash_dev at
      on = on-was w' hash_dev hash_dev' at u.hash_over.read gone.on

      -- of this data block too, where it couldn't be read
      abbrev lost' : List ℕ
      lost' = lost_with u.lost at found

      abbrev IsLost : ℕ → Type 0
      IsLost i = Contains lost' i × HasFailedRead data_dev data_dev''

      -- and the hash blocks, with that above it
      hash-lost : (b : Bool) → w'.unread ≡ b → AreHashesLost t hash_dev hash_dev'' u.hashes w' at
      hash-lost false e = hashes-kept t hash_dev hash_dev' hash_dev'' u.hashes w' at u.hash_times hash_read.more (λ e'. absurd (false≢true (sym e ∙ e')))
      hash-lost true e = elim (gone.failed e) [
        | inl stayed ↦
            let top : IsTopAt (per_block t.shape) (levels t.shape) at stayed.top = subst (λ (s : ShapeRecord). IsTopAt (per_block s) (levels s) at stayed.top) u.is_of.shape_is stayed.is_top in
            let same : w'.good ≡ w.good = ap (λ (v : CheckedPath). v.good) stayed.is in
            let above : Contains u.hashes (hash_block_beneath t.shape w.good at) = u.above (ap (λ (v : CheckedPath). v.unread) (sym stayed.is) ∙ e) stayed.top top stayed.low low in
            hashes-kept t hash_dev hash_dev' hash_dev'' u.hashes w' at u.hash_times hash_read.more
            (λ e'. (omega (arith, same, stayed.low), subst (λ (m : ℕ). Contains u.hashes (hash_block_beneath t.shape m at)) (sym same) above))
        | inr failed ↦ hashes-next t hash_dev hash_dev' hash_dev'' u.hashes w' at u.hash_times hash_read.more failed.0 failed.1.0
      ]

      hashes' : AreHashesLost t hash_dev hash_dev'' u.hashes w' at
      hashes' = hash-lost w'.unread refl

      abbrev IsHashLost : ℕ → Type 0
      IsHashLost i = IsUnderOne t.shape hashes'.hashes i × HasFailedRead hash_dev hash_dev''

      hash-unread : w'.unread ≡ true → IsHashLost at
      hash-unread e = ((w'.good, ((hashes'.unread e).0, omega (arith, on.few, ap levels is_of'.shape_is), (hashes'.unread e).1)), unread' e)

      abbrev Seen : ℕ → List ℕ → State → Type 0
      Seen i x state = IsContentSeenAs t i x state ⊎ IsUnreadAs t (IsLedTo t i) (IsLost i) (IsHashLost i) state

      abbrev Stored : ℕ → List ℕ → State → Type 0
      Stored i x state = IsStoredBy t hash_dev.image i (digest t.salt x) state ⊎ IsUnreadAs t (AllStand t hash_dev.image i) (IsLost i) (IsHashLost i) state

      told' : IsDigestOr (IsLost at) t.salt content found
      told' = go found told
        where
          go : (f : Option (List ℕ)) → IsDigestOr (HasFailedRead data_dev' data_dev'') t.salt content f → IsDigestOr (Contains (lost_with u.lost at f) at × HasFailedRead data_dev data_dev'') t.salt content f
          go (Some x) is = is
          go None failed = (Contains-push u.lost at, failed-later u.data_over data_read failed)

      times' : HasFailedTimes data_dev (length lost') data_dev''
      times' = go found told
        where
          go : (f : Option (List ℕ)) → IsDigestOr (HasFailedRead data_dev' data_dev'') t.salt content f → HasFailedTimes data_dev (length (lost_with u.lost at f)) data_dev''
          go (Some x) is = times-more data_dev data_dev' data_dev'' (length u.lost) u.times data_read.more
          go None failed = times-next data_dev data_dev' data_dev'' (length u.lost) (length (u.lost ++ at ∷ [])) u.times data_read.more failed.0 (omega (arith, length-append u.lost (at ∷ [])))

      wider : (i : ℕ) (above : Type 0) (state : State) → IsUnreadAs t above (Contains u.lost i × HasFailedRead data_dev data_dev'') (IsUnderOne t.shape u.hashes i × HasFailedRead hash_dev hash_dev'') state
          → IsUnreadAs t above (IsLost i) (IsHashLost i) state
      wider i above state = unread-more t above _ _ _ _ state (λ h. (lost-still u.lost at found i h.0, h.1)) (λ h. ((h.0.0, (h.0.1.0, h.0.1.1, hashes'.wider _ h.0.1.2)), h.1))

      -- what holds of each data block before, and of this one, holds of each with it
      each-next : (P : ℕ → List ℕ → State → Type 0) (state : State) → ((i : ℕ) → i < at → P i (get_or u.contents i []) (get_or u.states i None)) → P at content state
          → (i : ℕ) → i < at + 1 → P i (get_or (u.contents ++ content ∷ []) i []) (get_or (u.states ++ state ∷ []) i None)
      each-next P state before here i less = elim (cases_lt i at) [
        | inl low ↦
            subst (λ (x : List ℕ). P i x (get_or (u.states ++ state ∷ []) i None)) (sym (get_or_append_left u.contents (content ∷ []) [] i (omega (arith, low, u.here))))
            (subst (P i (get_or u.contents i [])) (sym (get_or_append_left u.states (state ∷ []) None i (omega (arith, low, u.also)))) (before i low))
        | inr not ↦
            let last : i ≡ at = omega (arith, less, not) in
            subst (λ (k : ℕ). P k (get_or (u.contents ++ content ∷ []) k []) (get_or (u.states ++ state ∷ []) k None)) (sym last)
            (subst (λ (x : List ℕ). P at x (get_or (u.states ++ state ∷ []) at None)) (sym (get_or-last u.contents content [] at u.here))
            (subst (P at content) (sym (get_or-last u.states state None at u.also)) here))
      ]

      -- one data block more
      pub underway-next : (g' : Counts) (new : Option (List ℕ)) → (IsTrue data_dev.steady → content ≡ block_at data_dev.image t.shape.data_block at)
          → Appends now new (limited_lines g.tally.limit (closed_at g.tally.last at (state_at w' at found))) → IsAdded g g' at (state_at w' at found)
          → IsUnderway t data_dev hash_dev data_dev'' hash_dev'' old new w' g' (at + 1)
      unfolding later underway-more
      underway-next g' new over printed added =
          let state : State = state_at w' at found in
          record {
            is_of = is_of';
            shape = gone.shape ∙ u.shape ∙ sym gone.same.shape_is;
            within = omega (arith, low);
            ready = λ more. ready-next w' (subst IsShape (sym is_of'.shape_is) valid) hash_dev at (omega (arith, more, ap (λ (s : ShapeRecord). s.blocks) is_of'.shape_is)) on;
            lost = lost';
            times = times';
            hashes = hashes'.hashes;
            hash_times = hashes'.times;
            above = λ unread top is under inside.
                subst (λ (n : ℕ). Contains hashes'.hashes (record { level = w'.good - 1; number = n })) (same-above t.shape valid at top inside is w'.good under) (hashes'.unread unread).1;
            contents = u.contents ++ content ∷ [];
            states = u.states ++ state ∷ [];
            here = length-last u.contents content at u.here;
            also = length-last u.states state at u.also;
            over = λ steady.
                ap (λ (xs : List (List ℕ)). xs ++ content ∷ []) (u.over steady)
                ∙ ap (λ (x : List ℕ). blocks_at data_dev.image t.shape.data_block 0 at ++ x ∷ []) (over steady)
                ∙ sym (map-range_with_len_more (block_at data_dev.image t.shape.data_block) 0 at at (omega arith));
            seen = each-next Seen state (λ i before. or-more _ _ _ (wider i (IsLedTo t i) (get_or u.states i None)) (later.seen i before))
                (seen-at t w' hash_dev at is_of' on (IsLost at) (IsHashLost at) hash-unread content found told');
            stored = λ steady. each-next Stored state (λ i before. or-more _ _ _ (wider i (AllStand t hash_dev.image i) (get_or u.states i None)) (later.stored steady i before))
                (stored-at t w' hash_dev at is_of' on (IsLost at) (IsHashLost at) hash-unread content steady found told');
            data_over = later.data_over;
            hash_over = later.hash_over;
            unread = unread';
            listed = listed-next u.states state g g' old now new at u.also u.listed printed added;
            totals = added.totals ∙ ap (λ (x : Totals). counted x state) u.totals ∙ totals-next u.states state;
          }

  -- all of them
  pub underway-all : (new : Option (List ℕ)) → at ≡ t.shape.blocks → IsReadThrough data_dev (at * (t.shape.data_block / 512)) data_dev' → Appends now new (limited_lines g.tally.limit (listed g.tally.last))
      → Surveys t (pass data_dev hash_dev data_dev' hash_dev' old new) g.totals
  underway-all new all full told =
      let over' : IsTrue data_dev.steady → u.contents ≡ blocks_at data_dev.image t.shape.data_block 0 t.shape.blocks = λ steady. u.over steady ∙ ap (blocks_at data_dev.image t.shape.data_block 0) all in
      record {
        states = u.states;
        seen = record {
          count = sym u.also ∙ all;
          lost = record { blocks = u.lost; hashes = u.hashes };
          failed = record { of_data = u.times; of_hash = u.hash_times };
          contents = u.contents;
          all = sym u.here ∙ all;
          over = over';
          seen = λ i low. u.seen i (omega (arith, low, all));
          stored = λ steady steady' i low.
              subst (λ (x : List ℕ). IsStoredBy t hash_dev.image i (digest t.salt x) (get_or u.states i None)
              ⊎ IsUnreadAs t (AllStand t hash_dev.image i) (Contains u.lost i × HasFailedRead data_dev data_dev') (IsUnderOne t.shape u.hashes i × HasFailedRead hash_dev hash_dev') (get_or u.states i None))
              (ap (λ (xs : List (List ℕ)). get_or xs i []) (over' steady) ∙ get_or-map-range_with_len (block_at data_dev.image t.shape.data_block) 0 t.shape.blocks i i [] low (omega arith))
              (u.stored steady' i (omega (arith, low, all)));
        };
        totals_are = u.totals;
        printed_are = listed-all None u.states g.tally old now new u.listed told;
        data_read = subst (λ (n : ℕ). IsReadThrough data_dev (n * (t.shape.data_block / 512)) data_dev') all full;
      }
