-- Data blocks that were seen to be good, and their visits.
use Rattle.std.proofs.Common.{◌≡◌, ◌≤◌, ◌<◌, ◌+◌, ℕ, suc, add-zero, IsTrue, true, List, None, [], ◌∷◌, ◌++◌, length, map, get_or, refl, sym, ap, ◌∙◌, subst, arith, inl, inr, Option}
use Rattle.std.specs.Prelude.{All}
use Rattle.std.specs.List.{flat_map}
use Rattle.std.specs.Io.KnownBytes.{Appends}
use Rattle.std.proofs.KnownBytes.{Appends-nil}
use Rattle.std.proofs.lemmas.Bool.{cases_eq}
use Rattle.std.proofs.lemmas.List.{append-nil, length-append, length-map}
use Rattle.std.proofs.lemmas.List.Elements.{All-cons, All-nil}
use Rattle.block_device.specs.Device.{Device}
use Rattle.tree_shape.specs.Digests.{digest}
use Rattle.tree_shape.specs.Shape.{ShapeRecord, IsShape, ancestor}
use Rattle.tree_shape.proofs.lemmas.ShapeFactLemmas.{ancestor-none}
use Rattle.tree_path.specs.Path.{PathRecord, digest_on}
use Rattle.verity_format.proofs.lemmas.DeviceLemmas.{only_read-none}
use Rattle.tree_survey.specs.Pieces.{IsRunRead}
use Rattle.tree_survey.specs.Surveys.{IsWay}
use Rattle.verity_format.specs.Blocks.{IsOnlyRead, block_at, blocks_at}
use Rattle.tree_repair.specs.declared.bad.BadBlock.{BadBlock}
use Rattle.tree_repair.specs.declared.bad.BadBlocks.{BadBlocks}
use Rattle.tree_repair.specs.declared.mending.Mended.TheVariants as mended
use Rattle.tree_repair.specs.declared.place.Row.{Row}
use Rattle.tree_repair.specs.Coverage.{AreDigestsOn, AreGoodFrom, AreThere, AreVisitedOnce, AreVisitsDue, IsDueAt, IsGoodRow, IsOfRow, IsVisitedIn}
use Rattle.tree_repair.specs.Passes.{HasNoted, IsGoodThen, bad_of}
use Rattle.tree_repair.specs.Runs.{IsDone, Job, VisitsAll, Visit, visit_line, visit}
use Rattle.tree_repair.specs.Worlds.{IsWorldRead, RepairWorld}
use Rattle.tree_repair.proofs.FlawLemmas.{flaws-none}
use Rattle.tree_repair.proofs.OnceLemmas.{due-at, due-none}
use Rattle.tree_repair.proofs.RunLemmas.{runs-then, world-none}
use Rattle.tree_repair.proofs.SourceLemmas.{each-none, there-before}

-- ---- seen

abbrev rest-of : List (List ℕ) → List (List ℕ)
rest-of [] = []
rest-of (x ∷ xs) = xs

-- blocks that were read, with the digests of a path
there-of : (j : Job) (p : PathRecord) (d : Device) (i : ℕ) (cs : List (List ℕ)) → AreDigestsOn p i (map (digest j.tree.salt) cs)
    → (IsTrue d.steady → cs ≡ blocks_at d.image j.tree.shape.data_block i (length cs)) → AreThere j p d i cs
unfolding block_at
there-of j p d i [] on over = tt
there-of j p d i (b ∷ more) on over = (
  record { good = on 0 (omega arith) [] ∙ ap (λ (n : ℕ). digest_on p n 0) (add-zero i); stand = λ steady. ap (λ (l : List (List ℕ)). get_or l 0 []) (over steady) },
  there-of j p d (i + 1) more
      (λ k low e. on (suc k) (omega (arith, low)) e ∙ (let next : i + suc k ≡ i + 1 + k = omega arith in ap (λ (n : ℕ). digest_on p n 0) next))
      (λ steady. ap rest-of (over steady)),
)

pub good-run : (j : Job) (p : PathRecord) (d d' : Device) (i n : ℕ) (digests : List (List ℕ)) → IsRunRead d j.tree.salt j.tree.shape.data_block i digests d' → length digests ≡ n → AreDigestsOn p i digests → AreGoodFrom j p d i n
good-run j p d d' i n digests run count on =
    let long : length digests ≡ length run.contents = ap (λ (l : List (List ℕ)). length l) run.are ∙ length-map run.contents (digest j.tree.salt) in
    record {
      contents = run.contents;
      count = sym long ∙ count;
      are = there-of j p d i run.contents (subst (AreDigestsOn p i) run.are on) (λ steady. run.over steady ∙ ap (blocks_at d.image j.tree.shape.data_block i) long);
    }

-- on a device that was only read in between
there-first : (j : Job) (p : PathRecord) (a b : Device) (i : ℕ) (cs : List (List ℕ)) → IsOnlyRead a b → AreThere j p b i cs → AreThere j p a i cs
there-first j p a b i [] read are = tt
there-first j p a b i (c ∷ more) read are = (there-before a b _ _ c read are.0, there-first j p a b (i + 1) more read are.1)

there-append : (j : Job) (p : PathRecord) (d : Device) (i : ℕ) (xs ys : List (List ℕ)) → AreThere j p d i xs → AreThere j p d (i + length xs) ys → AreThere j p d i (xs ++ ys)
there-append j p d i [] ys before behind = subst (λ (n : ℕ). AreThere j p d n ys) (add-zero i) behind
there-append j p d i (x ∷ xs) ys before behind =
    (before.0, there-append j p d (i + 1) xs ys before.1 (let next : i + length (x ∷ xs) ≡ i + 1 + length xs = omega arith in subst (λ (n : ℕ). AreThere j p d n ys) next behind))

pub good-none : (j : Job) (p : PathRecord) (d : Device) (i n : ℕ) → n ≡ 0 → AreGoodFrom j p d i n
good-none j p d i n none = record { contents = []; count = sym none; are = tt }

pub good-more : (j : Job) (p : PathRecord) (a b : Device) (i n k m : ℕ) → IsOnlyRead a b → AreGoodFrom j p a i n → AreGoodFrom j p b (i + n) k → m ≡ n + k → AreGoodFrom j p a i m
good-more j p a b i n k m read before behind sum = record {
  contents = before.contents ++ behind.contents;
  count = length-append before.contents behind.contents ∙ omega (arith, before.count, behind.count, sum);
  are = there-append j p a i before.contents behind.contents before.are
      (subst (λ (l : ℕ). AreThere j p a (i + l) behind.contents) (sym before.count) (there-first j p a b (i + n) behind.contents read behind.are));
}

-- ---- their visits

abbrev good_visits : ℕ → List (List ℕ) → List Visit
good_visits i [] = []
good_visits i (b ∷ more) = visit 0 i mended.Good b true ∷ good_visits (i + 1) more

good-runs : (j : Job) (p : PathRecord) (w : RepairWorld) (i : ℕ) (cs : List (List ℕ)) → ((k : ℕ) → i ≤ k → k < i + length cs → (k < j.tree.shape.blocks) × IsWay j.tree k 0 p) → AreThere j p w.data_dev i cs → VisitsAll j (good_visits i cs) w w
good-runs j p w i [] ways are = world-none w
good-runs j p w i (b ∷ more) ways are =
    let here = ways i (omega arith) (omega arith) in (
      w,
      (
        w,
        (
          world-none w,
          (
            record {
              inside = here.0;
              p = p;
              way = here.1;
              mended_as = record { read = only_read-none w.data_dev; more = omega arith; copies_read = each-none w.data_copies; there = are.0 };
              made_of = tt;
              other_stays = refl;
              copies_are = refl;
            },
            good-runs j p w (i + 1) more (λ k from below. ways k (omega (arith, from)) (omega (arith, below))) are.1,
          ),
        ),
      ),
    )

good-done : (i : ℕ) (cs : List (List ℕ)) → All IsDone (good_visits i cs)
good-done i [] = All-nil IsDone
good-done i (b ∷ more) = All-cons IsDone (visit 0 i mended.Good b true) (good_visits (i + 1) more) refl (good-done (i + 1) more)

good-told : (j : Job) (i : ℕ) (cs : List (List ℕ)) → flat_map (visit_line j) (good_visits i cs) ≡ []
good-told j i [] = refl
good-told j i (b ∷ more) = good-told j (i + 1) more

good-noted : (j : Job) (i : ℕ) (cs : List (List ℕ)) → flat_map (bad_of j) (good_visits i cs) ≡ []
good-noted j i [] = refl
good-noted j i (b ∷ more) = good-noted j (i + 1) more

good-then : (j : Job) (i : ℕ) (cs : List (List ℕ)) → All (IsGoodThen j) (good_visits i cs)
good-then j i [] = All-nil (IsGoodThen j)
good-then j i (b ∷ more) = All-cons (IsGoodThen j) (visit 0 i mended.Good b true) (good_visits (i + 1) more) refl (good-then j (i + 1) more)

good-in : (s : ShapeRecord) (i : ℕ) (cs : List (List ℕ)) (k : ℕ) → i ≤ k → k < i + length cs → IsVisitedIn s 0 k (good_visits i cs)
good-in s i [] k from below = absurd (omega (arith, from, below))
good-in s i (b ∷ more) k from below = elim (cases_eq k i) [
  | inl e ↦ inl (record { height_is = refl; same = ap (ancestor s 0) (sym e) })
  | inr other ↦ inr (good-in s (i + 1) more k (omega (arith, from, other)) (omega (arith, below)))
]

-- they are of these blocks, and of none twice
good-from : (s : ShapeRecord) → IsShape s → (i : ℕ) (cs : List (List ℕ)) (k : ℕ) → IsVisitedIn s 0 k (good_visits i cs) → i ≤ k
good-from s valid i [] k at = absurd at
good-from s valid i (b ∷ more) k (inl here) = omega (arith, sym (ancestor-none s valid i) ∙ here.same ∙ ancestor-none s valid k)
good-from s valid i (b ∷ more) k (inr there) = omega (arith, good-from s valid (i + 1) more k there)

good-once : (s : ShapeRecord) → IsShape s → (i : ℕ) (cs : List (List ℕ)) → AreVisitedOnce s (good_visits i cs)
good-once s valid i [] = tt
good-once s valid i (b ∷ more) = (λ at. omega (arith, good-from s valid (i + 1) more i at), good-once s valid (i + 1) more)

good-due : (s : ShapeRecord) (Due : ℕ → ℕ → Type 0) (i : ℕ) (cs : List (List ℕ)) → ((k : ℕ) → i ≤ k → k < i + length cs → Due 0 k) → AreVisitsDue s Due (good_visits i cs)
good-due s Due i [] of = due-none s Due
good-due s Due i (b ∷ more) of =
    All-cons (λ (v : Visit). IsDueAt s Due v.height v.index) (visit 0 i mended.Good b true) (good_visits (i + 1) more) (due-at s Due 0 i (of i (omega arith) (omega arith)))
    (good-due s Due (i + 1) more (λ k from below. of k (omega (arith, from)) (omega (arith, below))))

-- so a row that was seen to be good is a run over its blocks
pub noted-good : {j : Job} {w w' : RepairWorld} {old : Option (List ℕ)} {a : BadBlocks} (p : PathRecord) (row : Row) → IsShape j.tree.shape → IsWorldRead w w' → IsGoodRow j p row w.data_dev
    → ((k : ℕ) → row.first ≤ k → k < row.end → (k < j.tree.shape.blocks) × IsWay j.tree k row.height p) → HasNoted j (IsOfRow row) w w' old old a a None
noted-good {j} {w} {w'} {old} {a} p row valid read good ways =
    let cs = good.good.contents in
    let vs = good_visits row.first cs in
    let end : (k : ℕ) → row.first ≤ k → k < row.end → k < row.first + length cs = λ k from below. omega (arith, from, below, good.good.count) in
    let visited : (h i : ℕ) → IsOfRow row h i → IsVisitedIn j.tree.shape h i vs =
    λ h i due. subst (λ (n : ℕ). IsVisitedIn j.tree.shape n i vs) (sym good.height_is ∙ due.0) (good-in j.tree.shape row.first cs i due.1.0 (end i due.1.0 due.1.1)) in
    record {
      run = record {
        visits = vs;
        runs = subst (λ (l : List Visit). VisitsAll j l w w') (append-nil vs)
            (runs-then j vs [] w w w' (good-runs j p w row.first cs
            (λ k from below.
            let here = ways k from (omega (arith, from, below, good.good.count)) in
            (here.0, subst (λ (h : ℕ). IsWay j.tree k h p) good.height_is here.1)) good.good.are) read);
        done = λ ok. good-done row.first cs;
        printed = λ ok. subst (Appends old old) (sym (good-told j row.first cs)) (Appends-nil old);
        cause = tt;
      };
      asked = refl;
      noted = λ ok on. sym (append-nil a.blocks.items) ∙ ap (λ (l : List BadBlock). a.blocks.items ++ l) (sym (good-noted j row.first cs));
      looked = λ ok h i due. inl (visited h i due);
      only = λ ok. good-due j.tree.shape (IsOfRow row) row.first cs (λ k from below. (good.height_is, (from, omega (arith, below, good.good.count))));
      once = λ ok. good-once j.tree.shape valid row.first cs;
      any = λ ok clean. (clean, good-then j row.first cs);
      passed = λ ok clean. (clean, visited);
      flaws = λ ok. flaws-none j w w' a;
    }
