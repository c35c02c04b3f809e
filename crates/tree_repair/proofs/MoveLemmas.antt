-- Data blocks that were copied or fetched: visits and their lines.
use Rattle.std.proofs.Common.{◌≡◌, ◌+◌, ℕ, List, [], ◌∷◌, ◌++◌, Option, None, map, refl, sym, subst, arith, true}
use Rattle.std.specs.List.{flat_map}
use Rattle.std.specs.Io.KnownBytes.{Appends}
use Rattle.std.proofs.KnownBytes.{Appends-nil, Appends-trans}
use Rattle.std.proofs.lemmas.Grind.{flat_map-append}
use Rattle.std.proofs.lemmas.List.{append-nil, length-append, map-append}
use Rattle.std.proofs.lemmas.List.Elements.{All-append, All-cons, All-nil}
use Rattle.block_device.specs.Device.{capped}
use Rattle.tree_repair.specs.declared.fault.RepairFault.{RepairFault}
use Rattle.tree_repair.specs.declared.mending.Mended.TheVariants as mended
use Rattle.tree_repair.specs.declared.repair.Plan.{Plan}
use Rattle.tree_repair.specs.Bounds.{IsOnePass}
use Rattle.tree_repair.specs.CopyReads.{ReadsCopies, ReadsLists}
use Rattle.tree_repair.specs.Moves.{Copied, CopiesBlocks, FetchesBlocks, IsCopied, MovesBlocks, copied_line, fetched_line, moved_line}
use Rattle.tree_repair.specs.Repairs.{LiesOn, job_of}
use Rattle.tree_repair.specs.Runs.{HasRun, IsVisited, Job, Visit, VisitsAll, visit}
use Rattle.tree_repair.specs.Worlds.{IsWorldRead, RepairWorld}
use Rattle.tree_repair.proofs.RepairLemmas.{repairs-of}
use Rattle.tree_repair.proofs.RunLemmas.{AreSame, runs-one, runs-read, runs-same, runs-then}

-- a run, without what it printed
abbrev pub unheard : {j : Job} {a b : RepairWorld} {old new : Option (List ℕ)} {fault : Option RepairFault} → HasRun j a b old new fault → HasRun j a b None None fault
unheard {j} {a} {b} {old} {new} {fault} run = record { visits = run.visits; runs = run.runs; done = run.done; printed = λ end. tt; cause = run.cause }

-- ---- copied blocks

abbrev visits_of : List Copied → List Visit
visits_of items = map (λ (c : Copied). c.visit) items

-- none
pub copies-read : {j : Job} {line : ℕ → ℕ → List ℕ} {a b : RepairWorld} {old : Option (List ℕ)} → IsWorldRead a b → CopiesBlocks j line 0 a b old old
copies-read {j} {line} {a} {b} {old} read = record { items = []; runs = read; each = All-nil IsCopied; told = Appends-nil old; counted = omega arith }

-- one
pub copies-one : {j : Job} {line : ℕ → ℕ → List ℕ} {a b : RepairWorld} {old new : Option (List ℕ)} {h i : ℕ} {bytes : List ℕ} (source : ℕ) → h ≡ 0 → IsVisited j (visit h i mended.Parity bytes true) a b → Appends old new (line i source)
    → CopiesBlocks j line 1 a b old new
copies-one {j} {line} {a} {b} {old} {new} {h} {i} {bytes} source low here told =
    let c : Copied = record { visit = visit h i mended.Parity bytes true; source = source } in
    record {
      items = c ∷ [];
      runs = runs-one j c.visit a b here;
      each = All-cons IsCopied c [] (record { low = low; written = refl; done = refl }) (All-nil IsCopied);
      told = subst (Appends old new) (sym (append-nil (line i source))) told;
      counted = omega arith;
    }

-- after reads
pub copies-behind : {j : Job} {line : ℕ → ℕ → List ℕ} {n : ℕ} {a b c : RepairWorld} {old new : Option (List ℕ)} → IsWorldRead a b → CopiesBlocks j line n b c old new → CopiesBlocks j line n a c old new
copies-behind {j} {line} {n} {a} {b} {c} read h = record { items = h.items; runs = runs-read j (visits_of h.items) a b c read h.runs; each = h.each; told = h.told; counted = h.counted }

-- one part after another
pub copies-then : {j : Job} {line : ℕ → ℕ → List ℕ} {m n all : ℕ} {a b c : RepairWorld} {old now new : Option (List ℕ)} → all ≡ capped (m + n) → CopiesBlocks j line m a b old now → CopiesBlocks j line n b c now new
    → CopiesBlocks j line all a c old new
copies-then {j} {line} {m} {n} {all} {a} {b} {c} {old} {now} {new} is p q = record {
  items = p.items ++ q.items;
  runs = subst (λ (vs : List Visit). VisitsAll j vs a c) (sym (map-append (λ (x : Copied). x.visit) p.items q.items)) (runs-then j (visits_of p.items) (visits_of q.items) a b c p.runs q.runs);
  each = All-append IsCopied p.items q.items p.each q.each;
  told = subst (Appends old new) (sym (flat_map-append (copied_line line) p.items q.items))
      (Appends-trans old now new (flat_map (copied_line line) p.items) (flat_map (copied_line line) q.items) p.told q.told);
  counted = omega (arith, is, p.counted, q.counted, length-append p.items q.items);
}

-- ---- fetched blocks

pub fetches-read : (j : Job) {a b : RepairWorld} {old : Option (List ℕ)} → IsWorldRead a b → FetchesBlocks j a b old old
fetches-read j read = (0, copies-read read)

pub fetches-behind : (j : Job) {a b c : RepairWorld} {old new : Option (List ℕ)} → IsWorldRead a b → FetchesBlocks j b c old new → FetchesBlocks j a c old new
fetches-behind j read h = (h.0, copies-behind read h.1)

pub fetches-then : (j : Job) {a b c : RepairWorld} {old now new : Option (List ℕ)} → FetchesBlocks j a b old now → FetchesBlocks j b c now new → FetchesBlocks j a c old new
fetches-then j p q = (capped (p.0 + q.0), copies-then refl p.1 q.1)

-- ---- the whole

lies-same : (plan : Plan) (a b : RepairWorld) → AreSame a b → LiesOn plan.tree.shape a → LiesOn plan.tree.shape b
lies-same plan a b same lies = record { valid = lies.valid; data_fits = omega (arith, lies.data_fits, same.data_same.size); tree_fits = omega (arith, lies.tree_fits, same.hash_same.size) }

-- A run over the tree, and then copies and fetches; from `settled` on runs were read from the copies.
module _ (plan : Plan) (j : Job) (same : j ≡ job_of plan true) {w mid placed settled w' : RepairWorld} {old between heard listed new : Option (List ℕ)} {shifted seeds count : ℕ} where
  pub moves-of : LiesOn plan.tree.shape w → HasRun j w mid old between None → HasRun j mid w' None None None → CopiesBlocks j moved_line shifted mid placed between heard
      → CopiesBlocks j (fetched_line j) seeds placed settled heard listed → FetchesBlocks j settled w' listed new
      → IsOnePass plan.tree.shape w mid → placed.data_copies ≡ mid.data_copies → ReadsLists j placed settled → ReadsCopies j settled w' → count ≡ capped (shifted + seeds) → MovesBlocks plan w w' old new count
  moves-of lies tree moved moves copies fetched within kept lists reads counted = record {
    mid = mid;
    placed = placed;
    settled = settled;
    between = between;
    heard = heard;
    listed = listed;
    shifted = shifted;
    seeds = seeds;
    tree = repairs-of plan true j w same lies mid old between None tree;
    moved = repairs-of plan true j mid same (lies-same plan w mid (runs-same j tree.visits w mid tree.runs) lies) w' None None None moved;
    moves = subst (λ (k : Job). CopiesBlocks k moved_line shifted mid placed between heard) same moves;
    copies = subst (λ (k : Job). CopiesBlocks k (fetched_line k) seeds placed settled heard listed) same copies;
    fetched = subst (λ (k : Job). FetchesBlocks k settled w' listed new) same fetched;
    within = within;
    kept = kept;
    lists = subst (λ (k : Job). ReadsLists k placed settled) same lists;
    reads = subst (λ (k : Job). ReadsCopies k settled w') same reads;
    counted = counted;
  }
