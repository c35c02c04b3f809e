-- Lost blocks that are sought by parity, one after another.
use Rattle.std.proofs.Common.{◌≡◌, ◌<◌, ◌+◌, ◌||◌, ℕ, Bool, true, false, IsTrue, List, [], ◌∷◌, ◌++◌, length, take, get_or, Option, Some, None, Result, Ok, Err, refl, sym, ap, ◌∙◌, subst, inl, inr}
use Rattle.std.specs.Prelude.{IfOk}
use Rattle.std.specs.Str.{bytes_eq}
use Rattle.std.proofs.lemmas.Bool.{true≢false}
use Rattle.std.proofs.Math.Bool.{or-false, or_assoc}
use Rattle.std.proofs.lemmas.List.{append-nil, take_more}
use Rattle.block_device.specs.Device.{Device}
use Rattle.fec_area.specs.declared.layout.Layout.{Layout}
use Rattle.fec_area.specs.Restoring.{IsMadeAgain}
use Rattle.tree_shape.specs.Digests.{digest}
use Rattle.tree_shape.specs.Shape.{ShapeRecord}
use Rattle.tree_path.specs.Path.{PathRecord, digest_on}
use Rattle.tree_path.proofs.lemmas.PathLemmas.{is_same-cases}
use Rattle.tree_repair.specs.declared.bad.BadBlock.{BadBlock}
use Rattle.tree_repair.specs.Parity.{IsCoveredAt, IsPlacedAndRead}
use Rattle.tree_repair.specs.Runs.{Job}
use Rattle.tree_repair.specs.ParitySearches.{AreCovered, AreSought, IsCoveredOr, IsFoundOrVain, IsMadeOrVain, IsSought, IsSoughtAt, IsTried, Trial, is_hash_back, listed_number, trial}
use Rattle.tree_repair.specs.Worlds.{IsParityRead, IsWorldRead, RepairWorld}
use Rattle.tree_repair.proofs.RunLemmas.{world-then}

-- what was made has the digest, or another
pub made-or : (j : Job) (p : PathRecord) (h i : ℕ) (t : Trial) (k : ℕ) (bytes : List ℕ) (same : Bool) → IsCoveredAt j.tree.shape t.layout h i k
    → (IsTrue t.w.data_dev.steady → IsTrue t.w.hash_dev.steady → IsTrue t.parity_dev.steady → IsMadeAgain t.layout t.w.data_dev.image t.w.hash_dev.image t.parity_dev.image t.lost k bytes)
    → same ≡ bytes_eq (digest j.tree.salt bytes) (digest_on p i h) → IsMadeOrVain j p h i t same
made-or j p h i t k bytes true at made is = tt
made-or j p h i t k bytes false at made is = λ place. inr (k, (at, inr (record { bytes = bytes; other = is_same-cases (digest j.tree.salt bytes) (digest_on p i h) false is; made = made })))

-- what wasn't made was looked for by wrong bytes, and found or not
pub found-or : {E : Type 0} (j : Job) (p : PathRecord) (h i : ℕ) (l : Layout) (lost : List ℕ) (w a w' : RepairWorld) (q b q' : Device) (r : Result Bool E) → IsMadeOrVain j p h i (trial l lost w a q b) false
    → IsWorldRead w a → IsParityRead q b → IsWorldRead a w' → IsParityRead b q' → IfOk r (IsFoundOrVain j p h i (trial l lost w w' q q'))
found-or j p h i l lost w a w' q b q' (Ok true) vain read parity more parity_more = tt
found-or j p h i l lost w a w' q b q' (Ok false) vain read parity more parity_more = λ place. record {
  between = a;
  parity_between = b;
  first = record { image = read; parity = parity };
  rest = record { image = more; parity = parity_more };
  vain = vain place;
}
found-or j p h i l lost w a w' q b q' (Err e) vain read parity more parity_more = tt

-- what was written came back, or is there
pub tried-placed : {E : Type 0} (j : Job) (h i : ℕ) (l : Layout) (lost : List ℕ) (w a w' : RepairWorld) (p p' : Device) (bytes : List ℕ) (r : Result Bool E) → IsWorldRead w a → IsParityRead p p' → IfOk r (IsPlacedAndRead j h i bytes a w')
    → IfOk r (IsTried j h i (trial l lost w w' p p'))
tried-placed j h i l lost w a w' p p' bytes (Ok true) read parity placed = (record { between = a; read = read; bytes = bytes; behind = placed.0; visited = placed.1.0; read_back = placed.1.1 }, parity)
tried-placed j h i l lost w a w' p p' bytes (Ok false) read parity placed =
    (record { image = world-then w a w' read placed.0; parity = parity }, inr (record { between = a; read = read; good = placed.1 }))
tried-placed j h i l lost w a w' p p' bytes (Err e) read parity placed = tt

pub sought-behind : {E : Type 0} (j : Job) (h i : ℕ) (found : Bool) (l : Layout) (lost : List ℕ) (w a w' : RepairWorld) (p p' : Device) (r : Result Bool E) → IsWorldRead w a → found ≡ false → IfOk r (IsTried j h i (trial l lost a w' p p'))
    → IfOk r (λ back. IsSoughtAt j h i (trial l lost w w' p p') found back)
sought-behind j h i true l lost w a w' p p' r read not tried = absurd (true≢false not)
sought-behind j h i false l lost w a w' p p' (Ok back) read not tried = inr (record { between = a; read = read; tried = tried })
sought-behind j h i false l lost w a w' p p' (Err e) read not tried = tt

-- one more
sought-last : (j : Job) (l : Layout) (lost : List ℕ) (bs : List BadBlock) (b : BadBlock) (w a w' : RepairWorld) (p q p' : Device) (hash_came back : Bool) → AreSought j l lost bs w a p q hash_came → IsSought j b (trial l lost a w' q p') back
    → AreSought j l lost (bs ++ b ∷ []) w w' p p' (hash_came || is_hash_back back b)
sought-last j l lost [] b w a w' p q p' hash_came back (same, (parity_same, none)) last =
    (w', (p', (back, (false, (ap (λ (z : Bool). z || is_hash_back back b) none ∙ sym (or-false (is_hash_back back b)), (subst (λ (x : RepairWorld). IsSought j b (trial l lost x w' p p') back) same (subst (λ (d : Device). IsSought j b (trial l lost a w' d p') back) parity_same last), (refl, (refl, refl))))))))
sought-last j l lost (c ∷ more) b w a w' p q p' hash_came back (x, (d, (y, (rest, (is, (here, are)))))) last =
    (x, (d, (y, (rest || is_hash_back back b, (ap (λ (z : Bool). z || is_hash_back back b) is ∙ or_assoc (is_hash_back y c) rest (is_hash_back back b), (here, sought-last j l lost more b x a w' d q p' rest back are last))))))

pub sought-next : (j : Job) (l : Layout) (lost : List ℕ) (bs : List BadBlock) (i : ℕ) (b : BadBlock) (w a w' : RepairWorld) (p q p' : Device) (hash_came back : Bool) → i < length bs
    → AreSought j l lost (take i bs) w a p q hash_came → IsSought j (get_or bs i b) (trial l lost a w' q p') back → AreSought j l lost (take (i + 1) bs) w w' p p' (hash_came || is_hash_back back (get_or bs i b))
sought-next j l lost bs i b w a w' p q p' hash_came back inside before last =
    subst (λ (xs : List BadBlock). AreSought j l lost xs w w' p p' (hash_came || is_hash_back back (get_or bs i b))) (sym (take_more bs i b inside)) (sought-last j l lost (take i bs) (get_or bs i b) w a w' p q p' hash_came back before last)

-- ---- those that are covered

covered-last : (s : ShapeRecord) (l : Layout) (bs : List BadBlock) (b : BadBlock) (lost : List ℕ) (r : Option ℕ) → AreCovered s l bs lost → IsCoveredOr s l b.place.height b.place.index r → AreCovered s l (bs ++ b ∷ []) (lost ++ listed_number r)
covered-last s l [] b lost None are last = inr (last, append-nil lost ∙ are)
covered-last s l [] b lost (Some k) are last = inl (k, ([], (ap (λ (x : List ℕ). x ++ k ∷ []) are, (last, refl))))
covered-last s l (c ∷ more) b lost r (inl (k, (rest, (is, (at, are))))) last =
    inl (k, (rest ++ listed_number r, (ap (λ (x : List ℕ). x ++ listed_number r) is, (at, covered-last s l more b rest r are last))))
covered-last s l (c ∷ more) b lost r (inr (not, are)) last = inr (not, covered-last s l more b lost r are last)

pub covered-next : (s : ShapeRecord) (l : Layout) (bs : List BadBlock) (i : ℕ) (b : BadBlock) (lost : List ℕ) (r : Option ℕ) → i < length bs → AreCovered s l (take i bs) lost
    → IsCoveredOr s l (get_or bs i b).place.height (get_or bs i b).place.index r → AreCovered s l (take (i + 1) bs) (lost ++ listed_number r)
covered-next s l bs i b lost r inside before last =
    subst (λ (xs : List BadBlock). AreCovered s l xs (lost ++ listed_number r)) (sym (take_more bs i b inside)) (covered-last s l (take i bs) (get_or bs i b) lost r before last)
