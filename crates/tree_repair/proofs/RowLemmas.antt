-- Rows of blocks, and the way to each of them.
use Rattle.std.proofs.Common.{◌≡◌, ◌≤◌, ◌<◌, ◌+◌, ◌/◌, ◌%◌, ◌^◌, ℕ, min, ap, sym, ◌∙◌, subst, refl, arith}
use Rattle.std.proofs.Math.Nat.{add-mod_right}
use Rattle.tree_shape.specs.Shape.{ShapeRecord, IsShape, ancestor, per_block}
use Rattle.tree_shape.proofs.lemmas.ShapeFactLemmas.{two}
use Rattle.tree_path.specs.Path.{PathRecord}
use Rattle.tree_path.proofs.lemmas.PathLemmas.{leads-along}
use Rattle.tree_path.proofs.lemmas.SpanLemmas.{along}
use Rattle.tree_survey.specs.Surveys.{Tree, IsWay}

ancestor-is : (s : ShapeRecord) (m i : ℕ) → ancestor s m i ≡ i / per_block s ^ m
unfolding ancestor
ancestor-is s m i = refl

pub per_block-some : (s : ShapeRecord) → IsShape s → 0 < per_block s
per_block-some s valid = omega (arith, two s valid)

-- a block of a row has the same hash blocks above it as the first
pub way-along : (t : Tree) → IsShape t.shape → (a i h : ℕ) (p : PathRecord) → a % per_block t.shape ^ (h + 1) ≡ 0 → a ≤ i → i < a + per_block t.shape ^ (h + 1) → IsWay t a h p → IsWay t i h p
way-along t valid a i h p begins from below way =
    let same : (m : ℕ) → h < m → ancestor t.shape m a ≡ ancestor t.shape m i =
    λ m high. ancestor-is t.shape m a ∙ sym (along (per_block t.shape) (per_block-some t.shape valid) a i (h + 1) m (omega (arith, high)) begins from below) ∙ sym (ancestor-is t.shape m i) in
    record {
      is = way.is;
      few = way.few;
      leads = leads-along p a i h (subst (λ (s : ShapeRecord). (m : ℕ) → h < m → ancestor s m a ≡ ancestor s m i) (sym way.is.shape_is) same) way.leads;
    }

-- a row after another
pub row-next : (p h first width blocks end : ℕ) → first % p ^ (h + 1) ≡ 0 → width ≡ min (p ^ (h + 1)) blocks → end ≡ min (first + width) blocks → end < blocks → end % p ^ (h + 1) ≡ 0
row-next p h first width blocks end begins width_is end_is low =
    let big : ℕ = p ^ (h + 1) in
    let at : end ≡ first + big = omega (arith, width_is, end_is, low) in
    ap (λ (n : ℕ). n % big) at ∙ add-mod_right first big ∙ begins
