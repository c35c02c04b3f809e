-- The laws of `verity`.
use Rattle.std.proofs.Common.{◌≡◌, ℕ, ◌*◌, ◌/◌, ◌%◌, ◌<◌, true, false, List, [], ◌∷◌, get_or, drop, Ok, refl, sym, ap, ◌∙◌, subst, arith}
use Rattle.std.proofs.lemmas.List.{length-drop, length-take-le}
use Rattle.std.proofs.lemmas.Nat.{mod_below}
use Rattle.std.proofs.Math.Path.{fun_ext}
use Rattle.tree_shape.specs.Shape.{levels}
use Rattle.block_device.specs.Device.{IsSector}
use Rattle.dm_table.specs.declared.table.Target.TheVariants.{Verity as verity_target}
use Rattle.dm_table.specs.declared.verity.Verity.{Verity}
use Rattle.stack_rules.specs.Trees.{tree_of, block_sectors}
use Rattle.stack_meaning.specs.Found.{Entry}
use Rattle.stack_meaning.specs.Blocks.{verified_block}
use Rattle.stack_meaning.specs.Outcomes.{Images, Outcome, then_outcome, part}
use Rattle.stack_meaning.specs.Said.{Said}
use Rattle.stack_meaning.specs.Spares.{BlockSources}
use Rattle.stack_meaning.specs.targets.Verity.{sources_over, verity_meaning}
use Rattle.stack_meaning.proofs.lemmas.BlockSizeLemmas.{whole-sectors}
use Rattle.stack_meaning.proofs.lemmas.MeaningLaws.{IsAlike, MeantLaws}
use Rattle.stack_meaning.proofs.lemmas.CheckedLemmas.{then-parts}
use Rattle.stack_meaning.proofs.lemmas.SizedLemmas.{block-length}
use Rattle.stack_meaning.proofs.lemmas.LeafListLemmas.{images-kept}

-- the three devices mean the same over both
pub sources-alike : (images other : Images) (below : ℕ → ℕ → Said) → ((i t : ℕ) → IsAlike images other (below i t)) → sources_over below images ≡ sources_over below other
sources-alike images other below all =
    let over : ℕ → Images → ℕ → Outcome = λ i m t. (below i t).means m in
    let same : (i : ℕ) → over i images ≡ over i other = λ i. fun_ext (all i) in
    let sources : (ℕ → Outcome) → (ℕ → Outcome) → (ℕ → Outcome) → BlockSources = λ x y z. record { on_data = x; on_hash = y; on_parity = z } in
    ap (λ (f : ℕ → Outcome). sources f (over 1 images) (over 2 images)) (same 0)
    ∙ ap (λ (f : ℕ → Outcome). sources (over 0 other) f (over 2 images)) (same 1)
    ∙ ap (λ (f : ℕ → Outcome). sources (over 0 other) (over 1 other) f) (same 2)

pub verity-laws : (v : Verity) → MeantLaws (verity_target v) (verity_meaning v).meant
verity-laws v = record {
  mono = λ below all d l s u w more b h. (h.0, record { given = more h.0 h.1.given; at = h.1.at; good = h.1.good }, h.2);
  alike = λ images other below all d l s.
      let next : List ℕ → Outcome = λ block. Ok (part block (s % (v.data_block / 512))) in
      ap (λ (sources : BlockSources). then_outcome (verified_block v sources (s / (v.data_block / 512))) next) (sources-alike images other below all);
  sized = λ grammar images below all d l s b h.
      let some = whole-sectors v.data_block grammar.places.data_block in
      let i : ℕ = s / block_sectors v in
      let sources : BlockSources = sources_over below images in
      let read = then-parts (verified_block v sources i) (λ block. Ok (part block (s % block_sectors v))) b h in
      let size = block-length v sources some.whole (all 0) i (levels (tree_of v)) v.root read.0 read.1 in
      let low : s % block_sectors v < block_sectors v = mod_below s (block_sectors v) some.some in
      let same : part read.0 (s % block_sectors v) ≡ b = cc in
      subst IsSector same (length-take-le 512 (drop (512 * (s % block_sectors v)) read.0) (omega (arith, size, low, length-drop (512 * (s % block_sectors v)) read.0)));
  shows = λ chains P below all d l s own bytes entry may there.
      let here : Entry = (d, l, s / block_sectors v) in
      let first : there.0 ≡ 0 = omega (arith, there.1) in
      let same : here ≡ entry = ap (λ (k : ℕ). get_or (here ∷ []) k entry) (sym first) ∙ there.2 in
      subst P same (own v may.0 (s / block_sectors v) refl may.1);
  unchecked = λ len writable below all d l s h. let clash : true ≡ false = writable in cc;
  later = λ below certain old new n chain a before h. record {
    good = h.good;
    exact = λ sure. ap (λ (m : Images). verified_block v (sources_over below m) chain.index) (images-kept a) ∙ h.exact (before sure);
  };
}
