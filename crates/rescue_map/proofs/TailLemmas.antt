-- Blocks of bytes as sectors.
use Rattle.std.proofs.Common.{◌≡◌, ℕ, ◌+◌, ◌-◌, ◌*◌, ◌/◌, ◌%◌, ◌<◌, ◌≤◌, Bool, true, false, eqb, ltb, List, [], ◌∷◌, ◌++◌, length, replicate, append-nil, eqb-true, refl, sym, ap, ap₂, subst, ◌∙◌, arith}
use Rattle.std.proofs.lemmas.Bool.{cond-false, cond-true, eq-eqb, false≢true, le-ltb, lt-ltb, ltb-false, ltb-true}
use Rattle.std.proofs.lemmas.List.{length-append, length-replicate}
use Rattle.std.proofs.lemmas.List.Concat.{flat_map-append}
use Rattle.rescue_map.specs.declared.block.Block.{Block}
use Rattle.rescue_map.specs.declared.map.Run.{Run}
use Rattle.rescue_map.specs.declared.status.Status.{Status}
use Rattle.rescue_map.specs.declared.status.Status.TheVariants.{Bad, Recovered, Unscraped, Untried, Untrimmed}
use Rattle.rescue_map.specs.declared.tail.Tail.{Tail}
use Rattle.rescue_map.specs.Maps.{marks}
use Rattle.rescue_map.specs.Statuses.{is_recovered, least}
use Rattle.rescue_map.specs.Stages.{run_of}
use Rattle.rescue_map.specs.Tails.{IsTail, block_runs, block_tail, completed, lacking, no_tail, tail_of, whole_run}

-- the sectors of two lists of runs
pub length-both : (before after : List Run) → length (marks (before ++ after)) ≡ length (marks before) + length (marks after)
length-both before after = ap length (flat_map-append (λ (r : Run). replicate r.count r.had) before after) ∙ length-append (marks before) (marks after)

length-one : (count : ℕ) (status : Status) → length (marks (run_of count status ∷ [])) ≡ count
length-one count status = ap length (append-nil (replicate count (is_recovered status))) ∙ length-replicate {A = Bool} count (is_recovered status)

-- ---- the sectors that a block ends

completed-length : (tail : Tail) (status : Status) → tail.count < 512 → length (marks (completed tail status)) * 512 ≡ tail.count + lacking tail
completed-length tail status part = by (eqb tail.count 0) refl
  where
    by : (none : Bool) → eqb tail.count 0 ≡ none → length (marks (completed tail status)) * 512 ≡ tail.count + lacking tail
    by true e =
        let none : tail.count ≡ 0 = eqb-true tail.count 0 e in
        let made : length (marks (completed tail status)) ≡ 0 = ap (λ (r : List Run). length (marks r)) (cond-true (eqb tail.count 0) [] (run_of 1 (least tail.status status) ∷ []) e) in
        let lacks : lacking tail ≡ 0 = cond-true (eqb tail.count 0) 0 (512 - tail.count) e in
        omega (arith, none, made, lacks)
    by false e =
        let made : length (marks (completed tail status)) ≡ 1 = ap (λ (r : List Run). length (marks r)) (cond-false (eqb tail.count 0) [] (run_of 1 (least tail.status status) ∷ []) e) ∙ length-one 1 (least tail.status status) in
        let lacks : lacking tail ≡ 512 - tail.count = cond-false (eqb tail.count 0) 0 (512 - tail.count) e in
        omega (arith, part, made, lacks)

lacking-fits : (tail : Tail) → tail.count < 512 → tail.count + lacking tail ≤ 512
lacking-fits tail part = by (eqb tail.count 0) refl
  where
    by : (none : Bool) → eqb tail.count 0 ≡ none → tail.count + lacking tail ≤ 512
    by true e =
        let lacks : lacking tail ≡ 0 = cond-true (eqb tail.count 0) 0 (512 - tail.count) e in
        omega (arith, part, lacks)
    by false e =
        let lacks : lacking tail ≡ 512 - tail.count = cond-false (eqb tail.count 0) 0 (512 - tail.count) e in
        omega (arith, part, lacks)

whole-length : (count : ℕ) (status : Status) → length (marks (whole_run count status)) ≡ count / 512
whole-length count status = by (ltb count 512) refl
  where
    by : (few : Bool) → ltb count 512 ≡ few → length (marks (whole_run count status)) ≡ count / 512
    by true e =
        let few : count < 512 = ltb-true count 512 e in
        ap (λ (r : List Run). length (marks r)) (cond-true (ltb count 512) [] (run_of (count / 512) status ∷ []) e) ∙ omega (arith, few)
    by false e = ap (λ (r : List Run). length (marks r)) (cond-false (ltb count 512) [] (run_of (count / 512) status ∷ []) e) ∙ length-one (count / 512) status

tail_of-count : (count : ℕ) (status : Status) → (tail_of count status).count ≡ count % 512
tail_of-count count status = by (eqb (count % 512) 0) refl
  where
    by : (none : Bool) → eqb (count % 512) 0 ≡ none → (tail_of count status).count ≡ count % 512
    by true e = ap (λ (t : Tail). t.count) (cond-true (eqb (count % 512) 0) no_tail (record { count = count % 512; status = status }) e) ∙ sym (eqb-true (count % 512) 0 e)
    by false e = ap (λ (t : Tail). t.count) (cond-false (eqb (count % 512) 0) no_tail (record { count = count % 512; status = status }) e)

tail_of-is : (count : ℕ) (status : Status) → IsTail (tail_of count status)
tail_of-is count status = by (eqb (count % 512) 0) refl
  where
    by : (none : Bool) → eqb (count % 512) 0 ≡ none → IsTail (tail_of count status)
    by true e = subst IsTail (sym (cond-true (eqb (count % 512) 0) no_tail (record { count = count % 512; status = status }) e)) (record { part = omega arith; none = λ h. refl })
    by false e = subst IsTail (sym (cond-false (eqb (count % 512) 0) no_tail (record { count = count % 512; status = status }) e)) (record { part = omega arith; none = λ h. absurd (false≢true (sym e ∙ eq-eqb (count % 512) 0 h)) })

-- ---- a block that ends no sector, or some

module _ (tail : Tail) (block : Block) where
  abbrev pub within : Bool
  within = ltb (tail.count + block.count) 512

  abbrev more : Tail
  more = record { count = tail.count + block.count; status = least tail.status block.status }

  abbrev rest : ℕ
  rest = block.count - lacking tail

  pub runs-within : within ≡ true → block_runs tail block ≡ []
  runs-within e = cond-true within [] (completed tail block.status ++ whole_run rest block.status) e

  pub runs-past : within ≡ false → block_runs tail block ≡ completed tail block.status ++ whole_run rest block.status
  runs-past e = cond-false within [] (completed tail block.status ++ whole_run rest block.status) e

  pub tail-within : within ≡ true → block_tail tail block ≡ more
  tail-within e = cond-true within more (tail_of rest block.status) e

  pub tail-past : within ≡ false → block_tail tail block ≡ tail_of rest block.status
  tail-past e = cond-false within more (tail_of rest block.status) e

  -- no byte is lost
  pub bytes-block : tail.count < 512 → length (marks (block_runs tail block)) * 512 + (block_tail tail block).count ≡ tail.count + block.count
  bytes-block part = by within refl
    where
      by : (w : Bool) → within ≡ w → length (marks (block_runs tail block)) * 512 + (block_tail tail block).count ≡ tail.count + block.count
      by true e = omega (arith, ap (λ (r : List Run). length (marks r)) (runs-within e), ap (λ (t : Tail). t.count) (tail-within e))
      by false e =
          let past : 512 ≤ tail.count + block.count = ltb-false (tail.count + block.count) 512 e in
          let runs : length (marks (block_runs tail block)) ≡ length (marks (completed tail block.status)) + length (marks (whole_run rest block.status)) =
          ap (λ (r : List Run). length (marks r)) (runs-past e) ∙ length-both (completed tail block.status) (whole_run rest block.status) in
          let after : (block_tail tail block).count ≡ rest % 512 = ap (λ (t : Tail). t.count) (tail-past e) ∙ tail_of-count rest block.status in
          omega (arith, part, past, runs, after, lacking-fits tail part, completed-length tail block.status part, whole-length rest block.status)

  pub tail-few : (block_tail tail block).count < 512
  tail-few = by within refl
    where
      by : (w : Bool) → within ≡ w → (block_tail tail block).count < 512
      by true e =
          let few : tail.count + block.count < 512 = ltb-true (tail.count + block.count) 512 e in
          omega (arith, few, ap (λ (t : Tail). t.count) (tail-within e))
      by false e = omega (arith, ap (λ (t : Tail). t.count) (tail-past e), tail_of-count rest block.status)

  pub tail-is : tail.count < 512 → 1 ≤ block.count → IsTail (block_tail tail block)
  tail-is part some = by within refl
    where
      by : (w : Bool) → within ≡ w → IsTail (block_tail tail block)
      by true e =
          let few : tail.count + block.count < 512 = ltb-true (tail.count + block.count) 512 e in
          subst IsTail (sym (tail-within e)) (record { part = few; none = λ h. absurd (omega (arith, h, some)) })
      by false e = subst IsTail (sym (tail-past e)) (tail_of-is rest block.status)

-- ---- whole sectors after whole sectors, and bytes after them

least-recovered : (status : Status) → least Recovered status ≡ status
least-recovered Untried = refl
least-recovered Untrimmed = refl
least-recovered Unscraped = refl
least-recovered Bad = refl
least-recovered Recovered = refl

module _ (first count : ℕ) (status : Status) where
  abbrev block : Block
  block = record { first = first; count = count; status = status }

  pub runs-whole : (sectors : ℕ) → count ≡ sectors * 512 → 1 ≤ sectors → block_runs no_tail block ≡ run_of sectors status ∷ []
  runs-whole sectors is some =
      let same : count / 512 ≡ sectors = omega (arith, is) in
      let all : count - 0 ≡ count = omega arith in
      runs-past no_tail block (le-ltb (0 + count) 512 (omega (arith, is, some)))
      ∙ ap (λ (n : ℕ). whole_run n status) all
      ∙ cond-false (ltb count 512) [] (run_of (count / 512) status ∷ []) (le-ltb count 512 (omega (arith, is, some)))
      ∙ ap (λ (n : ℕ). run_of n status ∷ []) same

  pub tail-whole : (sectors : ℕ) → count ≡ sectors * 512 → 1 ≤ sectors → block_tail no_tail block ≡ no_tail
  tail-whole sectors is some =
      let all : count - 0 ≡ count = omega arith in
      tail-past no_tail block (le-ltb (0 + count) 512 (omega (arith, is, some)))
      ∙ ap (λ (n : ℕ). tail_of n status) all
      ∙ cond-true (eqb (count % 512) 0) no_tail (record { count = count % 512; status = status }) (eq-eqb (count % 512) 0 (omega (arith, is)))

  pub runs-part : count < 512 → block_runs no_tail block ≡ []
  runs-part few = runs-within no_tail block (lt-ltb (0 + count) 512 (omega (arith, few)))

  pub tail-part : count < 512 → block_tail no_tail block ≡ record { count = count; status = status }
  tail-part few =
      let same : 0 + count ≡ count = omega arith in
      tail-within no_tail block (lt-ltb (0 + count) 512 (omega (arith, few)))
      ∙ ap₂ (λ (n : ℕ) (s : Status). record { count = n; status = s }) same (least-recovered status)
