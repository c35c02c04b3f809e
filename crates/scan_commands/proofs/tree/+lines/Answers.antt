use Rattle.std.proofs.Common.{◌≡◌, ◌<◌, ◌++◌, ◌∷◌, [], List, Some, length, codes, not, refl, sym, ap, ◌∙◌, subst, arith}
use Rattle.std.specs.Prelude.{slice_get}
use Rattle.std.proofs.lemmas.Option.{slice_get_read}
use Rattle.std.proofs.lemmas.Result.{on_ok_weaker}
use Rattle.dm_table.specs.declared.table.Line.{Line}
use Rattle.stack_rules.specs.Names.{names}
use Rattle.stack_rules.proofs.lemmas.ValidLineLemmas.{few}
use Rattle.scan_commands.specs.TreeRows.{file_text}
use Rattle.scan_commands.specs.Trees.{beneath, line_at_shown, lines_shown, name_shown, name_text, opened, Shown}
use Rattle.scan_commands.specs.TreeViews.{bound, line_at}
use Rattle.scan_commands.proofs.TreeLemmas.{IsShown, beneath-more, beneath-none, device-inside, line-at, line-bare, lines-all, lines-few, lower-in, name-device, name-leaf, names-all, names-placed, opened-again, opened-first, place-none, place-some, shown-more, shown-none, text-then}
use Rattle.scan_commands.proofs.tree.+lines.Goals as goal

-- ---- the lines of a device

pub say_lines-loop-l-init : goal.say_lines-loop-l-init
say_lines-loop-l-init g t c =
    let s = bound c.args.shown.now in
    shown-none _ _ (line_at_shown s (beneath s c.args.place.now.steps) c.args.place.now.bars c.args.d.0 c.lines-lines.result.now) _

pub say_lines-bounds-printed-d : goal.say_lines-bounds-printed-d
say_lines-bounds-printed-d g t c = omega (arith, few c.args.shown.now.config.now c.count-loaded.ensures.loaded.valid, c.requires)

pub say_lines-overflow_cast-at : goal.say_lines-overflow_cast-at
say_lines-overflow_cast-at g t c =
    let config = c.args.shown.now.config.now in
    let few = lines-few config c.args.d.0 c.count-loaded.ensures.loaded c.requires in
    let same = ap (λ (x : List Line). length x) (c.lines-lines.ensures.value ∙ c.table.ensures) in
    omega (arith, few, same, c.loop-l-test.true)

pub say_lines-say_names-requires : goal.say_lines-say_names-requires
say_lines-say_names-requires g t c κs within =
    let lines = c.lines-lines.result.now in
    let l = c.loop-l.l in
    let line = c.index-lines-l.result in
    let there = slice_get_read lines (length lines) l line refl c.loop-l-test.true c.index-lines-l.is in
    (omega arith, (within, subst (λ (x : List Line). slice_get x l ≡ Some line) (c.lines-lines.ensures.value ∙ c.table.ensures) there))

pub say_lines-loop-l-preserved : goal.say_lines-loop-l-preserved
say_lines-loop-l-preserved g t c =
    let s = bound c.args.shown.now in
    let b = beneath s c.args.place.now.steps in
    let bars = c.args.place.now.bars in
    let lines = c.lines-lines.result.now in
    let l = c.loop-l.l in
    let line = c.index-lines-l.result in
    let there = slice_get_read lines (length lines) l line refl c.loop-l-test.true c.index-lines-l.is in
    let here = line-at s b bars c.args.d.0 l lines line c.loop-l.printed there in
    let e = c.in_ok-say_names.ensures in
    shown-more g.W.Write.contents _ c.loop-l.writer c.say_names.new.writer (line_at_shown s b bars c.args.d.0 lines) l _ _ c.loop-l.printed _
    refl c.loop-l.invariant (rw here e.writes.ok) e.writes.kept (rw here e.printed)

pub say_lines-returns : goal.say_lines-returns
say_lines-returns g t c =
    let s = bound c.args.shown.now in
    let lines = c.lines-lines.result.now in
    let all : c.loop-l.l ≡ length lines = omega arith in
    let whole = lines-all s (beneath s c.args.place.now.steps) c.args.place.now.bars c.args.d.0 lines c.loop-l.l _ c.args.printed.now (c.lines-lines.ensures.value ∙ c.table.ensures) all refl in
    let done = subst (λ (x : Shown). IsShown g.W.Write.contents c.args.writer.now c.loop-l.writer x c.loop-l.printed) whole c.loop-l.invariant in
    record { writes = record { ok = done.written; kept = done.kept; failed = tt }; printed = done.printed }

-- ---- the names of a line

pub say_names-loop-i-init : goal.say_names-loop-i-init
say_names-loop-i-init g t c =
    let s = bound c.args.shown.now in
    shown-none _ _ (name_shown s (beneath s c.args.place.now.steps) c.args.place.now.bars (line_at c.args.at.now)) _

pub say_names-say_name-requires : goal.say_names-say_name-requires
say_names-say_name-requires g t c κs within = (omega arith, (within, (c.requires, omega (arith, c.name_count-names.ensures.value, c.loop-i-test.true))))

pub say_names-loop-i-preserved : goal.say_names-loop-i-preserved
say_names-loop-i-preserved g t c =
    let s = bound c.args.shown.now in
    let e = c.in_ok-say_name.ensures in
    shown-more g.W.Write.contents _ c.loop-i.writer c.say_name.new.writer (name_shown s (beneath s c.args.place.now.steps) c.args.place.now.bars (line_at c.args.at.now)) c.loop-i.i _ _ c.loop-i.printed _
    refl c.loop-i.invariant e.writes.ok e.writes.kept e.printed

pub say_names-returns-then-names-eq0 : goal.say_names-returns-then-names-eq0
say_names-returns-then-names-eq0 g t c =
    let s = bound c.args.shown.now in
    let none : length (names c.args.at.now.line.now.target) ≡ 0 = omega (arith, c.name_count-names.ensures.value, c.if-names-eq0.true) in
    let is = line-bare s (beneath s c.args.place.now.steps) c.args.place.now.bars (line_at c.args.at.now) c.args.printed.now none in
    record {
      writes = rw (is, ← c.bars.ensures) c.say_bare.ensures;
      printed = on_ok_weaker c.say_bare.result (λ done. ap (λ (x : Shown). x.printed) (sym is)) c.say_bare.ensures.ok;
    }

pub say_names-returns : goal.say_names-returns
say_names-returns g t c =
    let s = bound c.args.shown.now in
    let at = line_at c.args.at.now in
    let some : 0 < length (names at.line.target) = omega (arith, c.name_count-names.ensures.value) in
    let all : c.loop-i.i ≡ length (names at.line.target) = omega (arith, c.name_count-names.ensures.value) in
    let whole = names-all s (beneath s c.args.place.now.steps) c.args.place.now.bars at c.loop-i.i c.args.printed.now some all in
    let done = subst (λ (x : Shown). IsShown g.W.Write.contents c.args.writer.now c.loop-i.writer x c.loop-i.printed) whole c.loop-i.invariant in
    record { writes = record { ok = done.written; kept = done.kept; failed = tt }; printed = done.printed }

-- ---- a name

pub say_name-lower-lower-requires : goal.say_name-lower-lower-requires
say_name-lower-lower-requires g t c =
    let at = line_at c.args.at.now in
    let line = c.args.at.now.line.now in
    let config = c.args.shown.now.config.now in
    record {
      device = device-inside config at.device at.number line c.requires.placed;
      name = rw (names-placed config at.device at.number line c.requires.placed) c.requires.name;
    }

pub say_name-say_row-requires : goal.say_name-say_row-requires
say_name-say_row-requires g t c = lower-in c.args.shown.now.config.now c.args.at.now.device.0 c.args.at.now.number c.args.i c.lower-lower.result c.lower-lower.ensures

pub say_name-returns-in_ok-say_file-in-Leaf : goal.say_name-returns-in_ok-say_file-in-Leaf
say_name-returns-in_ok-say_file-in-Leaf g t c =
    let s = bound c.args.shown.now in
    let at = line_at c.args.at.now in
    let bars = c.args.place.now.bars in
    let contents = g.W.Write.contents in
    let lower = c.lower-lower.result in
    let is = name-leaf s (beneath s c.args.place.now.steps) bars at c.args.i lower c.in-Leaf.leaf c.args.printed.now c.lower-lower.ensures c.in-Leaf.is in
    let row = name_text s.config bars at c.args.i lower in
    let of_file = file_text s.bindings c.in-Leaf.leaf in
    let ends = text-then contents c.say_row.new.writer c.say_file.new.writer c.put.new.self c.put.result of_file (codes "\n") (of_file ++ codes "\n")
    c.in_ok-say_file-in-Leaf.ensures.ok c.in_ok-say_file-in-Leaf.ensures.kept c.put.ensures.writes refl in
    record {
      writes = text-then contents c.args.writer.now c.say_row.new.writer c.put.new.self c.put.result row (of_file ++ codes "\n") _
          (rw c.bars.ensures at c.in_ok-say_row.ensures.ok) c.in_ok-say_row.ensures.kept ends (ap (λ (x : Shown). x.text) (sym is));
      printed = on_ok_weaker c.put.result (λ done. ap (λ (x : Shown). x.printed) (sym is)) c.put.ensures.writes.ok;
    }

pub say_name-returns-in-Device : goal.say_name-returns-in-Device
say_name-returns-in-Device g t c =
    let s = bound c.args.shown.now in
    let b = beneath s c.args.place.now.steps in
    let at = line_at c.args.at.now in
    let bars = c.args.place.now.bars in
    let lower = c.lower-lower.result in
    let last = c.is_last_name.result in
    let is = name-device s b bars at c.args.i lower c.in-Device.e last c.args.printed.now c.lower-lower.ensures c.in-Device.is c.is_last_name.ensures in
    let more = opened b (bars ++ not last ∷ []) c.in-Device.e.0 c.args.printed.now in
    record {
      writes = text-then g.W.Write.contents c.args.writer.now c.say_row.new.writer c.say_opened.new.writer c.say_opened.result (name_text s.config bars at c.args.i lower) more.text _
          (rw c.bars.ensures at c.in_ok-say_row.ensures.ok) c.in_ok-say_row.ensures.kept c.say_opened.ensures.writes (ap (λ (x : Shown). x.text) (sym is));
      printed = on_ok_weaker c.say_opened.result (λ done. done ∙ ap (λ (x : Shown). x.printed) (sym is)) c.say_opened.ensures.printed;
    }

-- ---- the rows beneath

pub say_opened-bounds-printed-e : goal.say_opened-bounds-printed-e
say_opened-bounds-printed-e g t c = omega (arith, few c.args.shown.now.config.now c.count-loaded.ensures.loaded.valid, c.requires)

pub say_opened-say_lines-requires : goal.say_opened-say_lines-requires
say_opened-say_lines-requires g t c κs within =
    let place = c.args.place.now in
    let at = place-some place.bars place.steps c.args.bar c.in-Some.below (rw c.in-Some.is at c.beneath.ensures) in
    (omega (arith, at.0), (within, c.requires))

pub say_opened-returns-then-printed-e : goal.say_opened-returns-then-printed-e
say_opened-returns-then-printed-e g t c =
    let s = bound c.args.shown.now in
    let is = opened-again (beneath s c.args.place.now.steps) (c.args.place.now.bars ++ c.args.bar ∷ []) c.args.e.0 c.args.printed.now c.if-printed-e.true in
    record {
      writes = rw is c.put.ensures.writes;
      printed = on_ok_weaker c.put.result (λ done. ap (λ (x : Shown). x.printed) (sym is)) c.put.ensures.writes.ok;
    }

pub say_opened-returns-in-Some : goal.say_opened-returns-in-Some
say_opened-returns-in-Some g t c =
    let s = bound c.args.shown.now in
    let place = c.args.place.now in
    let below = c.in-Some.below in
    let bars = place.bars ++ c.args.bar ∷ [] in
    let at = place-some place.bars place.steps c.args.bar below (rw c.in-Some.is at c.beneath.ensures) in
    let first = opened-first (beneath s place.steps) bars c.args.e.0 c.args.printed.now c.if-printed-e.false in
    let more = beneath-more s below.steps place.steps bars c.args.e.0 c.args.printed.now at.0 in
    let rows = lines_shown s (beneath s below.steps) bars c.args.e.0 c.args.printed.now in
    let given = c.say_lines.ensures in
    record {
      writes = text-then g.W.Write.contents c.args.writer.now c.put-2.new.self c.say_lines.new.writer c.say_lines.result (codes "\n") rows.text _
          c.in_ok-put.ensures.writes.ok c.in_ok-put.ensures.writes.kept (rw (← at.1) given.writes) (rw (first, more) refl);
      printed = on_ok_weaker c.say_lines.result (λ done. rw (first, more, ← at.1) done) given.printed;
    }

pub say_opened-returns-in-None : goal.say_opened-returns-in-None
say_opened-returns-in-None g t c =
    let s = bound c.args.shown.now in
    let place = c.args.place.now in
    let bars = place.bars ++ c.args.bar ∷ [] in
    let ends = place-none place.bars place.steps c.args.bar (rw c.in-None.is at c.beneath.ensures) in
    let first = opened-first (beneath s place.steps) bars c.args.e.0 c.args.printed.now c.if-printed-e.false in
    let none = beneath-none s place.steps bars c.args.e.0 c.args.printed.now ends in
    record {
      writes = record { ok = rw (first, none) c.in_ok-put.ensures.writes.ok; kept = c.in_ok-put.ensures.writes.kept; failed = tt };
      printed = rw (first, none) refl;
    }
