use Rattle.std.proofs.Common.{◌≡◌, ◌∙◌, ℕ, false, inl, refl, sym, subst, arith, rules}
use Rattle.std.proofs.lemmas.Result.{IfOk-weaker}
use Rattle.serde_json.specs.Data.{null}
use Rattle.serde_json.specs.View.{view}
use Rattle.serde_json.specs.declared.value.Value.{Null, the_lemmas}
use Rattle.find_commands.specs.Luks.{has_area, header_size}
use Rattle.find_commands.proofs.AreaLemmas.{area-fits, segments-sought, segments-tried}
use Rattle.find_commands.proofs.segments.find_segments.Goals as goal

pub area_first-requires : goal.area_first-requires
area_first-requires g c =
    let f = c.args.finding.now in
    omega (arith, (area-fits c.sectors-sectors.result f.sector (header_size f.checksum f.size) (sym c.has_area.ensures ∙ c.if-has_area.true)).2, c.sectors-sectors.ensures.small)

pub seek_segments-requires : goal.seek_segments-requires
seek_segments-requires g c =
    let f = c.args.finding.now in
    rw (c.area_first.ensures, c.area_sectors.ensures, sym c.sectors-sectors.ensures.size) (area-fits c.sectors-sectors.result f.sector (header_size f.checksum f.size) (sym c.has_area.ensures ∙ c.if-has_area.true))

pub returns-then-has_area-clause-ok : goal.returns-then-has_area-clause-ok
returns-then-has_area-clause-ok g c =
    IfOk-weaker c.seek_segments.result _ _
    (λ value seeks. segments-sought g.D.BlockDev.state c.args.finding.now c.args.device.now c.seek_segments.new.device (view value) c.sectors-sectors.result c.area_first.result c.area_sectors.result c.sectors-sectors.ensures.size
    c.area_first.ensures c.area_sectors.ensures (sym c.has_area.ensures ∙ c.if-has_area.true) seeks)
    c.seek_segments.ensures.ok

pub returns-clause-ok : goal.returns-clause-ok
returns-clause-ok g c =
    let seen : view Null ≡ null = search (rules, the_lemmas) in
    inl (subst (λ (n : ℕ). has_area n c.args.finding.now ≡ false) c.sectors-sectors.ensures.size (sym c.has_area.ensures ∙ c.if-has_area.false), refl, seen)

pub returns-then-has_area-clause-calls : goal.returns-then-has_area-clause-calls
returns-then-has_area-clause-calls g c =
    segments-tried g.D.BlockDev.state c.args.finding.now c.args.device.now c.seek_segments.new.device c.sectors-sectors.result c.area_first.result c.area_sectors.result c.sectors-sectors.ensures.size c.area_first.ensures
    c.area_sectors.ensures (sym c.has_area.ensures ∙ c.if-has_area.true) c.seek_segments.ensures.calls

pub returns-clause-calls : goal.returns-clause-calls
returns-clause-calls g c = inl refl
