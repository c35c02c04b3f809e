use Rattle.std.proofs.Common.{Err, refl, sym, subst, ◌∙◌, arith, inl, inr}
use Rattle.std.proofs.lemmas.Result.{IfErr-weaker, IfOk-weaker}
use Rattle.block_device.specs.declared.open_fault.OpenFault.{OpenFault}
use Rattle.image_files.specs.Opener.{calls}
use Rattle.scan_commands.specs.declared.rescue_fault.PassFault.{PassFault}
use Rattle.scan_commands.specs.MapFiles.{IsMapUnread, most_map}
use Rattle.scan_commands.proofs.MapFileLemmas.{missing-is, unread-size, unread-told}
use Rattle.scan_commands.proofs.map_file.read_map.Goals as goal

pub returns-then-len-gt-MOST_TEXT-clause-err : goal.returns-then-len-gt-MOST_TEXT-clause-err
returns-then-len-gt-MOST_TEXT-clause-err g c = (c.in-Ok.text, c.in-Ok.ensures.told, omega (arith, c.len.ensures, c.if-len-gt-MOST_TEXT.true))

pub returns-else-len-gt-MOST_TEXT-clause-ok : goal.returns-else-len-gt-MOST_TEXT-clause-ok
returns-else-len-gt-MOST_TEXT-clause-ok g c =
    IfOk-weaker c.map_in.result _ _ (λ map says. inl (record { text = c.in-Ok.text; told = c.in-Ok.ensures.told; short = omega (arith, c.len.ensures, c.if-len-gt-MOST_TEXT.false); says = rw c.as_slice.ensures.value at says })) c.map_in.ensures.ok

pub returns-else-len-gt-MOST_TEXT-clause-err : goal.returns-else-len-gt-MOST_TEXT-clause-err
returns-else-len-gt-MOST_TEXT-clause-err g c =
    IfErr-weaker c.map_in.result _ _
    (λ fault unread. unread-told (calls g.I.Images.relations g.I.Dev.BlockDev.state c.args.images.now c.read_text.new.self) c.args.file.path.now c.args.sectors c.in-Ok.text fault c.in-Ok.ensures.told (rw c.as_slice.ensures.value at unread))
    c.map_in.ensures.err

pub returns-then-is_missing-clause-ok : goal.returns-then-is_missing-clause-ok
returns-then-is_missing-clause-ok g c =
    let missing = missing-is c.in-Err.fault (sym c.is_missing.ensures ∙ c.if-is_missing.true) in
    let told = subst (λ (f : OpenFault). g.I.Images.relations.tells c.args.images.now c.args.file.path.now most_map (Err f) c.read_text.new.self) missing c.in-Err.ensures.told in
    IfOk-weaker c.new_map.result _ _ (λ map is. inr (record { missing = told; unread = is })) c.new_map.ensures.ok

pub returns-then-is_missing-clause-sectors : goal.returns-then-is_missing-clause-sectors
returns-then-is_missing-clause-sectors g c = IfOk-weaker c.new_map.result _ _ (λ map is. unread-size c.args.sectors map is) c.new_map.ensures.ok

pub returns-then-is_missing-clause-err : goal.returns-then-is_missing-clause-err
returns-then-is_missing-clause-err g c =
    let missing = missing-is c.in-Err.fault (sym c.is_missing.ensures ∙ c.if-is_missing.true) in
    let told = subst (λ (f : OpenFault). g.I.Images.relations.tells c.args.images.now c.args.file.path.now most_map (Err f) c.read_text.new.self) missing c.in-Err.ensures.told in
    IfErr-weaker c.new_map.result _ _ (λ fault is. subst (λ (f : PassFault). IsMapUnread (calls g.I.Images.relations g.I.Dev.BlockDev.state c.args.images.now c.read_text.new.self) c.args.file.path.now c.args.sectors f) (sym is.0) (inl told, is.1)) c.new_map.ensures.err

pub returns-else-is_missing : goal.returns-else-is_missing
returns-else-is_missing g c = record { ok = tt; sectors = tt; err = (refl, sym c.is_missing.ensures ∙ c.if-is_missing.false, c.in-Err.ensures.told) }
