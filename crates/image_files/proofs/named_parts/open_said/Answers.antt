use Rattle.std.proofs.Common.{inl, inr, refl, sym}
use Rattle.std.proofs.lemmas.Result.{IfErr-weaker, IfOk-weaker}
use Rattle.command_line.specs.FilePlaces.{file_place_record}
use Rattle.image_files.proofs.named_parts.open_said.Goals as goal

pub returns-in-Some-clause-ok : goal.returns-in-Some-clause-ok
returns-in-Some-clause-ok g c =
    IfOk-weaker c.open_part_named.result _ _ (λ image opened. record { place = file_place_record c.in-Some.place; named = sym c.in-Some.ensures.is; opened = opened }) c.open_part_named.ensures.ok

pub returns-in-Some-clause-err : goal.returns-in-Some-clause-err
returns-in-Some-clause-err g c =
    IfErr-weaker c.open_part_named.result _ _ (λ fault refused. inr (record { place = file_place_record c.in-Some.place; named = sym c.in-Some.ensures.is; refused = refused })) c.open_part_named.ensures.err

pub returns-in-None-clause-err : goal.returns-in-None-clause-err
returns-in-None-clause-err g c = inl (record { none = sym c.in-None.ensures.is; is = refl; same = refl })
