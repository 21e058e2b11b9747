use Rattle.std.proofs.Common.{[], ◌∷◌, map, filter, if◌then◌else◌, ap, ◌∙◌}
use Rattle.std.specs.Prelude.{flat_map}
use Rattle.sup_tables.specs.Rows.{key_of, info_of}
use Rattle.sup_tables.specs.Readers.{is_open}
use Rattle.sup_tables.specs.Stored.{member_row}
use Rattle.sup_tables.proofs.WinnerLaws.{picked}
use Rattle.sup_tables.proofs.tables.Tables.eligible.Goals as goal

pub returns : goal.returns
returns c =
    c.in_ok-found.ensures
    ∙ ap (flat_map (λ w. if is_open w.value.now.status then w.key.now ∷ [] else [])) c.deref.ensures.value
    ∙ picked (λ r. is_open (info_of r.entry).status) (λ r. key_of r.entry) (λ w. member_row w.key.now w.dot.now w.value.now) c.in_ok-winners.winners.items
    ∙ ap (λ rows. map (λ r. key_of r.entry) (filter (λ r. is_open (info_of r.entry).status) rows)) c.in_ok-winners.ensures.winners
