use Rattle.std.proofs.Common.{true, sym, ap, ap₂, ◌∙◌, ◌++◌, append_assoc}
use Rattle.std.specs.BTreeMap.{get}
use Rattle.std.specs.Map.Iter.{deref_pair}
use Rattle.std.proofs.lemmas.Map.Iter.{rest_more}
use Rattle.sup_indexed.specs.Contents.{functions_of}
use Rattle.sup_tables.specs.Rows.{said_row}
use Rattle.sup_tables.specs.Lent.{edits_lent}
use Rattle.sup_tables.specs.Edits.{edits_at, gone_edits, table_edits}
use Rattle.sup_tables.proofs.edits.lend_edits.Goals as goal

pub loop-key-preserved : goal.loop-key-preserved
loop-key-preserved g c =
    let says = g.V.Entered.says in
    let key = c.in-Some.key.now in
    let es = (functions_of c.args.table.now).entries in
    let old = edits_lent c.loop-key.edits.items in
    let left = table_edits g.K.Ord.cmp (said_row says) c.next.new.self es in
    let go = gone_edits says key (get g.K.Ord.cmp (functions_of c.args.table.now) key) in
    let come = edits_at true says key c.in-Some.function.now.values.entries in
    let rest = rest_more deref_pair c.loop-key.key-iterator c.next.new.self c.next.result (c.in-Some.key, c.in-Some.function) c.in-Some.is c.next.ensures.steps in
    ap (λ ts. ts ++ left)
    (c.in_ok-lend_edits_at.ensures
    ∙ ap₂ (λ ts m. ts ++ edits_at true says key m.entries) (c.in_ok-lend_gone.ensures ∙ ap (λ o. old ++ gone_edits says key o) c.get.ensures) c.values.ensures)
    ∙ append_assoc (old ++ go) come left
    ∙ append_assoc old go (come ++ left)
    ∙ ap (λ ts. old ++ ts) (sym (append_assoc go come left))
    ∙ ap (λ ps. old ++ table_edits g.K.Ord.cmp (said_row says) ps es) (sym rest)
    ∙ c.loop-key.invariant
