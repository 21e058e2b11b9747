-- What stood in a history stands in a longer one.
use Rattle.std.proofs.Common.{List, subst, sym, ap, ◌∙◌}
use Rattle.std.proofs.lemmas.Grind.{flat_map-append}
use Rattle.sup_specs.specs.Values.{Bytes}
use Rattle.sup_node_gate.specs.declared.entry.Entry.{Entry}
use Rattle.sup_node_gate.specs.Histories.{IsPrefix}
use Rattle.sup_plan.specs.Calls.{deliveries, brought}
use Rattle.sup_plan.specs.Sublists.{Sublist}
use Rattle.sup_posts.proofs.SublistLaws.{sub_more}

pub in_deliveries : (texts : List Bytes) (seen all : List Entry) → IsPrefix seen all → Sublist texts (deliveries seen) → Sublist texts (deliveries all)
in_deliveries texts seen all p h =
    subst (Sublist texts) (sym (ap deliveries p.1 ∙ flat_map-append (λ (e : Entry). brought e.act) seen p.0))
    (sub_more texts (deliveries seen) (deliveries p.0) h)
