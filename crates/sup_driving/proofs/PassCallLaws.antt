-- What a call does to a pass.
use Rattle.std.proofs.Common.{◌≡◌, ℕ, List, [], ◌∷◌, ◌++◌, append_assoc, append-nil, ap, ◌∙◌, sym, subst}
use Rattle.std.proofs.lemmas.Grind.{flat_map-append}
use Rattle.sup_specs.specs.Values.{Bytes}
use Rattle.sup_replica.specs.declared.event.Act.{Act}
use Rattle.sup_replica.specs.declared.event.Act.TheVariants.{Event as Of}
use Rattle.sup_replica.specs.declared.event.Event.TheVariants.{Deliver}
use Rattle.sup_node_gate.specs.declared.entry.Entry.{Entry}
use Rattle.sup_node_gate.specs.declared.view.View.{View}
use Rattle.sup_node_gate.specs.Histories.{entry}
use Rattle.sup_plan.specs.Calls.{brought, deliveries}
use Rattle.sup_plan.specs.Sublists.{Sublist}
use Rattle.sup_posts.specs.NodeCalls.{MadeCall}
use Rattle.sup_posts.proofs.SublistLaws.{sub_more, sub_both}
use Rattle.sup_driving.specs.Called.{SeesMore}

pub more_then : (u v w : View) → SeesMore u v → SeesMore v w → SeesMore u w
more_then u v w p q = (p.0 ++ q.0, q.1 ∙ (ap (λ l. l ++ q.0) p.1 ∙ append_assoc u.seen p.0 q.0))

pub more_none : (v : View) → SeesMore v v
more_none v = ([], sym (append-nil v.seen))

pub called_more : (v : View) (a : Act) (now : ℕ) (effects : _) (v' : View) → MadeCall v a now effects v' → SeesMore v v'
called_more v a now effects v' c = let e = entry a now c.answer in
    (c.begins.0 ++ e ∷ [], c.ends ∙ (ap (λ l. l ++ e ∷ []) c.begins.1 ∙ append_assoc v.seen c.begins.0 (e ∷ [])))

pub more_deliveries : (texts : List Bytes) (v v' : View) → SeesMore v v' → Sublist texts (deliveries v.seen) → Sublist texts (deliveries v'.seen)
more_deliveries texts v v' p h =
    subst (Sublist texts) (sym (ap deliveries p.1 ∙ flat_map-append (λ (e : Entry). brought e.act) v.seen p.0)) (sub_more texts (deliveries v.seen) (deliveries p.0) h)

-- one message more was brought
pub delivered_one : (texts : List Bytes) (v : View) (m : _) (text : Bytes) (now : ℕ) (effects : _) (v' : View) → MadeCall v (Of (Deliver m)) now effects v' → m ≡ text
    → Sublist texts (deliveries v.seen) → Sublist (texts ++ text ∷ []) (deliveries v'.seen)
delivered_one texts v m text now effects v' c is h = let e = entry (Of (Deliver m)) now c.answer in
    subst (λ l. Sublist (texts ++ l ∷ []) (deliveries v'.seen)) is
    (subst (Sublist (texts ++ m ∷ [])) (sym (ap deliveries c.ends ∙ flat_map-append (λ (x : Entry). brought x.act) c.before (e ∷ [])))
    (sub_both texts (deliveries c.before) (m ∷ [])
    (subst (Sublist texts) (sym (ap deliveries c.begins.1 ∙ flat_map-append (λ (x : Entry). brought x.act) v.seen c.begins.0)) (sub_more texts (deliveries v.seen) (deliveries c.begins.0) h))))
