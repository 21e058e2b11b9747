-- One node, over tables and over operations.
use Rattle.std.specs.Prelude.{◌≡◌, ◌++◌, not, Option, None, refl}
use Rattle.std.proofs.Common.{sym, ap, subst}
use Rattle.sup_specs.specs.Values.{Bytes}
use Rattle.sup_tables.specs.States.{State}
use Rattle.sup_tables.specs.Operations.{NoClash, covers}
use Rattle.sup_placement.specs.Place.{Weigher}
use Rattle.sup_replica.specs.declared.refusal.Refusal.TheVariants.{Down, BadMessage, WrongReceiver}
use Rattle.sup_replica.specs.Acts.{absorbs, takes, deliver, answer_to}
use Rattle.sup_replica.specs.ByTables.{by_tables}
use Rattle.sup_replica.specs.Nodes.{Node, Kind, Message, by_operations, is_named, delta, push, ack}
use Rattle.sup_model.specs.Stands.{BothOrNone, NodeStands, MessageStands, OutcomeStands}
use Rattle.sup_model.specs.TableViews.{table_view}
use Rattle.sup_model.specs.Worlds.{Ops}
use Rattle.sup_model.proofs.TableLaws.{table_laws}
use Rattle.sup_model.proofs.SimLaws.{both-refused_if, act_stands, kept_stands}
use Rattle.sup_model.proofs.DeliverLaws.{Brings, absorbs_stand, brought, brought_known}
use Rattle.sup_model.specs.OneNode.{ActsStand, DeliveriesStand}

pub acts : ActsStand
acts g n m act now saves h clear = kept_stands by_tables table_view table_laws saves _ _ (act_stands by_tables table_view table_laws g n m h clear act now)

absorbed : (g : Weigher) (n : Node State) (m : Node Ops) (content : State) (more : Ops) (a : Option (Message State)) (b : Option (Message Ops)) → NodeStands table_view n m → table_view.stands content more → NoClash (m.known ++ more)
    → BothOrNone (MessageStands table_view) a b → OutcomeStands table_view (absorbs by_tables g n content a (by_tables.covers n.known content)) (absorbs by_operations g m more b (covers m.known more))
absorbed g n m content more a b h s clear l =
    let j = table_view.joins in
    let x = table_view.sem n.known in
    let y = table_view.sem content in
    let brings : Brings by_tables table_view table_laws n m.known content more = record { whole = content; stands = s; valid = table_laws.is_valid content more s; within = j.itself y; gives = j.right x y; clear = clear } in
    let same : by_tables.covers n.known content ≡ covers m.known more = brought_known by_tables table_view table_laws n m content more h.state brings in
    subst (λ c. OutcomeStands table_view (absorbs by_tables g n content a c) (absorbs by_operations g m more b (covers m.known more))) (sym same)
    (absorbs_stand by_tables table_view table_laws g n m content more a b h (brought by_tables table_view table_laws n m content more h.state brings) l (covers m.known more))

taken : (g : Weigher) (n : Node State) (m : Node Ops) (from : Bytes) (kind : Kind) (content : State) (more : Ops) → NodeStands table_view n m → table_view.stands content more → NoClash (m.known ++ more)
    → OutcomeStands table_view (takes by_tables g n from kind content) (takes by_operations g m from kind more)
taken g n m from ack content more h s clear = record { reply = refl; effects = refl; letter = tt; node = h; saves = refl }
taken g n m from delta content more h s clear =
    absorbed g n m content more (answer_to by_tables from delta) (answer_to by_operations from delta) h s clear (record { to = refl; kind = refl; content = table_laws.none })
taken g n m from push content more h s clear = absorbed g n m content more None None h s clear tt

pub deliveries : DeliveriesStand
deliveries g n m from a b whole saves h s clear =
    let took : OutcomeStands table_view (takes by_tables g n from a.kind a.content) (takes by_operations g m from b.kind b.content) =
    subst (λ (kind : Kind). OutcomeStands table_view (takes by_tables g n from kind a.content) (takes by_operations g m from b.kind b.content)) (sym s.kind) (taken g n m from b.kind a.content b.content h s.content clear) in
    let R = OutcomeStands table_view in
    kept_stands by_tables table_view table_laws saves (deliver by_tables g n from a whole) (deliver by_operations g m from b whole)
    (both-refused_if R (not n.up) (not m.up) Down _ _ (ap not h.up)
    (both-refused_if R (not whole) (not whole) BadMessage _ _ refl
    (both-refused_if R (not (is_named a.to n.name)) (not (is_named b.to m.name)) WrongReceiver _ _ (λ i. not (is_named (s.to i) (h.name i))) took)))
