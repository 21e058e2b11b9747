-- The forms of the lines that may end in a moment and a failing save: what each does, and the words that it leaves (this project's script format). Where a node is told something, its name stands behind the verb, and the form here is of the words behind that. A further form is a further case of `act_of`.
use Rattle.std.specs.Prelude.{List, [], ◌∷◌, Option, Some, None, unwrap_or, if◌then◌else◌, codes}
use Rattle.std.specs.Str.{bytes_eq}
use Rattle.sup_specs.specs.declared.limits.TheConstants.{MAX}
use Rattle.sup_specs.specs.Reasons.{reason_of}
use Rattle.sup_replica.specs.declared.event.Act.{Act}
use Rattle.sup_replica.specs.declared.event.Act.TheVariants.{Event, Stop, Restart}
use Rattle.sup_replica.specs.declared.event.Event.TheVariants.{Join, Leave, Drain, Start, Delete, Replace, Register, Unregister, Exit, Ship, Push}
use Rattle.sup_lines.specs.declared.deed.Deed.{Deed}
use Rattle.sup_lines.specs.declared.deed.Deed.TheVariants.{At, Delivery}
use Rattle.sup_lines.specs.Words.{Word, ◌>>=◌}
use Rattle.sup_lines.specs.Values.{node_name_of, child_id_of, registered_name_of, number_of, incarnation_of}
use Rattle.sup_lines.specs.Options.{label_of, child_of, word_behind, if_there}

-- join N [label=TEXT]
unfoldable pub join_of : List Word → Option (Act × List Word)
join_of words = do
  label ← label_of words
  Some (Event (Join label.0), label.1)

-- leave N MEMBER
unfoldable pub leave_of : List Word → Option (Act × List Word)
leave_of (member ∷ words) = do
  gone ← node_name_of member
  Some (Event (Leave gone), words)
leave_of _ = None

-- drain N MEMBER
unfoldable pub drain_of : List Word → Option (Act × List Word)
drain_of (member ∷ words) = do
  drained ← node_name_of member
  Some (Event (Drain drained), words)
drain_of _ = None

-- start N ID [kind=K] [arg=TEXT] [restart=R] [shutdown=S]
unfoldable pub start_of : List Word → Option (Act × List Word)
start_of words = do
  child ← child_of words
  Some (Event (Start child.0.0 child.0.1), child.1)

-- replace N ID, and options as for start
unfoldable pub replace_of : List Word → Option (Act × List Word)
replace_of words = do
  child ← child_of words
  Some (Event (Replace child.0.0 child.0.1), child.1)

-- delete N ID
unfoldable pub delete_of : List Word → Option (Act × List Word)
delete_of (id ∷ words) = do
  child ← child_id_of id
  Some (Event (Delete child), words)
delete_of _ = None

-- register N NAME ID
unfoldable pub register_of : List Word → Option (Act × List Word)
register_of (registered ∷ id ∷ words) = do
  taken ← registered_name_of registered
  child ← child_id_of id
  Some (Event (Register taken child), words)
register_of _ = None

-- unregister N NAME
unfoldable pub unregister_of : List Word → Option (Act × List Word)
unregister_of (registered ∷ words) = do
  taken ← registered_name_of registered
  Some (Event (Unregister taken), words)
unregister_of _ = None

-- exit N ID B.K REASON
unfoldable pub exit_of : List Word → Option (Act × List Word)
exit_of (id ∷ run ∷ reason ∷ words) = do
  child ← child_id_of id
  inc ← incarnation_of run
  why ← reason_of reason
  Some (Event (Exit child inc why), words)
exit_of _ = None

-- ship N TO
unfoldable pub ship_of : List Word → Option (Act × List Word)
ship_of (to ∷ words) = do
  target ← node_name_of to
  Some (Event (Ship target), words)
ship_of _ = None

-- push N TO
unfoldable pub push_of : List Word → Option (Act × List Word)
push_of (to ∷ words) = do
  target ← node_name_of to
  Some (Event (Push target), words)
push_of _ = None

-- stop N and restart N ask for nothing more
unfoldable pub act_of : Word → List Word → Option (Act × List Word)
act_of verb words =
    if bytes_eq verb (codes "join") then join_of words else
    (if bytes_eq verb (codes "leave") then leave_of words else
    (if bytes_eq verb (codes "drain") then drain_of words else
    (if bytes_eq verb (codes "start") then start_of words else
    (if bytes_eq verb (codes "replace") then replace_of words else
    (if bytes_eq verb (codes "delete") then delete_of words else
    (if bytes_eq verb (codes "register") then register_of words else
    (if bytes_eq verb (codes "unregister") then unregister_of words else
    (if bytes_eq verb (codes "exit") then exit_of words else
    (if bytes_eq verb (codes "ship") then ship_of words else
    (if bytes_eq verb (codes "push") then push_of words else
    (if bytes_eq verb (codes "stop") then Some (Stop, words) else
    (if bytes_eq verb (codes "restart") then Some (Restart, words) else None))))))))))))

-- a verb's node, and what that is told
unfoldable pub told_of : Word → List Word → Option (Deed × List Word)
told_of verb (node ∷ words) = do
  name ← node_name_of node
  act ← act_of verb words
  Some (At name act.0, act.1)
told_of _ _ = None

-- deliver FROM K [at N] [drop D]
unfoldable pub deliver_of : List Word → Option (Deed × List Word)
deliver_of (sender ∷ number ∷ options) = do
  let receiver = word_behind (codes "at") options
  let cut = word_behind (codes "drop") receiver.1
  name ← node_name_of sender
  k ← number_of MAX number
  at ← if_there node_name_of receiver.0
  drop ← if_there (number_of MAX) cut.0
  Some (Delivery name k at (unwrap_or drop 0), cut.1)
deliver_of _ = None

-- what a line does before its endings, and the words that it leaves
unfoldable pub deed_of : List Word → Option (Deed × List Word)
deed_of [] = None
deed_of (verb ∷ words) = if bytes_eq verb (codes "deliver") then deliver_of words else told_of verb words
