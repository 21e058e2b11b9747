-- What the entries of a history are calls of, and what they send and bring.
use Rattle.std.specs.Prelude.{ℕ, List, [], ◌∷◌, flat_map, Option, Some, None, Ok, Err, if◌then◌else◌}
use Rattle.sup_specs.specs.Values.{Bytes}
use Rattle.sup_replica.specs.Nodes.{is_named}
use Rattle.sup_replica.specs.declared.event.Act.{Act}
use Rattle.sup_replica.specs.declared.event.Act.TheVariants.{Event as Of}
use Rattle.sup_replica.specs.declared.event.Event.TheVariants.{Deliver}
use Rattle.sup_replica.specs.declared.letter.Letter.{Letter}
use Rattle.sup_node_gate.specs.Histories.{StationAnswer}
use Rattle.sup_node_gate.specs.declared.entry.Entry.{Entry}
use Rattle.sup_plan.specs.declared.plan.Command.{Command}

-- an act and its moment
abbrev pub Call : Type 0
Call = Act × ℕ

abbrev pub call_of : Entry → Call
call_of e = (e.act, e.now)

abbrev pub asked : Command → Call
asked c = (c.act, c.now)

-- the text of a letter, if it is to this node
abbrev pub text_to : Bytes → Option Letter → List Bytes
text_to name None = []
text_to name (Some letter) = if is_named name letter.to then letter.bytes ∷ [] else []

abbrev pub letter_to : Bytes → StationAnswer → List Bytes
letter_to name (Ok done) = text_to name done.out
letter_to name (Err r) = []

-- the texts of the letters to this node, of the answers of these entries
abbrev pub letters_to : Bytes → List Entry → List Bytes
letters_to name = flat_map (λ e. letter_to name e.answer)

-- the text that an act brings, if it brings one
abbrev pub brought : Act → List Bytes
brought (Of (Deliver bytes)) = bytes ∷ []
brought _ = []

-- the texts that were delivered
abbrev pub deliveries : List Entry → List Bytes
deliveries = flat_map (λ e. brought e.act)
