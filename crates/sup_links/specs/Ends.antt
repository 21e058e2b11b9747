-- What is seen of the ends of a link (this project): its script, the list put, the list taken, and the channel between them.
use Rattle.std.specs.Prelude.{◌≡◌, ℕ, Bool, List}
use Rattle.crossbeam_channel.specs.Ends.{sends_on, receives_on, ruled_capacity}
use Rattle.sup_links.specs.Texts.{Bytes, messages, taken_said}
use Rattle.sup_links.specs.Sent.{sent_of}
use Rattle.sup_links.specs.declared.script.Verdict.{Verdict}
use Rattle.sup_links.specs.declared.link_in.LinkIn.{LinkIn}
use Rattle.sup_links.specs.declared.link_in.Sent.{Sent}
use Rattle.sup_links.specs.declared.link_out.LinkOut.{LinkOut}

abbrev pub script_of : LinkIn → List Verdict
script_of end = end.script.0.items

-- the messages accepted, and the one at which the link was first found closed
abbrev pub put_of : LinkIn → List Bytes
put_of end = sent_of end.log

-- whether the other end was found gone
abbrev pub is_closed : LinkIn → Bool
is_closed end = end.closed

-- how many messages the link holds on their way
abbrev pub room_of : LinkIn → ℕ
room_of end = ruled_capacity (sends_on end.entry.end)

abbrev pub sent_script : Sent → List Verdict
sent_script sent = sent.script.0.items

abbrev pub sent_put : Sent → List Bytes
sent_put sent = sent_of sent.log

abbrev pub taken_of : LinkOut → List Bytes
taken_of end = messages (taken_said end.exit.pass)

-- whether the end mark was taken
abbrev pub has_ended : LinkOut → Bool
has_ended end = end.ended

-- the ends are of one link
abbrev pub AreOneLink : LinkIn → LinkOut → Type 0
AreOneLink a b = receives_on b.exit.end ≡ sends_on a.entry.end

abbrev pub IsSentTo : Sent → LinkOut → Type 0
IsSentTo a b = receives_on b.exit.end ≡ sends_on a.entry.end

-- it is still the same link's end
abbrev pub SameIn : LinkIn → LinkIn → Type 0
SameIn a b = sends_on b.entry.end ≡ sends_on a.entry.end

abbrev pub SameOut : LinkOut → LinkOut → Type 0
SameOut a b = receives_on b.exit.end ≡ receives_on a.exit.end

-- an end and what became of it
abbrev pub IsSentOf : Sent → LinkIn → Type 0
IsSentOf a b = sends_on a.entry.end ≡ sends_on b.entry.end
