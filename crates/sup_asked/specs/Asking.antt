-- What a line asks of the one node that hears it: the lines of scripts that bring one node an event or a question, without its name, and
-- two more (this project's line protocol).
use Rattle.std.specs.Prelude.{ℕ, Bool, true, false, List, ◌∷◌, ◌++◌, ◌==◌, nat_lt, length, codes, Option, Some, None, option_and_then, if◌then◌else◌}
use Rattle.std.specs.List.{before_first, after_first, position_or_len}
use Rattle.std.specs.Str.{bytes_eq}
use Rattle.sup_specs.specs.Values.{Bytes}
use Rattle.sup_replica.specs.declared.event.Act.{Act}
use Rattle.sup_replica.specs.declared.event.Act.TheVariants.{Event as Of, Stop, Restart}
use Rattle.sup_replica.specs.declared.event.Event.TheVariants.{Deliver}
use Rattle.sup_model.specs.declared.step.Step.{Step}
use Rattle.sup_model.specs.declared.step.Step.TheVariants as step
use Rattle.sup_lines.specs.declared.line.Line.{Line}
use Rattle.sup_lines.specs.declared.line.Line.TheVariants as line
use Rattle.sup_lines.specs.Options.{value_after}
use Rattle.sup_lines.specs.Script.{is_plain, line_of}
use Rattle.sup_asked.specs.declared.asked.Asked.{Asked}
use Rattle.sup_asked.specs.declared.asked.Asked.TheVariants.{Does, Show, Inspect, Members, Image, Where}

-- a line's first word, the node's name, and what stands behind the word (a space is 32)
abbrev pub named : Bytes → List ℕ → List ℕ
named name said =
    if nat_lt (position_or_len (λ byte. byte == 32) said) (length said)
    then before_first (λ byte. byte == 32) said ++ (32 ∷ (name ++ (32 ∷ after_first (λ byte. byte == 32) said)))
    else said ++ (32 ∷ name)

-- what a step of the node asks of it: an event, if no save is told to fail
abbrev pub asked_by_act : ℕ → Bool → Act → Option Asked
asked_by_act now false act = None
asked_by_act now true (Of event) = Some (Does event now)
asked_by_act now true Stop = None
asked_by_act now true Restart = None

abbrev pub asked_by_step : Step → Option Asked
asked_by_step (step.Node at act now saves) = asked_by_act now saves act
asked_by_step (step.Raw at bytes) = None
asked_by_step (step.Deliver from k at drop now saves) = None

-- what a script's line asks of the node that it names
abbrev pub asked_by : Line → Option Asked
asked_by (line.Step step) = asked_by_step step
asked_by line.Settle = None
asked_by (line.Show node) = Some Show
asked_by (line.Inspect node) = Some Inspect
asked_by (line.Image node) = Some Image
asked_by (line.Where node name) = Some (Where name)
asked_by (line.Message from k) = None

-- deliver TEXT, all that stands behind the space; members; or a script's line without its node's name
abbrev pub asked_in : Bytes → Option (List ℕ) → List ℕ → Option Asked
asked_in name (Some text) said = Some (Does (Deliver text) 0)
asked_in name None said = if bytes_eq said (codes "members") then Some Members else option_and_then asked_by (line_of (named name said))

-- what a line asks of the node of this name, if it has a form
abbrev pub asked_of : Bytes → List ℕ → Option Asked
asked_of name said = if is_plain said then asked_in name (value_after (codes "deliver ") said) said else None
