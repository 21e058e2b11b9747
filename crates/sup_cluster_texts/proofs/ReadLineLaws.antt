-- The lines of a script that was read: each link is between two of the nodes, and each command may be told to one.
use Rattle.std.proofs.Common.{◌≡◌, ℕ, Bool, true, false, ◌&&◌, List, [], ◌∷◌, Option, Some, None, refl, subst, codes}
use Rattle.std.specs.Str.{bytes_eq}
use Rattle.std.proofs.lemmas.Option.{none-some, same_Some, option_and_then_some}
use Rattle.std.proofs.lemmas.Bool.{and_parts}
use Rattle.sup_specs.specs.Values.{Bytes}
use Rattle.sup_model.specs.declared.step.Step.{Step}
use Rattle.sup_model.specs.declared.step.Step.TheVariants.{Node as AtNode, Deliver as Delivery, Raw}
use Rattle.sup_plan.specs.declared.plan.Command.{Command}
use Rattle.sup_plan.specs.Plans.{is_among, is_peer, may_tell}
use Rattle.sup_lines.specs.Words.{Word, Name, ◌>>=◌}
use Rattle.sup_lines.specs.Values.{node_name_of}
use Rattle.sup_lines.specs.Script.{is_plain, words_of, line_of}
use Rattle.sup_lines.specs.declared.line.Line.{Line}
use Rattle.sup_lines.specs.declared.line.Line.TheVariants as line
use Rattle.sup_cluster_lines.specs.Verdicts.{verdicts_of}
use Rattle.sup_cluster_lines.specs.Links.{Link, ends_of, link_of}
use Rattle.sup_cluster_lines.specs.Commands.{command_in, command_of}
use Rattle.sup_cluster_lines.specs.Script.{Said, link, command, linked, commanded, words_say, said_of}
use Rattle.sup_cluster_texts.proofs.ChoiceLaws.{chosen}

-- a link's ends are two of the nodes
abbrev pub has_ends : List Bytes → Link → Bool
has_ends nodes l = is_among nodes l.0 && is_peer nodes l.0 l.1.0

-- what a line says goes with the nodes
abbrev pub Fits : List Bytes → Said → Type 0
Fits nodes (link l) = has_ends nodes l ≡ true
Fits nodes (command c) = may_tell nodes c ≡ true

ends_fit : (nodes : List Name) (from to : Word) (ends : Name × Name) → ends_of nodes from to ≡ Some ends → (is_among nodes ends.0 && is_peer nodes ends.0 ends.1) ≡ true
unfolding ends_of
ends_fit nodes from to ends h = option_and_then_some _ (node_name_of from) ends h (λ sender is h'.
    option_and_then_some _ (node_name_of to) ends h' (λ receiver is' h''.
    let taken = chosen (is_among nodes sender && is_peer nodes sender receiver) (Some (sender, receiver)) ends h'' in
    subst (λ e. (is_among nodes e.0 && is_peer nodes e.0 e.1) ≡ true) (same_Some {A = Name × Name} (sender, receiver) ends taken.1) taken.0))

link_fits : (nodes : List Name) (words : List Word) (l : Link) → link_of nodes words ≡ Some l → has_ends nodes l ≡ true
unfolding link_of
link_fits nodes [] l h = absurd (none-some l h)
link_fits nodes (from ∷ []) l h = absurd (none-some l h)
link_fits nodes (from ∷ to ∷ []) l h = absurd (none-some l h)
link_fits nodes (from ∷ to ∷ verdict ∷ others) l h = option_and_then_some _ (ends_of nodes from to) l h (λ ends are h'.
    option_and_then_some _ (verdicts_of (verdict ∷ others)) l h' (λ verdicts is h''.
    subst (λ k. has_ends nodes k ≡ true) (same_Some {A = Link} (ends.0, (ends.1, verdicts)) l h'') (ends_fit nodes from to ends are)))

step_fits : (nodes : List Name) (step : Step) (c : Command) → command_in nodes step ≡ Some c → may_tell nodes c ≡ true
step_fits nodes (AtNode at act now saves) c h =
    let told : Command = record { node = at; act = act; now = now } in
    let taken = chosen (saves && may_tell nodes told) (Some told) c h in
    subst (λ d. may_tell nodes d ≡ true) (same_Some told c taken.1) (and_parts saves (may_tell nodes told) taken.0).1
step_fits nodes (Delivery from k at drop now saves) c h = absurd (none-some c h)
step_fits nodes (Raw at bytes) c h = absurd (none-some c h)

command_fits : (nodes : List Name) (l : Line) (c : Command) → command_of nodes l ≡ Some c → may_tell nodes c ≡ true
command_fits nodes (line.Step step) c h = step_fits nodes step c h
command_fits nodes line.Settle c h = absurd (none-some c h)
command_fits nodes (line.Show node) c h = absurd (none-some c h)
command_fits nodes (line.Inspect node) c h = absurd (none-some c h)
command_fits nodes (line.Image node) c h = absurd (none-some c h)
command_fits nodes (line.Where node name) c h = absurd (none-some c h)
command_fits nodes (line.Message from k) c h = absurd (none-some c h)

linked_fits : (nodes : List Name) (o : Option Link) (s : Said) → ((l : Link) → o ≡ Some l → has_ends nodes l ≡ true) → linked o ≡ Some s → Fits nodes s
linked_fits nodes None s f h = absurd (none-some s h)
linked_fits nodes (Some l) s f h = subst (Fits nodes) (same_Some (link l) s h) (f l refl)

commanded_fits : (nodes : List Name) (o : Option Command) (s : Said) → ((c : Command) → o ≡ Some c → may_tell nodes c ≡ true) → commanded o ≡ Some s → Fits nodes s
commanded_fits nodes None s f h = absurd (none-some s h)
commanded_fits nodes (Some c) s f h = subst (Fits nodes) (same_Some (command c) s h) (f c refl)

words_fit : (nodes : List Name) (bytes : List ℕ) (words : List Word) (s : Said) → words_say nodes bytes words ≡ Some s → Fits nodes s
unfolding words_say
words_fit nodes bytes [] s h = absurd (none-some s h)
words_fit nodes bytes (verb ∷ words) s h = by_verb (bytes_eq verb (codes "link")) refl h
  where
    by_verb : (b : Bool) → bytes_eq verb (codes "link") ≡ b → words_say nodes bytes (verb ∷ words) ≡ Some s → Fits nodes s
    by_verb true is h = linked_fits nodes (link_of nodes words) s (link_fits nodes words) (rw is at h)
    by_verb false is h = commanded_fits nodes (line_of bytes >>= command_of nodes) s
        (λ c e. option_and_then_some (command_of nodes) (line_of bytes) c e (λ l is' e'. command_fits nodes l c e')) (rw is at h)

pub said_fits : (nodes : List Name) (bytes : List ℕ) (s : Said) → said_of nodes bytes ≡ Some s → Fits nodes s
unfolding said_of
said_fits nodes bytes s h = words_fit nodes bytes (words_of bytes) s (chosen (is_plain bytes) (words_say nodes bytes (words_of bytes)) s h).1
