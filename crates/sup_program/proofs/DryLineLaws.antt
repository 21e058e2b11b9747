-- The steps of a script bring no bytes.
use Rattle.std.specs.Prelude.{◌≡◌, ℕ, Bool, true, false, All, List, [], ◌∷◌, Option, Some, None, IfSome, Result, Ok, Err, IfOk, refl, cond, codes, length, ◌==◌}
use Rattle.std.specs.List.{AllByRecursion}
use Rattle.std.specs.Str.{bytes_eq}
use Rattle.std.proofs.Common.{subst}
use Rattle.std.proofs.lemmas.List.Elements.{All-from_recursion}
use Rattle.sup_specs.specs.declared.limits.TheConstants.{MAX}
use Rattle.sup_specs.specs.Reasons.{reason_of}
use Rattle.sup_replica.specs.declared.event.Act.{Act}
use Rattle.sup_replica.specs.declared.event.Act.TheVariants.{Stop, Restart}
use Rattle.sup_model.specs.declared.step.Step.{Step}
use Rattle.sup_world.specs.CarriedSteps.{brings_bytes, has_bytes}
use Rattle.sup_lines.specs.declared.deed.Deed.{Deed}
use Rattle.sup_lines.specs.declared.deed.Deed.TheVariants.{At, Delivery}
use Rattle.sup_lines.specs.Words.{Word, ◌>>=◌}
use Rattle.sup_lines.specs.Values.{node_name_of, child_id_of, registered_name_of, number_of, incarnation_of}
use Rattle.sup_lines.specs.Options.{label_of, child_of, word_behind, if_there, option_at}
use Rattle.sup_lines.specs.Endings.{step_at, saves_of, ended}
use Rattle.sup_lines.specs.Forms.{join_of, leave_of, drain_of, start_of, replace_of, delete_of, register_of, unregister_of, exit_of, ship_of, push_of, act_of, told_of, deliver_of, deed_of}
use Rattle.sup_lines.specs.Lines.{step_of, raw_of, settle_of, show_of, inspect_of, image_of, where_of, message_of, form_of}
use Rattle.sup_lines.specs.Script.{ScriptText, is_plain, words_of, line_of, opening_of, in_front, each_of, behind, numbered_lines, opened, script_of}
use Rattle.sup_program.specs.PlayedLines.{BringsNoBytes}

-- what is read after something else
after : {A B : Type 0} (Q : A → Type 0) (P : B → Type 0) (o : Option A) (f : A → Option B) → IfSome o Q → ((a : A) → Q a → IfSome (f a) P) → IfSome (o >>= f) P
after Q P None f q h = tt
after Q P (Some a) f q h = h a q

any : {A : Type 0} (o : Option A) → IfSome o (λ _. Unit {0})
any None = tt
any (Some a) = tt

next : {A B : Type 0} (P : B → Type 0) (o : Option A) (f : A → Option B) → ((a : A) → IfSome (f a) P) → IfSome (o >>= f) P
next P o f h = after (λ _. Unit {0}) P o f (any o) (λ a _. h a)

-- one of two readings
either : {A : Type 0} (P : A → Type 0) (b : Bool) (x y : Option A) → IfSome x P → IfSome y P → IfSome (cond b x y) P
either P true x y h g = h
either P false x y h g = g

-- what is done brings no bytes
abbrev IsDry : Deed → Type 0
IsDry (At node act) = brings_bytes act ≡ false
IsDry (Delivery from k at drop) = Unit {0}

abbrev Dry : Deed × List Word → Type 0
Dry d = IsDry d.0

abbrev DryAct : Act × List Word → Type 0
DryAct a = brings_bytes a.0 ≡ false

join_dry : (words : List Word) → IfSome (join_of words) DryAct
unfolding join_of
join_dry words = next DryAct (label_of words) _ (λ label. refl)

leave_dry : (words : List Word) → IfSome (leave_of words) DryAct
unfolding leave_of
leave_dry [] = tt
leave_dry (member ∷ words) = next DryAct (node_name_of member) _ (λ read. refl)

drain_dry : (words : List Word) → IfSome (drain_of words) DryAct
unfolding drain_of
drain_dry [] = tt
drain_dry (member ∷ words) = next DryAct (node_name_of member) _ (λ read. refl)

start_dry : (words : List Word) → IfSome (start_of words) DryAct
unfolding start_of
start_dry words = next DryAct (child_of words) _ (λ child. refl)

replace_dry : (words : List Word) → IfSome (replace_of words) DryAct
unfolding replace_of
replace_dry words = next DryAct (child_of words) _ (λ child. refl)

delete_dry : (words : List Word) → IfSome (delete_of words) DryAct
unfolding delete_of
delete_dry [] = tt
delete_dry (id ∷ words) = next DryAct (child_id_of id) _ (λ read. refl)

register_dry : (words : List Word) → IfSome (register_of words) DryAct
unfolding register_of
register_dry [] = tt
register_dry (registered ∷ []) = tt
register_dry (registered ∷ id ∷ words) = next DryAct (registered_name_of registered) _ (λ taken. next DryAct (child_id_of id) _ (λ child. refl))

unregister_dry : (words : List Word) → IfSome (unregister_of words) DryAct
unfolding unregister_of
unregister_dry [] = tt
unregister_dry (registered ∷ words) = next DryAct (registered_name_of registered) _ (λ read. refl)

exit_dry : (words : List Word) → IfSome (exit_of words) DryAct
unfolding exit_of
exit_dry [] = tt
exit_dry (id ∷ []) = tt
exit_dry (id ∷ run ∷ []) = tt
exit_dry (id ∷ run ∷ reason ∷ words) = next DryAct (child_id_of id) _ (λ child. next DryAct (incarnation_of run) _ (λ inc. next DryAct (reason_of reason) _ (λ why. refl)))

ship_dry : (words : List Word) → IfSome (ship_of words) DryAct
unfolding ship_of
ship_dry [] = tt
ship_dry (to ∷ words) = next DryAct (node_name_of to) _ (λ read. refl)

push_dry : (words : List Word) → IfSome (push_of words) DryAct
unfolding push_of
push_dry [] = tt
push_dry (to ∷ words) = next DryAct (node_name_of to) _ (λ read. refl)

act_dry : (verb : Word) (words : List Word) → IfSome (act_of verb words) DryAct
unfolding act_of
act_dry verb words =
    either DryAct (bytes_eq verb (codes "join")) (join_of words) _ (join_dry words)
    (either DryAct (bytes_eq verb (codes "leave")) (leave_of words) _ (leave_dry words)
    (either DryAct (bytes_eq verb (codes "drain")) (drain_of words) _ (drain_dry words)
    (either DryAct (bytes_eq verb (codes "start")) (start_of words) _ (start_dry words)
    (either DryAct (bytes_eq verb (codes "replace")) (replace_of words) _ (replace_dry words)
    (either DryAct (bytes_eq verb (codes "delete")) (delete_of words) _ (delete_dry words)
    (either DryAct (bytes_eq verb (codes "register")) (register_of words) _ (register_dry words)
    (either DryAct (bytes_eq verb (codes "unregister")) (unregister_of words) _ (unregister_dry words)
    (either DryAct (bytes_eq verb (codes "exit")) (exit_of words) _ (exit_dry words)
    (either DryAct (bytes_eq verb (codes "ship")) (ship_of words) _ (ship_dry words)
    (either DryAct (bytes_eq verb (codes "push")) (push_of words) _ (push_dry words)
    (either DryAct (bytes_eq verb (codes "stop")) (Some (Stop, words)) _ refl
    (either DryAct (bytes_eq verb (codes "restart")) (Some (Restart, words)) None refl tt))))))))))))

told_dry : (verb : Word) (words : List Word) → IfSome (told_of verb words) Dry
unfolding told_of
told_dry verb [] = tt
told_dry verb (node ∷ words) = next Dry (node_name_of node) _ (λ name. after DryAct Dry (act_of verb words) _ (act_dry verb words) (λ act dry. dry))

deliver_dry : (words : List Word) → IfSome (deliver_of words) Dry
unfolding deliver_of
deliver_dry [] = tt
deliver_dry (sender ∷ []) = tt
deliver_dry (sender ∷ number ∷ options) =
    let receiver = word_behind (codes "at") options in
    let cut = word_behind (codes "drop") receiver.1 in
    next Dry (node_name_of sender) _ (λ name. next Dry (number_of MAX number) _ (λ k. next Dry (if_there node_name_of receiver.0) _ (λ at. next Dry (if_there (number_of MAX) cut.0) _ (λ drop. tt))))

deed_dry : (words : List Word) → IfSome (deed_of words) Dry
unfolding deed_of
deed_dry [] = tt
deed_dry (verb ∷ words) = either Dry (bytes_eq verb (codes "deliver")) (deliver_of words) _ (deliver_dry words) (told_dry verb words)

step_dry : (now : ℕ) (saves : Bool) (deed : Deed) → IsDry deed → has_bytes (step_at now saves deed) ≡ false
step_dry now saves (At node act) h = h
step_dry now saves (Delivery from k at drop) h = refl

abbrev DryStep : Step → Type 0
DryStep step = has_bytes step ≡ false

ended_dry : (d : Deed × List Word) → Dry d → IfSome (ended d) DryStep
unfolding ended
ended_dry (deed, words) h =
    let moment_word = option_at (codes "@") (codes "0") words in
    next DryStep (number_of MAX moment_word.0) _ (λ now. next DryStep (saves_of moment_word.1) _ (λ saves. step_dry now saves deed h))

step_line_dry : (words : List Word) → IfSome (step_of words) BringsNoBytes
unfolding step_of
step_line_dry words = after Dry BringsNoBytes (deed_of words) _ (deed_dry words) (λ d dry. after DryStep BringsNoBytes (ended d) _ (ended_dry d dry) (λ step h. h))

raw_dry : (words : List Word) → IfSome (raw_of words) BringsNoBytes
unfolding raw_of
raw_dry [] = tt
raw_dry (node ∷ []) = tt
raw_dry (node ∷ word ∷ []) = next BringsNoBytes (node_name_of node) _ (λ name. either BringsNoBytes (length word == 0) None _ tt refl)
raw_dry (node ∷ word ∷ more ∷ words) = tt

settle_dry : (words : List Word) → IfSome (settle_of words) BringsNoBytes
unfolding settle_of
settle_dry [] = tt
settle_dry (word ∷ words) = tt

show_dry : (words : List Word) → IfSome (show_of words) BringsNoBytes
unfolding show_of
show_dry [] = tt
show_dry (node ∷ []) = next BringsNoBytes (node_name_of node) _ (λ name. tt)
show_dry (node ∷ word ∷ words) = tt

inspect_dry : (words : List Word) → IfSome (inspect_of words) BringsNoBytes
unfolding inspect_of
inspect_dry [] = tt
inspect_dry (node ∷ []) = next BringsNoBytes (node_name_of node) _ (λ name. tt)
inspect_dry (node ∷ word ∷ words) = tt

image_dry : (words : List Word) → IfSome (image_of words) BringsNoBytes
unfolding image_of
image_dry [] = tt
image_dry (node ∷ []) = next BringsNoBytes (node_name_of node) _ (λ name. tt)
image_dry (node ∷ word ∷ words) = tt

where_dry : (words : List Word) → IfSome (where_of words) BringsNoBytes
unfolding where_of
where_dry [] = tt
where_dry (node ∷ []) = tt
where_dry (node ∷ registered ∷ []) = next BringsNoBytes (node_name_of node) _ (λ name. next BringsNoBytes (registered_name_of registered) _ (λ sought. tt))
where_dry (node ∷ registered ∷ word ∷ words) = tt

message_dry : (words : List Word) → IfSome (message_of words) BringsNoBytes
unfolding message_of
message_dry [] = tt
message_dry (sender ∷ []) = tt
message_dry (sender ∷ number ∷ []) = next BringsNoBytes (node_name_of sender) _ (λ name. next BringsNoBytes (number_of MAX number) _ (λ k. tt))
message_dry (sender ∷ number ∷ word ∷ words) = tt

form_dry : (words : List Word) → IfSome (form_of words) BringsNoBytes
unfolding form_of
form_dry [] = tt
form_dry (verb ∷ words) =
    either BringsNoBytes (bytes_eq verb (codes "raw")) (raw_of words) _ (raw_dry words)
    (either BringsNoBytes (bytes_eq verb (codes "settle")) (settle_of words) _ (settle_dry words)
    (either BringsNoBytes (bytes_eq verb (codes "show")) (show_of words) _ (show_dry words)
    (either BringsNoBytes (bytes_eq verb (codes "inspect")) (inspect_of words) _ (inspect_dry words)
    (either BringsNoBytes (bytes_eq verb (codes "image")) (image_of words) _ (image_dry words)
    (either BringsNoBytes (bytes_eq verb (codes "where")) (where_of words) _ (where_dry words)
    (either BringsNoBytes (bytes_eq verb (codes "message")) (message_of words) (step_of (verb ∷ words)) (message_dry words) (step_line_dry (verb ∷ words))))))))

line_dry : (bytes : List ℕ) → IfSome (line_of bytes) BringsNoBytes
unfolding line_of
line_dry bytes = either BringsNoBytes (is_plain bytes) (form_of (words_of bytes)) None (form_dry (words_of bytes)) tt

front : {A : Type 0} (P : A → Type 0) (number : ℕ) (o : Option A) (r : Result (List A) ℕ) → IfSome o P → IfOk r (AllByRecursion P) → IfOk (in_front number o r) (AllByRecursion P)
front P number None r h g = tt
front P number (Some a) (Ok rest) h g = (h, g)
front P number (Some a) (Err later) h g = tt

each : {A : Type 0} (P : A → Type 0) (read : List ℕ → Option A) → ((bytes : List ℕ) → IfSome (read bytes) P) → (lines : List (ℕ × List ℕ)) → IfOk (each_of read lines) (AllByRecursion P)
each P read h [] = tt
each P read h (l ∷ lines) = front P l.0 (read l.1) (each_of read lines) (h l.1) (each P read h lines)

followed : {A B : Type 0} (P : B → Type 0) (number : ℕ) (o : Option A) (r : Result (List B) ℕ) → IfOk r (AllByRecursion P) → IfOk (behind number o r) (λ s. AllByRecursion P s.1)
followed P number None r h = tt
followed P number (Some a) (Ok rest) h = h
followed P number (Some a) (Err later) h = tt

opened_all : {A B : Type 0} (P : B → Type 0) (first : List ℕ → Option A) (read : List ℕ → Option B) → ((bytes : List ℕ) → IfSome (read bytes) P) → (lines : List (ℕ × List ℕ)) → IfOk (opened first read lines) (λ s. AllByRecursion P s.1)
opened_all P first read h [] = tt
opened_all P first read h (l ∷ lines) = followed P l.0 (first l.1) (each_of read lines) (each P read h lines)

-- each line of a script that is read
pub script_dry : (bytes : List ℕ) (script : ScriptText) → script_of bytes ≡ Ok script → All BringsNoBytes script.1
script_dry bytes script read =
    let all = opened_all BringsNoBytes opening_of line_of line_dry (numbered_lines bytes) in
    All-from_recursion BringsNoBytes script.1 (subst (λ (r : Result ScriptText ℕ). IfOk r (λ s. AllByRecursion BringsNoBytes s.1)) read all)
