-- What a tally has once answers were noted.
use Rattle.std.specs.Prelude.{◌≡◌, ℕ, ◌+◌, Bool, true, false, cond, is_some, List, [], ◌∷◌, ◌++◌, length, filter, Option, Some, None, Result, Ok, refl}
use Rattle.std.proofs.Common.{sym, ap, ◌∙◌, arith, append_assoc}
use Rattle.std.proofs.lemmas.List.{length-append, append-nil}
use Rattle.std.proofs.lemmas.List.Elements.{filter-append}
use Rattle.std.proofs.lemmas.List.Concat.{flat_map-cons}
use Rattle.std.proofs.lemmas.Grind.{flat_map-append}
use Rattle.sup_specs.specs.Values.{Bytes}
use Rattle.sup_local_sup.specs.declared.effect.Effect.{Effect}
use Rattle.sup_replica.specs.declared.refusal.Refusal.{Refusal}
use Rattle.sup_model.specs.Worlds.{ModelAnswer as Expected}
use Rattle.sup_world.specs.declared.answer.Answer.{Answer}
use Rattle.sup_world.specs.declared.tally.Tally.{Tally}
use Rattle.sup_world.specs.FollowedSteps.{IsAs}
use Rattle.sup_world.specs.SettledSites.{has_letter, messages_of, effects_at, effects_of}
use Rattle.sup_world.specs.Tallies.{numbers_with, effects_by, NotesAnswers}

messages_append : (xs ys : List (Result Expected Refusal)) → messages_of (xs ++ ys) ≡ messages_of xs + messages_of ys
messages_append xs ys = ap length (filter-append has_letter xs ys) ∙ length-append (filter has_letter xs) (filter has_letter ys)

pub notes_none : (t : Tally) → NotesAnswers [] t t
notes_none t = record { messages = omega arith; effects = sym (append-nil t.effects.items) }

-- a message's number more, and one more is counted
counted : (e : Expected) (b : Bool) → is_some e.number ≡ b → messages_of (Ok e ∷ []) ≡ cond b 1 0
counted e true h = ap (λ b. length (cond b (let xs : List (Result Expected Refusal) = Ok e ∷ [] in xs) [])) h
counted e false h = ap (λ b. length (cond b (let xs : List (Result Expected Refusal) = Ok e ∷ [] in xs) [])) h

numbered_more : (sent : List ℕ) (number : Option ℕ) → length (numbers_with sent number) ≡ length sent + cond (is_some number) 1 0
numbered_more sent None = omega arith
numbered_more sent (Some k) = length-append sent (k ∷ [])

one_message : (e : Expected) (sent : List ℕ) → length (numbers_with sent e.number) ≡ length sent + messages_of (Ok e ∷ [])
one_message e sent = numbered_more sent e.number ∙ ap (λ n. length sent + n) (sym (counted e (is_some e.number) refl))

one_effects : (e : Expected) → effects_of (Ok e ∷ []) ≡ effects_by e.at e.done.effects
one_effects e = flat_map-cons effects_at (Ok e) [] ∙ append-nil (effects_by e.at e.done.effects)

-- an answer of the world was noted, and with it the model's
pub notes_one : (e : Expected) (answer : Answer) (old new : Tally) → IsAs e answer → new.sent.items ≡ numbers_with old.sent.items answer.number
    → new.effects.items ≡ old.effects.items ++ effects_by answer.at answer.done.effects → NotesAnswers (Ok e ∷ []) old new
notes_one e answer old new alike sent effects = record {
  messages = ap length sent ∙ ap (λ n. length (numbers_with old.sent.items n)) alike.number ∙ one_message e old.sent.items;
  effects = effects ∙ ap (λ (at : Bytes). old.effects.items ++ effects_by at answer.done.effects) alike.at
      ∙ ap (λ (es : List Effect). old.effects.items ++ effects_by e.at es) alike.effects
      ∙ ap (λ (es : List (Bytes × Effect)). old.effects.items ++ es) (sym (one_effects e));
}

pub notes_then : (xs ys : List (Result Expected Refusal)) (t u v : Tally) → NotesAnswers xs t u → NotesAnswers ys u v → NotesAnswers (xs ++ ys) t v
notes_then xs ys t u v h g = record {
  messages = omega (arith, h.messages, g.messages, messages_append xs ys);
  effects = g.effects ∙ ap (λ (es : List (Bytes × Effect)). es ++ effects_of ys) h.effects
      ∙ append_assoc t.effects.items (effects_of xs) (effects_of ys)
      ∙ ap (λ (es : List (Bytes × Effect)). t.effects.items ++ es) (sym (flat_map-append effects_at xs ys));
}
