-- A letter that comes, whole or cut short, as bytes of a delivery.
use Rattle.std.specs.Prelude.{◌≡◌, ℕ, ◌-◌, ◌<◌, ◌==◌, Bool, true, false, not, List, [], ◌∷◌, length, take, slice_get, Option, Some, None, Result, Err, unwrap_or, refl, if◌then◌else◌}
use Rattle.std.specs.List.{AllZip}
use Prim.Native.Nat.{zero, suc}
use Rattle.std.proofs.Common.{sym, ap, ◌∙◌, subst, arith}
use Rattle.std.proofs.lemmas.Bool.{eqb-true, eqb-false}
use Rattle.std.proofs.lemmas.List.{take_all}
use Rattle.std.proofs.lemmas.Option.{none-some, same_Some}
use Rattle.json.specs.Json.{value}
use Rattle.json.specs.Lex.{punctuate, lex}
use Rattle.serde_json.specs.Read.{read}
use Rattle.sup_specs.specs.Values.{Bytes}
use Rattle.sup_tables.specs.States.{State}
use Rattle.sup_placement.specs.Place.{Weigher}
use Rattle.sup_wire.specs.declared.message.Message.{Message}
use Rattle.sup_wire.specs.Drafts.{IsDraftOf}
use Rattle.sup_wire.specs.Faults.{IsInRange, TextSays}
use Rattle.sup_cut_texts.proofs.CutTexts.{cut_says_none}
use Rattle.sup_replica.specs.declared.event.Event.TheVariants.{Deliver}
use Rattle.sup_replica.specs.declared.event.Act.TheVariants.{Event as Of}
use Rattle.sup_replica.specs.declared.letter.Letter.{Letter}
use Rattle.sup_replica.specs.declared.refusal.Refusal.{Refusal}
use Rattle.sup_replica.specs.declared.refusal.Refusal.TheVariants.{Down, UnknownNode, NoSuchMessage, BadMessage}
use Rattle.sup_replica.specs.Checks.{refused_if}
use Rattle.sup_replica.specs.ByTables.{by_tables}
use Rattle.sup_replica.specs.Stations.{Station, Mail, a_delta, a_push, an_ack, receiver_of, mail_step, read_step, station_step}
use Rattle.sup_node.specs.Texts.{IsMessageText, IsReadAs, IsLetter, reads_as, message_of, mail_of}
use Rattle.sup_model.specs.declared.step.Step.TheVariants.{Deliver as Delivery}
use Rattle.sup_model.specs.Worlds.{or_refused}
use Rattle.sup_model.specs.Posts.{StationPost, RealWorld, RealStepped, post_of, arrives, real_step, mail_of as sent_mail}
use Rattle.sup_world.proofs.WorldStepLaws.{next}

abbrev pub cut_text : Bytes → ℕ → Bytes
cut_text text drop = take (length text - drop) text

-- what a cut text is read as: whether a delta is all isn't written
abbrev pub as_read : Mail State → ℕ → Option (Mail State)
as_read mail drop = if drop == 0 then Some (mail_of (message_of mail)) else None

some_bytes : (text : Bytes) (m : Message) → IsMessageText text m → 0 < length text
unfolding value punctuate lex
some_bytes [] m h =
    let e : read [] ≡ None = refl in
    absurd (none-some _ (sym e ∙ h.form.json.value))
some_bytes (x ∷ xs) m h = omega arith

reads_cut : (text : Bytes) (mail : Mail State) (k : ℕ) → IsMessageText text (message_of mail) → k < length text → IsReadAs (take k text) None
reads_cut text mail k h short = λ n w. cut_says_none IsDraftOf IsInRange text (message_of mail) k h.form short n

pub reads_as_cut : (text : Bytes) (mail : Mail State) (drop : ℕ) → IsMessageText text (message_of mail) → IsReadAs (cut_text text drop) (as_read mail drop)
reads_as_cut text mail drop h =
    elim (drop == 0) as (λ b. (drop == 0) ≡ b → IsReadAs (cut_text text drop) (if b then Some (mail_of (message_of mail)) else None)) [
      | true ↦ λ e.
          let zero_is : drop ≡ 0 = eqb-true drop 0 e in
          let whole : cut_text text drop ≡ text = take_all (length text - drop) text (omega (arith, zero_is)) in
          (message_of mail, h.whole, subst (λ t. TextSays IsDraftOf t (message_of mail)) (sym whole) h.says, refl)
      | false ↦ λ e.
          let some : (drop ≡ 0 → ⊥) = eqb-false drop 0 e in
          let long : 0 < length text = some_bytes text (message_of mail) h in
          reads_cut text mail (length text - drop) h (short (length text) drop some long)
    ] refl
  where
    short : (n d : ℕ) → (d ≡ 0 → ⊥) → 0 < n → n - d < n
    short n d some long = grind arith

mail_again : (g : Weigher) (s : Station State) (mail : Mail State) (saves : Bool) → mail_step by_tables g s (mail_of (message_of mail)) saves ≡ mail_step by_tables g s mail saves
mail_again g s (a_delta from to n whole content) saves = refl
mail_again g s (a_push from to content) saves = refl
mail_again g s (an_ack from to n) saves = refl

-- the bytes come as the mail does
pub come_as : (g : Weigher) (s : Station State) (mail : Mail State) (drop : ℕ) (bytes : Bytes) (now : ℕ) (saves : Bool)
    → station_step by_tables (reads_as (as_read mail drop)) g s (Of (Deliver bytes)) now saves ≡ arrives by_tables g s mail drop saves
come_as g s mail drop bytes now saves =
    elim (drop == 0) as (λ b. refused_if (not s.node.up) Down (read_step by_tables g s (if b then Some (mail_of (message_of mail)) else None) saves) ≡ refused_if (not s.node.up) Down (refused_if (not b) BadMessage (mail_step by_tables g s mail saves))) [
      | true ↦ ap (refused_if (not s.node.up) Down) (mail_again g s mail saves)
      | false ↦ refl
    ]

-- a letter in its place
pub letter_found : (sent : List (Mail State)) (letters : List Letter) (i : ℕ) (letter : Letter) → AllZip IsLetter sent letters → slice_get letters i ≡ Some letter → (mail : Mail State) × (slice_get sent i ≡ Some mail) × IsLetter mail letter
letter_found [] [] i letter h e = absurd (none-some letter e)
letter_found [] (y ∷ ys) i letter h e = absurd h
letter_found (x ∷ xs) [] i letter h e = absurd h
letter_found (x ∷ xs) (y ∷ ys) zero letter h e = (x, refl, subst (λ (l : Letter). IsLetter x l) (same_Some y letter e) h.0)
letter_found (x ∷ xs) (y ∷ ys) (suc i) letter h e = letter_found xs ys i letter h.1 e

pub letter_absent : (sent : List (Mail State)) (letters : List Letter) (i : ℕ) → AllZip IsLetter sent letters → slice_get letters i ≡ None → slice_get sent i ≡ None
letter_absent [] [] i h e = refl
letter_absent [] (y ∷ ys) i h e = absurd h
letter_absent (x ∷ xs) [] i h e = absurd h
letter_absent (x ∷ xs) (y ∷ ys) zero h e = absurd (none-some y (sym e))
letter_absent (x ∷ xs) (y ∷ ys) (suc i) h e = letter_absent xs ys i h.1 e

-- ---- the step of the world

module _ (g : Weigher) (real : RealWorld State) (from : Bytes) (k : ℕ) (at : Option Bytes) (drop now : ℕ) (saves : Bool) where
  abbrev arrived : Mail State → StationPost State → Result (RealStepped State) Refusal
  arrived mail receiver = next g real receiver (arrives by_tables real.weigher receiver.station mail drop saves)

  abbrev to_receiver : Mail State → Result (RealStepped State) Refusal
  to_receiver mail = or_refused (post_of real (unwrap_or at (receiver_of mail))) UnknownNode (arrived mail)

  abbrev from_sender : StationPost State → Result (RealStepped State) Refusal
  from_sender sender = or_refused (sent_mail sender k) NoSuchMessage to_receiver

  pub no_sender : post_of real from ≡ None → real_step by_tables real (Delivery from k at drop now saves) ≡ Err UnknownNode
  no_sender e = ap (λ o. or_refused o UnknownNode from_sender) e

  module _ (sender : StationPost State) (sends : post_of real from ≡ Some sender) where
    pub no_letter : sent_mail sender k ≡ None → real_step by_tables real (Delivery from k at drop now saves) ≡ Err NoSuchMessage
    no_letter e = ap (λ o. or_refused o UnknownNode from_sender) sends ∙ ap (λ o. or_refused o NoSuchMessage to_receiver) e

    module _ (mail : Mail State) (sent : sent_mail sender k ≡ Some mail) where
      pub no_receiver : post_of real (unwrap_or at (receiver_of mail)) ≡ None → real_step by_tables real (Delivery from k at drop now saves) ≡ Err UnknownNode
      no_receiver e = ap (λ o. or_refused o UnknownNode from_sender) sends ∙ ap (λ o. or_refused o NoSuchMessage to_receiver) sent ∙ ap (λ o. or_refused o UnknownNode (arrived mail)) e

      pub comes : (receiver : StationPost State) → post_of real (unwrap_or at (receiver_of mail)) ≡ Some receiver → (bytes : Bytes)
          → real_step by_tables real (Delivery from k at drop now saves) ≡ next g real receiver (station_step by_tables (reads_as (as_read mail drop)) real.weigher receiver.station (Of (Deliver bytes)) now saves)
      comes receiver e bytes =
          ap (λ o. or_refused o UnknownNode from_sender) sends ∙ ap (λ o. or_refused o NoSuchMessage to_receiver) sent ∙ ap (λ o. or_refused o UnknownNode (arrived mail)) e
          ∙ ap (next g real receiver) (sym (come_as real.weigher receiver.station mail drop bytes now saves))
