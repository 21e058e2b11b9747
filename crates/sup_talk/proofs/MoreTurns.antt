-- A talk with one turn more (this project).
use Rattle.std.proofs.Common.{◌≡◌, ℕ, Bool, true, false, List, [], ◌∷◌, ◌++◌, length, Option, None, Some, Ok, refl, sym, ap, subst, append-nil, append_assoc, ◌∙◌, ◌+◌, length-append}
use Rattle.std.specs.Global.{Vec}
use Rattle.std.proofs.KnownBytes.{Consumes-trans, Appends-trans, Consumes-nil, Appends-nil}
use Rattle.std.proofs.lemmas.Grind.{flat_map-append}
use Rattle.std.proofs.lemmas.List.Elements.{All-append, All-cons, All-nil}
use Rattle.sup_talk.specs.Hosts.{Seen, Event, Awaited, Heard, Told, Passes, Exchanges}
use Rattle.sup_talk.specs.Talking.{Answers, Lacks, Shows, Turn, Follows, Talks, IsHeard, Replies, Rounds, taken_by, said_by, events_of}

pub Passes-trans : {K : Type 0} (a b c : Option (List (Event K))) (es fs : List (Event K)) → Passes a b es → Passes b c fs → Passes a c (es ++ fs)
Passes-trans None b c es fs p q = tt
Passes-trans (Some x) None c es fs p q = absurd p
Passes-trans (Some x) (Some y) None es fs p q = absurd q
Passes-trans (Some x) (Some y) (Some z) es fs p q = q ∙ ap (λ l. l ++ fs) p ∙ append_assoc x es fs

pub Passes-nil : {K : Type 0} (a : Option (List (Event K))) → Passes a a []
Passes-nil None = tt
Passes-nil (Some x) = sym (append-nil x)

pub Exchanges-trans : {K : Type 0} (a b c : Seen K) (taken taken' said said' : List ℕ) (events events' : List (Event K))
    → Exchanges a b taken said events → Exchanges b c taken' said' events' → Exchanges a c (taken ++ taken') (said ++ said') (events ++ events')
Exchanges-trans a b c taken taken' said said' events events' p q = record {
  consumes = Consumes-trans a.unread b.unread c.unread taken taken' p.consumes q.consumes;
  appends = Appends-trans a.written b.written c.written said said' p.appends q.appends;
  passes = Passes-trans a.past b.past c.past events events' p.passes q.passes;
}

pub Exchanges-none : {K : Type 0} (a : Seen K) → Exchanges a a [] [] []
Exchanges-none a = record {
  consumes = Consumes-nil a.unread;
  appends = Appends-nil a.written;
  passes = Passes-nil a.past;
}

pub Follows-more : {S K : Type 0} (answers : Answers S) (shows : Shows S K) (over : S → Bool) (s t u : S) (turns : List (Turn K)) (turn : Turn K)
    → Follows answers shows over s turns t → over t ≡ false → shows t turn.awaiting → answers t turn.heard turn.said u → shows u turn.keeper → Follows answers shows over s (turns ++ (turn ∷ [])) u
Follows-more answers shows over s t u [] turn before on awaited more shown =
    (subst (λ x. over x ≡ false) (sym before) on, subst (λ x. shows x turn.awaiting) (sym before) awaited, u, subst (λ x. answers x turn.heard turn.said u) (sym before) more, shown, refl)
Follows-more answers shows over s t u (first ∷ turns) turn before on awaited more shown =
    (before.0, before.1, before.2, before.3, before.4, Follows-more answers shows over before.2 t u turns turn before.5 on awaited more shown)

pub Talks-none : {S K : Type 0} (answers : Answers S) (shows : Shows S K) (over : S → Bool) (most : ℕ) (s : S) (seen : Seen K) → Talks answers shows over most s s seen seen []
Talks-none answers shows over most s seen = record {
  follows = refl;
  heard = All-nil (λ turn. IsHeard most turn.taken turn.heard);
  exchanges = Exchanges-none seen;
}

pub Talks-more : {S K : Type 0} (answers : Answers S) (shows : Shows S K) (over : S → Bool) (most : ℕ) (s t u : S) (a b c : Seen K) (turns : List (Turn K)) (turn : Turn K)
    → Talks answers shows over most s t a b turns → over t ≡ false → shows t turn.awaiting
    → IsHeard most turn.taken turn.heard → answers t turn.heard turn.said u → shows u turn.keeper
    → Exchanges b c turn.taken turn.said (Awaited turn.awaiting ∷ Heard turn.heard ∷ Told turn.said turn.keeper ∷ [])
    → Talks answers shows over most s u a c (turns ++ (turn ∷ []))
Talks-more answers shows over most s t u a b c turns turn before on awaited heard answered shown exchanged = record {
  follows = Follows-more answers shows over s t u turns turn before.follows on awaited answered shown;
  heard = All-append (λ turn. IsHeard most turn.taken turn.heard) turns (turn ∷ []) before.heard (All-cons (λ turn. IsHeard most turn.taken turn.heard) turn [] heard (All-nil (λ turn. IsHeard most turn.taken turn.heard)));
  exchanges =
      let taken = flat_map-append (λ turn. turn.taken) turns (turn ∷ []) ∙ ap (λ l. taken_by turns ++ l) (append-nil turn.taken) in
      let said = flat_map-append (λ turn. turn.said) turns (turn ∷ []) ∙ ap (λ l. said_by turns ++ l) (append-nil turn.said) in
      let events = flat_map-append (λ turn. Awaited turn.awaiting ∷ Heard turn.heard ∷ Told turn.said turn.keeper ∷ []) turns (turn ∷ []) in
      subst (λ x. Exchanges a c x (said_by (turns ++ (turn ∷ []))) (events_of (turns ++ (turn ∷ [])))) (sym taken)
      (subst (λ x. Exchanges a c (taken_by turns ++ turn.taken) x (events_of (turns ++ (turn ∷ [])))) (sym said)
      (subst (λ x. Exchanges a c (taken_by turns ++ turn.taken) (said_by turns ++ turn.said) x) (sym events)
      (Exchanges-trans a b c (taken_by turns) turn.taken (said_by turns) turn.said (events_of turns) (Awaited turn.awaiting ∷ Heard turn.heard ∷ Told turn.said turn.keeper ∷ []) before.exchanges exchanged)));
}

one-more : {K : Type 0} (turns : List (Turn K)) (turn : Turn K) → length (turns ++ (turn ∷ [])) ≡ length turns + 1
one-more turns turn = length-append turns (turn ∷ [])

-- with one round more that was a turn
pub Talks-round : {S K : Type 0} (answers : Answers S) (shows : Shows S K) (lacks : Lacks S) (over : S → Bool) (most : ℕ) (s t u : S) (a b c : Seen K) (count : ℕ) (go : Bool)
    → ((turns : List (Turn K)) × Talks answers shows over most s t a b turns × (length turns ≡ count))
    → over t ≡ false → go ≡ true → Rounds answers shows lacks most t u b c (Ok go)
    → ((turns : List (Turn K)) × Talks answers shows over most s u a c turns × (length turns ≡ count + 1))
Talks-round answers shows lacks over most s t u a b c count go before on is round =
    let turn = subst (λ g. Rounds answers shows lacks most t u b c (Ok g)) is round in (
      before.0 ++ (turn.0 ∷ []),
      Talks-more answers shows over most s t u a b c before.0 turn.0 before.1 on turn.1 turn.2 turn.3 turn.4 turn.5,
      one-more before.0 turn.0 ∙ ap (λ n. n + 1) before.2,
    )

-- a line that was heard, and its answer that was told beside a keeper that is shown, are a turn
pub turn-of : {S K : Type 0} (answers : Answers S) (shows : Shows S K) (lacks : Lacks S) (most : ℕ) (s t : S) (a b c : Seen K) (got : Option (Vec ℕ)) (text : Vec ℕ) (said : List ℕ) (keeper : K)
    → Replies answers shows lacks most s t a b (Ok got) → got ≡ Some text → said ≡ text.items → shows t keeper → Exchanges b c [] said (Told said keeper ∷ [])
    → Rounds answers shows lacks most s t a c (Ok true)
turn-of answers shows lacks most s t a b c got text said keeper replies is same shown told =
    let heard = subst (λ g. Replies answers shows lacks most s t a b (Ok g)) is replies in
    let line = heard.1 in (
      record { awaiting = line.0; taken = line.2; heard = heard.0; said = text.items; keeper = keeper },
      line.1,
      line.3,
      heard.2,
      shown,
      subst (λ x. Exchanges a c x text.items (Awaited line.0 ∷ Heard heard.0 ∷ Told text.items keeper ∷ [])) (append-nil line.2)
          (Exchanges-trans a b c line.2 [] [] text.items (Awaited line.0 ∷ Heard heard.0 ∷ []) (Told text.items keeper ∷ []) line.4
          (subst (λ x. Exchanges b c [] x (Told x keeper ∷ [])) same told)),
    )
