-- What a pass has called and the runner was told, one effect, one call or one round more.
use Rattle.std.proofs.Common.{arith, ◌≡◌, ◌≢◌, ◌+◌, ℕ, suc, Bool, false, Option, None, Some, List, [], ◌∷◌, ◌++◌, length, map, flat_map, append_assoc, append-nil, refl, ap, ◌∙◌, sym, subst}
use Rattle.std.specs.List.{AllZip}
use Rattle.std.proofs.lemmas.Grind.{flat_map-append}
use Rattle.std.proofs.lemmas.List.{map-append}
use mathlib.Core.Option.{some}
use Rattle.sup_specs.specs.Values.{Bytes}
use Rattle.sup_specs.specs.declared.child.ChildSpec.{ChildSpec}
use Rattle.sup_local_sup.specs.declared.effect.Effect.{Effect}
use Rattle.sup_local_sup.specs.declared.effect.Effect.TheVariants.{Start}
use Rattle.sup_local_sup.specs.declared.effect.Incarnation.{Incarnation}
use Rattle.sup_replica.specs.declared.event.Act.{Act}
use Rattle.sup_node_gate.specs.declared.entry.Entry.{Entry}
use Rattle.sup_node_gate.specs.declared.view.View.{View}
use Rattle.sup_node_gate.specs.Histories.{entry}
use Rattle.sup_node_gate.specs.Views.{calls_of}
use Rattle.sup_plan.specs.Calls.{Call, asked}
use Rattle.sup_plan.specs.declared.plan.Command.{Command}
use Rattle.sup_posts.specs.NodeCalls.{MadeCall}
use Rattle.sup_posts.specs.Requests.{Unasked}
use Rattle.sup_posts.specs.Rounds.{ChildIncarnation, IsDone, TellsRunner, IsRound, MakesCalls, MakesCommands, StoodByRound, StoodByFrom, failed}
use Rattle.sup_posts.proofs.ItemLaws.{zip_append}
use Rattle.sup_driving.specs.Called.{AsksRunner, MakesCommand, TellsEffects, effects_in}

-- one command more
stood_more : (stood : Command → ℕ → List Effect → Type 0) (place : ℕ) (commands : List Command) (rounds : List (List Entry)) (command : Command) (round : List Entry)
    → StoodByFrom stood place commands rounds → StoodByRound stood command (place + length commands) round → StoodByFrom stood place (commands ++ command ∷ []) (rounds ++ round ∷ [])
stood_more stood place [] [] command round s one = let here : place + 0 ≡ place = omega arith in (subst (λ n. StoodByRound stood command n round) here one, tt)
stood_more stood place [] (r ∷ rs) command round s one = absurd s
stood_more stood place (c ∷ cs) [] command round s one = absurd s
stood_more stood place (c ∷ cs) (r ∷ rs) command round s one =
    let here : place + suc (length cs) ≡ suc place + length cs = omega arith in
    (s.0, stood_more stood (suc place) cs rs command round s.1 (subst (λ n. StoodByRound stood command n round) here one))

module _ (did : Effect → Bool → Type 0) where
  -- no run was answered not to have started
  pub asked_done : (effect : Effect) (run : Option ChildIncarnation) → ((r : ChildIncarnation) → run ≢ Some r) → AsksRunner did effect run → IsDone did effect
  asked_done effect None none asked = asked
  asked_done effect (Some r) none asked = absurd (none r refl)

  skip : (now : ℕ) (effect : Effect) (effects : List Effect) (es : List Entry) → IsDone did effect → TellsRunner did now effects es → TellsRunner did now (effect ∷ effects) es
  skip now effect effects [] d t = (d, t)
  skip now effect effects (e ∷ es) d t = let f = t.1 in (
    t.0,
    record {
      before = effect ∷ f.before;
      id = f.id;
      inc = f.inc;
      spec = f.spec;
      effects_are = ap (λ l. effect ∷ l) f.effects_are;
      done = (d, f.done);
      answered = f.answered;
      call = f.call;
    },
    t.2,
  )

  -- the first effect was done
  pub tells_on : (now : ℕ) (all : List Effect) (effect : Effect) (later : List Effect) (w : List Unasked) (v u : View) → all ≡ effect ∷ later
      → IsDone did effect → TellsEffects did now (later ++ effects_in w) v u → TellsEffects did now (all ++ effects_in w) v u
  tells_on now all effect later w v u is d t =
      let more : TellsEffects did now ((effect ∷ later) ++ effects_in w) v u
      = record { exits = t.exits; are = skip now effect (later ++ effects_in w) t.exits d t.are; own = t.own; shares = t.shares } in
      subst (λ l. TellsEffects did now (l ++ effects_in w) v u) (sym is) more

  -- the run that the first effect begins didn't start, and what its exit's answer begins comes behind all others
  pub tells_exit : (now : ℕ) (all : List Effect) (id : Bytes) (inc : Incarnation) (spec : ChildSpec) (later : List Effect) (w more : List Unasked) (next : Unasked) (v v' u : View)
      → all ≡ Start id inc spec ∷ later → more ≡ w ++ next ∷ [] → did (Start id inc spec) false → MadeCall v (failed (id, inc)) now next.effects v'
      → TellsEffects did now (later ++ effects_in more) v' u → TellsEffects did now (all ++ effects_in w) v u
  tells_exit now all id inc spec later w more next v v' u is grown answered c t =
      let e = entry (failed (id, inc)) now c.answer in
      let behind : later ++ effects_in more ≡ (later ++ effects_in w) ++ next.effects
      = ap (λ l. later ++ effects_in l) grown
      ∙ (ap (λ l. later ++ l) (flat_map-append (λ (r : Unasked). r.effects) w (next ∷ []) ∙ ap (λ l. effects_in w ++ l) (append-nil next.effects)) ∙ sym (append_assoc later (effects_in w) next.effects)) in
      let told : TellsEffects did now ((Start id inc spec ∷ later) ++ effects_in w) v u = record {
        exits = e ∷ t.exits;
        are = (
          later ++ effects_in w,
          record { before = []; id = id; inc = inc; spec = spec; effects_are = refl; done = tt; answered = answered; call = record { is = refl; entered = c.entered } },
          subst (λ l. TellsRunner did now ((later ++ effects_in w) ++ l) t.exits) (sym c.effects_are) (subst (λ l. TellsRunner did now l t.exits) behind t.are),
        );
        own = t.own ∙ (ap (λ l. l ++ map some t.exits) c.own ∙ append_assoc (calls_of v) (some e ∷ []) (map some t.exits));
        shares = t.shares ∙ c.shares;
      } in
      subst (λ l. TellsEffects did now (l ++ effects_in w) v u) (sym is) told

  -- where the pass made no call in between
  pub tells_since : (now : ℕ) (effects : List Effect) (v v' u : View) → calls_of v' ≡ calls_of v → v'.shares ≡ v.shares → TellsEffects did now effects v' u → TellsEffects did now effects v u
  tells_since now effects v v' u own shares t = record { exits = t.exits; are = t.are; own = t.own ∙ ap (λ l. l ++ map some t.exits) own; shares = t.shares ∙ shares }

  pub makes_none : (v : View) → MakesCalls did v [] v
  makes_none v = record { rounds = []; are = tt; own = sym (append-nil (calls_of v)); shares = refl }

  -- a call, and what was told of its answer, is a round
  module _ (v v' u : View) (a : Act) (now : ℕ) (effects : List Effect) (c : MadeCall v a now effects v') (t : TellsEffects did now effects v' u) where
    round_is : IsRound did (a, now) (entry a now c.answer ∷ t.exits)
    round_is = (record { is = refl; entered = c.entered }, subst (λ l. TellsRunner did now l t.exits) (sym c.effects_are) t.are)

    round_own : calls_of u ≡ calls_of v ++ map some (entry a now c.answer ∷ t.exits)
    round_own = t.own ∙ (ap (λ l. l ++ map some t.exits) c.own ∙ append_assoc (calls_of v) (some (entry a now c.answer) ∷ []) (map some t.exits))

    pub makes_one : MakesCalls did v ((a, now) ∷ []) u
    makes_one = record {
      rounds = (entry a now c.answer ∷ t.exits) ∷ [];
      are = (round_is, tt);
      own = round_own ∙ ap (λ l. calls_of v ++ l) (sym (append-nil (map some (entry a now c.answer ∷ t.exits))));
      shares = t.shares ∙ c.shares;
    }

  pub makes_then : (v v' u : View) (cs ds : List Call) → MakesCalls did v cs v' → MakesCalls did v' ds u → MakesCalls did v (cs ++ ds) u
  makes_then v v' u cs ds p q = record {
    rounds = p.rounds ++ q.rounds;
    are = zip_append (IsRound did) cs p.rounds ds q.rounds p.are q.are;
    own = q.own ∙ (ap (λ l. l ++ flat_map (map some) q.rounds) p.own ∙ (append_assoc (calls_of v) (flat_map (map some) p.rounds) (flat_map (map some) q.rounds)
        ∙ ap (λ l. calls_of v ++ l) (sym (flat_map-append (map some) p.rounds q.rounds))));
    shares = q.shares ∙ p.shares;
  }

  module _ (stood : Command → ℕ → List Effect → Type 0) where
    pub commands_none : (v : View) → MakesCommands did stood v [] v
    commands_none v = record { made = record { rounds = []; are = tt; own = sym (append-nil (calls_of v)); shares = refl }; told = tt }

    -- a command's call, and what was told of its answer
    pub command_one : (v v' u : View) (command : Command) (place : ℕ) (effects : List Effect) → MadeCall v command.act command.now effects v' → TellsEffects did command.now effects v' u
        → stood command place effects → MakesCommand did stood v command place u
    command_one v v' u command place effects c t s = record {
      round = entry command.act command.now c.answer ∷ t.exits;
      is = round_is v v' u command.act command.now effects c t;
      told = subst (stood command place) (sym c.effects_are) s;
      own = round_own v v' u command.act command.now effects c t;
      shares = t.shares ∙ c.shares;
    }

    -- a command more
    pub commands_then : (v v' u : View) (cs : List Command) (command : Command) → MakesCommands did stood v cs v' → MakesCommand did stood v' command (1 + length cs) u
        → MakesCommands did stood v (cs ++ command ∷ []) u
    commands_then v v' u cs command p q = record {
      made = record {
        rounds = p.made.rounds ++ q.round ∷ [];
        are = subst (λ l. AllZip (IsRound did) l (p.made.rounds ++ q.round ∷ [])) (sym (map-append asked cs (command ∷ [])))
            (zip_append (IsRound did) (map asked cs) p.made.rounds (asked command ∷ []) (q.round ∷ []) p.made.are (q.is, tt));
        own = q.own ∙ (ap (λ l. l ++ map some q.round) p.made.own ∙ (append_assoc (calls_of v) (flat_map (map some) p.made.rounds) (map some q.round)
            ∙ ap (λ l. calls_of v ++ l) (sym (flat_map-append (map some) p.made.rounds (q.round ∷ []) ∙ ap (λ l. flat_map (map some) p.made.rounds ++ l) (append-nil (map some q.round))))));
        shares = q.shares ∙ p.made.shares;
      };
      told = stood_more stood 1 cs p.made.rounds command q.round p.told q.told;
    }

    -- where the pass made no call since
    pub commands_still : (v v' u : View) (cs : List Command) → MakesCommands did stood v cs v' → calls_of u ≡ calls_of v' → u.shares ≡ v'.shares → MakesCommands did stood v cs u
    commands_still v v' u cs p own shares = record { made = record { rounds = p.made.rounds; are = p.made.are; own = own ∙ p.made.own; shares = shares ∙ p.made.shares }; told = p.told }
