-- Settling, told of the world of the definitions alone: what it comes to is a function of that world and of the names in their order.
use Rattle.std.specs.Prelude.{◌≡◌, ◌≢◌, ℕ, Bool, true, false, cond, List, [], ◌∷◌, ◌++◌, map, filter, find, is_some, Option, Some, None, Result, Ok, Err, IsPermutation, refl}
use Rattle.std.specs.List.{AllZip}
use Rattle.std.specs.Option.{option_and_then}
use Rattle.std.proofs.Common.{sym, ap, ◌∙◌, subst}
use mathlib.Core.Logic.{inl, inr}
use Rattle.sup_specs.specs.Values.{Bytes}
use Rattle.sup_tables.specs.States.{State}
use Rattle.sup_placement.specs.Place.{Weigher}
use Rattle.sup_replica.specs.declared.refusal.Refusal.{Refusal}
use Rattle.sup_replica.specs.declared.refusal.Refusal.TheVariants.{OutOfMemory as NoMemory, UpToDate}
use Rattle.sup_replica.specs.ByTables.{by_tables}
use Rattle.sup_replica.specs.Nodes.{is_named}
use Rattle.sup_replica.specs.Stations.{Station}
use Rattle.sup_model.specs.declared.step.Step.{Step}
use Rattle.sup_model.specs.Posts.{StationPost, RealWorld, RealAnswer, reads, real_step, real_after}
use Rattle.sup_model.specs.Refines.{real_answer_of}
use Rattle.sup_model.specs.Follows.{StepMakes}
use Rattle.sup_world.specs.declared.answer.Answer.{Answer as Told}
use Rattle.sup_world.specs.declared.settled.Settled.{Settled}
use Rattle.sup_world.specs.CarriedSteps.{carried, seen_at, KnowsBytes}
use Rattle.sup_world.specs.Exchanges.{running}
use Rattle.sup_world.specs.FollowedSteps.{MakesRealStep}
use Rattle.sup_world.specs.Pairs.{ship_of, arrival}
use Rattle.sup_world.specs.Runs.{StepGoes, RanSteps}
use Rattle.sup_world.specs.SeenNodes.{SeenNode}
use Rattle.sup_world.specs.SettledSites.{pairs_of}
use Rattle.sup_world.specs.Settlements.{Answered, IsToldOn, IsBrought, IsExchange, AreExchanges, SettlesBy}
use Rattle.sup_world.specs.StandingStations.{IsNodeOf}
use Rattle.sup_world.specs.ToldAnswers.{SiteStands, ShowsReal, TellsOf}
use Rattle.sup_clustering.proofs.SameNameLaws.{one_order}

-- ---- a step
-- the number of the message that leaves with an answer
abbrev pub number_in : Result (RealAnswer State) Refusal → Option ℕ
number_in (Ok told) = told.number
number_in (Err refusal) = None

pub number_of : RealWorld State → Step → Option ℕ
number_of w step = number_in (real_answer_of (real_step by_tables w step))

pub stepped : RealWorld State → Step → RealWorld State
stepped w step = real_after by_tables w (real_step by_tables w step)

no_memory : (told : Answered) → TellsOf (Err NoMemory) told → told ≢ Err NoMemory → ⊥
no_memory (Ok a) t ne = t
no_memory (Err r) t ne = ne (ap Err t)

number_told : (told : Result (RealAnswer State) Refusal) (a : Told) → TellsOf told (Ok a) → a.number ≡ number_in told
number_told (Ok told) a t = t.number
number_told (Err q) a t = absurd t

none_told : (told : Result (RealAnswer State) Refusal) (r : Refusal) → TellsOf told (Err r) → None ≡ number_in told
none_told (Ok told) r t = absurd t
none_told (Err q) r t = refl

-- the number that is told
abbrev pub said_number : Answered → Option ℕ
said_number (Ok a) = a.number
said_number (Err r) = None

said_told : (told : Result (RealAnswer State) Refusal) (answer : Answered) → TellsOf told answer → said_number answer ≡ number_in told
said_told told (Ok a) t = number_told told a t
said_told told (Err r) t = none_told told r t

module _ (g : Weigher) where
  -- a step that has room
  pub record Goes (w : RealWorld State) (step : Step) (answer : Answered) (after : List SeenNode) : Type 0 where
    pub number : said_number answer ≡ number_of w step
    pub shows : ShowsReal g after (stepped w step)

  step_goes : (w : RealWorld State) (sites after : List SeenNode) (step : Step) (answer : Answered) → ShowsReal g sites w → carried sites step ≡ step → KnowsBytes (reads w.codec) step → StepGoes g sites step answer after → answer ≢ Err NoMemory → Goes w step answer after
  unfolding number_of stepped
  step_goes w sites after step answer seen same known goes room = by made.makes
    where
      made : MakesRealStep g w step answer after
      made = subst (λ (x : Step). MakesRealStep g w x answer after) same (goes.steps w seen known)

      by : StepMakes w step made.told made.after → Goes w step answer after
      by (inl m) =
          record {
            number = said_told (real_answer_of (real_step by_tables w step)) answer (subst (λ (t : Result (RealAnswer State) Refusal). TellsOf t answer) m.0 made.tells);
            shows = subst (λ (r : RealWorld State). ShowsReal g after r) m.1 made.shows;
          }
      by (inr m) = absurd (no_memory answer (subst (λ (t : Result (RealAnswer State) Refusal). TellsOf t answer) m.0 made.tells) room)

  -- ---- exchanges
  -- the message with this number comes, if one left; and what leaves with its answer
  pub told_on : RealWorld State → Bytes → Option ℕ → RealWorld State
  told_on w b None = w
  told_on w b (Some n) = stepped w (arrival b n)

  pub brought : RealWorld State → Bytes → Bytes → Option ℕ → RealWorld State
  brought w a b None = w
  brought w a b (Some k) = told_on (stepped w (arrival a k)) b (number_of w (arrival a k))

  pub exchanged : RealWorld State → Bytes → Bytes → RealWorld State
  exchanged w a b = brought (stepped w (ship_of a b)) a b (number_of w (ship_of a b))

  pub exchanged_all : RealWorld State → List (Bytes × Bytes) → RealWorld State
  exchanged_all w [] = w
  exchanged_all w (pair ∷ pairs) = exchanged_all (exchanged w pair.0 pair.1) pairs

  -- nodes that show this world, and from which the rest of the steps leads on
  pub record Comes (w : RealWorld State) (steps : List Step) (answers : List Answered) (after : List SeenNode) : Type 0 where
    pub sites : List SeenNode
    pub shows : ShowsReal g sites w
    pub ran : RanSteps g sites steps answers after

  ran_as : (sites after : List SeenNode) (here others more : List Step) (told said rest : List Answered) → here ≡ others → told ≡ said → RanSteps g sites (here ++ more) (told ++ rest) after → RanSteps g sites (others ++ more) (said ++ rest) after
  ran_as sites after here others more told said rest e f h =
      subst (λ (s : List Step). RanSteps g sites (s ++ more) (said ++ rest) after) e (subst (λ (t : List Answered). RanSteps g sites (here ++ more) (t ++ rest) after) f h)

  told_comes : (w : RealWorld State) (sites after : List SeenNode) (b : Bytes) (number : Option ℕ) (here more : List Step) (told rest : List Answered) → ShowsReal g sites w → IsToldOn b number here told → RanSteps g sites (here ++ more) (told ++ rest) after
      → Comes (told_on w b number) more rest after
  unfolding told_on
  told_comes w sites after b None here more told rest seen h ran = record { sites = sites; shows = seen; ran = ran_as sites after here [] more told [] rest h.0 h.1 ran }
  told_comes w sites after b (Some n) here more told rest seen h ran =
      let r = ran_as sites after here (arrival b n ∷ []) more told (Ok h.0 ∷ []) rest h.1 h.2 ran in
      let goes = step_goes w sites r.0 (arrival b n) (Ok h.0) seen refl tt r.1 (λ e. cc) in
      record { sites = r.0; shows = goes.shows; ran = r.2 }

  brought_comes : (w : RealWorld State) (sites after : List SeenNode) (a b : Bytes) (number : Option ℕ) (here more : List Step) (told rest : List Answered) → ShowsReal g sites w → IsBrought a b number here told → RanSteps g sites (here ++ more) (told ++ rest) after
      → Comes (brought w a b number) more rest after
  unfolding brought
  brought_comes w sites after a b None here more told rest seen h ran = record { sites = sites; shows = seen; ran = ran_as sites after here [] more told [] rest h.0 h.1 ran }
  brought_comes w sites after a b (Some k) here more told rest seen h ran =
      let r = ran_as sites after here (arrival a k ∷ h.1) more told (Ok h.0 ∷ h.2) rest h.3 h.4 ran in
      let goes = step_goes w sites r.0 (arrival a k) (Ok h.0) seen refl tt r.1 (λ e. cc) in
      subst (λ (n : Option ℕ). Comes (told_on (stepped w (arrival a k)) b n) more rest after) goes.number
      (told_comes (stepped w (arrival a k)) r.0 after b h.0.number h.1 more h.2 rest goes.shows h.5 r.2)

  exchange_comes : (w : RealWorld State) (sites after : List SeenNode) (a b : Bytes) (here more : List Step) (told rest : List Answered) → ShowsReal g sites w → IsExchange a b here told → RanSteps g sites (here ++ more) (told ++ rest) after
      → Comes (exchanged w a b) more rest after
  unfolding exchanged brought
  exchange_comes w sites after a b here more told rest seen (inl h) ran =
      let up_to_date : Answered = Err UpToDate in
      let r = ran_as sites after here (ship_of a b ∷ []) more told (up_to_date ∷ []) rest h.0 h.1 ran in
      let goes = step_goes w sites r.0 (ship_of a b) up_to_date seen refl tt r.1 (λ e. cc) in
      subst (λ (n : Option ℕ). Comes (brought (stepped w (ship_of a b)) a b n) more rest after) goes.number (record { sites = r.0; shows = goes.shows; ran = r.2 })
  exchange_comes w sites after a b here more told rest seen (inr h) ran =
      let r = ran_as sites after here (ship_of a b ∷ h.1) more told (Ok h.0 ∷ h.2) rest h.3 h.4 ran in
      let goes = step_goes w sites r.0 (ship_of a b) (Ok h.0) seen refl tt r.1 (λ e. cc) in
      subst (λ (n : Option ℕ). Comes (brought (stepped w (ship_of a b)) a b n) more rest after) goes.number
      (brought_comes (stepped w (ship_of a b)) r.0 after a b h.0.number h.1 more h.2 rest goes.shows h.5 r.2)

  all_come : (pairs : List (Bytes × Bytes)) (w : RealWorld State) (sites after : List SeenNode) (steps : List Step) (answers : List Answered) → ShowsReal g sites w → AreExchanges pairs steps answers → RanSteps g sites steps answers after
      → ShowsReal g after (exchanged_all w pairs)
  unfolding exchanged_all
  all_come [] w sites after steps answers seen h ran =
      let none : RanSteps g sites [] [] after = subst (λ (s : List Step). RanSteps g sites s [] after) h.0 (subst (λ (t : List Answered). RanSteps g sites steps t after) h.1 ran) in
      subst (λ (s : List SeenNode). ShowsReal g s w) (sym none) seen
  all_come (pair ∷ pairs) w sites after steps answers seen h ran =
      let parts : RanSteps g sites (h.0 ++ h.1) (h.2 ++ h.3) after =
      subst (λ (s : List Step). RanSteps g sites s (h.2 ++ h.3) after) h.6 (subst (λ (t : List Answered). RanSteps g sites steps t after) h.7 ran) in
      let first = exchange_comes w sites after pair.0 pair.1 h.0 h.1 h.2 h.3 seen h.4 parts in
      all_come pairs (exchanged w pair.0 pair.1) first.sites after h.1 h.3 first.shows h.5 first.ran

  -- ---- the nodes that run
  abbrev running_in : List (StationPost State) → List Bytes
  running_in posts = map (λ (p : StationPost State). p.station.node.name) (filter (λ (p : StationPost State). p.station.node.up) posts)

  up_alike : (o : Option (Station State)) (p : Station State) → IsNodeOf p o → is_some o ≡ p.node.up
  up_alike None p h = sym h.down
  up_alike (Some n) p h = sym h.1

  running_alike : (sites : List SeenNode) (posts : List (StationPost State)) → AllZip SiteStands sites posts → running sites ≡ running_in posts
  running_alike [] [] h = refl
  running_alike [] (p ∷ ps) h = absurd h
  running_alike (s ∷ ss) [] h = absurd h
  running_alike (s ∷ ss) (p ∷ ps) h =
      let rest = running_alike ss ps h.1 in
      let F = filter (λ (x : SeenNode). is_some x.kept_station.node) ss in
      let G = filter (λ (x : StationPost State). x.station.node.up) ps in
      let left = λ (b : Bool). map (λ (x : SeenNode). x.name) (cond b (s ∷ F) F) in
      let right = λ (b : Bool). map (λ (x : StationPost State). x.station.node.name) (cond b (p ∷ G) G) in
      let same : (b : Bool) → left b ≡ right b = λ b. elim b as (λ b. left b ≡ right b) [ true ↦ λ i. h.0.name i ∷ rest i | false ↦ rest ] in
      same (is_some s.kept_station.node) ∙ ap right (up_alike s.kept_station.node p.station h.0.station.node)

  -- settling from two worlds of the code that stand for one of the definitions
  pub settle_alike : (w : RealWorld State) (sites others after also : List SeenNode) (settled more : Settled) → ShowsReal g sites w → ShowsReal g others w → SettlesBy g sites (Ok settled) after → SettlesBy g others (Ok more) also
      → (end : RealWorld State) × ShowsReal g after end × ShowsReal g also end
  settle_alike w sites others after also settled more seen shown s t =
      let names = s.told.0 in
      let same : t.told.0 ≡ names =
      one_order (running others) t.told.0 names t.told.1.all (subst (λ (ns : List Bytes). IsPermutation ns names) (running_alike sites w.posts seen.sites_stand ∙ sym (running_alike others w.posts shown.sites_stand)) s.told.1.all) t.told.1.sorted s.told.1.sorted in (
        exchanged_all w (pairs_of names),
        all_come (pairs_of names) w sites after s.steps s.answers seen s.told.2 s.ran,
        all_come (pairs_of names) w others also t.steps t.answers shown (subst (λ (ns : List Bytes). AreExchanges (pairs_of ns) t.steps t.answers) same t.told.2) t.ran,
      )

  -- ---- what the nodes know
  abbrev runs_by : Station State → Option (Station State)
  runs_by p = cond p.node.up (Some p) None

  node_alike : (o : Option (Station State)) (p : Station State) → IsNodeOf p o → o ≡ runs_by p
  node_alike None p h = sym (ap (λ (b : Bool). cond b (Some p) None) h.down)
  node_alike (Some n) p h = ap Some h.0 ∙ sym (ap (λ (b : Bool). cond b (Some p) None) h.1)

  abbrev runs_in : List (StationPost State) → Bytes → Option (Station State)
  runs_in posts name = option_and_then (λ (p : StationPost State). runs_by p.station) (find (λ (p : StationPost State). is_named name p.station.node.name) posts)

  abbrev runs_at : List SeenNode → Bytes → Option (Station State)
  runs_at sites name = option_and_then (λ (s : SeenNode). s.kept_station.node) (seen_at sites name)

  found_alike : (sites : List SeenNode) (posts : List (StationPost State)) → AllZip SiteStands sites posts → (name : Bytes) → runs_at sites name ≡ runs_in posts name
  found_alike [] [] h name = refl
  found_alike [] (p ∷ ps) h name = absurd h
  found_alike (s ∷ ss) [] h name = absurd h
  found_alike (s ∷ ss) (p ∷ ps) h name =
      let left = λ (b : Bool). option_and_then (λ (x : SeenNode). x.kept_station.node) (cond b (Some s) (seen_at ss name)) in
      let right = λ (b : Bool). option_and_then (λ (x : StationPost State). runs_by x.station) (cond b (Some p) (find (λ (x : StationPost State). is_named name x.station.node.name) ps)) in
      let same : (b : Bool) → left b ≡ right b = λ b. elim b as (λ b. left b ≡ right b) [ true ↦ node_alike s.kept_station.node p.station h.0.station.node | false ↦ found_alike ss ps h.1 name ] in
      same (is_named name s.name) ∙ ap right (ap (is_named name) h.0.name)

  pub nodes_alike : (w : RealWorld State) (sites others : List SeenNode) → ShowsReal g sites w → ShowsReal g others w → (name : Bytes) → runs_at sites name ≡ runs_at others name
  nodes_alike w sites others seen shown name = found_alike sites w.posts seen.sites_stand name ∙ sym (found_alike others w.posts shown.sites_stand name)
