-- A step keeps a world clean: each added row is known where its dot is from, no dot has two rows, and no reply gives a dot again.
use Rattle.std.specs.Prelude.{◌≡◌, ◌≢◌, ℕ, zero, suc, ◌+◌, ◌-◌, ◌==◌, ◌≤◌, ◌<◌, Bool, true, false, cond, not, List, [], ◌∷◌, ◌++◌, map, find, refl, Option, Some, None, Result, Ok, Err, slice_get, unwrap_or, if◌then◌else◌, AllPairs, All, slice_index_or, length}
use Rattle.std.proofs.Common.{sym, ap, ◌∙◌, subst, arith}
use Rattle.std.proofs.lemmas.List.Kept.{AllPairs-cons}
use Rattle.std.proofs.lemmas.Option.{none-some}
use mathlib.Core.Bool.{true≢false}
use mathlib.Core.Logic.{◌⊎◌, inl, inr}
use Rattle.sup_specs.specs.Values.{Bytes}
use Rattle.sup_causal.specs.declared.dot.Dot.{Dot}
use Rattle.sup_tables.specs.declared.row.Row.{Row}
use Rattle.sup_tables.specs.Operations.{greatest, NoClash}
use Rattle.sup_tables.proofs.PointLaws.{text_itself, same_text}
use Rattle.sup_replica.specs.declared.done.Reply.{Reply}
use Rattle.sup_replica.specs.declared.done.Reply.TheVariants.{Added as adds_one, Replaced, Removed, Restarted, Finished, GaveUp, Sent, Absorbed, Known, Acked, Stopped, Boot}
use Rattle.sup_replica.specs.declared.refusal.Refusal.{Refusal}
use Rattle.sup_replica.specs.declared.refusal.Refusal.TheVariants.{Down, UnknownNode, BadMessage, NoSuchMessage}
use Rattle.sup_replica.specs.Checks.{refused_if, then_do}
use Rattle.sup_model.specs.Worlds.{WorldSetting, Ops, ModelWorld, ModelSite, ModelAnswer, WorldStepped, site_of, message_of, or_refused, acted, posted, target_is_here, step, new}
use Rattle.sup_replica.specs.Nodes.{Message, ActOutcome, by_operations, is_named, fresh}
use Rattle.sup_replica.specs.Acts.{act_step, deliver, kept_by}
use Rattle.sup_model.specs.declared.step.Step.{Step}
use Rattle.sup_model.specs.declared.step.Step.TheVariants.{Node as AtNode, Deliver as Delivery, Raw}
use Rattle.sup_model.specs.Runs.{world_after, dot_of, answer_of, new_dots}
use Rattle.sup_model.proofs.Afters.{After, after-refused_if, after-or_refused}
use Rattle.sup_anti_entropy.specs.Peers.{OccursIn}
use Rattle.sup_anti_entropy.proofs.StepLaws.{in-last}
use Rattle.sup_model.specs.Clean.{HasRow, SiteHas, Added, HasCleanRows}
use Rattle.sup_model.proofs.IssueLaws.{added-greatest, some_same}
use Rattle.sup_model.proofs.CleanLaws.{Takes, Has, letter_ops, act_take, deliver_take, kept_by_after, row-append}

-- lists
pub find-in : {X : Type 0} (p : X → Bool) (xs : List X) (x : X) → find p xs ≡ Some x → OccursIn xs x × (p x ≡ true)
find-in p [] x e = absurd (none-some x e)
find-in p (y ∷ ys) x e =
    elim (p y) as (λ b. p y ≡ b → cond b (Some y) (find p ys) ≡ Some x → OccursIn (y ∷ ys) x × (p x ≡ true)) [
      | true ↦ λ t f. let same : x ≡ y = some_same y x f in (inl same, ap p same ∙ t)
      | false ↦ λ t f. let h = find-in p ys x f in (inr h.0, h.1)
    ] refl e

pub get-in : {X : Type 0} (xs : List X) (n : ℕ) (x : X) → slice_get xs n ≡ Some x → OccursIn xs x
get-in [] n x e = none-some x e
get-in (y ∷ ys) zero x e = inl (some_same y x e)
get-in (y ∷ ys) (suc n) x e = inr (get-in ys n x e)

pub in-put : {X : Type 0} (p : X → Bool) (new : X) (xs : List X) (y : X) → OccursIn (map (λ x. if p x then new else x) xs) y → (y ≡ new) ⊎ (OccursIn xs y × (p y ≡ false))
in-put p new [] y h = absurd h
in-put p new (x ∷ xs) y (inl e) =
    elim (p x) as (λ b. p x ≡ b → y ≡ (if b then new else x) → (y ≡ new) ⊎ (OccursIn (x ∷ xs) y × (p y ≡ false))) [
      | true ↦ λ t f. inl f
      | false ↦ λ t f. inr (inl f, ap p f ∙ t)
    ] refl e
in-put p new (x ∷ xs) y (inr h) = elim (in-put p new xs y h) [ inl e ↦ inl e | inr g ↦ inr (inr g.0, g.1) ]

-- a site has what its node has
node_has : (w : ModelWorld) (site : ModelSite) → OccursIn w.sites site → Has (Added w) site.node
node_has w site here = record {
  known = λ x e. record { site = site; there = here; has = inl e };
  newest = λ x e. record { site = site; there = here; has = inr (inl e) };
}

-- what a step of the world is: an act at one of its sites
pub record StepAt (w : ModelWorld) (x : WorldStepped) : Type 0 where
  pub site : ModelSite
  pub there : OccursIn w.sites site
  pub outcome : ActOutcome Ops
  pub takes : Takes (Added w) site.node outcome
  pub is : x ≡ acted w site outcome

step_at : (w : ModelWorld) (site : ModelSite) → OccursIn w.sites site → (r : Result (ActOutcome Ops) Refusal) → After (Takes (Added w) site.node) r
    → After (StepAt w) (then_do r (λ o. let x : Result WorldStepped Refusal = Ok (acted w site o) in x))
step_at w site here (Ok o) t = record { site = site; there = here; outcome = o; takes = t; is = refl }
step_at w site here (Err r) t = tt

message-in : (site : ModelSite) (k : ℕ) (m : Message Ops) → message_of site k ≡ Some m → OccursIn site.sent m
message-in site k m e =
    elim (k == 0) as (λ b. (if b then None else slice_get site.sent (k - 1)) ≡ Some m → OccursIn site.sent m) [
      | true ↦ λ f. absurd (none-some m f)
      | false ↦ λ f. get-in site.sent (k - 1) m f
    ] e

pub step_is_at : (w : ModelWorld) (st : Step) → After (StepAt w) (step w st)
step_is_at w (AtNode at act now saves) =
    let done = λ (site : ModelSite). kept_by saves (act_step by_operations w.weigher site.node act now) in
    let rest = λ (site : ModelSite). then_do (done site) (λ (o : ActOutcome Ops). let x : Result WorldStepped Refusal = Ok (acted w site o) in x) in
    after-or_refused (StepAt w) (site_of w at) UnknownNode (λ site. refused_if (not (target_is_here w act)) UnknownNode (rest site)) (λ site e.
    let here = (find-in (λ s. is_named at s.node.name) w.sites site e).0 in
    after-refused_if (StepAt w) (not (target_is_here w act)) UnknownNode (rest site)
    (step_at w site here (done site)
    (kept_by_after (Takes (Added w) site.node) saves (act_step by_operations w.weigher site.node act now) (act_take (Added w) w.weigher site.node (node_has w site here) act now))))
step_is_at w (Delivery from k at drop now saves) =
    let arrives = λ (m : Message Ops) (receiver : ModelSite). kept_by saves (deliver by_operations w.weigher receiver.node from m (drop == 0)) in
    let at_receiver = λ (m : Message Ops) (receiver : ModelSite). then_do (arrives m receiver) (λ (o : ActOutcome Ops). let x : Result WorldStepped Refusal = Ok (acted w receiver o) in x) in
    let with_message = λ (m : Message Ops). or_refused (site_of w (unwrap_or at m.to)) UnknownNode (at_receiver m) in
    let with_sender = λ (sender : ModelSite). or_refused (message_of sender k) NoSuchMessage with_message in
    after-or_refused (StepAt w) (site_of w from) UnknownNode with_sender (λ sender f.
    after-or_refused (StepAt w) (message_of sender k) NoSuchMessage with_message (λ m g.
    after-or_refused (StepAt w) (site_of w (unwrap_or at m.to)) UnknownNode (at_receiver m) (λ receiver e.
    let here = (find-in (λ s. is_named (unwrap_or at m.to) s.node.name) w.sites receiver e).0 in
    let sender_here = (find-in (λ s. is_named from s.node.name) w.sites sender f).0 in
    step_at w receiver here (arrives m receiver)
    (kept_by_after (Takes (Added w) receiver.node) saves (deliver by_operations w.weigher receiver.node from m (drop == 0))
    (deliver_take (Added w) w.weigher receiver.node (node_has w receiver here) from m
    (λ x h. record { site = sender; there = sender_here; has = inr (inr (record { message = m; sent = message-in sender k m g; has = h })) }) (drop == 0))))))
step_is_at w (Raw at bytes) =
    let none : Result WorldStepped Refusal = Err NoSuchMessage in
    let inner = refused_if (not (w.is_message bytes)) BadMessage none in
    after-or_refused (StepAt w) (site_of w at) UnknownNode (λ site. refused_if (not site.node.up) Down inner) (λ site _.
    after-refused_if (StepAt w) (not site.node.up) Down inner (after-refused_if (StepAt w) (not (w.is_message bytes)) BadMessage none tt))

-- the site after an act
abbrev pub site_after : ModelSite → ActOutcome Ops → ModelSite
site_after site o = record { node = o.node; sent = posted site.sent o.letter }

posted-in : (sent : List (Message Ops)) (letter : Option (Message Ops)) (m : Message Ops) → OccursIn (posted sent letter) m → OccursIn sent m ⊎ (letter ≡ Some m)
posted-in sent None m h = inl h
posted-in sent (Some l) m h = elim (in-last sent l m h) [ inl a ↦ inl a | inr e ↦ inr (ap (λ (z : Message Ops). Some z) (sym e)) ]

-- an act keeps the world clean
module _ (w : ModelWorld) (site : ModelSite) (here : OccursIn w.sites site) (o : ActOutcome Ops) (t : Takes (Added w) site.node o) (clean : HasCleanRows w) where
  letter_row : (letter : Option (Message Ops)) (m : Message Ops) (x : Row) → letter ≡ Some m → HasRow m.content x → HasRow (letter_ops letter) x
  letter_row letter m x e h = subst (λ (l : Option (Message Ops)). HasRow (letter_ops l) x) (sym e) h

  sites_after : (y : ModelSite) → OccursIn (acted w site o).world.sites y → (y ≡ site_after site o) ⊎ (OccursIn w.sites y × (is_named o.node.name y.node.name ≡ false))
  sites_after y h = in-put (λ s. is_named o.node.name s.node.name) (site_after site o) w.sites y h

  letter_added : (m : Message Ops) (x : Row) → OccursIn (posted site.sent o.letter) m → HasRow m.content x → Added w x ⊎ (t.new ≡ Some x)
  letter_added m x h has = elim (posted-in site.sent o.letter m h) [
    | inl old ↦ inl (record { site = site; there = here; has = inr (inr (record { message = m; sent = old; has = has })) })
    | inr e ↦ t.letter x (letter_row o.letter m x e has)
  ]

  new_has : (x : Row) → SiteHas (site_after site o) x → Added w x ⊎ (t.new ≡ Some x)
  new_has x (inl h) = t.known x h
  new_has x (inr (inl h)) = t.newest x h
  new_has x (inr (inr l)) = letter_added l.message x l.sent l.has

  from_added : (x : Row) → Added (acted w site o).world x → Added w x ⊎ (t.new ≡ Some x)
  from_added x a = elim (sites_after a.site a.there) [
    | inl e ↦ new_has x (subst (λ s. SiteHas s x) e a.has)
    | inr h ↦ inl (record { site = a.site; there = h.0; has = a.has })
  ]

  -- the new row is nowhere yet
  new_is_new : (x y : Row) → t.new ≡ Some x → Added w y → y.dot ≡ x.dot → ⊥
  new_is_new x y e a same =
      let d = same ∙ t.fresh x e in
      let at : y.dot.node ≡ site.node.name = ap (λ (z : Dot). z.node) d in
      let h = added-greatest site.node.known y (clean.home y a site here at) in
      let g : y.dot.counter ≤ greatest site.node.known site.node.name = subst (λ n. y.dot.counter ≤ greatest site.node.known n) at h in
      let c : y.dot.counter ≡ greatest site.node.known site.node.name + 1 = ap (λ (z : Dot). z.counter) d in
      absurd (omega (arith, g, c))

  home_after : (x : Row) → Added (acted w site o).world x → (y : ModelSite) → OccursIn (acted w site o).world.sites y → x.dot.node ≡ y.node.name → HasRow y.node.known x
  home_after x a y h at = elim (from_added x a) [
    | inl old ↦
        elim (sites_after y h) [
          | inl e ↦
              subst (λ (s : ModelSite). HasRow s.node.known x) (sym e)
              (t.keeps x (clean.home x old site here (at ∙ ap (λ (s : ModelSite). s.node.name) e ∙ t.name)))
          | inr g ↦ clean.home x old y g.0 at
        ]
    | inr new ↦
        elim (sites_after y h) [
          | inl e ↦ subst (λ (s : ModelSite). HasRow s.node.known x) (sym e) (t.there x new)
          | inr g ↦
              let same : o.node.name ≡ y.node.name = t.name ∙ sym (ap (λ (z : Dot). z.node) (t.fresh x new)) ∙ at in
              absurd (true≢false (sym (subst (λ n. is_named o.node.name n ≡ true) same (text_itself o.node.name)) ∙ g.1))
        ]
  ]

  clear_after : (x y : Row) → Added (acted w site o).world x → Added (acted w site o).world y → x.dot ≡ y.dot → x ≡ y
  clear_after x y a b same = elim (from_added x a) [
    | inl old ↦ elim (from_added y b) [ inl other ↦ clean.clear x y old other same | inr new ↦ absurd (new_is_new y x new old same) ]
    | inr new ↦ elim (from_added y b) [ inl other ↦ absurd (new_is_new x y new other (sym same)) | inr also ↦ some_same y x (sym also ∙ new) ]
  ]

  acted_clean : HasCleanRows (acted w site o).world
  acted_clean = record { home = home_after; clear = clear_after }

-- a row known at the node that its dot is from
pub record AtHome (w : ModelWorld) (x : Row) : Type 0 where
  pub site : ModelSite
  pub there : OccursIn w.sites site
  pub known : HasRow site.node.known x
  pub own : x.dot.node ≡ site.node.name

put-in : {X : Type 0} (p : X → Bool) (new : X) (xs : List X) (x : X) → OccursIn xs x → (p x ≡ false × OccursIn (map (λ x. if p x then new else x) xs) x) ⊎ (p x ≡ true × OccursIn (map (λ x. if p x then new else x) xs) new)
put-in p new [] x h = absurd h
put-in p new (y ∷ ys) x (inl e) =
    elim (p y) as (λ b. p y ≡ b → (p x ≡ false × (x ≡ (if b then new else y) ⊎ OccursIn (map (λ x. if p x then new else x) ys) x)) ⊎ (p x ≡ true × (new ≡ (if b then new else y) ⊎ OccursIn (map (λ x. if p x then new else x) ys) new))) [
      | true ↦ λ t. inr (ap p e ∙ t, inl refl)
      | false ↦ λ t. inl (ap p e ∙ t, inl e)
    ] refl
put-in p new (y ∷ ys) x (inr h) = elim (put-in p new ys x h) [ inl g ↦ inl (g.0, inr g.1) | inr g ↦ inr (g.0, inr g.1) ]

home_stays : (w : ModelWorld) (site : ModelSite) → OccursIn w.sites site → (o : ActOutcome Ops) → Takes (Added w) site.node o → HasCleanRows w → (x : Row) → AtHome w x → AtHome (acted w site o).world x
home_stays w site here o t clean x h =
    let new = site_after site o in
    elim (put-in (λ s. is_named o.node.name s.node.name) new w.sites h.site h.there) [
      | inl g ↦ record { site = h.site; there = g.1; known = h.known; own = h.own }
      | inr g ↦
          let same : o.node.name ≡ h.site.node.name = same_text o.node.name h.site.node.name g.0 in
          let own : x.dot.node ≡ site.node.name = h.own ∙ sym same ∙ t.name in
          record { site = new; there = g.1; known = t.keeps x (clean.home x (record { site = h.site; there = h.there; has = inl h.known }) site here own); own = own ∙ sym t.name }
    ]

-- a dot of a reply is of a row that is new, and is at home then
new_dot : (w : ModelWorld) (site : ModelSite) → OccursIn w.sites site → (o : ActOutcome Ops) → Takes (Added w) site.node o → HasCleanRows w → (d : Dot) → OccursIn (dot_of o.done.reply) d
    → ((x : Row) → AtHome w x → x.dot ≢ d) × ((x : Row) × AtHome (acted w site o).world x × (x.dot ≡ d))
new_dot w site here o t clean d r =
    let c = t.reply d r in
    let x = c.1.0 in
    let same : x.dot ≡ d = t.fresh x c.1.1 ∙ sym c.0 in
    let own : x.dot.node ≡ site.node.name = ap (λ (z : Dot). z.node) (t.fresh x c.1.1) in
    let site_there : OccursIn (acted w site o).world.sites (site_after site o) =
    elim (put-in (λ s. is_named o.node.name s.node.name) (site_after site o) w.sites site here) [
      | inl g ↦ absurd (true≢false (sym (subst (λ n. is_named o.node.name n ≡ true) t.name (text_itself o.node.name)) ∙ g.0))
      | inr g ↦ g.1
    ] in (
      λ y h e. new_is_new w site here o t clean x y c.1.1 (record { site = h.site; there = h.there; has = inl h.known }) (e ∙ sym same),
      (x, record { site = site_after site o; there = site_there; known = t.there x c.1.1; own = own ∙ sym t.name }, same),
    )

pub step_clean : (w : ModelWorld) (st : Step) → HasCleanRows w → After (λ (x : WorldStepped). HasCleanRows x.world) (step w st)
step_clean w st clean = go (step w st) (step_is_at w st) where
  go : (r : Result WorldStepped Refusal) → After (StepAt w) r → After (λ (x : WorldStepped). HasCleanRows x.world) r
  go (Ok x) a = subst (λ (y : WorldStepped). HasCleanRows y.world) (sym a.is) (acted_clean w a.site a.there a.outcome a.takes clean)
  go (Err r) a = tt

new-empty : (setting : WorldSetting) (names : List Bytes) (s : ModelSite) → OccursIn (map (λ name. let t : ModelSite = record { node = fresh by_operations name setting.intensity setting.period; sent = [] } in t) names) s → (x : Row) → SiteHas s x → ⊥
new-empty setting [] s h x has = h
new-empty setting (name ∷ names) s (inl e) x has = none x (subst (λ s. SiteHas s x) e has) where
  none : (x : Row) → SiteHas (record { node = fresh by_operations name setting.intensity setting.period; sent = [] }) x → ⊥
  none x (inl h) = absurd (true≢false (sym h))
  none x (inr (inl h)) = absurd (true≢false (sym h))
  none x (inr (inr l)) = l.sent
new-empty setting (name ∷ names) s (inr h) x has = new-empty setting names s h x has

pub new_clean : (setting : WorldSetting) (is_message : Bytes → Bool) (names : List Bytes) → HasCleanRows (new setting is_message names)
new_clean setting is_message names = record {
  home = λ x a t h at. absurd (new-empty setting names a.site a.there x a.has);
  clear = λ x y a b same. absurd (new-empty setting names a.site a.there x a.has);
}

-- no dot twice
in-at : {X : Type 0} (xs : List X) (k : ℕ) (d : X) → k < length xs → OccursIn xs (slice_index_or xs k d)
in-at [] k d h = absurd (omega (arith, h))
in-at (x ∷ xs) zero d h = inl refl
in-at (x ∷ xs) (suc k) d h = inr (in-at xs k d (omega (arith, h)))

all-in : {X : Type 0} (P : X → Type 0) (xs : List X) → ((x : X) → OccursIn xs x → P x) → All P xs
all-in P xs f k d h = f (slice_index_or xs k d) (in-at xs k d h)

reply_pairs : (r : Reply) (rest : List Dot) → ((d : Dot) → OccursIn (dot_of r) d → (e : Dot) → OccursIn rest e → d ≢ e) → AllPairs (λ (d e : Dot). d ≢ e) rest → AllPairs (λ (d e : Dot). d ≢ e) (dot_of r ++ rest)
reply_pairs (adds_one dot) rest f a = AllPairs-cons (λ (d e : Dot). d ≢ e) dot rest (all-in (λ e. dot ≢ e) rest (f dot (inl refl))) a
reply_pairs (Replaced dot removes) rest f a = AllPairs-cons (λ (d e : Dot). d ≢ e) dot rest (all-in (λ e. dot ≢ e) rest (f dot (inl refl))) a
reply_pairs (Removed dots) rest f a = a
reply_pairs Restarted rest f a = a
reply_pairs (Finished dot) rest f a = a
reply_pairs (GaveUp dots) rest f a = a
reply_pairs Sent rest f a = a
reply_pairs Absorbed rest f a = a
reply_pairs Known rest f a = a
reply_pairs Acked rest f a = a
reply_pairs Stopped rest f a = a
reply_pairs (Boot n) rest f a = a

in-either : {X : Type 0} (xs ys : List X) (x : X) → OccursIn (xs ++ ys) x → OccursIn xs x ⊎ OccursIn ys x
in-either [] ys x h = inr h
in-either (z ∷ xs) ys x (inl e) = inl (inl e)
in-either (z ∷ xs) ys x (inr h) = elim (in-either xs ys x h) [ inl a ↦ inl (inr a) | inr b ↦ inr b ]

-- the dots of a run are none of those at home before it, and differ
pub record Apart (w : ModelWorld) (dots : List Dot) : Type 0 where
  pub later : (d : Dot) → OccursIn dots d → (x : Row) → AtHome w x → x.dot ≢ d
  pub pairs : AllPairs (λ (d e : Dot). d ≢ e) dots

pub no_pairs : AllPairs (λ (d e : Dot). d ≢ e) []
no_pairs i j d h g = absurd (none j g) where
  none : (j : ℕ) → j < 0 → ⊥
  none j g = omega (arith, g)

pub step_apart : (w : ModelWorld) → HasCleanRows w → (r : Result WorldStepped Refusal) → After (StepAt w) r → (rest : List (Result ModelAnswer Refusal)) → Apart (world_after w r) (new_dots rest) → Apart w (new_dots (answer_of r ∷ rest))
step_apart w clean (Err e) a rest next = next
step_apart w clean (Ok x) a rest next =
    let after = acted w a.site a.outcome in
    let apart : Apart after.world (new_dots rest) = subst (λ (y : WorldStepped). Apart y.world (new_dots rest)) a.is next in
    let mine = λ (d : Dot) (h : OccursIn (dot_of a.outcome.done.reply) d). new_dot w a.site a.there a.outcome a.takes clean d h in
    let goal : Apart w (dot_of a.outcome.done.reply ++ new_dots rest) = record {
      later = λ d h y home. elim (in-either (dot_of a.outcome.done.reply) (new_dots rest) d h) [
        | inl g ↦ (mine d g).0 y home
        | inr g ↦ apart.later d g y (home_stays w a.site a.there a.outcome a.takes clean y home)
      ];
      pairs = reply_pairs a.outcome.done.reply (new_dots rest) (λ d h e g same. let c = (mine d h).1 in apart.later e g c.0 c.1 (c.2 ∙ same)) apart.pairs;
    } in
    subst (λ (y : WorldStepped). Apart w (dot_of y.answer.done.reply ++ new_dots rest)) (sym a.is) goal

-- in a clean world no dot of two lists of its operations has two adds
pub no_clash : (w : ModelWorld) → HasCleanRows w → (ops others : Ops) → ((x : Row) → HasRow ops x → Added w x) → ((x : Row) → HasRow others x → Added w x) → NoClash (ops ++ others)
no_clash w clean ops others f g x y hx hy same =
    let of = λ (z : Row) (h : HasRow (ops ++ others) z). row-append ops others z (Added w z) h (f z) (g z) in
    clean.clear x y (of x hx) (of y hy) same
