-- The code's world, over tables, follows the model.
use Rattle.std.specs.Prelude.{◌≡◌, true, false, not, List, [], ◌∷◌, map, Some, Result, Ok, Err, refl, IsOk}
use Rattle.std.proofs.Common.{sym, ap, ◌∙◌, subst}
use Rattle.std.proofs.lemmas.Option.{same_Some}
use mathlib.Core.Logic.{inl, inr}
use Rattle.sup_specs.specs.Values.{Bytes}
use Rattle.sup_tables.specs.States.{State}
use Rattle.sup_replica.specs.declared.refusal.Refusal.{Refusal}
use Rattle.sup_replica.specs.declared.refusal.Refusal.TheVariants.{UpToDate, OutOfMemory}
use Rattle.sup_model.specs.Worlds.{Ops, ModelWorld, WorldStepped, step}
use Rattle.sup_replica.specs.Nodes.{is_named}
use Rattle.sup_model.specs.declared.step.Step.{Step}
use Rattle.sup_model.specs.declared.step.Step.TheVariants.{Node as AtNode, Deliver as Delivery, Raw}
use Rattle.sup_replica.specs.declared.event.Act.TheVariants.{Event as Of, Stop, Restart}
use Rattle.sup_replica.specs.Refusals.{is_found_first}
use Rattle.sup_model.specs.Runs.{MayBeUpToDate, world_after, answer_of, may_want, is_late}
use Rattle.sup_anti_entropy.specs.Settling.{TookIn, GathersOthers, SpreadsToOthers, AllStatesAlike as AllEqual}
use Rattle.sup_replica.specs.ByTables.{by_tables}
use Rattle.sup_model.specs.TableViews.{table_view}
use Rattle.sup_model.specs.Posts.{RealStepped, real_step, real_after}
use Rattle.sup_model.specs.Joint.{JointWorld, real_of, model_of, JointHolds}
use Rattle.sup_model.specs.Refines.{WorldStands, real_answer_of, AnswersAlike}
use Rattle.sup_model.specs.Settles.{known_at, GatheredAtFirst, SpreadToOthers}
use Rattle.sup_model.specs.Follows.{WorldStandsFor, StepFollows, StepsFollow, NewStands, WorldsStand, RunsFollow, NameIsApart, NamesAllDiffer, AllKnowAlike, SettlingSettles}
use Rattle.sup_model.proofs.TableLaws.{table_laws}
use Rattle.sup_model.proofs.MailLaws.{Answers}
use Rattle.sup_model.proofs.StepStands.{Stepping, step_stands}
use Rattle.sup_model.proofs.RunStands.{refined, holds_stands, new_holds, new_joint, new_real, new_model}
use Rattle.sup_model.proofs.OperationJoins.{operation_joins, covers_alike}
use Rattle.sup_model.proofs.SettleStands.{settled_alike, all_of}
use Rattle.sup_model.proofs.ExchangeLaws.{Took, exchange_took}

-- the whole refinement, over tables
pub runs_follow : RunsFollow
runs_follow = refined by_tables table_view table_laws

follows_at : (j : JointWorld State) → JointHolds table_view j → (st : Step) (x : Result (RealStepped State) Refusal) (y : Result WorldStepped Refusal)
    → y ≡ step (model_of j) st
    → Answers (MayBeUpToDate (model_of j) st) (Stepping by_tables table_view table_laws) x y → StepFollows (model_of j) st (real_answer_of x) (real_after by_tables (real_of j) x)
follows_at j h st (Ok x) (Ok y) e a = record {
  after = y.world;
  expected = Ok y.answer;
  told = a.answer;
  allows = inl ((λ i. answer_of (e i)), (λ i. world_after (model_of j) (e i)));
  stands = record { joint = a.joint; holds = a.holds; real_is = a.real; model_is = a.model };
}
follows_at j h st (Err q) (Err p) e a = record {
  after = model_of j;
  expected = Err p;
  told = a;
  allows = inl ((λ i. answer_of (e i)), (λ i. world_after (model_of j) (e i)));
  stands = record { joint = j; holds = h; real_is = refl; model_is = refl };
}
follows_at j h st (Ok x) (Err p) e a = absurd a
follows_at j h st (Err q) (Ok y) e a = record {
  after = model_of j;
  expected = Err UpToDate;
  told = a.0;
  allows = inr (inr (refl, subst IsOk e refl, a.1, refl));
  stands = record { joint = j; holds = h; real_is = refl; model_is = refl };
}

-- where the code's step may want memory, so may the model's: a ship that is up to date is found so before memory is taken
later : (x : Result (RealStepped State) Refusal) (y : Result WorldStepped Refusal) (C : Type 0) → Answers C (Stepping by_tables table_view table_laws) x y → is_late x ≡ true → is_late y ≡ true
later (Ok x) (Ok y) C a late = refl
later (Err r) (Err q) C a late = subst (λ e. not (is_found_first e) ≡ true) a late
later (Ok x) (Err q) C a late = absurd a
later (Err r) (Ok y) C a late = refl

wants_too : (st : Step) (x : Result (RealStepped State) Refusal) (y : Result WorldStepped Refusal) (C : Type 0) → Answers C (Stepping by_tables table_view table_laws) x y → may_want st (is_late x) ≡ true → may_want st (is_late y) ≡ true
wants_too (AtNode at (Of event) now saves) x y C a late = later x y C a late
wants_too (AtNode at Stop now saves) x y C a late = late
wants_too (AtNode at Restart now saves) x y C a late = refl
wants_too (Delivery from k at drop now saves) x y C a late = refl
wants_too (Raw at bytes) x y C a late = refl

pub steps_follow : StepsFollow
steps_follow real after st answer (inl m) model s =
    let j = s.joint in
    let f : StepFollows (model_of j) st (real_answer_of (real_step by_tables (real_of j) st)) (real_after by_tables (real_of j) (real_step by_tables (real_of j) st)) =
    follows_at j s.holds st (real_step by_tables (real_of j) st) (step (model_of j) st) refl (step_stands by_tables table_view table_laws j s.holds st) in
    let g : StepFollows model st (real_answer_of (real_step by_tables real st)) (real_after by_tables real (real_step by_tables real st)) =
    subst (λ w. StepFollows w st (real_answer_of (real_step by_tables real st)) (real_after by_tables real (real_step by_tables real st))) (sym s.model_is)
    (subst (λ r. StepFollows (model_of j) st (real_answer_of (real_step by_tables r st)) (real_after by_tables r (real_step by_tables r st))) (sym s.real_is) f) in
    subst (λ r. StepFollows model st answer r) (sym m.1) (subst (λ a. StepFollows model st a (real_after by_tables real (real_step by_tables real st))) (sym m.0) g)
steps_follow real after st answer (inr m) model s =
    let j = s.joint in
    let late : may_want st (is_late (real_step by_tables (real_of j) st)) ≡ true =
    subst (λ r. may_want st (is_late (real_step by_tables r st)) ≡ true) s.real_is m.1 in
    let wants : may_want st (is_late (step (model_of j) st)) ≡ true =
    wants_too st (real_step by_tables (real_of j) st) (step (model_of j) st) (MayBeUpToDate (model_of j) st) (step_stands by_tables table_view table_laws j s.holds st) late in
    record {
      after = model;
      expected = Err OutOfMemory;
      allows = inr (inl (refl, subst (λ w. may_want st (is_late (step w st)) ≡ true) (sym s.model_is) wants, refl));
      told = subst (λ a. AnswersAlike table_view a (Err OutOfMemory)) (sym m.0) refl;
      stands = subst (λ r. WorldStandsFor r model) (sym m.2) s;
    }

pub new_stands : NewStands
new_stands setting room codec names = record {
  joint = new_joint by_tables table_view table_laws setting room codec names;
  holds = new_holds by_tables table_view table_laws setting room codec names;
  real_is = new_real by_tables table_view table_laws setting room codec names;
  model_is = new_model by_tables table_view table_laws setting room codec names;
}

pub worlds_stand : WorldsStand
worlds_stand real model s =
    subst (λ w. WorldStands by_tables table_view real w) (sym s.model_is)
    (subst (λ r. WorldStands by_tables table_view r (model_of s.joint)) (sym s.real_is) (holds_stands by_tables table_view table_laws s.joint s.holds))

-- settling

cons_is : {X : Type 0} (x y : X) (xs ys : List X) → x ≡ y → xs ≡ ys → (x ∷ xs) ≡ (y ∷ ys)
cons_is x y xs ys e f = λ i. e i ∷ f i

same_list : (xs ys : List Ops) → map (λ o. Some o) xs ≡ map (λ o. Some o) ys → xs ≡ ys
same_list [] [] e = refl
same_list [] (y ∷ ys) e = absurd cc
same_list (x ∷ xs) [] e = absurd cc
same_list (x ∷ xs) (y ∷ ys) e =
    let h : Some x ≡ Some y = cc in
    let t : map (λ (o : Ops). Some o) xs ≡ map (λ (o : Ops). Some o) ys = cc in
    cons_is x y xs ys (same_Some x y h) (same_list xs ys t)

-- names apart from one know the same in both worlds
known_same : (w v : ModelWorld) (b : Bytes) → ((name : Bytes) → is_named name b ≡ false → known_at v name ≡ known_at w name) → (names : List Bytes) → NameIsApart b names → map (known_at v) names ≡ map (known_at w) names
known_same w v b f [] a = refl
known_same w v b f (n ∷ ns) a = cons_is (known_at v n) (known_at w n) _ _ (f n a.1) (known_same w v b f ns a.2)

record DoneGathering (w : ModelWorld) (first : Bytes) (names : List Bytes) (w' : ModelWorld) (x : Ops) : Type 0 where
  ys : List Ops
  x' : Ops
  had : map (known_at w) names ≡ map (λ o. Some o) ys
  has : known_at w' first ≡ Some x'
  gathers : GathersOthers operation_joins x ys x'
  others : (name : Bytes) → is_named name first ≡ false → known_at w' name ≡ known_at w name

gathered : (w : ModelWorld) (first : Bytes) (names : List Bytes) (w' : ModelWorld) (x : Ops) → NameIsApart first names → known_at w first ≡ Some x → GatheredAtFirst w first names w' → DoneGathering w first names w' x
gathered w first [] w' x a k g = record { ys = []; x' = x; had = refl; has = ap (λ v. known_at v first) g ∙ k; gathers = refl; others = λ name _. ap (λ v. known_at v name) g }
gathered w first (n ∷ ns) w' x a k g =
    let mid = g.0 in
    let t : Took w n first mid = exchange_took w n first mid g.1 a.1 in
    let is : t.before ≡ x = same_Some t.before x (sym t.had ∙ k) in
    let r = gathered mid first ns w' t.after a.2 t.has g.2 in
    record {
      ys = t.brought ∷ r.ys;
      x' = r.x';
      had = cons_is (known_at w n) (Some t.brought) _ _ t.came (sym (known_same w mid first t.others ns a.2) ∙ r.had);
      has = r.has;
      gathers = (t.after, subst (λ z. TookIn operation_joins z t.brought t.after) is t.took, r.gathers);
      others = λ name h. r.others name h ∙ t.others name h;
    }

record DoneSpreading (w : ModelWorld) (first : Bytes) (names : List Bytes) (w' : ModelWorld) (x : Ops) : Type 0 where
  ys : List Ops
  zs : List Ops
  had : map (known_at w) names ≡ map (λ o. Some o) ys
  have : map (known_at w') names ≡ map (λ o. Some o) zs
  keeps : known_at w' first ≡ Some x
  spreads : SpreadsToOthers operation_joins x ys zs
  others : (name : Bytes) → NameIsApart name names → known_at w' name ≡ known_at w name

spread : (w : ModelWorld) (first : Bytes) (names : List Bytes) (w' : ModelWorld) (x : Ops) → NameIsApart first names → NamesAllDiffer names → known_at w first ≡ Some x → SpreadToOthers w first names w' → DoneSpreading w first names w' x
spread w first [] w' x a d k g = record { ys = []; zs = []; had = refl; have = refl; keeps = ap (λ v. known_at v first) g ∙ k; spreads = tt; others = λ name _. ap (λ v. known_at v name) g }
spread w first (n ∷ ns) w' x a d k g =
    let mid = g.0 in
    let t : Took w first n mid = exchange_took w first n mid g.1 a.0 in
    let is : t.brought ≡ x = same_Some t.brought x (sym t.came ∙ k) in
    let r = spread mid first ns w' x a.2 d.1 (t.others first a.0 ∙ k) g.2 in
    record {
      ys = t.before ∷ r.ys;
      zs = t.after ∷ r.zs;
      had = cons_is (known_at w n) (Some t.before) _ _ t.had (sym (known_same w mid n t.others ns d.0) ∙ r.had);
      have = cons_is (known_at w' n) (Some t.after) _ _ (r.others n d.0 ∙ t.has) r.have;
      keeps = r.keeps;
      spreads = (subst (λ z. TookIn operation_joins t.before z t.after) is t.took, r.spreads);
      others = λ name h. r.others name h.2 ∙ t.others name h.0;
    }

all_alike : (all : Ops) (zs : List Ops) → AllEqual operation_joins all zs → AllKnowAlike all zs
unfolding operation_joins
all_alike all [] e = tt
all_alike all (z ∷ zs) e = (covers_alike z all e.0.0 e.0.1, all_alike all zs e.1)

pub settling_settles : SettlingSettles
settling_settles w first names w' x a d k s =
    let mid = s.0 in
    let g = gathered w first names mid x a k s.1 in
    let t = spread mid first names w' g.x' a d g.has s.2 in
    let ys : t.ys ≡ g.ys = same_list t.ys g.ys (sym t.had ∙ known_same w mid first g.others names a ∙ g.had) in
    let r = settled_alike x g.x' g.ys t.zs g.gathers (subst (λ y. SpreadsToOthers operation_joins g.x' y t.zs) ys t.spreads) in
    record {
      before = x ∷ g.ys;
      after = g.x' ∷ t.zs;
      had = cons_is (known_at w first) (Some x) _ _ k g.had;
      have = cons_is (known_at w' first) (Some g.x') _ _ t.keeps t.have;
      alike = (r.0, all_alike (all_of (x ∷ g.ys)) t.zs r.1);
    }
