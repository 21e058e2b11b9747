-- An act of a station whose letter finds no room; and what a node's acts are, from its station's.
use Rattle.std.specs.Prelude.{◌≡◌, ℕ, ◌+◌, Bool, List, [], ◌∷◌, ◌++◌, length, take, Option, Some, None, IsSome, Result, Ok, Err, suc, refl}
use Rattle.std.specs.List.{AllZip}
use Rattle.std.specs.Result.{IsErrAnd}
use Rattle.std.proofs.Common.{sym, ap, ◌∙◌, subst, arith}
use mathlib.Core.Logic.{inl, inr}
use mathlib.Core.Bool.{false≢true}
use Rattle.sup_tables.specs.States.{State}
use Rattle.sup_placement.specs.Place.{Weigher}
use Rattle.sup_replica.specs.declared.event.Act.{Act}
use Rattle.sup_replica.specs.declared.event.Act.TheVariants.{Event as Of, Stop, Restart}
use Rattle.sup_replica.specs.declared.done.Done.{Done}
use Rattle.sup_replica.specs.declared.letter.Letter.{Letter}
use Rattle.sup_replica.specs.declared.refusal.Refusal.{Refusal}
use Rattle.sup_replica.specs.declared.refusal.Refusal.TheVariants.{OutOfMemory}
use Rattle.sup_replica.specs.ByTables.{by_tables}
use Rattle.sup_replica.specs.Stations.{Station, Mail, StationMove, station_step}
use Rattle.sup_node.specs.Texts.{IsDoneOf, IsLetter, IsLetterOf, reads_as}
use Rattle.sup_station.specs.declared.prepared.Prepared.{Prepared}
use Rattle.sup_station.specs.KeptStations.{KeptStation, AnswersAct, RefusesAct}
use Rattle.sup_station.specs.PreparedActs.{IsPreparedFor, done_of, after}
use Rattle.sup_station.proofs.KeepLaws.{may_lack}
use Rattle.sup_model.specs.Posts.{StationPost, mailed, mail_number}
use Rattle.sup_world.specs.declared.answer.Answer.{Answer}
use Rattle.sup_world.specs.StandingStations.{StationStands}
use Rattle.sup_world.specs.Moves.{StationActs, MakesMove, ReadsIn}
use Rattle.sup_world.specs.SeenNodes.{SeenNode, with_letter, numbered}
use Rattle.sup_world.specs.ToldAnswers.{SiteStands, NodeAnswers}
use Rattle.sup_world.proofs.StandingStationLaws.{stands}

module _ (g : Weigher) (s : KeptStation) (now : ℕ) where
  no-letter : (l : Option Letter) → l ≡ None → IsSome l → ⊥
  no-letter None e h = absurd (false≢true h)
  no-letter (Some l) e h = absurd cc

  -- an act whose letter finds no room
  lacks-in : (node : Option (Station State)) (act : Act) (done : Done) (t : KeptStation) → AnswersAct g (record s { node = node }) act now (Ok done) t → IsSome done.out → RefusesAct g (record s { node = node }) node act now OutOfMemory
  lacks-in None (Of event) done t h l = absurd h.2
  lacks-in (Some n) (Of event) done t h l = inl (inr (refl, may_lack g n event now h.2.mail h.2.move h.2.moves))
  lacks-in None Stop done t h l = absurd h.2
  lacks-in (Some n) Stop done t h l = absurd (no-letter done.out (ap (λ (d : Done). d.out) h.2.0) l)
  lacks-in None Restart done t h l = inr (inl refl)
  lacks-in (Some n) Restart done t h l = absurd h.2

  pub roomless : (act : Act) (b : Bool) (p : Prepared) → IsPreparedFor g s act now p → (t : KeptStation) → t ≡ s → IsSome (done_of p).out → StationActs g s act now b (Err OutOfMemory) t
  roomless act b p h t e l = record { goes = (e, lacks-in s.node act (done_of p) (after s p) h.goes l); failed = λ f. absurd cc; comes = λ f k. refl }

  -- a refusal that is told on
  pub acts_told : (act : Act) (b : Bool) (result : Result Done Refusal) (r : Refusal) (t : KeptStation) → IsErrAnd result (λ x. x ≡ r) → StationActs g s act now b (Err r) t → StationActs g s act now b result t
  acts_told act b (Ok done) r t h a = absurd h
  acts_told act b (Err x) r t h a = subst (λ (y : Refusal). StationActs g s act now b (Err y) t) (sym h) a

-- ---- a node of a world

letters-stand : (sent : List (Mail State)) (letters : List Letter) (mail : Option (Mail State)) (out : Option Letter) → AllZip IsLetter sent letters → IsLetterOf mail out → AllZip IsLetter (mailed sent mail) (with_letter letters out)
letters-stand sent letters None None h l = h
letters-stand sent letters None (Some x) h l = absurd l
letters-stand sent letters (Some m) None h l = absurd l
letters-stand [] [] (Some m) (Some x) h l = (l, tt)
letters-stand [] (y ∷ ys) (Some m) (Some x) h l = absurd h
letters-stand (z ∷ zs) [] (Some m) (Some x) h l = absurd h
letters-stand (z ∷ zs) (y ∷ ys) (Some m) (Some x) h l = (h.0, letters-stand zs ys (Some m) (Some x) h.1 l)

zip-length : (sent : List (Mail State)) (letters : List Letter) → AllZip IsLetter sent letters → length letters ≡ length sent
zip-length [] [] h = refl
zip-length [] (y ∷ ys) h = absurd h
zip-length (z ∷ zs) [] h = absurd h
zip-length (z ∷ zs) (y ∷ ys) h = ap suc (zip-length zs ys h.1)

more-length : (letters : List Letter) (x : Letter) → length (letters ++ x ∷ []) ≡ length letters + 1
more-length [] x = refl
more-length (y ∷ ys) x = grind (arith, more-length ys x)

number-stands : (sent : List (Mail State)) (letters : List Letter) (mail : Option (Mail State)) (out : Option Letter) → AllZip IsLetter sent letters → IsLetterOf mail out → numbered (with_letter letters out) out ≡ mail_number sent mail
number-stands sent letters None None h l = refl
number-stands sent letters None (Some x) h l = absurd l
number-stands sent letters (Some m) None h l = absurd l
number-stands sent letters (Some m) (Some x) h l = ap Some (more-length letters x ∙ ap (λ n. n + 1) (zip-length sent letters h))

module _ (g : Weigher) (s : SeenNode) (post : StationPost State) (mail : Option (Mail State)) (act : Act) (now : ℕ) (b : Bool) (h : SiteStands s post) (reads : ReadsIn act mail) where
  abbrev the_step : Result (StationMove State) Refusal
  the_step = station_step by_tables (reads_as mail) g post.station act now b

  made : (result : Result Done Refusal) (t : KeptStation) → StationActs g s.kept_station act now b result t → (q : Station State) × MakesMove the_step post.station act result q × StationStands t q
  made result t a = stands g s.kept_station.name s.kept_station.config s.kept_station.kept post.station now mail s.kept_station.node act b result t reads h.station a

  pub answers : (done : Done) (t : KeptStation) (failures : ℕ) → StationActs g s.kept_station act now b (Ok done) t
      → NodeAnswers the_step post act (Ok (record { at = s.name; done = done; number = numbered (with_letter s.letters done.out) done.out })) (record { name = s.name; kept_station = t; failures = failures; letters = with_letter s.letters done.out })
  answers done t failures a =
      let m = made (Ok done) t a in
      let told : IsDoneOf m.1.0 done = m.1.2 in
      let q : StationStands t m.1.0.station = subst (λ (x : Station State). StationStands t x) m.1.3 m.2 in (
        m.1.0,
        m.1.1,
        record {
          at = h.name;
          reply = told.reply;
          effects = told.effects;
          letter = told.letter;
          number = number-stands post.sent s.letters m.1.0.letter done.out h.letters told.letter;
        },
        record {
          name = h.name ∙ sym h.station.name ∙ sym a.goes.0 ∙ q.name;
          station = q;
          letters = letters-stand post.sent s.letters m.1.0.letter done.out h.letters told.letter;
        },
      )

  pub refuses : (r : Refusal) (t : KeptStation) (failures : ℕ) → StationActs g s.kept_station act now b (Err r) t → NodeAnswers the_step post act (Err r) (record { name = s.name; kept_station = t; failures = failures; letters = s.letters })
  refuses r t failures a =
      let m = made (Err r) t a in
      (m.1.1, record { name = h.name; station = subst (λ (x : Station State). StationStands t x) m.1.0 m.2; letters = h.letters })

  -- where the letters and the number are told otherwise, and a refusal is told on
  pub answered_as : (done : Done) (number : Option ℕ) (t : KeptStation) (failures : ℕ) (letters : List Letter) → letters ≡ with_letter s.letters done.out → number ≡ numbered letters done.out → StationActs g s.kept_station act now b (Ok done) t
      → NodeAnswers the_step post act (Ok (record { at = s.name; done = done; number = number })) (record { name = s.name; kept_station = t; failures = failures; letters = letters })
  answered_as done number t failures letters e n a =
      subst (λ (ls : List Letter). NodeAnswers the_step post act (Ok (record { at = s.name; done = done; number = number })) (record { name = s.name; kept_station = t; failures = failures; letters = ls })) (sym e)
      (subst (λ (k : Option ℕ). NodeAnswers the_step post act (Ok (record { at = s.name; done = done; number = k })) (record { name = s.name; kept_station = t; failures = failures; letters = with_letter s.letters done.out }))
      (sym (n ∙ ap (λ (ls : List Letter). numbered ls done.out) e)) (answers done t failures a))

  pub refused_as : (result : Result Answer Refusal) (r : Refusal) (t : KeptStation) (failures : ℕ) (letters : List Letter) → IsErrAnd result (λ x. x ≡ r) → letters ≡ s.letters → StationActs g s.kept_station act now b (Err r) t
      → NodeAnswers the_step post act result (record { name = s.name; kept_station = t; failures = failures; letters = letters })
  refused_as (Ok answer) r t failures letters k e a = absurd k
  refused_as (Err x) r t failures letters k e a =
      subst (λ (ls : List Letter). NodeAnswers the_step post act (Err x) (record { name = s.name; kept_station = t; failures = failures; letters = ls })) (sym e)
      (subst (λ (y : Refusal). NodeAnswers the_step post act (Err y) (record { name = s.name; kept_station = t; failures = failures; letters = s.letters })) (sym k) (refuses r t failures a))

-- as many letters as there were before one more was put behind them are those
fronts : (letters behind : List Letter) → take (length letters) (letters ++ behind) ≡ letters
fronts [] behind = refl
fronts (letter ∷ letters) behind = ap (λ ls. letter ∷ ls) (fronts letters behind)

wholes : (letters : List Letter) → take (length letters) letters ≡ letters
wholes [] = refl
wholes (letter ∷ letters) = ap (λ ls. letter ∷ ls) (wholes letters)

pub letters_back : (letters more cut : List Letter) (n : ℕ) (out : Option Letter) → more ≡ with_letter letters out → n ≡ length letters → cut ≡ take n more → cut ≡ letters
letters_back letters more cut n None put before is = is ∙ ap (λ k. take k more) before ∙ ap (take (length letters)) put ∙ wholes letters
letters_back letters more cut n (Some letter) put before is = is ∙ ap (λ k. take k more) before ∙ ap (take (length letters)) put ∙ fronts letters (letter ∷ [])
