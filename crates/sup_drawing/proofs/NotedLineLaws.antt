-- What a line leaves in a log, by what noting it promises.
use Rattle.std.proofs.Common.{◌≡◌, ℕ, ◌<◌, ◌≤◌, ◌+◌, List, ◌∷◌, length, get_or, drop, Result, Ok, Err, refl, ap, sym, ◌∙◌, subst}
use Rattle.std.proofs.lemmas.List.{drop_all, drop_more}
use Rattle.std.specs.Prelude.{OnOk}
use Rattle.std.specs.List.{AllZip}
use Rattle.sup_placement.specs.Place.{Weigher}
use Rattle.sup_replica.specs.declared.refusal.Refusal.{Refusal}
use Rattle.sup_lines.specs.declared.line.Line.{Line}
use Rattle.sup_model.specs.declared.step.Step.{Step}
use Rattle.sup_model.specs.Worlds.{ModelWorld as Model}
use Rattle.sup_world.specs.declared.answer.Answer.{Answer}
use Rattle.sup_world.specs.declared.settled.Settled.{Settled}
use Rattle.sup_world.specs.FollowedSteps.{StandsFor}
use Rattle.sup_world.specs.Runs.{StepGoes}
use Rattle.sup_world.specs.SeenNodes.{SeenNode, FailedNoMore}
use Rattle.sup_world.specs.SettledSites.{SettlesTo}
use Rattle.sup_world.specs.Settlements.{SettlesBy}
use Rattle.sup_picture.specs.declared.log.Change.{Change}
use Rattle.sup_picture.specs.declared.log.Post.{Post}
use Rattle.sup_picture.specs.declared.log.Row.{Row}
use Rattle.sup_noting.specs.Noted.{Noted, looked}
use Rattle.sup_drawing.specs.Lines.{Captions, LineGoes, LinesGo, StepNoted, SettlingNoted, LookNoted, with_answer, with_settling}

-- a log whose lists are equal to another's
same_noted : (a b : Noted) → a.rows ≡ b.rows → a.posts ≡ b.posts → a.changes ≡ b.changes → a ≡ b
same_noted a b p q r =
    let noted = λ (rows : List Row) (posts : List Post) (changes : List Change). let n : Noted = record { rows = rows; posts = posts; changes = changes } in n in
    ap (λ rows. noted rows a.posts a.changes) p ∙ (ap (λ posts. noted b.rows posts a.changes) q ∙ ap (λ changes. noted b.rows b.posts changes) r)

module _ (weigher : Weigher) (caption : List ℕ) (sites new : List SeenNode) (n n' : Noted) {E : Type 0} where
  pub step_noted : (step : Step) (answer : Result Answer Refusal) (r : Result (Unit {0}) E) → StepGoes weigher sites step answer new
      → OnOk r (n'.rows ≡ (with_answer n caption step answer).rows) → OnOk r (n'.posts ≡ (with_answer n caption step answer).posts) → OnOk r (n'.changes ≡ (with_answer n caption step answer).changes)
      → OnOk r (StepNoted weigher caption sites n step new n')
  step_noted step answer (Ok done) goes rows posts changes = record { answer = answer; goes = goes; noted = same_noted n' (with_answer n caption step answer) rows posts changes }
  step_noted step answer (Err e) goes rows posts changes = tt

  pub settling_noted : (told : Result Settled Refusal) (r : Result (Unit {0}) E) → SettlesBy weigher sites told new → ((model : Model) → StandsFor weigher sites model → SettlesTo weigher model told new) → AllZip FailedNoMore sites new
      → OnOk r (n'.rows ≡ (with_settling n caption told).rows) → OnOk r (n'.posts ≡ (with_settling n caption told).posts) → OnOk r (n'.changes ≡ (with_settling n caption told).changes)
      → OnOk r (SettlingNoted weigher caption sites n new n')
  settling_noted told (Ok done) steps follows counted rows posts changes = record { told = told; steps = steps; follows = follows; counted = counted; noted = same_noted n' (with_settling n caption told) rows posts changes }
  settling_noted told (Err e) steps follows counted rows posts changes = tt

-- to look is no step
pub look_noted : (weigher : Weigher) (caption : List ℕ) (sites : List SeenNode) (n n' : Noted) {E : Type 0} (r : Result (Unit {0}) E)
    → OnOk r (n'.rows ≡ (looked n caption).rows) → OnOk r (n'.posts ≡ (looked n caption).posts) → OnOk r (n'.changes ≡ (looked n caption).changes) → OnOk r (LookNoted weigher caption sites n sites n')
look_noted weigher caption sites n n' (Ok done) rows posts changes = record { stays = refl; noted = same_noted n' (looked n caption) rows posts changes }
look_noted weigher caption sites n n' (Err e) rows posts changes = tt

module _ (weigher : Weigher) (captions : Captions) (all : List Line) (i : ℕ) (sites : List SeenNode) (n : Noted) where
  -- a line, and those behind it
  pub goes_on : (line : Line) (mid new : List SeenNode) (m n' : Noted) → i < length all → line ≡ get_or all i line → LineGoes weigher captions sites n line mid m
      → LinesGo weigher captions mid m (drop (i + 1) all) new n' → LinesGo weigher captions sites n (drop i all) new n'
  goes_on line mid new m n' within is goes rest =
      subst (λ lines. LinesGo weigher captions sites n lines new n') (sym (drop_more all i line within ∙ ap (λ l. l ∷ drop (i + 1) all) (sym is))) (mid, m, goes, rest)

  -- no line is left
  pub goes_to_its_end : length all ≤ i → LinesGo weigher captions sites n (drop i all) sites n
  goes_to_its_end done = subst (λ lines. LinesGo weigher captions sites n lines sites n) (sym (drop_all i all done)) (refl, refl)
