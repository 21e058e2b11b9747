-- One act more.
use Rattle.std.proofs.Common.{◌≡◌, ℕ, ◌<◌, ◌+◌, List, [], ◌∷◌, ◌++◌, length, get_or, take, drop, Result, Ok, Err, IfErr, IsErrAnd, refl, ap, sym, ◌∙◌, subst}
use Rattle.std.proofs.lemmas.List.{drop_more, take-append-drop}
use Rattle.sup_placement.specs.Place.{Weigher}
use Rattle.sup_replica.specs.declared.event.Act.{Act}
use Rattle.sup_replica.specs.declared.done.Done.{Done}
use Rattle.sup_replica.specs.declared.refusal.Refusal.{Refusal}
use Rattle.sup_station.specs.KeptStations.{KeptStation, AnswersAct}
use Rattle.sup_uses.specs.Acts.{MakesActs}

pub makes_more : (g : Weigher) (s : KeptStation) (acts : List Act) (t : KeptStation) (act : Act) (done : Done) (u : KeptStation)
    → MakesActs g s acts t → AnswersAct g t act 0 (Ok done) u → MakesActs g s (acts ++ act ∷ []) u
makes_more g s [] t act done u made answers = (done, u, subst (λ x. AnswersAct g x act 0 (Ok done) u) made answers, refl)
makes_more g s (first ∷ acts) t act done u made answers = (made.0, made.1, made.2, makes_more g made.1 acts t act done u made.3 answers)

-- an act stands behind those before it
pub cut_at : (acts : List Act) (i : ℕ) (act item : Act) → i < length acts → act ≡ item → item ≡ get_or acts i item → acts ≡ take i acts ++ act ∷ drop (i + 1) acts
cut_at acts i act item within same is =
    sym (take-append-drop i acts) ∙ ap (λ l. take i acts ++ l) (drop_more acts i item within ∙ ap (λ a. a ∷ drop (i + 1) acts) (sym is ∙ sym same))

-- a refusal that is handed on
pub stopped_by : {T : Type 0} (P : Refusal → Type 0) (result : Result T Refusal) (e : Refusal) → IsErrAnd result (λ r. r ≡ e) → P e → IfErr result P
stopped_by P (Ok done) e same p = tt
stopped_by P (Err r) e same p = subst P (sym same) p

-- it is the one that came
pub handed_on : {T : Type 0} (result : Result T Refusal) (e r : Refusal) → IsErrAnd result (λ x. x ≡ e) → result ≡ Err r → e ≡ r
handed_on (Ok done) e r same is = absurd same
handed_on (Err x) e r same is = let told : x ≡ r = cc in sym same ∙ told
