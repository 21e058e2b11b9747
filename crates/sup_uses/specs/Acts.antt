-- A station that made some acts.
use Rattle.std.specs.Prelude.{◌≡◌, List, [], ◌∷◌, ◌++◌, Ok, Err}
use Rattle.sup_specs.specs.Values.{Bytes}
use Rattle.sup_placement.specs.Place.{Weigher}
use Rattle.sup_replica.specs.Configs.{default}
use Rattle.sup_replica.specs.declared.event.Act.{Act}
use Rattle.sup_replica.specs.declared.done.Done.{Done}
use Rattle.sup_replica.specs.declared.refusal.Refusal.{Refusal}
use Rattle.sup_station.specs.KeptStations.{KeptStation, AnswersAct}
use Rattle.sup_station.specs.OpenedStations.{OpensStation}
use Rattle.sup_uses.specs.declared.keeping.TwoImages.{TwoImages}

-- what this keeper keeps
abbrev pub last_of : TwoImages → Bytes
last_of k = k.last.items

-- these acts, in their order, each at moment 0 and none refused, lead from one state to the other
abbrev pub MakesActs : Weigher → KeptStation → List Act → KeptStation → Type 0
MakesActs g s [] t = t ≡ s
MakesActs g s (act ∷ acts) t = (done : Done) × (next : KeptStation) × AnswersAct g s act 0 (Ok done) next × MakesActs g next acts t

-- the station was just made, and made these acts then
pub record HasMade (g : Weigher) (name : Bytes) (acts : List Act) (t : KeptStation) : Type 0 where
  pub opening : KeptStation
  pub opens : OpensStation name default opening
  pub made : MakesActs g opening acts t

-- one of these acts was refused so, behind those before it, which were made; it changed nothing
pub record IsRefusedAt (g : Weigher) (name : Bytes) (acts : List Act) (r : Refusal) : Type 0 where
  pub front : List Act
  pub act : Act
  pub rest : List Act
  pub all : acts ≡ front ++ act ∷ rest
  pub before : KeptStation
  pub made : HasMade g name front before
  pub refuses : AnswersAct g before act 0 (Err r) before
