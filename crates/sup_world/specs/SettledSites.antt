-- What settling is and tells (the rule of settling): the running nodes, in the order of their names, exchange all that they know, each of the others with the
-- first, and then the first with each of the others; of the answers to these exchanges it tells how many messages left, and each effect with its node.
use Rattle.std.specs.Prelude.{◌≡◌, ℕ, Bool, false, List, [], ◌∷◌, ◌++◌, length, filter, map, is_some, Result, Ok, Err, IsSorted, IsPermutation}
use Rattle.std.specs.List.{flat_map}
use mathlib.Core.Logic.{◌⊎◌}
use Rattle.sup_specs.specs.Values.{Bytes, text_cmp}
use Rattle.sup_placement.specs.Place.{Weigher}
use Rattle.sup_local_sup.specs.declared.effect.Effect.{Effect}
use Rattle.sup_replica.specs.declared.refusal.Refusal.{Refusal}
use Rattle.sup_replica.specs.declared.refusal.Refusal.TheVariants.{OutOfMemory}
use Rattle.sup_model.specs.Worlds.{ModelWorld, ModelAnswer as Expected}
use Rattle.sup_model.specs.Follows.{AllSettled as AllKnow}
use Rattle.sup_world.specs.declared.settled.Settled.{Settled}
use Rattle.sup_world.specs.FollowedSteps.{StandsFor}
use Rattle.sup_world.specs.Pairs.{AllExchanged, StopsAmong}
use Rattle.sup_world.specs.SeenNodes.{SeenNode}

-- a message left with this answer
abbrev pub has_letter : Result Expected Refusal → Bool
has_letter (Ok answer) = is_some answer.number
has_letter (Err refusal) = false

abbrev pub messages_of : List (Result Expected Refusal) → ℕ
messages_of answers = length (filter has_letter answers)

abbrev pub effects_at : Result Expected Refusal → List (Bytes × Effect)
effects_at (Ok answer) = map (λ effect. (answer.at, effect)) answer.done.effects
effects_at (Err refusal) = []

abbrev pub effects_of : List (Result Expected Refusal) → List (Bytes × Effect)
effects_of answers = flat_map effects_at answers

-- the names of the running nodes, in their order
pub record AreUpNames (w : ModelWorld) (names : List Bytes) : Type 0 where
  pub sorted : IsSorted text_cmp names
  pub all : IsPermutation (map (λ s. s.node.name) (filter (λ s. s.node.up) w.sites)) names

-- who exchange, in turn: each of the others with the first, and then the first with each of the others
abbrev pub pairs_of : List Bytes → List (Bytes × Bytes)
pairs_of [] = []
pairs_of (first ∷ others) = map (λ other. (other, first)) others ++ map (λ other. (first, other)) others

-- each of these nodes has all that any of them had absorbed
abbrev pub AllKnowAmong : ModelWorld → List Bytes → ModelWorld → Type 0
AllKnowAmong w [] w' = w' ≡ w
AllKnowAmong w (first ∷ others) w' = AllKnow w first others w'

-- the running nodes exchanged in turn, with these answers, and know all that any of them knew
pub record IsSettling (w : ModelWorld) (answers : List (Result Expected Refusal)) (w' : ModelWorld) : Type 0 where
  pub names : List Bytes
  pub up : AreUpNames w names
  pub exchanged : AllExchanged w (pairs_of names) answers w'
  pub all_know : AllKnowAmong w names w'

-- there was no memory for the names of the running nodes, and no step was made; or one of their exchanges stopped
abbrev pub IsCutShort : ModelWorld → Refusal → ModelWorld → Type 0
IsCutShort w refusal w' =
    ((refusal ≡ OutOfMemory) × (w' ≡ w))
    ⊎ ((names : List Bytes) × AreUpNames w names × StopsAmong w (pairs_of names) refusal w')

-- what is told of these answers
pub record IsToldOf (answers : List (Result Expected Refusal)) (settled : Settled) : Type 0 where
  pub messages : settled.messages ≡ messages_of answers
  pub effects : settled.effects ≡ effects_of answers

-- the nodes settled, and what is told is that of their exchanges; or settling was cut short, and why is told
abbrev pub EndsSettling : ModelWorld → Result Settled Refusal → ModelWorld → Type 0
EndsSettling w (Ok settled) w' = (answers : List (Result Expected Refusal)) × IsSettling w answers w' × IsToldOf answers settled
EndsSettling w (Err refusal) w' = IsCutShort w refusal w'

pub record SettlesTo (weigher : Weigher) (model : ModelWorld) (result : Result Settled Refusal) (new : List SeenNode) : Type 0 where
  pub after : ModelWorld
  pub ends : EndsSettling model result after
  pub stands : StandsFor weigher new after
