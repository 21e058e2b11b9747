-- The code's world stands for the model's after any list of steps (this project).
use Rattle.std.specs.Prelude.{ℕ, ◌≡◌, List, [], ◌∷◌, ◌++◌, map, Result, Ok, Err}
use Rattle.sup_specs.specs.Values.{Bytes}
use Rattle.sup_replica.specs.declared.refusal.Refusal.{Refusal}
use Rattle.sup_model.specs.Worlds.{WorldSetting, Ops, ModelWorld, ModelSite, ModelAnswer, new}
use Rattle.sup_replica.specs.Nodes.{Knowledge, Message, delta as is_delta, push as is_push, ack as is_ack}
use Rattle.sup_model.specs.declared.step.Step.{Step}
use Rattle.sup_model.specs.Runs.{ModelRun}
use Rattle.sup_anti_entropy.specs.Peers.{OccursIn}
use Rattle.sup_model.specs.Laws.{StateView}
use Rattle.sup_replica.specs.Stations.{MailCodec, Mail, a_delta, a_push, an_ack}
use Rattle.sup_model.specs.Posts.{StationPost, RealWorld, RealAnswer, RealStepped, reads, real_step, real_after, real_run, real_new}
use Rattle.sup_model.specs.Stands.{NodeStands}
use Rattle.sup_model.specs.Joint.{AnswerStands}

abbrev pub real_answer_of : {K : Type 0} → Result (RealStepped K) Refusal → Result (RealAnswer K) Refusal
real_answer_of (Ok s) = Ok s.answer
real_answer_of (Err refusal) = Err refusal

abbrev pub real_answers : {K : Type 0} → Knowledge K → RealWorld K → List Step → List (Result (RealAnswer K) Refusal)
real_answers k w [] = []
real_answers k w (s ∷ steps) = real_answer_of (real_step k w s) ∷ real_answers k (real_after k w (real_step k w s)) steps

abbrev pub AnswersAlike : {K : Type 0} → StateView K → Result (RealAnswer K) Refusal → Result ModelAnswer Refusal → Type 0
AnswersAlike view (Ok a) (Ok b) = AnswerStands view a b
AnswersAlike view (Err r) (Err q) = r ≡ q
AnswersAlike view (Ok a) (Err q) = ⊥
AnswersAlike view (Err r) (Ok b) = ⊥

abbrev pub AllAnswersAlike : {K : Type 0} → StateView K → List (Result (RealAnswer K) Refusal) → List (Result ModelAnswer Refusal) → Type 0
AllAnswersAlike view [] [] = Unit {0}
AllAnswersAlike view (a ∷ rest) (b ∷ others) = AnswersAlike view a b × AllAnswersAlike view rest others
AllAnswersAlike view [] (b ∷ others) = ⊥
AllAnswersAlike view (a ∷ rest) [] = ⊥

-- node by node: the code's node and all that it sent, beside the model's
pub record NodePair (K : Type 0) : Type 0 where
  pub post : StationPost K
  pub site : ModelSite

module _ {K : Type 0} (k : Knowledge K) (view : StateView K) where
  -- a letter beside its message: the same receiver and kind; a delta or a push joined to its receiver's state, whatever that has become, stands for the receiver's operations and then the message's
  abbrev pub LetterCarries : List (NodePair K) → Mail K → Message Ops → Type 0
  LetterCarries pairs (a_delta from to number whole content) m =
      (to ≡ m.to) × (m.kind ≡ is_delta) × ((p : NodePair K) → OccursIn pairs p → to ≡ p.site.node.name → view.stands (k.with_more p.post.station.node.known content) (p.site.node.known ++ m.content))
  LetterCarries pairs (a_push from to content) m =
      (to ≡ m.to) × (m.kind ≡ is_push) × ((p : NodePair K) → OccursIn pairs p → to ≡ p.site.node.name → view.stands (k.with_more p.post.station.node.known content) (p.site.node.known ++ m.content))
  LetterCarries pairs (an_ack from to number) m = (to ≡ m.to) × (m.kind ≡ is_ack)

  abbrev pub LettersCarry : List (NodePair K) → List (Mail K) → List (Message Ops) → Type 0
  LettersCarry pairs [] [] = Unit {0}
  LettersCarry pairs (x ∷ xs) (m ∷ ms) = LetterCarries pairs x m × LettersCarry pairs xs ms
  LettersCarry pairs [] (m ∷ ms) = ⊥
  LettersCarry pairs (x ∷ xs) [] = ⊥

  -- the code's world stands for the model's
  pub record WorldStands (real : RealWorld K) (model : ModelWorld) : Type 0 where
    pub pairs : List (NodePair K)
    pub posts : map (λ p. p.post) pairs ≡ real.posts
    pub sites : map (λ p. p.site) pairs ≡ model.sites
    pub weigher : real.weigher ≡ model.weigher
    pub nodes : (p : NodePair K) → OccursIn pairs p → NodeStands view p.post.station.node p.site.node
    pub mail : (p : NodePair K) → OccursIn pairs p → LettersCarry pairs p.post.sent p.site.sent

  -- from a new world, after these steps: a run of the model with the same answers, and the two worlds then
  pub record RefinedRun (setting : WorldSetting) (room : ℕ) (codec : MailCodec K) (names : List Bytes) (steps : List Step) : Type 0 where
    pub model : ModelWorld
    pub answers : List (Result ModelAnswer Refusal)
    pub runs : ModelRun (new setting (reads codec) names) steps answers model
    pub told : AllAnswersAlike view (real_answers k (real_new k setting room codec names) steps) answers
    pub stands : WorldStands (real_run k (real_new k setting room codec names) steps) model
