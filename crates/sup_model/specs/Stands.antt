-- What a node, an outcome and a letter of the code stand for in the model (this project).
use Rattle.sup_local_sup.specs.Supervising.{Supervisor}
use Rattle.std.specs.Prelude.{◌≡◌, Option, Some, None, Result, Ok, Err}
use Rattle.sup_replica.specs.declared.refusal.Refusal.{Refusal}
use Rattle.sup_replica.specs.Nodes.{Node, Message, ActOutcome}
use Rattle.sup_model.specs.Worlds.{Ops}
use Rattle.sup_model.specs.Laws.{StateView}

-- both refused alike, or both done and R
abbrev pub DoneTogether : {A B : Type 0} → (A → B → Type 0) → Result A Refusal → Result B Refusal → Type 0
DoneTogether R (Ok a) (Ok b) = R a b
DoneTogether R (Err r) (Err q) = r ≡ q
DoneTogether R (Ok a) (Err q) = ⊥
DoneTogether R (Err r) (Ok b) = ⊥

-- both there and R, or neither
abbrev pub BothOrNone : {A B : Type 0} → (A → B → Type 0) → Option A → Option B → Type 0
BothOrNone R None None = Unit {0}
BothOrNone R (Some a) (Some b) = R a b
BothOrNone R None (Some b) = ⊥
BothOrNone R (Some a) None = ⊥

module _ {K : Type 0} (view : StateView K) where
  -- a supervisor: its window is seen as the view says, and the rest is equal
  pub record SupervisorStands (u v : Supervisor) : Type 0 where
    pub boot : u.boot ≡ v.boot
    pub given : u.given ≡ v.given
    pub kept : u.kept ≡ v.kept
    pub window : view.window u.window v.window

  -- a node: its state and its newest own stand for operations, its supervisor for the model's, and the rest is equal
  pub record NodeStands (n : Node K) (m : Node Ops) : Type 0 where
    pub name : n.name ≡ m.name
    pub up : n.up ≡ m.up
    pub count : n.count ≡ m.count
    pub supervisor : SupervisorStands n.supervisor m.supervisor
    pub state : view.stands n.known m.known
    pub newest : BothOrNone view.stands n.newest m.newest

  pub record MessageStands (a : Message K) (b : Message Ops) : Type 0 where
    pub to : a.to ≡ b.to
    pub kind : a.kind ≡ b.kind
    pub content : view.stands a.content b.content

  pub record OutcomeStands (o : ActOutcome K) (p : ActOutcome Ops) : Type 0 where
    pub reply : o.done.reply ≡ p.done.reply
    pub effects : o.done.effects ≡ p.done.effects
    pub letter : BothOrNone MessageStands o.letter p.letter
    pub node : NodeStands o.node p.node
    pub saves : o.saves ≡ p.saves
