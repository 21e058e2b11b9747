-- What a restart of a child leaves as it was (this project).
use Rattle.std.specs.Prelude.{ℕ, ◌≡◌, true, false, None, Ok}
use Rattle.sup_specs.specs.Values.{Bytes}
use Rattle.sup_placement.specs.Place.{Weigher}
use Rattle.sup_local_sup.specs.declared.leaving.Ruling.TheVariants.{Restart}
use Rattle.sup_replica.specs.Nodes.{Node, ActOutcome, by_operations}
use Rattle.sup_replica.specs.Steps.{exit_step}
use Rattle.sup_model.specs.Worlds.{Ops}
use Rattle.sup_model.specs.Headline.{KeepsExactly}

-- nothing but the supervisor changes, no message leaves and nothing is saved; an up node keeps what it wants, if it did
pub record StaysBesideSupervisor (weigher : Weigher) (n : Node Ops) (o : ActOutcome Ops) : Type 0 where
  pub alone : o.node ≡ record n { supervisor = o.node.supervisor }
  pub boot : o.node.supervisor.boot ≡ n.supervisor.boot
  pub silent : o.letter ≡ None
  pub unsaved : o.saves ≡ false
  pub keeps : n.up ≡ true → KeepsExactly weigher n → KeepsExactly weigher o.node

abbrev pub RestartsStay : Type 0
RestartsStay = (weigher : Weigher) (n : Node Ops) (id : Bytes) (now : ℕ) (o : ActOutcome Ops) → exit_step by_operations weigher n id now Restart ≡ Ok o → StaysBesideSupervisor weigher n o
