use Rattle.std.specs.Prelude.{◌≡◌, true, not, is_some, Option, Some, None}
use Rattle.std.specs.Option.{option_map, option_copied}
use Rattle.std.proofs.Common.{ap, ◌∙◌, subst}
use mathlib.Core.Bool.{false≢true}
use Rattle.std.specs.Borrow.{Bor}
use Rattle.sup_specs.specs.Values.{Bytes}
use Rattle.sup_tables.specs.States.{State}
use Rattle.sup_replica.specs.declared.refusal.Refusal.{Refusal}
use Rattle.sup_replica.specs.Stations.{Station}
use Rattle.sup_node.specs.Contents.{station_of}
use Rattle.sup_world.specs.ComingLetters.{IsRawRefusal, IsUnsentRefusal}
use Rattle.sup_world.proofs.simulated_node.SimulatedNode.refusal_of.Goals as goal

-- a running node refuses bytes as bytes that nobody sent
running : {A : Type 0} (f : A → Station State) (o : Option (Bor A)) (node : Option (Station State)) (bytes : Bytes) (r : Refusal) → is_some o ≡ true → option_map f (option_copied o) ≡ node → IsUnsentRefusal bytes r → IsRawRefusal node bytes r
running f None n bytes r some is h = absurd (false≢true some)
running f (Some a) n bytes r some is h = subst (λ (m : Option (Station State)). IsRawRefusal m bytes r) is h

pub returns : goal.returns
returns g c = running station_of c.node.result _ c.args.bytes.now c.unsent_refusal.result (c.is_none.ensures ∙ ap not c.if-is_none.false) c.node.ensures c.unsent_refusal.ensures
