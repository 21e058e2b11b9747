-- Bytes at a station, and a child's restart.
use Rattle.std.specs.Prelude.{◌≡◌, ℕ, false, not, Option, Result, Ok, None, refl}
use Rattle.std.proofs.Common.{ap, subst}
use Rattle.sup_specs.specs.Values.{Bytes}
use Rattle.sup_tables.specs.States.{State}
use Rattle.std.specs.Str.{bytes_eq}
use Rattle.std.specs.Map.{lookup}
use Rattle.sup_local_sup.specs.Supervising.{with_all}
use Rattle.sup_local_sup.specs.Planning.{restarted_with, restart_effects}
use Rattle.sup_replica.specs.declared.done.Reply.TheVariants.{Restarted}
use Rattle.sup_replica.specs.declared.refusal.Refusal.{Refusal}
use Rattle.sup_replica.specs.declared.refusal.Refusal.TheVariants.{Down}
use Rattle.sup_replica.specs.Checks.{refused_if}
use Rattle.sup_replica.specs.ByTables.{by_tables}
use Rattle.sup_replica.specs.Nodes.{Node, ActOutcome}
use Rattle.sup_replica.specs.Stations.{Mail, read_step}
use Rattle.sup_model.specs.Worlds.{Ops}
use Rattle.sup_model.specs.Arrivals.{BytesArrive, OtherBytesAreRefused}
use Rattle.sup_model.specs.ChildRestarts.{StaysBesideSupervisor, RestartsStay}
use Rattle.sup_model.proofs.KeepsLaws.{renewed_good}

pub bytes_arrive : BytesArrive
bytes_arrive codec weigher s bytes mail now saves e = ap (λ (m : Option (Mail State)). refused_if (not s.node.up) Down (read_step by_tables weigher s m saves)) e

pub other_bytes : OtherBytesAreRefused
other_bytes codec weigher s bytes now saves e = ap (λ (m : Option (Mail State)). refused_if (not s.node.up) Down (read_step by_tables weigher s m saves)) e

-- a node with a child in its next run
abbrev again : Node Ops → Bytes → ℕ → ActOutcome Ops
again n id now = record {
  done = record { reply = Restarted; effects = restart_effects n.supervisor id (lookup (bytes_eq id) n.supervisor.kept) };
  node = record n { supervisor = restarted_with with_all n.supervisor id now };
  letter = None;
  saves = false;
}

ok_same : (x y : ActOutcome Ops) → (let a : Result (ActOutcome Ops) Refusal = Ok x in a) ≡ Ok y → x ≡ y
ok_same x y e = cc

pub restarts_stay : RestartsStay
restarts_stay weigher n id now o e =
    subst (StaysBesideSupervisor weigher n) (ok_same (again n id now) o e)
    (record { alone = refl; boot = refl; silent = refl; unsaved = refl; keeps = λ up kept. renewed_good weigher n id now (λ _. kept) up })
