-- Canonical parts are those of a state that tables have.
use Rattle.std.proofs.Common.{◌++◌, refl, ◌∙◌}
use Rattle.sup_causal.specs.Dots.{has}
use Rattle.sup_causal.proofs.CutLaws.{vector_of_parts, cloud_of_parts}
use Rattle.sup_tables.specs.States.{State, HasDotsOf}
use Rattle.sup_tables.proofs.OneForm.{dots_again}
use Rattle.sup_wire.specs.declared.message.Message.{Message}
use Rattle.sup_wire.specs.declared.message.Message.TheVariants.{Ack, Push, Delta}
use Rattle.sup_wire.specs.Drafts.{TableParts, Draft, ack, push, delta, image, IsCut, IsWhole, IsSound, AreCanonical, SaysMessage, IsDraftOf, IsWholeMessage}
use Rattle.sup_message_texts.proofs.Runs.{context_of, vector_dots, has_parts, parts_counted}
use Rattle.sup_message_texts.proofs.KeptRows.{in_order_kept}

abbrev pub state_of : TableParts → State
state_of p = record { context = context_of p.vector p.cloud; rows = p.rows }

module _ (p : TableParts) (canonical : AreCanonical p) where
  pub cut : IsCut (state_of p) p
  cut = record {
    vector = vector_of_parts (has (context_of p.vector p.cloud)) p.vector p.cloud canonical.context (has_parts p.vector p.cloud canonical.context);
    cloud = cloud_of_parts (has (context_of p.vector p.cloud)) p.vector p.cloud canonical.context (has_parts p.vector p.cloud canonical.context);
    rows = refl;
  }

  has_dots : HasDotsOf (context_of p.vector p.cloud) p.rows
  has_dots k d lt = has_parts p.vector p.cloud canonical.context _ ∙ canonical.covered k d lt

  pub whole : IsWhole (state_of p)
  whole = record {
    tables = record { kept = in_order_kept (context_of p.vector p.cloud) p.rows canonical.in_order has_dots; one_form = dots_again (vector_dots p.vector ++ p.cloud) };
    in_order = canonical.in_order;
    covered = has_dots;
    counted = parts_counted p.vector p.cloud canonical.context;
  }

-- the message of a draft
pub message_of : (d : Draft) → SaysMessage d → IsSound d → (m : Message) × IsWholeMessage m × IsDraftOf m d
message_of (ack from to n) kind sound = (Ack from to n, tt, refl)
message_of (push from to p) kind sound = (Push from to (state_of p), whole p sound, (p, cut p sound, refl))
message_of (delta from to n p) kind sound = (Delta from to n (state_of p), whole p sound, (p, cut p sound, refl))
message_of (image node boot count p) kind sound = absurd kind
