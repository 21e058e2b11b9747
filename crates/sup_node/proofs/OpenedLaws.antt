-- A node that is opened for a delta is between the node as it was and the node with it.
use Rattle.std.specs.Prelude.{◌≡◌, true, refl}
use Rattle.std.proofs.Common.{sym, ap, ◌∙◌, subst}
use Rattle.sup_tables.specs.States.{State}
use Rattle.sup_placement.specs.Place.{Weigher}
use Rattle.sup_replica.specs.Stations.{Station}
use Rattle.sup_node.specs.declared.change.Change.{Change}
use Rattle.sup_node.specs.declared.change.Change.TheVariants.{Nothing, Begins, Learns, Acknowledges}
use Rattle.sup_node.specs.declared.opened.OpenState.{OpenState}
use Rattle.sup_node.specs.Changes.{changed, station_after}
use Rattle.sup_node.specs.Openings.{IsOpenState, with_known, grown_to}
use Rattle.sup_node.specs.Placed.{keeps_placed}

-- the node of a station after a change is the changed node
pub after_node : (s : Station State) (c : Change) → (station_after s c).node ≡ changed s.node c
after_node s Nothing = refl
after_node s (Begins id now) = refl
after_node s (Learns l) = refl
after_node s (Acknowledges from number) = refl

pub keeps_after : (g : Weigher) (s t : Station State) (c : Change) → t ≡ station_after s c → keeps_placed g (changed s.node c) ≡ true → keeps_placed g t.node ≡ true
keeps_after g s t c e h = subst (λ n. keeps_placed g n ≡ true) (sym (ap (λ (u : Station State). u.node) e ∙ after_node s c)) h

pub keeps_same : (g : Weigher) (s t : Station State) → t ≡ s → keeps_placed g s.node ≡ true → keeps_placed g t.node ≡ true
keeps_same g s t e h = subst (λ (u : Station State). keeps_placed g u.node ≡ true) (sym e) h

module _ (o : OpenState) (old new : Station State) (is : IsOpenState o old new) where
  pub grown : (t : Station State) → t ≡ grown_to o (with_known o old.node.known) new.node.known → t ≡ new
  grown t e = e ∙ ap (λ (s : Station State). grown_to o s new.node.known) (sym is.before) ∙ sym is.after

  pub given_back : (t : Station State) → t ≡ with_known o old.node.known → t ≡ old
  given_back t e = e ∙ sym is.before
