use Rattle.std.proofs.Common.{rules}
use Rattle.std.specs.BTreeMap.{is_at, keys}
use Rattle.std.proofs.lemmas.Map.Keys.{IsDistinct-from_sorted}
use Rattle.sup_specs.specs.Rising.{among}
use Rattle.sup_causal.specs.Dots.{dot_cmp}
use Rattle.sup_dot_store.proofs.Retains.{retained_rows, retained_has_row}
use Rattle.sup_dot_store.proofs.dot_map.DotMapDotStore.retract.Goals as goal

pub returns : goal.returns
returns g c d place =
    retained_rows g.S.DotStore.held _ (λ d. among dot_cmp c.args.dots.now d) g.met.K.Ord.total _ c.args.self.now.stores.entries c.retain.new.self.entries (IsDistinct-from_sorted g.K.Ord.cmp (keys c.args.self.now.stores) c.retain.ensures.was_ordered) c.retain.ensures.filtered
    (record { taken = λ k v b w f' t. search rules; kept = λ k v b w f' t e. search rules; dropped = λ k v b w f' t e. search rules; again = λ k v b w f' t. search rules }) place.0 d place.1

pub invariant_of-self : goal.invariant_of-self
invariant_of-self g c = record {
  ordered = c.retain.ensures.ordered;
  none_empty = λ k s found.
      retained_has_row g.S.DotStore.held _ (λ d. among dot_cmp c.args.dots.now d) (is_at (g.K.Ord.cmp k)) _ c.args.self.now.stores.entries c.retain.new.self.entries c.retain.ensures.filtered
      (record { taken = λ k v b w f' t. search rules; kept = λ k v b w f' t e. search rules; dropped = λ k v b w f' t e. search rules; again = λ k v b w f' t. search rules }) s found;
}
