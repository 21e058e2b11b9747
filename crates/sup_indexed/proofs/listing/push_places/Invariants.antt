use Rattle.sup_indexed.specs.Listed.{listed_in}
use Rattle.sup_indexed.proofs.Listings.{IsListing}
use Rattle.sup_indexed.proofs.listing.push_places.Given as goal

abbrev pub invariant-loop-dot : goal.invariant-loop-dot
invariant-loop-dot g l = IsListing g.K.Ord.cmp l.fn.key l.fn.function (listed_in g.K.Ord.cmp l.fn.places.items) (listed_in g.K.Ord.cmp l.places.items) l.dot-iterator
