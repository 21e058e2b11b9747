use Rattle.std.proofs.Common.{rules, ◌≡◌, ◌∷◌, [], ◌++◌, sym, ap, ◌∙◌, subst}
use Rattle.std.specs.Set.{is_member}
use Rattle.std.specs.Map.{keys_of}
use Rattle.std.specs.BTreeMap.{is_at}
use Rattle.std.proofs.lemmas.Map.Made.{is_some-lookup}
use Rattle.sup_causal.specs.Dots.{dot_cmp, dot_eq}
use Rattle.sup_indexed.specs.Listed.{place_at, listed_in}
use Rattle.sup_indexed.proofs.PlaceLaws.{place_pushed}
use Rattle.sup_indexed.proofs.Listings.{IsListing, listing_none, listing_more}
use Rattle.sup_indexed.proofs.listing.push_places.Goals as goal

pub loop-dot-init : goal.loop-dot-init
loop-dot-init g c =
    let es = c.args.function.now.values.entries in
    let has = listed_in g.K.Ord.cmp c.args.places.now.items in
    let all : c.into_iter-dot-iterator.result ≡ c.dots-dot-items.result = search rules in
    let dots = all ∙ c.dots-dot-items.ensures ∙ ap (λ m. keys_of m.entries) c.values.ensures in
    listing_none g.K.Ord.cmp c.args.key.now c.args.function.now has has c.into_iter-dot-iterator.result
    (λ d. is_some-lookup (is_at (dot_cmp d)) es ∙ ap (λ dots. is_member dot_eq dots d) (sym dots))

pub loop-dot-preserved : goal.loop-dot-preserved
loop-dot-preserved g c =
    let cmp = g.K.Ord.cmp in
    let old = listed_in cmp c.args.places.now.items in
    let now = listed_in cmp c.loop-dot.places.items in
    let left : c.loop-dot.dot-iterator ≡ c.in-Some.dot.now ∷ c.next.new.self = search rules in
    let listing = subst (IsListing cmp c.args.key.now c.args.function.now old now) left c.loop-dot.invariant in
    listing_more cmp c.args.key.now c.args.function.now old now (listed_in cmp c.push.new.self.items) c.in-Some.dot.now c.next.new.self listing
    (λ k d.
    ap (λ places. listed_in cmp places k d) c.in_ok-push.ensures.items
    ∙ place_pushed g.met.K.Ord.total c.loop-dot.places.items c.of.result c.args.key.now c.in-Some.dot.now (c.of.ensures ∙ ap (λ k. place_at k c.in-Some.dot.now) c.in_ok-try_clone.ensures) k d)
