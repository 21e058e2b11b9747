-- Sublists of lists that grow.
use Rattle.std.proofs.Common.{List, [], ◌∷◌, ◌++◌, refl, inl, inr}
use Rattle.sup_plan.specs.Sublists.{Sublist}

pub sub_more : {X : Type 0} (xs ys zs : List X) → Sublist xs ys → Sublist xs (ys ++ zs)
sub_more [] ys zs h = tt
sub_more (x ∷ xs) [] zs h = absurd h
sub_more (x ∷ xs) (y ∷ ys) zs h = elim h [ inl p ↦ inl (p.0, sub_more xs ys zs p.1) | inr q ↦ inr (sub_more (x ∷ xs) ys zs q) ]

sub_same : {X : Type 0} (zs : List X) → Sublist zs zs
sub_same [] = tt
sub_same (z ∷ zs) = inl (refl, sub_same zs)

sub_back : {X : Type 0} (ys zs : List X) → Sublist zs (ys ++ zs)
sub_back [] zs = sub_same zs
sub_back (y ∷ ys) [] = tt
sub_back (y ∷ ys) (z ∷ zs) = inr (sub_back ys (z ∷ zs))

-- both with the same behind them
pub sub_both : {X : Type 0} (xs ys zs : List X) → Sublist xs ys → Sublist (xs ++ zs) (ys ++ zs)
sub_both [] ys zs h = sub_back ys zs
sub_both (x ∷ xs) [] zs h = absurd h
sub_both (x ∷ xs) (y ∷ ys) zs h = elim h [ inl p ↦ inl (p.0, sub_both xs ys zs p.1) | inr q ↦ inr (sub_both (x ∷ xs) ys zs q) ]
