-- The order in which members rank for a child is total, and only equal names tie.
use Rattle.std.proofs.Common.{◌≡◌, false, refl}
use Rattle.std.specs.declared.cmp.Ordering.{Ordering}
use Rattle.std.specs.declared.cmp.Ordering.TheVariants.{Less, Equal, Greater}
use Rattle.std.specs.Ordering.{ordering_reverse, is_lt}
use Rattle.std.specs.Cmp.{IsTotalOrder, on_total, back_total, then_total}
use Rattle.sup_specs.specs.Values.{Bytes, text_cmp}
use Rattle.sup_specs.specs.OrderLaws.{text_total, text_tie, both_tie}
use Rattle.sup_placement.specs.Place.{Weigher, rank_cmp}

module _ (weight : Weigher) (id : Bytes) where
  pub rank_total : IsTotalOrder (rank_cmp weight id)
  rank_total = then_total (back_total (on_total (λ m. weight m id) text_total)) text_total

  pub rank_tie : (a b : Bytes) → rank_cmp weight id a b ≡ Equal → a ≡ b
  rank_tie a b e = text_tie a b (both_tie (text_cmp (weight b id) (weight a id)) (text_cmp a b) e).1

level : (r s : Ordering) → r ≡ ordering_reverse s → is_lt r ≡ false → is_lt s ≡ false → r ≡ Equal
level Less s e h k = cc
level Equal s e h k = refl
level Greater Less e h k = cc
level Greater Equal e h k = cc
level Greater Greater e h k = cc

-- of two members neither of which ranks before the other the names are one
pub rank_apart : (weight : Weigher) (id a b : Bytes) → is_lt (rank_cmp weight id a b) ≡ false → is_lt (rank_cmp weight id b a) ≡ false → a ≡ b
rank_apart weight id a b h k =
    rank_tie weight id a b (level (rank_cmp weight id a b) (rank_cmp weight id b a) ((rank_total weight id).antisymm a b) h k)
