-- Lists of operations are a lattice, and two that cover one another are alike.
use Rattle.std.specs.Prelude.{◌≡◌, true, false, not, ◌||◌, [], ◌++◌, filter, refl}
use Rattle.std.proofs.Common.{sym, ◌∙◌}
use mathlib.Core.Bool.{true≢false}
use Rattle.std.proofs.lemmas.List.Folds.{list_any-append}
use Rattle.std.proofs.lemmas.Bool.{or_left, or_right, or_parts}
use Rattle.sup_specs.specs.Rising.{among}
use Rattle.sup_specs.proofs.RisingLaws.{rising_same, among-rising}
use Rattle.sup_causal.specs.declared.dot.Dot.{Dot}
use Rattle.sup_causal.specs.Dots.{dot_cmp}
use Rattle.sup_tables.specs.declared.row.Row.{Row}
use Rattle.sup_tables.specs.Rows.{row_cmp}
use Rattle.sup_tables.specs.Operations.{known, named, added, live, OperationsCover}
use Rattle.sup_tables.specs.RowLaws.{row_total, row_tie}
use Rattle.sup_tables.proofs.CoverLaws.{below-from_Covers, Covers-from_below, covers_itself, covers_trans, live-parts, live-from}
use Rattle.sup_model.specs.Worlds.{Ops}
use Rattle.sup_anti_entropy.specs.Joins.{JoinLattice}
use Rattle.sup_model.specs.Clean.{HasRow}
use Rattle.sup_model.specs.Laws.{OperationsAlike}
use Rattle.sup_tables.proofs.OperationLaws.{both_ways}
use Rattle.sup_model.proofs.CleanLaws.{row-append, row-left, row-right, or-cases}

named-append : (ops others : Ops) (d : Dot) → named (ops ++ others) d ≡ (named ops d || named others d)
named-append ops others d = list_any-append (λ op. among dot_cmp op.removes d) ops others

known-append : (ops others : Ops) (d : Dot) → known (ops ++ others) d ≡ (known ops d || known others d)
known-append ops others d = list_any-append _ ops others

abbrev HasLive : Ops → Row → Type 0
HasLive ops r = among row_cmp (live ops) r ≡ true

free_of : (ops others : Ops) (r : Row) → HasLive (ops ++ others) r → (named ops r.dot ≡ false) × (named others r.dot ≡ false)
free_of ops others r l = or_parts (named ops r.dot) (named others r.dot) (sym (named-append ops others r.dot) ∙ (live-parts (ops ++ others) r l).0)

pub above_left : (ops others : Ops) → OperationsCover (ops ++ others) ops
above_left ops others = Covers-from_below (ops ++ others) ops (record {
  dots = λ d k. known-append ops others d ∙ or_left (known ops d) (known others d) k;
  lives = λ r l. (free_of ops others r l).0;
  there = λ r l n. row-left ops others r (live-parts ops r l).1;
})

pub above_right : (ops others : Ops) → OperationsCover (ops ++ others) others
above_right ops others = Covers-from_below (ops ++ others) others (record {
  dots = λ d k. known-append ops others d ∙ or_right (known ops d) (known others d) k;
  lives = λ r l. (free_of ops others r l).1;
  there = λ r l n. row-right ops others r (live-parts others r l).1;
})

pub least_above : (ops others top : Ops) → OperationsCover top ops → OperationsCover top others → OperationsCover top (ops ++ others)
least_above ops others top a b =
    let x = below-from_Covers top ops a in
    let y = below-from_Covers top others b in
    Covers-from_below top (ops ++ others) (record {
      dots = λ d k. or-cases (known ops d) (known others d) (known top d ≡ true) (sym (known-append ops others d) ∙ k) (x.dots d) (y.dots d);
      lives = λ r l. named-append ops others r.dot ∙ (λ i. x.lives r l i || y.lives r l i);
      there = λ r l n.
          let f = free_of ops others r l in
          row-append ops others r (HasRow top r) (live-parts (ops ++ others) r l).1
          (λ h. x.there r (live-from ops r f.0 h) n) (λ h. y.there r (live-from others r f.1 h) n);
    })

pub none_below : (ops : Ops) → OperationsCover ops []
none_below ops = Covers-from_below ops [] (record { dots = λ d k. absurd (true≢false (sym k)); lives = λ r l. refl; there = λ r l n. absurd (true≢false (sym l)) })

unfoldable pub operation_joins : JoinLattice Ops
operation_joins = record {
  le = λ a b. OperationsCover b a;
  join = λ a b. a ++ b;
  nothing = [];
  itself = covers_itself;
  chain = λ a b c h g. covers_trans c b a g h;
  left = above_left;
  right = above_right;
  least = λ a b c h g. least_above a b c h g;
  bottom = none_below;
}

-- live lists with the same rows are the same
live_equal : (a b : Ops) → ((r : Row) → HasLive a r → HasLive b r) → ((r : Row) → HasLive b r → HasLive a r) → live a ≡ live b
live_equal a b f g =
    rising_same row_cmp row_total row_tie _ _ (λ r.
    sym (among-rising row_cmp row_total (filter (λ x. not (named a x.dot)) (added a)) r)
    ∙ both_ways (among row_cmp (live a) r) (among row_cmp (live b) r) (f r) (g r)
    ∙ among-rising row_cmp row_total (filter (λ x. not (named b x.dot)) (added b)) r)

swap_half : (a b : Ops) (r : Row) → HasLive (a ++ b) r → HasLive (b ++ a) r
swap_half a b r l =
    let f = free_of a b r l in
    let free : named (b ++ a) r.dot ≡ false = named-append b a r.dot ∙ (λ i. f.1 i || f.0 i) in
    live-from (b ++ a) r free (row-append a b r (HasRow (b ++ a) r) (live-parts (a ++ b) r l).1 (row-right b a r) (row-left b a r))

pub covers_alike : (a b : Ops) → OperationsCover b a → OperationsCover a b → OperationsAlike a b
covers_alike a b h g = record {
  dots = λ d. both_ways (known a d) (known b d) ((below-from_Covers b a h).dots d) ((below-from_Covers a b g).dots d);
  rows = sym g.live_stays ∙ live_equal (a ++ b) (b ++ a) (swap_half a b) (swap_half b a) ∙ h.live_stays;
}
