-- The texts of rows of which some go, and to which some come.
use Rattle.std.proofs.Common.{◌≡◌, ℕ, ◌+◌, ◌-◌, ◌<◌, ◌≤◌, ◌^◌, Bool, List, [], ◌∷◌, ◌++◌, length, get_or, take, drop, map, is_lt, sym, ap, ap₂, ◌∙◌, append_assoc, arith}
use Rattle.std.specs.Prelude.{slice_range}
use Rattle.std.proofs.lemmas.List.{drop-drop, drop_all, get_or_default, length-map, drop-map, take-map, map-append}
use Rattle.std.proofs.lemmas.Slice.{between_to_end}
use Rattle.std.proofs.Math.ListN.{get_or-map}
use Rattle.sup_specs.specs.Values.{Bytes}
use Rattle.sup_edits.specs.declared.edit.Edit.{Edit}
use Rattle.sup_edits.specs.declared.edit.Edit.TheVariants.{Comes, Goes}
use Rattle.sup_edits.specs.Edits.{before, after, edited}
use Rattle.sup_tables.specs.declared.row.Row.{Row}
use Rattle.sup_tables.specs.Rows.{place_cmp}
use Rattle.sup_wire.specs.Forms.{IsWritten}
use Rattle.sup_wire.specs.RowTexts.{row_text, AreRows}
use Rattle.sup_image_text.proofs.Searches.{all_at}

pub row_at : (rows : List Row) (texts : List Bytes) (m : ℕ) (d : Row) (b : Bytes) → texts ≡ map row_text rows → m < length texts → b ≡ get_or texts m b → b ≡ row_text (get_or rows m d)
row_at rows texts m d b same less is =
    is ∙ get_or_default texts m b (row_text d) less ∙ ap (λ ts. get_or ts m (row_text d)) same ∙ get_or-map row_text rows m d

-- what a text at a place tells of the row there
pub told : (rows : List Row) (texts : List Bytes) (m : ℕ) (q : Row) (item : Bytes) (b : Bool) → AreRows rows texts → m < length texts → item ≡ get_or texts m item
    → ((r : Row) → item ≡ row_text r → IsWritten r → r.dot.counter < 2 ^ 64 → b ≡ is_lt (place_cmp r q)) → (m < length rows) × (is_lt (place_cmp (get_or rows m q) q) ≡ b)
told rows texts m q item b are less is tells =
    let many : length texts ≡ length rows = ap length are.same ∙ length-map rows row_text in
    let within : m < length rows = omega (arith, less, many) in
    let all = all_at _ rows m q are.written within in
    (within, sym (tells (get_or rows m q) (row_at rows texts m q item are.same less is) all.0 all.1))

slice-map : {X Y : Type 0} (f : X → Y) (xs : List X) (i j : ℕ) → slice_range (map f xs) i j ≡ map f (slice_range xs i j)
slice-map f xs i j = ap (take (j - i)) (drop-map f i xs) ∙ take-map f (j - i) (drop i xs)

run_rows : (rows : List Row) (texts : List Bytes) (i j : ℕ) → AreRows rows texts → slice_range texts i j ≡ map row_text (slice_range rows i j)
run_rows rows texts i j are = ap (λ ts. slice_range ts i j) are.same ∙ slice-map row_text rows i j

-- a row came
pub came : (rows : List Row) (texts made run item more : List Bytes) (q : Row) (es : List (Edit Row)) (next at : ℕ) → AreRows rows texts → slice_range rows next at ≡ before place_cmp q (drop next rows) → drop at rows ≡ after place_cmp q (drop next rows)
    → run ≡ made ++ slice_range texts next at → item ≡ row_text q ∷ [] → more ≡ run ++ item
    → more ++ map row_text (edited place_cmp es (drop at rows)) ≡ made ++ map row_text (edited place_cmp (Comes q ∷ es) (drop next rows))
came rows texts made run item more q es next at are first last run_is item_is more_is =
    let b = before place_cmp q (drop next rows) in
    ap (λ m. m ++ map row_text (edited place_cmp es (drop at rows))) (more_is ∙ ap₂ (λ x y. x ++ y) (run_is ∙ ap (λ x. made ++ x) (run_rows rows texts next at are ∙ ap (map row_text) first)) item_is)
    ∙ ap (λ d. ((made ++ map row_text b) ++ row_text q ∷ []) ++ map row_text (edited place_cmp es d)) last
    ∙ append_assoc (made ++ map row_text b) (row_text q ∷ []) (map row_text (edited place_cmp es (after place_cmp q (drop next rows))))
    ∙ append_assoc made (map row_text b) (row_text q ∷ map row_text (edited place_cmp es (after place_cmp q (drop next rows))))
    ∙ ap (λ x. made ++ x) (sym (map-append row_text b (q ∷ edited place_cmp es (after place_cmp q (drop next rows)))))

-- a row went
pub went : (rows : List Row) (texts made more : List Bytes) (q : Row) (es : List (Edit Row)) (next at past : ℕ) → AreRows rows texts → slice_range rows next at ≡ before place_cmp q (drop next rows) → drop at rows ≡ after place_cmp q (drop next rows)
    → more ≡ made ++ slice_range texts next at → drop past rows ≡ drop 1 (drop at rows)
    → more ++ map row_text (edited place_cmp es (drop past rows)) ≡ made ++ map row_text (edited place_cmp (Goes q ∷ es) (drop next rows))
went rows texts made more q es next at past are first last more_is past_is =
    let b = before place_cmp q (drop next rows) in
    ap₂ (λ x d. x ++ map row_text (edited place_cmp es d)) (more_is ∙ ap (λ x. made ++ x) (run_rows rows texts next at are ∙ ap (map row_text) first)) (past_is ∙ ap (drop 1) last)
    ∙ append_assoc made (map row_text b) (map row_text (edited place_cmp es (drop 1 (after place_cmp q (drop next rows)))))
    ∙ ap (λ x. made ++ x) (sym (map-append row_text b (edited place_cmp es (drop 1 (after place_cmp q (drop next rows))))))

pub past_more : {X : Type 0} (at : ℕ) (xs : List X) → drop (at + 1) xs ≡ drop 1 (drop at xs)
past_more at xs = sym (drop-drop 1 at xs)

pub past_end : (rows : List Row) (texts : List Bytes) (at : ℕ) → AreRows rows texts → length texts ≤ at → drop at rows ≡ drop 1 (drop at rows)
past_end rows texts at are most =
    let many : length texts ≡ length rows = ap length are.same ∙ length-map rows row_text in
    let none : drop at rows ≡ [] = drop_all at rows (omega (arith, many, most)) in
    none ∙ sym (ap (drop 1) none)

-- the rows that are left once all edits are done
pub last_run : {T : Type 0} (f : T → Edit Row) (rows : List Row) (texts made all : List Bytes) (es : List T) (n next count : ℕ) (want : List Bytes) → AreRows rows texts → length es ≤ n → count ≡ length texts → all ≡ made ++ slice_range texts next count
    → made ++ map row_text (edited place_cmp (map f (drop n es)) (drop next rows)) ≡ want → all ≡ want
last_run f rows texts made all es n next count want are done many is last =
    let none : edited place_cmp (map f (drop n es)) (drop next rows) ≡ drop next rows = ap (λ d. edited place_cmp (map f d) (drop next rows)) (drop_all n es done) in
    is ∙ ap (λ x. made ++ x) (between_to_end texts next count (omega (arith, many)) ∙ ap (drop next) are.same ∙ drop-map row_text next rows ∙ ap (map row_text) (sym none)) ∙ last
