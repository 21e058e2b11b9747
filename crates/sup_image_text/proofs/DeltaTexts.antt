-- A delta's text by its parts is the delta's one text.
use Rattle.std.proofs.Common.{◌≡◌, ◌≢◌, ℕ, lit<, ◌-◌, ◌<◌, ◌^◌, false, ◌||◌, List, [], ◌∷◌, ◌++◌, length, take, drop, map, codes, decimal, refl, sym, ap, ap₂, subst, ◌∙◌, append_assoc, arith}
use Rattle.std.specs.List.{AllByRecursion}
use Rattle.std.specs.Prelude.{slice_range}
use Rattle.std.proofs.lemmas.List.{length-append}
use Rattle.std.proofs.Math.Seq.{take-append_seam, take-length}
use Rattle.std.proofs.Math.Bool.{or-false}
use Rattle.json.specs.Print.{quoted, print, print_from}
use Rattle.json.specs.Token.{key, string, number, end_object}
use Rattle.json.specs.Written.{Written}
use Rattle.json.proofs.Printed.Utf8.{IsUtf8-are_ascii}
use Rattle.serde_json.specs.Written.{compact_text}
use Rattle.sup_specs.specs.Values.{Bytes}
use Rattle.sup_specs.proofs.TextLemmas.{utf8_name}
use Rattle.sup_causal.specs.declared.dot.Dot.{Dot}
use Rattle.sup_causal.specs.Dots.{Context, has}
use Rattle.sup_causal.specs.Cut.{IsVector, IsCloud}
use Rattle.sup_tables.specs.declared.row.Row.{Row}
use Rattle.sup_tables.specs.States.{State, with_rows}
use Rattle.sup_array_text.specs.Arrays.{ArrayBegun, ArrayShown, joined, whole}
use Rattle.sup_wire.specs.declared.message.Message.TheVariants.{Delta}
use Rattle.sup_wire.specs.declared.version.Version.TheVariants.{Two}
use Rattle.sup_wire.specs.Drafts.{TableParts, delta, IsCut, IsWhole, IsDraftOf}
use Rattle.sup_wire.specs.Faults.{IsJson, IsTextOf, IsInRange}
use Rattle.sup_wire.specs.Forms.{IsName, IsCount, IsDot, IsNote, IsFormed, AreWritten, value_of, context_value}
use Rattle.sup_wire.specs.RowTexts.{row_text, AreRows}
use Rattle.sup_wire.proofs.Formed.{parts_formed, parts_fit, delta_back as delta_reads}
use Rattle.sup_wire.proofs.ImageTextLaws.{array_text, vector_texts, cloud_texts, rows_texts}
use Rattle.sup_wire.proofs.Readable.{Fits, PartsFit}
use Rattle.sup_wire.proofs.TextReads.{AreTexts, is_json}
use Rattle.sup_image_text.specs.Messages.{IsBare, delta_front, delta_back}
use Rattle.sup_image_text.proofs.NextLaws.{each_written}

parts : (a b c d f g h x1 x2 x3 x4 j x6 x7 : Bytes)
    → 123 ∷ (a ++ 58 ∷ (x1 ++ 44 ∷ (b ++ 58 ∷ (x2 ++ 44 ∷ (c ++ 58 ∷ (x3 ++ 44 ∷ (d ++ 58 ∷ (x4 ++ 44 ∷ (f ++ 58 ∷ ((91 ∷ (j ++ 93 ∷ [])) ++ 44 ∷ (g ++ 58 ∷ (x6 ++ 44 ∷ (h ++ 58 ∷ (x7 ++ 125 ∷ []))))))))))))))
    ≡ (123 ∷ ((a ++ 58 ∷ (x1 ++ 44 ∷ [])) ++ ((b ++ 58 ∷ (x2 ++ 44 ∷ [])) ++ ((c ++ 58 ∷ (x3 ++ 44 ∷ [])) ++ ((d ++ 58 ∷ (x4 ++ 44 ∷ [])) ++ (f ++ 58 ∷ [])))))) ++ 91 ∷ (j ++ 93 ∷ 44 ∷ (g ++ 58 ∷ (x6 ++ 44 ∷ (h ++ 58 ∷ (x7 ++ 125 ∷ [])))))
parts a b c d f g h x1 x2 x3 x4 j x6 x7 = simp append_assoc

-- a delta's text is what stands before its rows, their array, and what stands behind
delta_parts : (from to : Bytes) (n : ℕ) (p : TableParts) → compact_text (value_of (delta from to n p)) ≡ whole (delta_front from n p) (map row_text p.rows) (delta_back to)
delta_parts from to n p =
    ap (λ t. 123 ∷ (quoted (codes "ctx") ++ 58 ∷ (compact_text (context_value p) ++ 44 ∷ (quoted (codes "from") ++ 58 ∷ (quoted from ++ 44 ∷ (quoted (codes "kind") ++ 58 ∷ (quoted (codes "delta") ++ 44 ∷ (quoted (codes "n") ++ 58 ∷ (decimal n
    ++ 44 ∷ (quoted (codes "rows") ++ 58 ∷ (t ++ 44 ∷ (quoted (codes "to") ++ 58 ∷ (quoted to ++ 44 ∷ (quoted (codes "v") ++ 58 ∷ (decimal 2 ++ 125 ∷ [])))))))))))))))
    (array_text p.rows)
    ∙ parts (quoted (codes "ctx")) (quoted (codes "from")) (quoted (codes "kind")) (quoted (codes "n")) (quoted (codes "rows")) (quoted (codes "to")) (quoted (codes "v"))
    (compact_text (context_value p)) (quoted from) (quoted (codes "delta")) (decimal n) (drop 1 (joined (map row_text p.rows))) (quoted to) (decimal 2)

-- ---- strings and numbers of a delta

delta_texts : (from to : Bytes) (n : ℕ) (p : TableParts) → IsName from → IsName to → Fits n → AreWritten p → PartsFit p → AreTexts (value_of (delta from to n p))
delta_texts from to n p sender receiver fits written fit = (
  IsUtf8-are_ascii _ refl,
  (
    (IsUtf8-are_ascii _ refl, (cloud_texts p.cloud written.cloud fit.cloud, (IsUtf8-are_ascii _ refl, (vector_texts p.vector written.vector fit.vector, tt)))),
    (
      IsUtf8-are_ascii _ refl,
      (
        utf8_name 1 64 from sender,
        (
          IsUtf8-are_ascii _ refl,
          (
            IsUtf8-are_ascii _ refl,
            (
              IsUtf8-are_ascii _ refl,
              (
                fits,
                (IsUtf8-are_ascii _ refl, (rows_texts p.rows written.rows fit.rows, (IsUtf8-are_ascii _ refl, (utf8_name 1 64 to receiver, (IsUtf8-are_ascii _ refl, (lit< tt, tt)))))),
              ),
            ),
          ),
        ),
      ),
    ),
  ),
)

-- ---- the text that is put together

note_names : (es : List (Bytes × ℕ)) → AllByRecursion IsNote es → AllByRecursion (λ e. IsName e.0) es
note_names [] all = tt
note_names (e ∷ es) all = (all.0.0, note_names es all.1)

dot_names : (ds : List Dot) → AllByRecursion IsDot ds → AllByRecursion (λ d. IsName d.node) ds
dot_names [] all = tt
dot_names (d ∷ ds) all = (all.0.node, dot_names ds all.1)

count_fits : (n : ℕ) → IsCount n → n < 2 ^ 64
count_fits n is = let m = is.most in omega (arith, m)

-- it is the delta's one text
pub delta_is : (from to : Bytes) (n : ℕ) (s : State) (context : Context) (bare text : Bytes) (texts : List Bytes) (b : IsBare context from to n bare) → AreRows s.rows texts → s.context ≡ context → IsWhole s
    → text ≡ whole (delta_front from n b.parts) texts (delta_back to) → IsTextOf IsDraftOf IsInRange text (Delta from to n s)
delta_is from to n s context bare text texts b are same is_whole text_is =
    let p : TableParts = record { vector = b.parts.vector; cloud = b.parts.cloud; rows = s.rows } in
    let cut : IsCut s p = record {
      vector = subst (λ c. IsVector (has c) b.parts.vector) (sym same) b.is_vector;
      cloud = subst (λ c. IsCloud (has c) b.parts.cloud) (sym same) b.is_cloud;
      rows = refl;
    } in
    let formed = b.formed in
    let written : AreWritten p = record { vector = note_names b.parts.vector formed.2.vector; cloud = dot_names b.parts.cloud formed.2.cloud; rows = each_written s.rows are.written } in
    let are_parts = parts_formed s p is_whole.counted is_whole.covered cut written in
    let fit = parts_fit s p cut are_parts in
    let fits = count_fits n formed.1 in
    let d = value_of (delta from to n p) in
    let compact : text ≡ compact_text d = text_is ∙ ap (λ ts. whole (delta_front from n p) ts (delta_back to)) are.same ∙ sym (delta_parts from to n p) in
    record {
      draft = delta from to n p;
      same = (p, cut, refl);
      compact = compact;
      json = subst (λ t. IsJson t d) (sym compact) (is_json d (delta_texts from to n p formed.0.sender formed.0.receiver fits written fit) (delta_reads from to n p fits fit));
      formed = λ range. (record { sender = formed.0.sender; receiver = formed.0.receiver; differ = range.0 }, range.1, are_parts);
    }

-- ---- what stands before its rows

cut_at : (front back : Bytes) → take (length (front ++ 91 ∷ 93 ∷ back) - length back - 2) (front ++ 91 ∷ 93 ∷ back) ≡ front
cut_at front back =
    let long = length-append front (91 ∷ 93 ∷ back) in
    let many : length (front ++ 91 ∷ 93 ∷ back) - length back - 2 ≡ length front = omega (arith, long) in
    ap (λ k. take k (front ++ 91 ∷ 93 ∷ back)) many ∙ take-append_seam front (91 ∷ 93 ∷ back)

front_is : (context : Context) (from to : Bytes) (n : ℕ) (bare front back : Bytes) (behind : ℕ) (b : IsBare context from to n bare) → back ≡ delta_back to → behind ≡ length back → front ≡ take (length bare - behind - 2) bare
    → front ≡ delta_front from n b.parts
front_is context from to n bare front back behind b same many is =
    let text : bare ≡ delta_front from n b.parts ++ 91 ∷ 93 ∷ delta_back to =
    b.compact ∙ delta_parts from to n b.parts ∙ ap (λ rows. whole (delta_front from n b.parts) (map row_text rows) (delta_back to)) b.no_rows in
    is ∙ ap₂ (λ k t. take (length t - k - 2) t) (many ∙ ap length same) text ∙ cut_at (delta_front from n b.parts) (delta_back to)

-- all items of an array
all_items : (items : List Bytes) (count : ℕ) → count ≡ length items → [] ++ slice_range items 0 count ≡ items
all_items items count is = let all : count - 0 ≡ length items = omega (arith, is) in ap (λ k. take k items) all ∙ take-length items

-- the text round the items
pub delta_made : (context : Context) (from to : Bytes) (n : ℕ) (bare front back behind_text text : Bytes) (behind count : ℕ) (texts : List Bytes) (begun made : ArrayBegun) (shown_text : ArrayShown) (b : IsBare context from to n bare) → back ≡ delta_back to
    → behind ≡ length back → front ≡ take (length bare - behind - 2) bare → begun ≡ record { front = front; items = [] } → count ≡ length texts → made ≡ record begun { items = begun.items ++ slice_range texts 0 count } → behind_text ≡ back
    → shown_text ≡ record { text = whole made.front made.items behind_text; items = made.items } → text ≡ shown_text.text → text ≡ whole (delta_front from n b.parts) texts (delta_back to)
delta_made context from to n bare front back behind_text text behind count texts begun made shown_text b back_same many front_same begun_is all made_is behind_is shown_is text_is =
    let fronts : made.front ≡ delta_front from n b.parts =
    ap (λ (m : ArrayBegun). m.front) made_is ∙ ap (λ (m : ArrayBegun). m.front) begun_is ∙ front_is context from to n bare front back behind b back_same many front_same in
    let items : made.items ≡ texts =
    ap (λ (m : ArrayBegun). m.items) made_is ∙ ap (λ (m : ArrayBegun). m.items ++ slice_range texts 0 count) begun_is ∙ all_items texts count all in
    let backs : behind_text ≡ delta_back to = behind_is ∙ back_same in
    text_is ∙ ap (λ (t : ArrayShown). t.text) shown_is ∙ (λ i. whole (fronts i) (items i) (backs i))

-- ---- a delta with no rows

pub bare_is : (context made nothing : Context) (from to : Bytes) (n : ℕ) (d : State) (rows : List Row) (text : Bytes) → IsTextOf IsDraftOf IsInRange text (Delta from to n d) → from ≢ to → IsCount n → d ≡ with_rows made rows → rows ≡ []
    → has made ≡ (λ x. has context x || has nothing x) → ((x : Dot) → has nothing x ≡ false) → IsBare context from to n text
bare_is context made nothing from to n d rows text t differ counted is none joins empty =
    let state : d ≡ with_rows made [] = is ∙ ap (with_rows made) none in
    let knows : has d.context ≡ has context = λ i x. (ap (λ (s : State). has s.context x) state ∙ ap (λ f. f x) joins ∙ ap (λ b. has context x || b) (empty x) ∙ or-false (has context x)) i in
    record {
      parts = t.same.0;
      is_vector = subst (λ h. IsVector h t.same.0.vector) knows t.same.1.vector;
      is_cloud = subst (λ h. IsCloud h t.same.0.cloud) knows t.same.1.cloud;
      no_rows = t.same.1.rows ∙ ap (λ (s : State). s.rows) state;
      compact = t.compact ∙ ap (λ x. compact_text (value_of x)) t.same.2;
      formed = subst (λ x. IsFormed Two x) t.same.2 (t.formed (differ, counted));
    }

-- ---- what is written behind the rows

print_behind : (a to b two : Bytes) → print (key a ∷ string to ∷ key b ∷ number two ∷ end_object ∷ []) ≡ quoted a ++ 58 ∷ (quoted to ++ 44 ∷ (quoted b ++ 58 ∷ (two ++ 125 ∷ [])))
unfolding print_from
print_behind a to b two = append_assoc (quoted a) (58 ∷ []) (quoted to ++ 44 ∷ ((quoted b ++ 58 ∷ []) ++ (two ++ 125 ∷ []))) ∙ ap (λ t. quoted a ++ 58 ∷ (quoted to ++ 44 ∷ t)) (append_assoc (quoted b) (58 ∷ []) (two ++ 125 ∷ []))

pub back_written : (o o1 o2 o3 o4 o5 : Written) (to none comma all : Bytes) → none ≡ [] → comma ≡ none ++ 44 ∷ [] → o.before ≡ comma → o.tokens ≡ [] → o1.before ≡ o.before → o1.tokens ≡ o.tokens ++ key (codes "to") ∷ [] → o2.before ≡ o1.before → o2.tokens ≡ o1.tokens ++ string to ∷ []
    → o3.before ≡ o2.before → o3.tokens ≡ o2.tokens ++ key (codes "v") ∷ [] → o4.before ≡ o3.before → o4.tokens ≡ o3.tokens ++ number (decimal 2) ∷ [] → o5.before ≡ o4.before → o5.tokens ≡ o4.tokens ++ end_object ∷ [] → all ≡ o5.before ++ print o5.tokens → all ≡ delta_back to
back_written o o1 o2 o3 o4 o5 to none comma all n0 c0 b0 t0 b1 t1 b2 t2 b3 t3 b4 t4 b5 t5 is =
    let before : o5.before ≡ 44 ∷ [] = b5 ∙ b4 ∙ b3 ∙ b2 ∙ b1 ∙ b0 ∙ c0 ∙ ap (λ x. x ++ 44 ∷ []) n0 in
    let tokens : o5.tokens ≡ key (codes "to") ∷ string to ∷ key (codes "v") ∷ number (decimal 2) ∷ end_object ∷ [] =
    t5 ∙ ap (λ ts. ts ++ end_object ∷ []) (t4 ∙ ap (λ ts. ts ++ number (decimal 2) ∷ []) (t3 ∙ ap (λ ts. ts ++ key (codes "v") ∷ []) (t2 ∙ ap (λ ts. ts ++ string to ∷ []) (t1 ∙ ap (λ ts. ts ++ key (codes "to") ∷ []) t0)))) in
    is ∙ ap₂ (λ x ts. x ++ print ts) before tokens ∙ ap (λ x. 44 ∷ x) (print_behind (codes "to") to (codes "v") (decimal 2))
