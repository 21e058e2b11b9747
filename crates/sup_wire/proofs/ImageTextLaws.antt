-- An image's text by its parts is the image's one text.
use Rattle.std.proofs.Common.{◌≡◌, ℕ, zero, suc, lit<, ◌<◌, ◌^◌, true, List, [], ◌∷◌, ◌++◌, drop, map, codes, decimal, IsUtf8, refl, sym, ap, subst, ◌∙◌, append_assoc, arith}
use Rattle.std.specs.List.{AllByRecursion}
use Rattle.std.specs.Str.{IsAscii}
use Rattle.std.proofs.lemmas.Str.{IsUtf8-from_ascii}
use Rattle.std.proofs.lemmas.Bool.Decides.{nat_tests}
use Rattle.std.proofs.lemmas.List.Elements.{recursion_from_All}
use Rattle.json.specs.Print.{quoted}
use Rattle.json.proofs.Printed.Utf8.{IsUtf8-are_ascii}
use Rattle.serde_json.specs.View.{items_of}
use Rattle.serde_json.specs.Written.{compact_text, items_text}
use Rattle.sup_specs.specs.Values.{Bytes}
use Rattle.sup_specs.specs.Texts.{IsText, is_visible_byte}
use Rattle.sup_specs.specs.declared.texts.Alphabet.TheVariants.{Visible}
use Rattle.sup_specs.specs.declared.child.Restart.{Restart}
use Rattle.sup_specs.specs.declared.child.Restart.TheVariants.{Permanent, Transient, Temporary}
use Rattle.sup_specs.specs.declared.child.Shutdown.{Shutdown}
use Rattle.sup_specs.specs.declared.child.Shutdown.TheVariants.{Brutal, Millis, Infinity}
use Rattle.sup_specs.specs.declared.child.Status.{Status}
use Rattle.sup_specs.specs.declared.child.Status.TheVariants.{Open, Draining}
use Rattle.sup_specs.proofs.TextLemmas.{utf8_name}
use Rattle.sup_causal.specs.declared.dot.Dot.{Dot}
use Rattle.sup_causal.specs.Dots.{has, IsCounted}
use Rattle.sup_tables.specs.declared.row.Entry.{Entry}
use Rattle.sup_tables.specs.declared.row.Entry.TheVariants.{Member, Child, Name}
use Rattle.sup_tables.specs.declared.row.Row.{Row}
use Rattle.sup_tables.specs.Rows.{row_of}
use Rattle.sup_tables.specs.States.{HasDotsOf}
use Rattle.sup_array_text.specs.Arrays.{joined, whole}
use Rattle.sup_wire.specs.declared.image.Image.{Image}
use Rattle.sup_wire.specs.declared.version.Version.TheVariants.{Two}
use Rattle.sup_wire.specs.Drafts.{TableParts, image, IsCut, IsDraftOfImage}
use Rattle.sup_wire.specs.Faults.{IsJson, IsTextOf, IsImageInRange}
use Rattle.sup_wire.specs.Forms.{IsName, IsShutdown, IsEntry, IsWritten, AreWritten, IsRow, dot_value, vector_members, restart_value, shutdown_value, status_value, row_value, rows_value, value_of, context_value}
use Rattle.sup_wire.specs.RowTexts.{row_text}
use Rattle.sup_wire.specs.ImageTexts.{image_front, image_back}
use Rattle.sup_wire.proofs.Formed.{parts_formed, parts_fit, image_back as image_reads}
use Rattle.sup_wire.proofs.Readable.{Fits, RowFits, PartsFit}
use Rattle.sup_wire.proofs.TextReads.{AreTexts, ItemTexts, MemberTexts, utf8, is_json}

later_rows : (rows : List Row) → items_text true (items_of (map (row_value Two) rows)) ≡ joined (map row_text rows) ++ 93 ∷ []
later_rows [] = refl
later_rows (r ∷ rs) = ap (λ t. 44 ∷ (row_text r ++ t)) (later_rows rs) ∙ ap (λ t. 44 ∷ t) (sym (append_assoc (row_text r) (joined (map row_text rs)) (93 ∷ [])))

-- the array of rows, as the codec writes it
pub array_text : (rows : List Row) → compact_text (rows_value Two rows) ≡ 91 ∷ (drop 1 (joined (map row_text rows)) ++ 93 ∷ [])
array_text [] = refl
array_text (r ∷ rs) = ap (λ t. 91 ∷ (row_text r ++ t)) (later_rows rs) ∙ ap (λ t. 91 ∷ t) (sym (append_assoc (row_text r) (joined (map row_text rs)) (93 ∷ [])))

parts : (a b c d e f g x1 x2 x3 x4 x5 j x7 : Bytes)
    → 123 ∷ (a ++ 58 ∷ (x1 ++ 44 ∷ (b ++ 58 ∷ (x2 ++ 44 ∷ (c ++ 58 ∷ (x3 ++ 44 ∷ (d ++ 58 ∷ (x4 ++ 44 ∷ (e ++ 58 ∷ (x5 ++ 44 ∷ (f ++ 58 ∷ ((91 ∷ (j ++ 93 ∷ [])) ++ 44 ∷ (g ++ 58 ∷ (x7 ++ 125 ∷ []))))))))))))))
    ≡ (123 ∷ ((a ++ 58 ∷ (x1 ++ 44 ∷ [])) ++ ((b ++ 58 ∷ (x2 ++ 44 ∷ [])) ++ ((c ++ 58 ∷ (x3 ++ 44 ∷ [])) ++ ((d ++ 58 ∷ (x4 ++ 44 ∷ [])) ++ ((e ++ 58 ∷ (x5 ++ 44 ∷ [])) ++ (f ++ 58 ∷ []))))))) ++ 91 ∷ (j ++ 93 ∷ 44 ∷ (g ++ 58 ∷ (x7 ++ 125 ∷ [])))
parts a b c d e f g x1 x2 x3 x4 x5 j x7 = simp append_assoc

-- an image's text is what stands before its rows, their array, and what stands behind
pub image_text : (node : Bytes) (boot count : ℕ) (p : TableParts) → compact_text (value_of (image node boot count p)) ≡ whole (image_front node boot count p) (map row_text p.rows) image_back
image_text node boot count p =
    ap (λ t. 123 ∷ (quoted (codes "boot") ++ 58 ∷ (decimal boot ++ 44 ∷ (quoted (codes "count") ++ 58 ∷ (decimal count ++ 44 ∷ (quoted (codes "ctx") ++ 58 ∷ (compact_text (context_value p) ++ 44 ∷ (quoted (codes "kind") ++ 58 ∷ (quoted (codes "image")
    ++ 44 ∷ (quoted (codes "node") ++ 58 ∷ (quoted node ++ 44 ∷ (quoted (codes "rows") ++ 58 ∷ (t ++ 44 ∷ (quoted (codes "v") ++ 58 ∷ (decimal 2 ++ 125 ∷ [])))))))))))))))
    (array_text p.rows)
    ∙ parts (quoted (codes "boot")) (quoted (codes "count")) (quoted (codes "ctx")) (quoted (codes "kind")) (quoted (codes "node")) (quoted (codes "rows")) (quoted (codes "v"))
    (decimal boot) (decimal count) (compact_text (context_value p)) (quoted (codes "image")) (quoted node) (drop 1 (joined (map row_text p.rows))) (decimal 2)

-- ---- strings and numbers of an image

visible_low : (b : ℕ) → is_visible_byte b ≡ true → b < 128
visible_low b e = grind (arith, nat_tests)

utf8_visible : (least most : ℕ) (text : Bytes) → IsText Visible least most text → IsUtf8 text
utf8_visible least most text is = IsUtf8-from_ascii text (ascii text (recursion_from_All (λ x. is_visible_byte x ≡ true) text is.each))
  where
    ascii : (bs : Bytes) → AllByRecursion (λ x. is_visible_byte x ≡ true) bs → IsAscii bs
    ascii [] h i = lit< tt
    ascii (b ∷ bs) h zero = visible_low b h.0
    ascii (b ∷ bs) h (suc i) = ascii bs h.1 i

pub vector_texts : (es : List (Bytes × ℕ)) → AllByRecursion (λ e. IsName e.0) es → AllByRecursion (λ e. Fits e.1) es → MemberTexts (vector_members es)
vector_texts [] names fits = tt
vector_texts (e ∷ es) names fits = (utf8_name 1 64 e.0 names.0, (fits.0, vector_texts es names.1 fits.1))

pub cloud_texts : (ds : List Dot) → AllByRecursion (λ d. IsName d.node) ds → AllByRecursion (λ d. Fits d.counter) ds → ItemTexts (items_of (map dot_value ds))
cloud_texts [] names fits = tt
cloud_texts (d ∷ ds) names fits = ((utf8_name 1 64 d.node names.0, (fits.0, tt)), cloud_texts ds names.1 fits.1)

restart_texts : (r : Restart) → AreTexts (restart_value r)
restart_texts Permanent = IsUtf8-are_ascii _ refl
restart_texts Transient = IsUtf8-are_ascii _ refl
restart_texts Temporary = IsUtf8-are_ascii _ refl

shutdown_texts : (s : Shutdown) → IsShutdown s → AreTexts (shutdown_value s)
shutdown_texts Brutal is = IsUtf8-are_ascii _ refl
shutdown_texts (Millis n) is = omega (arith, is)
shutdown_texts Infinity is = IsUtf8-are_ascii _ refl

status_texts : (s : Status) → AreTexts (status_value s)
status_texts Open = IsUtf8-are_ascii _ refl
status_texts Draining = IsUtf8-are_ascii _ refl

row_texts : (dot : Dot) (entry : Entry) → IsEntry Two entry → IsName dot.node → Fits dot.counter → AreTexts (row_value Two (row_of dot entry))
row_texts dot (Member m info) is name fits =
    (IsUtf8-are_ascii _ refl, (utf8_name 1 64 m is.0, ((utf8_name 1 64 dot.node name, (fits, tt)), ((IsUtf8-are_ascii _ refl, (utf8_visible 0 1024 info.label is.1, (IsUtf8-are_ascii _ refl, (status_texts info.status, tt)))), tt))))
row_texts dot (Child id spec) is name fits = (
  IsUtf8-are_ascii _ refl,
  (
    utf8_visible 1 128 id is.0,
    (
      (utf8_name 1 64 dot.node name, (fits, tt)),
      ((IsUtf8-are_ascii _ refl, (utf8_visible 0 1024 spec.arg is.1.arg, (IsUtf8-are_ascii _ refl, (utf8_visible 1 128 spec.kind is.1.kind, (IsUtf8-are_ascii _ refl, (restart_texts spec.restart, (IsUtf8-are_ascii _ refl, (shutdown_texts spec.shutdown is.1.shutdown, tt)))))))), tt),
    ),
  ),
)
row_texts dot (Name name id) is node fits =
    (IsUtf8-are_ascii _ refl, (utf8_visible 1 128 name is.0, ((utf8_name 1 64 dot.node node, (fits, tt)), (utf8_visible 1 128 id is.1, tt))))

pub row_utf8 : (r : Row) → IsWritten r → r.dot.counter < 2 ^ 64 → IsUtf8 (row_text r)
row_utf8 r written fits = utf8 (row_value Two r) (row_texts r.dot r.entry written.0 written.1 fits)

pub rows_texts : (rows : List Row) → AllByRecursion IsWritten rows → AllByRecursion RowFits rows → ItemTexts (items_of (map (row_value Two) rows))
rows_texts [] written fits = tt
rows_texts (r ∷ rs) written fits = (row_texts r.dot r.entry written.0.0 written.0.1 fits.0.0, rows_texts rs written.1 fits.1)

image_texts : (node : Bytes) (boot count : ℕ) (p : TableParts) → IsName node → Fits boot → Fits count → AreWritten p → PartsFit p → AreTexts (value_of (image node boot count p))
image_texts node boot count p name fb fc written fit = (
  IsUtf8-are_ascii _ refl,
  (
    fb,
    (
      IsUtf8-are_ascii _ refl,
      (
        fc,
        (
          IsUtf8-are_ascii _ refl,
          (
            (IsUtf8-are_ascii _ refl, (cloud_texts p.cloud written.cloud fit.cloud, (IsUtf8-are_ascii _ refl, (vector_texts p.vector written.vector fit.vector, tt)))),
            (IsUtf8-are_ascii _ refl, (IsUtf8-are_ascii _ refl, (IsUtf8-are_ascii _ refl, (utf8_name 1 64 node name, (IsUtf8-are_ascii _ refl, (rows_texts p.rows written.rows fit.rows, (IsUtf8-are_ascii _ refl, (lit< tt, tt)))))))),
          ),
        ),
      ),
    ),
  ),
)

-- the text that is put together is the image's one text
pub text_is : (i : Image) (p : TableParts) (text : Bytes) → ((d : Dot) → has i.state.context d ≡ true → IsCounted d) → HasDotsOf i.state.context i.state.rows → IsCut i.state p → AreWritten p → IsName i.node → i.boot < 2 ^ 64 → i.count < 2 ^ 64
    → text ≡ whole (image_front i.node i.boot i.count p) (map row_text p.rows) image_back → IsTextOf IsDraftOfImage IsImageInRange text i
text_is i p text counted covered cut written name fb fc same =
    let formed = parts_formed i.state p counted covered cut written in
    let fit = parts_fit i.state p cut formed in
    let d = value_of (image i.node i.boot i.count p) in
    let compact : text ≡ compact_text d = same ∙ sym (image_text i.node i.boot i.count p) in
    record {
      draft = image i.node i.boot i.count p;
      same = (p, cut, refl);
      compact = compact;
      json = subst (λ t. IsJson t d) (sym compact) (is_json d (image_texts i.node i.boot i.count p name fb fc written fit) (image_reads i.node i.boot i.count p fb fc fit));
      formed = λ range. (name, range.0, range.1, formed);
    }

-- rows whose counters are in their limits
pub fitting : (rows : List Row) → AllByRecursion (IsRow Two) rows → AllByRecursion (λ r. IsWritten r × (r.dot.counter < 2 ^ 64)) rows
fitting [] all = tt
fitting (r ∷ rs) all = (((all.0.0, all.0.1.node), let m = all.0.1.counter.most in omega (arith, m)), fitting rs all.1)
