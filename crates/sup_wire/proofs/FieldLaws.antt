-- Fields: what is read was written so, and what is written so is read.
use Rattle.std.proofs.Common.{◌≡◌, ◌≢◌, ◌≤◌, ◌⊎◌, inl, inr, ℕ, Bool, true, false, ◌&&◌, cond, List, [], ◌∷◌, Option, Some, None, codes, refl, sym, ap, ap₂, subst, ◌∙◌}
use Rattle.std.specs.Prelude.{option_and_then, bytes_eq, nat_le}
use Rattle.std.proofs.lemmas.Option.{option_and_then_some, same_Some, none-some, cond_some}
use Rattle.std.proofs.lemmas.Slice.Eq.{bytes_eq-Decides}
use Rattle.sup_specs.specs.Values.{Bytes}
use Rattle.serde_json.specs.Data.{Data, null, boolean, number, unsigned, negative, float, string, array, object, Members, no_members, member}
use Rattle.serde_json.specs.Find.{get, as_str}
use Rattle.sup_specs.specs.Texts.{IsText, text_fault}
use Rattle.sup_specs.specs.declared.texts.Alphabet.TheVariants.{NodeBytes, Visible}
use Rattle.std.proofs.lemmas.Bool.{and_parts, leb-true, le-leb, false≢true, false_from_ne_true}
use Rattle.sup_specs.specs.declared.texts.TextFault.{TextFault}
use Rattle.sup_specs.proofs.TextLemmas.{text_from_no_fault, no_fault_from_text}
use Rattle.sup_wire.specs.Forms.{count_value, IsName, AreEnds}
use Rattle.sup_wire.specs.Faults.{version_at}
use Rattle.sup_wire.specs.FieldReads.{are_keys, has_just, unfaulted, name_at, text_at, number_at, within_at, name_in, within_in, text_in, ends_at, kind_at}

pub as_str-string : (d : Data) (s : Bytes) → as_str d ≡ Some s → d ≡ string s
as_str-string null s e = absurd (none-some s e)
as_str-string (boolean b) s e = absurd (none-some s e)
as_str-string (number n) s e = absurd (none-some s e)
as_str-string (string t) s e = ap string (same_Some t s e)
as_str-string (array ds) s e = absurd (none-some s e)
as_str-string (object ms) s e = absurd (none-some s e)

pub number_at-count : (d : Data) (n : ℕ) → number_at d ≡ Some n → d ≡ count_value n
number_at-count null n e = absurd (none-some n e)
number_at-count (boolean b) n e = absurd (none-some n e)
number_at-count (number (unsigned m)) n e = ap count_value (same_Some m n e)
number_at-count (number (negative z)) n e = absurd (none-some n e)
number_at-count (number (float x)) n e = absurd (none-some n e)
number_at-count (string t) n e = absurd (none-some n e)
number_at-count (array ds) n e = absurd (none-some n e)
number_at-count (object ms) n e = absurd (none-some n e)

pub unfaulted-some : (f : Option TextFault) (t s : Bytes) → unfaulted f t ≡ Some s → (f ≡ None) × (t ≡ s)
unfaulted-some None t s e = (refl, same_Some t s e)
unfaulted-some (Some fault) t s e = absurd (none-some s e)

pub name_takes : (d : Data) (s : Bytes) → name_at d ≡ Some s → (d ≡ string s) × IsName s
unfolding name_at
name_takes d s e =
    option_and_then_some _ (as_str d) s e (λ t is rest.
    let p = unfaulted-some (text_fault NodeBytes 1 64 t) t s rest in
    (as_str-string d t is ∙ ap string p.1, subst IsName p.1 (text_from_no_fault NodeBytes 1 64 t p.0)))

pub name_again : (s : Bytes) → IsName s → name_at (string s) ≡ Some s
unfolding name_at
name_again s is = ap (λ f. unfaulted f s) (no_fault_from_text NodeBytes 1 64 s is)

pub text_takes : (least most : ℕ) (d : Data) (s : Bytes) → text_at least most d ≡ Some s → (d ≡ string s) × IsText Visible least most s
unfolding text_at
text_takes least most d s e =
    option_and_then_some _ (as_str d) s e (λ t is rest.
    let p = unfaulted-some (text_fault Visible least most t) t s rest in
    (as_str-string d t is ∙ ap string p.1, subst (IsText Visible least most) p.1 (text_from_no_fault Visible least most t p.0)))

pub text_again : (least most : ℕ) (s : Bytes) → IsText Visible least most s → text_at least most (string s) ≡ Some s
unfolding text_at
text_again least most s is = ap (λ f. unfaulted f s) (no_fault_from_text Visible least most s is)

barred : {A : Type 0} (b : Bool) (x y : A) → cond b None (Some x) ≡ Some y → (b ≡ false) × (x ≡ y)
barred true x y e = absurd (none-some y e)
barred false x y e = (refl, same_Some x y e)

pub within_takes : (least most : ℕ) (d : Data) (n : ℕ) → within_at least most d ≡ Some n → (d ≡ count_value n) × (least ≤ n) × (n ≤ most)
unfolding within_at
within_takes least most d n e =
    option_and_then_some _ (number_at d) n e (λ m is rest.
    let p = cond_some (nat_le least m && nat_le m most) m n rest in
    let q = and_parts (nat_le least m) (nat_le m most) p.0 in
    (number_at-count d m is ∙ ap count_value p.1, subst (λ k. least ≤ k) p.1 (leb-true least m q.0), subst (λ k. k ≤ most) p.1 (leb-true m most q.1)))

pub within_again : (least most n : ℕ) → least ≤ n → n ≤ most → within_at least most (count_value n) ≡ Some n
unfolding within_at
within_again least most n low high = rw (le-leb least n low, le-leb n most high)

-- ---- fields

-- of some members with these keys
abbrev pub AreFields : List Bytes → (Members → Type 0) → Type 0
AreFields [] P = P no_members
AreFields (name ∷ names) P = (d : Data) × AreFields names (λ ms. P (member name d ms))

fields_map : (names : List Bytes) (P Q : Members → Type 0) → ((ms : Members) → P ms → Q ms) → AreFields names P → AreFields names Q
fields_map [] P Q f p = f no_members p
fields_map (name ∷ names) P Q f p = (p.0, fields_map names (λ ms. P (member name p.0 ms)) (λ ms. Q (member name p.0 ms)) (λ ms. f (member name p.0 ms)) p.1)

keyed : (names : List Bytes) (ms : Members) → are_keys names ms ≡ true → AreFields names (λ fields. ms ≡ fields)
keyed [] no_members e = refl
keyed [] (member k d ms) e = absurd (false≢true e)
keyed (name ∷ names) no_members e = absurd (false≢true e)
keyed (name ∷ names) (member k d ms) e =
    let p = and_parts (bytes_eq name k) (are_keys names ms) e in
    let same : name ≡ k = (bytes_eq-Decides name k).0 p.0 in
    (d, fields_map names (λ fields. ms ≡ fields) (λ fields. member k d ms ≡ member name d fields) (λ fields h. ap₂ (λ l rest. member l d rest) (sym same) h) (keyed names ms p.1))

pub just : (names : List Bytes) (d : Data) → has_just names d ≡ true → AreFields names (λ fields. d ≡ object fields)
unfolding has_just
just names null e = absurd (false≢true e)
just names (boolean b) e = absurd (false≢true e)
just names (number n) e = absurd (false≢true e)
just names (string s) e = absurd (false≢true e)
just names (array ds) e = absurd (false≢true e)
just names (object ms) e = fields_map names (λ fields. ms ≡ fields) (λ fields. object ms ≡ object fields) (λ fields h. ap object h) (keyed names ms e)

pub name_in_takes : (field : Bytes) (d x : Data) (s : Bytes) → get field d ≡ Some x → name_in field d ≡ Some s → (x ≡ string s) × IsName s
unfolding name_in
name_in_takes field d x s there e = name_takes x s (sym (ap (λ o. option_and_then name_at o) there) ∙ e)

pub within_in_takes : (field : Bytes) (least most : ℕ) (d x : Data) (n : ℕ) → get field d ≡ Some x → within_in field least most d ≡ Some n → (x ≡ count_value n) × (least ≤ n) × (n ≤ most)
unfolding within_in
within_in_takes field least most d x n there e = within_takes least most x n (sym (ap (λ o. option_and_then (within_at least most) o) there) ∙ e)

pub differ : (a b : Bytes) → bytes_eq a b ≡ false → a ≢ b
differ a b e same = false≢true (sym e ∙ (bytes_eq-Decides a b).1 same)

pub ends_takes : (d x y : Data) (ends : Bytes × Bytes) → get (codes "from") d ≡ Some x → get (codes "to") d ≡ Some y → ends_at d ≡ Some ends
    → (x ≡ string ends.0) × (y ≡ string ends.1) × AreEnds ends.0 ends.1
unfolding ends_at
ends_takes d x y ends from_there to_there e =
    option_and_then_some _ (name_in (codes "from") d) ends e (λ from from_is rest.
    option_and_then_some _ (name_in (codes "to") d) ends rest (λ to to_is last.
    let p = barred (bytes_eq from to) (from, to) ends last in
    let f = name_in_takes _ d x from from_there from_is in
    let t = name_in_takes _ d y to to_there to_is in (
      f.0 ∙ ap (λ (q : Bytes × Bytes). string q.0) p.1,
      t.0 ∙ ap (λ (q : Bytes × Bytes). string q.1) p.1,
      subst (λ (q : Bytes × Bytes). AreEnds q.0 q.1) p.1 (record { sender = f.1; receiver = t.1; differ = differ from to p.0 }),
    )))

pub version_is : (d x : Data) (n : ℕ) → get (codes "v") d ≡ Some x → version_at d ≡ Some n → x ≡ count_value n
version_is d x n there e = number_at-count x n (sym (ap (λ o. option_and_then number_at o) there) ∙ e)

pub kind_is : (d x : Data) (kind : Bytes) → get (codes "kind") d ≡ Some x → kind_at d ≡ Some kind → x ≡ string kind
kind_is d x kind there e = as_str-string x kind (sym (ap (λ o. option_and_then as_str o) there) ∙ e)

pub not_equal : (a b : Bytes) → a ≢ b → bytes_eq a b ≡ false
not_equal a b h = false_from_ne_true (bytes_eq a b) (λ e. h ((bytes_eq-Decides a b).0 e))

pub ends_again : (d : Data) (from to : Bytes) → get (codes "from") d ≡ Some (string from) → get (codes "to") d ≡ Some (string to) → AreEnds from to → ends_at d ≡ Some (from, to)
unfolding ends_at name_in
ends_again d from to from_there to_there are =
    let apart : bytes_eq from to ≡ false = not_equal from to are.differ in
    rw (from_there, to_there, name_again from are.sender, name_again to are.receiver, apart)

pub within_in_again : (field : Bytes) (least most n : ℕ) (d : Data) → get field d ≡ Some (count_value n) → least ≤ n → n ≤ most → within_in field least most d ≡ Some n
unfolding within_in
within_in_again field least most n d there low high = rw there (within_again least most n low high)

pub text_in_takes : (field : Bytes) (least most : ℕ) (d x : Data) (s : Bytes) → get field d ≡ Some x → text_in field least most d ≡ Some s → (x ≡ string s) × IsText Visible least most s
unfolding text_in
text_in_takes field least most d x s there e = text_takes least most x s (sym (ap (λ o. option_and_then (text_at least most) o) there) ∙ e)

pub text_in_again : (field : Bytes) (least most : ℕ) (d : Data) (s : Bytes) → get field d ≡ Some (string s) → IsText Visible least most s → text_in field least most d ≡ Some s
unfolding text_in
text_in_again field least most d s there is = rw there (text_again least most s is)

pub chosen : {A : Type 0} (b : Bool) (x y z : A) → cond b x y ≡ z → ((b ≡ true) × (x ≡ z)) ⊎ ((b ≡ false) × (y ≡ z))
chosen true x y z e = inl (refl, e)
chosen false x y z e = inr (refl, e)

pub when : {A : Type 0} (b : Bool) (o : Option A) (x : A) → cond b o None ≡ Some x → (b ≡ true) × (o ≡ Some x)
when true o x h = (refl, h)
when false o x h = absurd (none-some x h)

pub same : (a b : Bytes) → bytes_eq a b ≡ true → a ≡ b
same a b h = (bytes_eq-Decides a b).0 h
