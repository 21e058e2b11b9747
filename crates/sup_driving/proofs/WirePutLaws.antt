-- The links of a driver, once more was put.
use Rattle.std.proofs.Common.{◌≡◌, ℕ, List, [], ◌∷◌, ◌++◌, length, take, drop, Option, None, Some, Ok, Err, append_assoc, append-nil, refl, ap, ◌∙◌, sym}
use Rattle.std.specs.Prelude.{option_to_list}
use Rattle.std.specs.List.{AllZip, AllByRecursion}
use Rattle.std.proofs.lemmas.Grind.{flat_map-append}
use Rattle.sup_specs.specs.Values.{Bytes}
use Rattle.sup_replica.specs.declared.letter.Letter.{Letter}
use Rattle.sup_node_gate.specs.declared.entry.Entry.{Entry}
use Rattle.sup_node_gate.specs.declared.view.View.{View}
use Rattle.sup_node_gate.specs.Histories.{StationAnswer, letter_in, letters_of}
use Rattle.sup_links.specs.declared.link_in.Sent.{Sent}
use Rattle.sup_links.specs.Ends.{put_of}
use Rattle.sup_plan.specs.Calls.{text_to, letter_to, letters_to}
use Rattle.sup_driving.specs.declared.wires.Wire.{Wire}
use Rattle.sup_driving.specs.Called.{SeesMore}
use Rattle.sup_driving.specs.Teams.{HasSent}
use Rattle.sup_driving.specs.Wires.{IsLater, HasPut, HavePut, HasLetters, HaveLetters, HaveShipped, IsEnded, IsUnused, texts_to}

pub later_same : (w : Wire) → IsLater w w
later_same w = record { to = refl; link = refl; script = refl }

pub later_then : (u v w : Wire) → IsLater u v → IsLater v w → IsLater u w
later_then u v w p q = record { to = q.to ∙ p.to; link = q.link ∙ p.link; script = q.script ∙ p.script }

pub all_same : (ws : List Wire) → AllZip IsLater ws ws
all_same [] = tt
all_same (w ∷ ws) = (later_same w, all_same ws)

pub all_later : (us vs ws : List Wire) → AllZip IsLater us vs → AllZip IsLater vs ws → AllZip IsLater us ws
all_later [] [] [] p q = tt
all_later [] [] (w ∷ ws) p q = absurd q
all_later [] (v ∷ vs) ws p q = absurd p
all_later (u ∷ us) [] ws p q = absurd p
all_later (u ∷ us) (v ∷ vs) [] p q = absurd q
all_later (u ∷ us) (v ∷ vs) (w ∷ ws) p q = (later_then u v w p.0 q.0, all_later us vs ws p.1 q.1)

pub put_later : (letters : List Letter) (us vs : List Wire) → AllZip (HavePut letters) us vs → AllZip IsLater us vs
put_later letters [] [] p = tt
put_later letters [] (v ∷ vs) p = absurd p
put_later letters (u ∷ us) [] p = absurd p
put_later letters (u ∷ us) (v ∷ vs) p = (p.0.later, put_later letters us vs p.1)

-- where there is no letter, nothing is put
pub none_put : (ws : List Wire) → AllZip (HavePut []) ws ws
none_put [] = tt
none_put (w ∷ ws) = (record { later = later_same w; put = sym (append-nil (put_of w.entry)) }, none_put ws)

texts_more : (name : Bytes) (letters : List Letter) (letter : Letter) → texts_to name (letters ++ letter ∷ []) ≡ texts_to name letters ++ text_to name (Some letter)
texts_more name letters letter =
    flat_map-append (λ (l : Letter). text_to name (Some l)) letters (letter ∷ []) ∙ ap (λ l. texts_to name letters ++ l) (append-nil (text_to name (Some letter)))

one_more : (letters : List Letter) (letter : Letter) (u v w : Wire) → HavePut letters u v → HasPut letter v w → HavePut (letters ++ letter ∷ []) u w
one_more letters letter u v w p q = record {
  later = later_then u v w p.later q.later;
  put = q.put
      ∙ (ap (λ n. put_of v.entry ++ text_to n (Some letter)) p.later.to
      ∙ (ap (λ l. l ++ text_to u.to (Some letter)) p.put
      ∙ (append_assoc (put_of u.entry) (texts_to u.to letters) (text_to u.to (Some letter)) ∙ ap (λ l. put_of u.entry ++ l) (sym (texts_more u.to letters letter)))));
}

-- a letter more was put
pub put_more : (letters : List Letter) (letter : Letter) (us vs ws : List Wire) → AllZip (HavePut letters) us vs → AllZip (HasPut letter) vs ws → AllZip (HavePut (letters ++ letter ∷ [])) us ws
put_more letters letter [] [] [] p q = tt
put_more letters letter [] [] (w ∷ ws) p q = absurd q
put_more letters letter [] (v ∷ vs) ws p q = absurd p
put_more letters letter (u ∷ us) [] ws p q = absurd p
put_more letters letter (u ∷ us) (v ∷ vs) [] p q = absurd q
put_more letters letter (u ∷ us) (v ∷ vs) (w ∷ ws) p q = (one_more letters letter u v w p.0 q.0, put_more letters letter us vs ws p.1 q.1)

text_of : (name : Bytes) (letter : Option Letter) → text_to name letter ≡ texts_to name (option_to_list letter)
text_of name None = refl
text_of name (Some letter) = sym (append-nil (text_to name (Some letter)))

text_in : (name : Bytes) (r : StationAnswer) → letter_to name r ≡ texts_to name (letter_in r)
text_in name (Ok done) = text_of name done.out
text_in name (Err r) = refl

-- the letters to a node, of answers, are those of their letters that are to it
texts_of : (name : Bytes) (es : List Entry) → letters_to name es ≡ texts_to name (letters_of es)
texts_of name [] = refl
texts_of name (e ∷ es) = (λ i. text_in name e.answer i ++ texts_of name es i) ∙ sym (flat_map-append (λ (l : Letter). text_to name (Some l)) (letter_in e.answer) (letters_of es))

behind : {X : Type 0} (xs ys : List X) → drop (length xs) (xs ++ ys) ≡ ys
behind [] ys = refl
behind (x ∷ xs) ys = behind xs ys

one_shipped : (front rest all : List Entry) (letters : List Letter) (u v : Wire) → all ≡ front ++ rest → letters ≡ letters_of rest → HasLetters front u → HavePut letters u v → HasLetters all v
one_shipped front rest all letters u v whole are h p =
    p.put
    ∙ ((λ i. h i ++ texts_to u.to (are i))
    ∙ (ap (λ l. letters_to u.to front ++ l) (sym (texts_of u.to rest))
    ∙ (sym (flat_map-append (λ (e : Entry). letter_to u.to e.answer) front rest) ∙ (λ i. letters_to (sym p.later.to i) (sym whole i)))))

each_shipped : (front rest all : List Entry) (letters : List Letter) (us vs : List Wire) → all ≡ front ++ rest → letters ≡ letters_of rest → HaveLetters front us → AllZip (HavePut letters) us vs → HaveLetters all vs
each_shipped front rest all letters [] [] whole are h p = tt
each_shipped front rest all letters [] (v ∷ vs) whole are h p = absurd p
each_shipped front rest all letters (u ∷ us) [] whole are h p = absurd p
each_shipped front rest all letters (u ∷ us) (v ∷ vs) whole are h p =
    (one_shipped front rest all letters u v whole are h.0 p.0, each_shipped front rest all letters us vs whole are h.1 p.1)

-- once the letters are put of all entries behind those whose letters were, all are
pub all_shipped : (n : ℕ) (v v' : View) (letters : List Letter) (us vs : List Wire) → SeesMore v v' → letters ≡ letters_of (drop n v'.seen) → HaveShipped n v.seen us → AllZip (HavePut letters) us vs → HaveLetters v'.seen vs
all_shipped n v v' letters us vs more are s p =
    let rest = s.begins.0 ++ more.0 in
    let whole : v'.seen ≡ s.front ++ rest = more.1 ∙ (ap (λ l. l ++ more.0) s.begins.1 ∙ append_assoc s.front s.begins.0 more.0) in
    each_shipped s.front rest v'.seen letters us vs whole (are ∙ ap letters_of ((λ i. drop (sym s.long i) (whole i)) ∙ behind s.front rest)) s.letters p

-- nothing is put yet
pub none_shipped : (seen : List Entry) (ws : List Wire) → AllByRecursion IsUnused ws → HaveShipped 0 seen ws
none_shipped seen ws unused = record { front = []; begins = (seen, refl); long = refl; letters = each ws unused }
  where
    each : (us : List Wire) → AllByRecursion IsUnused us → HaveLetters [] us
    each [] u = tt
    each (w ∷ us) u = (u.0, each us u.1)

-- the same, where more is seen since
pub shipped_later : (n : ℕ) (v v' : View) (ws : List Wire) → SeesMore v v' → HaveShipped n v.seen ws → HaveShipped n v'.seen ws
shipped_later n v v' ws more s = record {
  front = s.front;
  begins = (s.begins.0 ++ more.0, more.1 ∙ (ap (λ l. l ++ more.0) s.begins.1 ∙ append_assoc s.front s.begins.0 more.0));
  long = s.long;
  letters = s.letters;
}

-- all was put of what was seen, and more is seen since
pub shipped_more : (n : ℕ) (v v' : View) (ws : List Wire) → n ≡ length v.seen → HaveLetters v.seen ws → SeesMore v v' → HaveShipped n v'.seen ws
shipped_more n v v' ws long h more = record { front = v.seen; begins = more; long = sym long; letters = h }

sent_one : (es : List Entry) (u v : Wire) (s : Sent) → IsLater u v → IsEnded v s → HasLetters es v → HasSent es u s
sent_one es u v s p e h = record {
  link = e.link ∙ p.link;
  script = e.script ∙ p.script;
  letters = e.put ∙ (h ∙ ap (λ n. letters_to n es) p.to);
}

-- what was sent, once the links are ended
pub sent_all : (es : List Entry) (us vs : List Wire) (ss : List Sent) → AllZip IsLater us vs → AllZip IsEnded vs ss → HaveLetters es vs → AllZip (HasSent es) us ss
sent_all es [] [] [] p e h = tt
sent_all es [] [] (s ∷ ss) p e h = absurd e
sent_all es [] (v ∷ vs) ss p e h = absurd p
sent_all es (u ∷ us) [] ss p e h = absurd p
sent_all es (u ∷ us) (v ∷ vs) [] p e h = absurd e
sent_all es (u ∷ us) (v ∷ vs) (s ∷ ss) p e h = (sent_one es u v s p.0 e.0 h.0, sent_all es us vs ss p.1 e.1 h.1)

-- a list that was lent whole, and given back as long as it was
pub whole : (us vs : List Wire) → AllZip IsLater us vs → take (length us) (vs ++ drop (length vs) us) ≡ vs
whole [] [] p = refl
whole [] (v ∷ vs) p = absurd p
whole (u ∷ us) [] p = absurd p
whole (u ∷ us) (v ∷ vs) p = ap (λ l. v ∷ l) (whole us vs p.1)
