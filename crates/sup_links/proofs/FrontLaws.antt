-- What was taken, of what was put behind one another and then marked.
use Rattle.std.proofs.Common.{◌≡◌, Bool, true, List, [], ◌∷◌, ◌++◌, length, take, drop, Option, None, refl, ap, ◌∙◌, sym, append_assoc}
use Rattle.std.specs.Prelude.{if◌then◌else◌}
use Rattle.std.proofs.lemmas.List.{take-append-drop, take_at}
use Rattle.sup_links.specs.declared.channel.Parcel.{Parcel}
use Rattle.sup_links.specs.Texts.{said, on_way, mark, IsFront, Bytes}
use Rattle.sup_links.proofs.TextLaws.{said_more}

pub front_from : {X : Type 0} (front rest all : List X) → all ≡ front ++ rest → IsFront front all
front_from front rest all e = sym (ap (take (length front)) e ∙ take_at front rest (length front) refl)

pub rest_of : {X : Type 0} (front all : List X) → IsFront front all → all ≡ front ++ drop (length front) all
rest_of front all e = sym (take-append-drop (length front) all) ∙ ap (λ l. l ++ drop (length front) all) (sym e)

some_front : (taken all : List Bytes) (rest : List (Option Bytes)) → on_way all ++ mark ≡ on_way taken ++ rest → IsFront taken all
some_front [] all rest e = refl
some_front (x ∷ taken) [] rest e = cc
some_front (x ∷ taken) (y ∷ all) rest e = let head : x ≡ y = cc in let tail : on_way all ++ mark ≡ on_way taken ++ rest = cc in λ j. head j ∷ some_front taken all rest tail j

marked_whole : (taken all : List Bytes) (rest : List (Option Bytes)) → on_way all ++ mark ≡ on_way taken ++ None ∷ rest → taken ≡ all
marked_whole [] [] rest e = refl
marked_whole [] (y ∷ all) rest e = cc
marked_whole (x ∷ taken) [] rest e = cc
marked_whole (x ∷ taken) (y ∷ all) rest e = let head : x ≡ y = cc in let tail : on_way all ++ mark ≡ on_way taken ++ None ∷ rest = cc in λ j. head j ∷ marked_whole taken all rest tail j

-- what the pass took, and what then comes of all that is to go
module _ (put got rest : List Parcel) (taken all : List Bytes) (ended : Bool)
    (order : put ≡ got ++ rest) (begins : IsFront (said put) (on_way all ++ mark)) (marked : said got ≡ on_way taken ++ (if ended then mark else [])) where
  abbrev more : List (Option Bytes)
  more = said rest ++ drop (length (said put)) (on_way all ++ mark)

  whole_is : on_way all ++ mark ≡ (on_way taken ++ (if ended then mark else [])) ++ more
  whole_is = rest_of (said put) (on_way all ++ mark) begins
      ∙ (ap (λ l. l ++ drop (length (said put)) (on_way all ++ mark)) (ap said order ∙ said_more got rest)
      ∙ (append_assoc (said got) (said rest) (drop (length (said put)) (on_way all ++ mark)) ∙ ap (λ l. l ++ more) marked))

  pub met_front : IsFront taken all
  met_front = some_front taken all ((if ended then mark else []) ++ more) (whole_is ∙ append_assoc (on_way taken) (if ended then mark else []) more)

  pub met_whole : ended ≡ true → taken ≡ all
  met_whole over = marked_whole taken all more
      (whole_is ∙ (append_assoc (on_way taken) (if ended then mark else []) more ∙ ap (λ (b : Bool). on_way taken ++ ((if b then mark else []) ++ more)) over))
