-- What is added to a list was put together in one that was empty.
use Rattle.std.proofs.Common.{◌≡◌, List, [], ◌++◌, Result, OnOk, ◌∙◌, ap, sym, subst, append_assoc}

pub added_one : {T U E : Type 0} (result : Result U E) (before after none added more : List T) → none ≡ [] → added ≡ none ++ more
    → OnOk result (after ≡ before ++ added) → OnOk result (after ≡ before ++ more)
added_one result before after none added more empty put h = subst (λ xs. OnOk result (after ≡ before ++ xs)) (put ∙ ap (λ xs. xs ++ more) empty) h

pub added_two : {T U E : Type 0} (result : Result U E) (before after none first added one two : List T) → none ≡ [] → first ≡ none ++ one → added ≡ first ++ two
    → OnOk result (after ≡ before ++ added) → OnOk result (after ≡ before ++ one ++ two)
added_two result before after none first added one two empty begun put h =
    subst (λ xs. OnOk result (after ≡ xs)) (sym (append_assoc before one two))
    (subst (λ xs. OnOk result (after ≡ before ++ xs)) (put ∙ ap (λ xs. xs ++ two) (begun ∙ ap (λ xs. xs ++ one) empty)) h)
