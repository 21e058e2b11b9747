-- What a loop has read so far, in front of what it still reads; a search among texts.
use Rattle.std.proofs.Common.{◌≡◌, ℕ, List, [], ◌∷◌, ◌++◌, Option, Some, None, Result, Ok, Err, refl, ap}
use Rattle.std.specs.Borrow.{Bor}
use Rattle.std.specs.List.{list_any}
use Rattle.std.specs.Str.{bytes_eq}
use Rattle.std.specs.Prelude.{◌||◌}
use Rattle.sup_lines.specs.Words.{Word, Name, texts}

abbrev pub after_names : List Name → Option (List Name) → Option (List Name)
after_names front None = None
after_names front (Some names) = Some (front ++ names)

abbrev pub after_lines : {A : Type 0} → List A → Result (List A) ℕ → Result (List A) ℕ
after_lines front (Ok others) = Ok (front ++ others)
after_lines front (Err number) = Err number

-- a word is among borrowed texts where it is among their bytes
pub any_texts : (word : Word) (words : List (Bor Word)) → list_any (λ w. bytes_eq w.now word) words ≡ list_any (λ w. bytes_eq w word) (texts words)
any_texts word [] = refl
any_texts word (w ∷ words) = ap (λ b. bytes_eq w.now word || b) (any_texts word words)
