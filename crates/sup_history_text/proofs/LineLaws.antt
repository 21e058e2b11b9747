-- Lines round a place.
use Rattle.std.proofs.Common.{◌≡◌, ℕ, ◌+◌, ◌<◌, ◌≤◌, List, [], ◌∷◌, ◌++◌, length, get_or, take, drop, sym, ◌∙◌, ap, arith, append_assoc, add_assoc}
use Rattle.std.proofs.Math.Seq.{drop-cons}
use Rattle.std.proofs.lemmas.List.{drop-drop, take-append-drop, map-append, append-nil, at_drop_all}
use Rattle.std.proofs.lemmas.Grind.{common_steps, flat_map-append}
use Rattle.sup_history_text.specs.Lines.{Line, line_in, lines_in}
use Rattle.sup_history_text.specs.Sessions.{session_lines, sessions_lines}
use Rattle.sup_history_text.specs.declared.session.Session.{Session}
use Rattle.sup_history_text.specs.declared.line.NumberedLine.{NumberedLine}

pub two_parts : (xs : List NumberedLine) (n : ℕ) → lines_in (take n xs) ++ lines_in (drop n xs) ≡ lines_in xs
two_parts xs n = sym (map-append line_in (take n xs) (drop n xs)) ∙ ap lines_in (take-append-drop n xs)

pub three_parts : (xs : List NumberedLine) (n : ℕ) (d : NumberedLine) → n < length xs
    → (lines_in (take n xs) ++ (line_in (get_or xs n d) ∷ [])) ++ lines_in (drop (n + 1) xs) ≡ lines_in xs
three_parts xs n d lt = grind (arith, common_steps, two_parts xs n, drop-cons xs n d lt)

pub two_parts_only : (xs : List NumberedLine) (n : ℕ) → (lines_in (take n xs) ++ []) ++ lines_in (drop n xs) ≡ lines_in xs
two_parts_only xs n = grind (arith, common_steps, two_parts xs n)

-- a session more, and the lines behind it
pub more_sessions : (ss : List Session) (s : Session) (xs : List NumberedLine) (at n : ℕ) (all : List Line) → sessions_lines ss ++ lines_in (drop at xs) ≡ all
    → session_lines s ++ lines_in (drop n (drop at xs)) ≡ lines_in (drop at xs) → sessions_lines (ss ++ s ∷ []) ++ lines_in (drop (at + n) xs) ≡ all
more_sessions ss s xs at n all h k = grind (arith, common_steps, h, k, flat_map-append session_lines ss (s ∷ []), drop-drop)

pub deeper : (xs : List NumberedLine) (m n : ℕ) → drop (1 + m + n) xs ≡ drop n (drop m (drop 1 xs))
deeper xs m n = sym (drop-drop n m (drop 1 xs) ∙ drop-drop (m + n) 1 xs ∙ ap (λ k. drop k xs) (sym (add_assoc 1 m n)))

-- a line, what was told, and exchanges behind it
pub three_runs : (xs : List NumberedLine) (d : NumberedLine) (told exchanges : List Line) (m n : ℕ) → 0 < length xs
    → told ++ lines_in (drop m (drop 1 xs)) ≡ lines_in (drop 1 xs) → exchanges ++ lines_in (drop n (drop m (drop 1 xs))) ≡ lines_in (drop m (drop 1 xs))
    → (line_in (get_or xs 0 d) ∷ (told ++ exchanges)) ++ lines_in (drop (1 + m + n) xs) ≡ lines_in xs
three_runs [] d told exchanges m n some h k = elim some [ ]
three_runs (x ∷ xs) d told exchanges m n some h k =
    let runs : line_in x ∷ ((told ++ exchanges) ++ lines_in (drop n (drop m (drop 1 (x ∷ xs))))) ≡ line_in x ∷ lines_in xs = ap (λ rest. line_in x ∷ rest) (append_assoc told exchanges _ ∙ ap (λ rest. told ++ rest) k ∙ h) in
    ap (λ rest. line_in x ∷ ((told ++ exchanges) ++ lines_in rest)) (deeper (x ∷ xs) m n) ∙ runs

-- what was read, the next line, and the lines behind it
pub parts_at : (front all : List Line) (xs : List NumberedLine) (n : ℕ) (d : NumberedLine) → n < length xs → front ++ lines_in (drop n xs) ≡ all
    → all ≡ front ++ line_in (get_or xs n d) ∷ lines_in (drop (n + 1) xs)
parts_at front all xs n d lt h = grind (arith, common_steps, h, drop-cons xs n d lt)

pub all_read : (front all : List Line) (xs : List NumberedLine) (n : ℕ) → length xs ≤ n → front ++ lines_in (drop n xs) ≡ all → front ≡ all
all_read front all xs n le h = sym (append-nil front) ∙ ap (λ rest. front ++ rest) (sym (at_drop_all lines_in xs n le)) ∙ h
