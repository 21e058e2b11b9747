-- The messages that wait at an end of a link, and what one put more does to them (this project).
use Rattle.std.specs.Prelude.{ℕ, ◌+◌, ◌-◌, ◌==◌, List, [], ◌∷◌, ◌++◌, map, flat_map, if◌then◌else◌}
use Rattle.sup_links.specs.Texts.{Bytes}
use Rattle.sup_links.specs.Image.{copies}
use Rattle.sup_links.specs.declared.held.Held.{Held}
use Rattle.sup_links.specs.declared.script.Verdict.{Verdict}
use Rattle.sup_links.specs.declared.script.Verdict.TheVariants.{Hold}

-- each with the number of puts for which it still waits
abbrev pub waiting : List Held → List (ℕ × Bytes)
waiting = map (λ h. (h.left, h.text.items))

-- what a new message adds to these; of the puts for which it waits its own is the first
abbrev pub held_back : {X : Type 0} → Verdict → X → List (ℕ × X)
held_back (Hold n) text = (n + 1, text) ∷ []
held_back _ text = []

-- one put later
abbrev pub counted : {X : Type 0} → List (ℕ × X) → List (ℕ × X)
counted = map (λ w. (w.0 - 1, w.1))

-- these and what a new message adds to them, one put later
abbrev pub counted_with : List Held → Verdict → Bytes → List (ℕ × Bytes)
counted_with held verdict text = counted (waiting held ++ held_back verdict text)

-- those that wait no more
abbrev pub due : {X : Type 0} → List (ℕ × X) → List X
due = flat_map (λ w. if w.0 == 0 then w.1 ∷ [] else [])

-- what leaves at the put of a message: its own copies, and then those that wait no more
abbrev pub leaving : List Held → Verdict → Bytes → List Bytes
leaving held verdict text = copies verdict (text ∷ []) ++ due (counted_with held verdict text)

-- those that wait on
abbrev pub kept : {X : Type 0} → List (ℕ × X) → List (ℕ × X)
kept = flat_map (λ w. if w.0 == 0 then [] else w ∷ [])
