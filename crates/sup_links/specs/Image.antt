-- What a link lets through, of the whole list that was sent (this project).
use Rattle.std.specs.Prelude.{ℕ, zero, suc, ◌+◌, ◌-◌, ◌==◌, nat_lt, List, [], ◌∷◌, ◌++◌, length, map, flat_map, slice_get, unwrap_or, option_to_list, if◌then◌else◌}
use Rattle.sup_links.specs.declared.script.Verdict.{Verdict}
use Rattle.sup_links.specs.declared.script.Verdict.TheVariants.{Pass, Lose, Twice, Hold}

-- 1 to n
abbrev pub numbers : ℕ → List ℕ
numbers zero = []
numbers (suc n) = numbers n ++ (n + 1) ∷ []

-- the verdict of message j, from 1; past the script's end it passes
abbrev pub verdict : List Verdict → ℕ → Verdict
verdict script j = unwrap_or (slice_get script (j - 1)) Pass

abbrev pub message : {X : Type 0} → List X → ℕ → List X
message sent j = option_to_list (slice_get sent (j - 1))

-- the copies that leave at once
abbrev pub copies : {X : Type 0} → Verdict → List X → List X
copies Pass m = m
copies Twice m = m ++ m
copies Lose m = []
copies (Hold n) m = []

-- a message that is held leaves after message j, where j is n past its own number
abbrev pub released : {X : Type 0} → Verdict → ℕ → ℕ → List X → List X
released (Hold n) i j m = if i + n == j then m else []
released _ i j m = []

-- what is released behind message j, of messages 1 to n
abbrev pub behind : {X : Type 0} → List Verdict → List X → ℕ → ℕ → List X
behind script sent n j = flat_map (λ i. released (verdict script i) i j (message sent i)) (numbers n)

-- what one message more brings out, behind those sent: its own copies, and then what is released behind it
abbrev pub brought_out : {X : Type 0} → List Verdict → List X → X → List X
brought_out script sent m = copies (verdict script (length sent + 1)) (m ∷ []) ++ behind script (sent ++ m ∷ []) (length sent + 1) (length sent + 1)

-- for each message in order: its copies, then each held message that is released behind it
abbrev pub image : {X : Type 0} → List Verdict → List X → List X
image script sent = flat_map (λ j. copies (verdict script j) (message sent j) ++ behind script sent (length sent) j) (numbers (length sent))

-- a message that is held still waits behind message j, where j isn't yet n past its own number: for so many messages more
abbrev pub waits : {X : Type 0} → Verdict → ℕ → ℕ → List X → List (ℕ × X)
waits (Hold n) i j m = if nat_lt j (i + n) then map (λ x. (i + n - j, x)) m else []
waits _ i j m = []

-- what waits behind the last message, each with the number of messages for which it still waits
abbrev pub held_of : {X : Type 0} → List Verdict → List X → List (ℕ × X)
held_of script sent = flat_map (λ i. waits (verdict script i) i (length sent) (message sent i)) (numbers (length sent))
