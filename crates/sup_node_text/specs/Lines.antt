-- The lines that are printed of entries and of kept children (this project's output format).
use Rattle.std.specs.Prelude.{◌≡◌, ℕ, List, [], ◌∷◌, codes, Option, Some, None, Result, IfOk, string_bytes}
use Rattle.std.specs.declared.string.String.{String}
use Rattle.sup_specs.specs.Values.{Bytes}
use Rattle.sup_specs.specs.declared.child.ChildSpec.{ChildSpec}
use Rattle.sup_specs.specs.declared.child.MemberInfo.{MemberInfo}
use Rattle.sup_specs.specs.declared.child.Status.{Status}
use Rattle.sup_specs.specs.declared.child.Status.TheVariants.{Open, Draining}
use Rattle.sup_causal.specs.declared.dot.Dot.{Dot}
use Rattle.sup_tables.specs.Rows.{Table, members, children, names}
use Rattle.sup_local_sup.specs.Keeping.{KeptChild}
use Rattle.sup_node.specs.Whereabouts.{Where, unknown, gone, unplaced, on}
use Rattle.sup_text.specs.Words.{text, dot_text, spec_text, incarnation_text}

-- a text, where there is memory for it, of these bytes
abbrev pub IsTextOf : {E Z : Type 0} → List ℕ → Result (String Z) E → Type 0
IsTextOf bytes result = IfOk result (λ s. string_bytes s ≡ bytes)

-- what an entry of a table is called
abbrev pub table_word : Table → List ℕ
table_word members = codes "member"
table_word children = codes "child"
table_word names = codes "name"

-- where a child is: on M, unplaced
abbrev pub place_text : Option Bytes → List ℕ
place_text None = codes "unplaced"
place_text (Some member) = text (codes "on " ∷ member ∷ [])

-- where a name leads: ID on M, ID unplaced, ID gone, unknown
abbrev pub lead_text : Where → List ℕ
lead_text unknown = codes "unknown"
lead_text (gone id) = text (id ∷ codes " gone" ∷ [])
lead_text (unplaced id) = text (id ∷ codes " " ∷ place_text None ∷ [])
lead_text (on id member) = text (id ∷ codes " " ∷ place_text (Some member) ∷ [])

-- what is said of a member that isn't open, with a space behind it
abbrev pub status_text : Status → List ℕ
status_text Open = []
status_text Draining = codes "draining "

-- member M DOT label=TEXT, of a draining one member M DOT draining label=TEXT
abbrev pub member_line : Bytes → Dot → MemberInfo → List ℕ
member_line member dot info = text (codes "member " ∷ member ∷ codes " " ∷ dot_text dot ∷ codes " " ∷ status_text info.status ∷ codes "label=" ∷ info.label ∷ codes "\n" ∷ [])

-- child ID DOT KIND RESTART SHUTDOWN arg=TEXT, and where it is
abbrev pub child_line : Bytes → Dot → ChildSpec → Option Bytes → List ℕ
child_line id dot spec place = text (codes "child " ∷ id ∷ codes " " ∷ dot_text dot ∷ codes " " ∷ spec_text spec ∷ codes " " ∷ place_text place ∷ codes "\n" ∷ [])

-- name NAME DOT, and where it leads
abbrev pub name_line : Bytes → Dot → Where → List ℕ
name_line name dot lead = text (codes "name " ∷ name ∷ codes " " ∷ dot_text dot ∷ codes " " ∷ lead_text lead ∷ codes "\n" ∷ [])

-- loser member|child|name KEY DOT
abbrev pub loser_line : List ℕ → Bytes → Dot → List ℕ
loser_line table key dot = text (codes "loser " ∷ table ∷ codes " " ∷ key ∷ codes " " ∷ dot_text dot ∷ codes "\n" ∷ [])

-- kept ID B.K
abbrev pub kept_line : KeptChild → List ℕ
kept_line k = text (codes "kept " ∷ k.0 ∷ codes " " ∷ incarnation_text k.1.inc ∷ codes "\n" ∷ [])
