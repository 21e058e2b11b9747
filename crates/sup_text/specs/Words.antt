-- The words of which output lines are made (this project's output format).
use Rattle.std.specs.Prelude.{ℕ, List, [], ◌∷◌, ◌++◌, codes, decimal}
use Rattle.sup_specs.specs.declared.child.ChildSpec.{ChildSpec}
use Rattle.sup_specs.specs.declared.child.Restart.{Restart}
use Rattle.sup_specs.specs.declared.child.Restart.TheVariants.{Permanent, Transient, Temporary}
use Rattle.sup_specs.specs.declared.child.Shutdown.{Shutdown}
use Rattle.sup_specs.specs.declared.child.Shutdown.TheVariants.{Brutal, Millis, Infinity}
use Rattle.sup_causal.specs.declared.dot.Dot.{Dot}
use Rattle.sup_local_sup.specs.declared.effect.Incarnation.{Incarnation}

-- the pieces of a text, one after another
abbrev pub text : List (List ℕ) → List ℕ
text [] = []
text (piece ∷ []) = piece
text (piece ∷ next ∷ pieces) = piece ++ text (next ∷ pieces)

-- (a,2)
abbrev pub dot_text : Dot → List ℕ
dot_text dot = text (codes "(" ∷ dot.node ∷ codes "," ∷ decimal dot.counter ∷ codes ")" ∷ [])

-- a dot, after a space
abbrev pub spaced_dot : Dot → List ℕ
spaced_dot dot = text (codes " " ∷ dot_text dot ∷ [])

-- B.K
abbrev pub incarnation_text : Incarnation → List ℕ
incarnation_text inc = text (decimal inc.boot ∷ codes "." ∷ decimal inc.k ∷ [])

abbrev pub restart_text : Restart → List ℕ
restart_text Permanent = codes "permanent"
restart_text Transient = codes "transient"
restart_text Temporary = codes "temporary"

abbrev pub shutdown_text : Shutdown → List ℕ
shutdown_text Brutal = codes "brutal_kill"
shutdown_text (Millis n) = decimal n
shutdown_text Infinity = codes "infinity"

-- KIND RESTART SHUTDOWN arg=TEXT
abbrev pub spec_text : ChildSpec → List ℕ
spec_text spec = text (spec.kind ∷ codes " " ∷ restart_text spec.restart ∷ codes " " ∷ shutdown_text spec.shutdown ∷ codes " arg=" ∷ spec.arg ∷ [])
