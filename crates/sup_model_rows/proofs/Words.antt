-- Short words for worked rows: names, values, options and answers.
use Rattle.std.specs.Prelude.{ℕ, zero, suc, ◌+◌, List, [], ◌∷◌, ◌++◌, codes, flat_map, Some, None}
use Rattle.sup_specs.specs.Values.{Bytes}
use Rattle.sup_specs.specs.Rising.{rising}
use Rattle.sup_specs.specs.declared.child.ChildSpec.{ChildSpec}
use Rattle.sup_specs.specs.declared.child.Restart.{Restart as RestartType}
use Rattle.sup_specs.specs.declared.child.Restart.TheVariants.{Permanent}
use Rattle.sup_specs.specs.declared.child.Shutdown.TheVariants.{Millis}
use Rattle.sup_causal.specs.declared.dot.Dot.{Dot}
use Rattle.sup_causal.specs.Dots.{dot_cmp}
use Rattle.sup_placement.specs.Place.{Weigher}
use Rattle.sup_placement.specs.Weights.{flat_weight}
use Rattle.sup_local_sup.specs.declared.effect.Effect.{Effect}
use Rattle.sup_local_sup.specs.declared.effect.Effect.TheVariants as effect
use Rattle.sup_replica.specs.declared.done.Reply.{Reply}
use Rattle.sup_model_rows.specs.Scripts.{Telling, ok, knows, Letter, Options}

-- nodes
abbrev pub a : Bytes
a = codes "a"

abbrev pub b : Bytes
b = codes "b"

abbrev pub c : Bytes
c = codes "c"

-- children, and names
abbrev pub x : Bytes
x = codes "x"

abbrev pub y : Bytes
y = codes "y"

abbrev pub z : Bytes
z = codes "z"

abbrev pub t : Bytes
t = codes "t"

abbrev pub n : Bytes
n = codes "n"

abbrev pub web : Bytes
web = codes "web"

abbrev pub www : Bytes
www = codes "www"

abbrev pub db : Bytes
db = codes "db"

abbrev pub job : Bytes
job = codes "job"

abbrev pub api : Bytes
api = codes "api"

-- what a start with no option but a kind starts, and one with none
abbrev pub of_kind : Bytes → ChildSpec
of_kind kind = record { kind = kind; arg = []; restart = Permanent; shutdown = Millis 5000 }

abbrev pub sp : ChildSpec
sp = of_kind (codes "worker")

abbrev pub with_arg : Bytes → ChildSpec → ChildSpec
with_arg arg spec = record spec { arg = arg }

abbrev pub restarts : RestartType → ChildSpec → ChildSpec
restarts restart spec = record spec { restart = restart }

-- what a world is made with: the options of the command line, or what stands for one that is left out
abbrev pub weighed : Weigher → Options
weighed weight = record { setting = record { weigher = weight; intensity = 1; period = 5 }; room = 64; messages = [] }

abbrev pub flat : Options
flat = weighed flat_weight

abbrev pub with_intensity : ℕ → Options → Options
with_intensity intensity o = record o { setting = record o.setting { intensity = intensity } }

abbrev pub with_room : ℕ → Options → Options
with_room room o = record o { room = room }

abbrev pub with_messages : List Bytes → Options → Options
with_messages messages o = record o { messages = messages }

-- answers
abbrev pub dot : Bytes → ℕ → Dot
dot node n = record { counter = n; node = node }

abbrev pub begins : Bytes → ChildSpec → ℕ → ℕ → Effect
begins id spec boot k = effect.Start id (record { boot = boot; k = k }) spec

abbrev pub ends : Bytes → ℕ → ℕ → Effect
ends id boot k = effect.Stop id (record { boot = boot; k = k })

abbrev pub did : Bytes → Reply → Telling
did at reply = ok at reply [] None

abbrev pub did_with : Bytes → Reply → List Effect → Telling
did_with at reply effects = ok at reply effects None

abbrev pub sent : Bytes → Reply → Letter → Telling
sent at reply one = ok at reply [] (Some one)

-- a vector's entry stands for the dots up to its number
abbrev pub dots_to : Bytes → ℕ → List Dot
dots_to node zero = []
dots_to node (suc n) = dots_to node n ++ dot node (n + 1) ∷ []

-- what a station knows, told by its vector and cloud
abbrev pub knows_parts : ℕ → ℕ → List (Bytes × ℕ) → List Dot → Telling
knows_parts count held vector cloud = knows count held (rising dot_cmp (flat_map (λ e. dots_to e.0 e.1) vector ++ cloud))
