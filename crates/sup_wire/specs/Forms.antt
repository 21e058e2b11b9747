-- The JSON value of each part, message and image, version by version (this project), and what the fields may be.
use Rattle.std.specs.Prelude.{ℕ, ◌≡◌, ◌≤◌, ◌≢◌, List, [], ◌∷◌, map, codes}
use Rattle.std.specs.List.{AllByRecursion}
use Rattle.sup_specs.specs.Texts.{IsText}
use Rattle.sup_specs.specs.Values.{Bytes}
use Rattle.sup_specs.specs.declared.limits.TheConstants.{MAX}
use Rattle.sup_specs.specs.declared.texts.Alphabet.TheVariants.{NodeBytes, Visible}
use Rattle.sup_specs.specs.declared.child.Restart.{Restart}
use Rattle.sup_specs.specs.declared.child.Restart.TheVariants.{Permanent, Transient, Temporary}
use Rattle.sup_specs.specs.declared.child.Shutdown.{Shutdown}
use Rattle.sup_specs.specs.declared.child.Shutdown.TheVariants.{Brutal, Millis, Infinity}
use Rattle.sup_specs.specs.declared.child.Status.{Status}
use Rattle.sup_specs.specs.declared.child.Status.TheVariants.{Open, Draining}
use Rattle.sup_specs.specs.declared.child.ChildSpec.{ChildSpec}
use Rattle.sup_specs.specs.declared.child.MemberInfo.{MemberInfo}
use Rattle.sup_causal.specs.declared.dot.Dot.{Dot}
use Rattle.sup_tables.specs.declared.row.Entry.{Entry}
use Rattle.sup_tables.specs.declared.row.Entry.TheVariants.{Member, Child, Name}
use Rattle.sup_tables.specs.declared.row.Row.{Row}
use Rattle.serde_json.specs.Data.{Data, number, unsigned, string, array, object, no_items, item, Members, no_members, member}
use Rattle.serde_json.specs.View.{items_of}
use Rattle.sup_wire.specs.Drafts.{TableParts, Draft, ack, push, delta, image}
use Rattle.sup_wire.specs.declared.version.Version.{Version}
use Rattle.sup_wire.specs.declared.version.Version.TheVariants.{One, Two}

abbrev pub count_value : ℕ → Data
count_value n = number (unsigned n)

abbrev pub dot_value : Dot → Data
dot_value d = array (item (string d.node) (item (count_value d.counter) no_items))

-- the entries of a vector, each under its name
abbrev pub vector_members : List (Bytes × ℕ) → Members
vector_members [] = no_members
vector_members (e ∷ es) = member e.0 (count_value e.1) (vector_members es)

abbrev pub context_value : TableParts → Data
context_value p = object (member (codes "cloud") (array (items_of (map dot_value p.cloud))) (member (codes "vector") (object (vector_members p.vector)) no_members))

abbrev pub restart_value : Restart → Data
restart_value Permanent = string (codes "permanent")
restart_value Transient = string (codes "transient")
restart_value Temporary = string (codes "temporary")

abbrev pub shutdown_value : Shutdown → Data
shutdown_value Brutal = string (codes "brutal_kill")
shutdown_value (Millis n) = count_value n
shutdown_value Infinity = string (codes "infinity")

abbrev pub spec_value : ChildSpec → Data
spec_value s = object (member (codes "arg") (string s.arg) (member (codes "kind") (string s.kind) (member (codes "restart") (restart_value s.restart) (member (codes "shutdown") (shutdown_value s.shutdown) no_members))))

abbrev pub status_value : Status → Data
status_value Open = string (codes "open")
status_value Draining = string (codes "draining")

-- what is said of a member: in version 1 no status
abbrev pub info_value : Version → MemberInfo → Data
info_value One i = object (member (codes "label") (string i.label) no_members)
info_value Two i = object (member (codes "label") (string i.label) (member (codes "status") (status_value i.status) no_members))

-- a row: table, key, dot, value
abbrev pub four : Bytes → Bytes → Data → Data → Data
four table key dot value = array (item (string table) (item (string key) (item dot (item value no_items))))

abbrev pub entry_value : Version → Entry → Data → Data
entry_value v (Member m info) dot = four (codes "member") m dot (info_value v info)
entry_value v (Child id spec) dot = four (codes "child") id dot (spec_value spec)
entry_value v (Name name id) dot = four (codes "name") name dot (string id)

abbrev pub row_value : Version → Row → Data
row_value v r = entry_value v r.entry (dot_value r.dot)

abbrev pub rows_value : Version → List Row → Data
rows_value v rows = array (items_of (map (row_value v) rows))

abbrev pub version_number : Version → ℕ
version_number One = 1
version_number Two = 2

abbrev pub version_value : Version → Data
version_value v = count_value (version_number v)

-- the value of a message or an image in a version; keys stand in byte order
abbrev pub value_in : Version → Draft → Data
value_in v (ack from to n) =
    object (member (codes "from") (string from) (member (codes "kind") (string (codes "ack")) (member (codes "n") (count_value n) (member (codes "to") (string to) (member (codes "v") (version_value v) no_members)))))
value_in v (push from to p) =
    object (member (codes "ctx") (context_value p) (member (codes "from") (string from) (member (codes "kind") (string (codes "push")) (member (codes "rows") (rows_value v p.rows) (member (codes "to") (string to) (member (codes "v") (version_value v) no_members))))))
value_in v (delta from to n p) =
    object (member (codes "ctx") (context_value p) (member (codes "from") (string from) (member (codes "kind") (string (codes "delta")) (member (codes "n") (count_value n) (member (codes "rows") (rows_value v p.rows) (member (codes "to") (string to) (member (codes "v") (version_value v) no_members)))))))
value_in v (image node boot count p) =
    object (member (codes "boot") (count_value boot) (member (codes "count") (count_value count) (member (codes "ctx") (context_value p) (member (codes "kind") (string (codes "image")) (member (codes "node") (string node) (member (codes "rows") (rows_value v p.rows) (member (codes "v") (version_value v) no_members)))))))

-- the value in the version that is written
abbrev pub value_of : Draft → Data
value_of = value_in Two

-- ---- what the fields may be

abbrev pub IsName : Bytes → Type 0
IsName = IsText NodeBytes 1 64

-- from 1 to the greatest counter
pub record IsCount (n : ℕ) : Type 0 where
  pub least : 1 ≤ n
  pub most : n ≤ MAX

pub record IsDot (d : Dot) : Type 0 where
  pub node : IsName d.node
  pub counter : IsCount d.counter

abbrev pub IsNote : Bytes × ℕ → Type 0
IsNote e = IsName e.0 × IsCount e.1

abbrev pub IsShutdown : Shutdown → Type 0
IsShutdown Brutal = Unit {0}
IsShutdown (Millis n) = n ≤ 4294967295
IsShutdown Infinity = Unit {0}

pub record IsSpec (s : ChildSpec) : Type 0 where
  pub kind : IsText Visible 1 128 s.kind
  pub arg : IsText Visible 0 1024 s.arg
  pub shutdown : IsShutdown s.shutdown

-- version 1 tells open members alone, else two states would have one text
abbrev pub IsTold : Version → Status → Type 0
IsTold One status = status ≡ Open
IsTold Two status = Unit {0}

abbrev pub IsEntry : Version → Entry → Type 0
IsEntry v (Member m info) = IsName m × IsText Visible 0 1024 info.label × IsTold v info.status
IsEntry v (Child id spec) = IsText Visible 1 128 id × IsSpec spec
IsEntry v (Name name id) = IsText Visible 1 128 name × IsText Visible 1 128 id

abbrev pub IsRow : Version → Row → Type 0
IsRow v r = IsEntry v r.entry × IsDot r.dot

-- the same of what tables keep, where the counters are known from the context, in the version that is written
abbrev pub IsWritten : Row → Type 0
IsWritten r = IsEntry Two r.entry × IsName r.dot.node

pub record AreWritten (p : TableParts) : Type 0 where
  pub vector : AllByRecursion (λ e. IsName e.0) p.vector
  pub cloud : AllByRecursion (λ d. IsName d.node) p.cloud
  pub rows : AllByRecursion IsWritten p.rows

pub record AreParts (v : Version) (p : TableParts) : Type 0 where
  pub vector : AllByRecursion IsNote p.vector
  pub cloud : AllByRecursion IsDot p.cloud
  pub rows : AllByRecursion (IsRow v) p.rows

-- two names that differ
pub record AreEnds (from to : Bytes) : Type 0 where
  pub sender : IsName from
  pub receiver : IsName to
  pub differ : from ≢ to

-- each field is what it may be in a version
abbrev pub IsFormed : Version → Draft → Type 0
IsFormed v (ack from to n) = AreEnds from to × IsCount n
IsFormed v (push from to p) = AreEnds from to × AreParts v p
IsFormed v (delta from to n p) = AreEnds from to × IsCount n × AreParts v p
IsFormed v (image node boot count p) = IsName node × IsCount boot × (count ≤ MAX) × AreParts v p
