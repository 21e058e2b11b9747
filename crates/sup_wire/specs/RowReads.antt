-- What dots, specifications and rows are read as (this project). For private clauses.
use Rattle.std.specs.Prelude.{List, [], ◌∷◌, ◌++◌, Option, Some, None, option_map, codes, bytes_eq, if◌then◌else◌}
use Rattle.sup_specs.specs.Values.{Bytes}
use Rattle.sup_specs.specs.declared.child.Restart.{Restart}
use Rattle.sup_specs.specs.declared.child.Restart.TheVariants.{Permanent, Transient, Temporary}
use Rattle.sup_specs.specs.declared.child.Shutdown.{Shutdown}
use Rattle.sup_specs.specs.declared.child.Shutdown.TheVariants.{Brutal, Millis, Infinity}
use Rattle.sup_specs.specs.declared.child.Status.{Status}
use Rattle.sup_specs.specs.declared.child.Status.TheVariants.{Open, Draining}
use Rattle.sup_specs.specs.declared.child.ChildSpec.{ChildSpec}
use Rattle.sup_specs.specs.declared.child.MemberInfo.{MemberInfo}
use Rattle.sup_causal.specs.declared.dot.Dot.{Dot}
use Rattle.sup_tables.specs.declared.row.Entry.{Entry}
use Rattle.sup_tables.specs.declared.row.Entry.TheVariants.{Member, Child, Name}
use Rattle.sup_tables.specs.declared.row.Row.{Row}
use Rattle.serde_json.specs.Data.{Data, Items, no_items, item}
use Rattle.serde_json.specs.Find.{get, as_str, as_array}
use Rattle.serde_json.specs.View.{view}
use Rattle.sup_wire.specs.declared.reading.dots.Four.{Four}
use Rattle.sup_wire.specs.declared.version.Version.{Version}
use Rattle.sup_wire.specs.declared.version.Version.TheVariants.{One, Two}
use Rattle.sup_wire.specs.FieldReads.{◌>>=◌, has_just, name_at, text_at, within_at, count_at, text_in}

-- the items of an array that has two, or four
abbrev pub two_in : Items → Option (Data × Data)
two_in no_items = None
two_in (item a no_items) = None
two_in (item a (item b no_items)) = Some (a, b)
two_in (item a (item b (item c ds))) = None

unfoldable pub two_at : Data → Option (Data × Data)
two_at d = as_array d >>= two_in

pub record FourItems : Type 0 where
  pub table : Data
  pub key : Data
  pub dot : Data
  pub value : Data

-- what stands behind the references
abbrev pub four_lent : Four → FourItems
four_lent p = record { table = view p.table.now; key = view p.key.now; dot = view p.dot.now; value = view p.value.now }

abbrev pub four_in : Items → Option FourItems
four_in no_items = None
four_in (item a no_items) = None
four_in (item a (item b no_items)) = None
four_in (item a (item b (item c no_items))) = None
four_in (item a (item b (item c (item d no_items)))) = Some (record { table = a; key = b; dot = c; value = d })
four_in (item a (item b (item c (item d (item e ds))))) = None

unfoldable pub four_at : Data → Option FourItems
four_at d = as_array d >>= four_in

unfoldable pub dot_at : Data → Option Dot
dot_at d = do
  parts ← two_at d
  node ← name_at parts.0
  counter ← count_at parts.1
  Some (record { counter = counter; node = node })

-- what each item is read as
abbrev pub each_in : {Y : Type 0} → (Data → Option Y) → Items → Option (List Y)
each_in read no_items = Some []
each_in read (item d ds) = read d >>= λ y. option_map (λ ys. y ∷ ys) (each_in read ds)

-- what was read, and what is still to be read
abbrev pub after : {Y : Type 0} → List Y → Option (List Y) → Option (List Y)
after front read = option_map (λ ys. front ++ ys) read

unfoldable pub restart_at : Data → Option Restart
restart_at d = as_str d >>= λ text.
    if bytes_eq text (codes "permanent") then Some Permanent else
    if bytes_eq text (codes "transient") then Some Transient else
    if bytes_eq text (codes "temporary") then Some Temporary else None

abbrev pub shutdown_word : Bytes → Option Shutdown
shutdown_word text =
    if bytes_eq text (codes "brutal_kill") then Some Brutal else
    if bytes_eq text (codes "infinity") then Some Infinity else None

abbrev pub shutdown_millis : Data → Option Shutdown
shutdown_millis d = within_at 0 4294967295 d >>= λ n. Some (Millis n)

abbrev pub shutdown_from : Option Bytes → Data → Option Shutdown
shutdown_from None d = shutdown_millis d
shutdown_from (Some text) d = shutdown_word text

unfoldable pub shutdown_at : Data → Option Shutdown
shutdown_at d = shutdown_from (as_str d) d

unfoldable pub spec_fields : List Bytes
spec_fields = codes "arg" ∷ codes "kind" ∷ codes "restart" ∷ codes "shutdown" ∷ []

unfoldable pub restart_in : Data → Option Restart
restart_in d = get (codes "restart") d >>= restart_at

unfoldable pub shutdown_in : Data → Option Shutdown
shutdown_in d = get (codes "shutdown") d >>= shutdown_at

-- what an object's fields say of a child
unfoldable pub spec_in : Data → Option ChildSpec
spec_in d = do
  arg ← text_in (codes "arg") 0 1024 d
  kind ← text_in (codes "kind") 1 128 d
  restart ← restart_in d
  shutdown ← shutdown_in d
  Some (record { kind = kind; arg = arg; restart = restart; shutdown = shutdown })

unfoldable pub spec_at : Data → Option ChildSpec
spec_at d = if has_just spec_fields d then spec_in d else None

unfoldable pub status_at : Data → Option Status
status_at d = as_str d >>= λ text.
    if bytes_eq text (codes "open") then Some Open else
    if bytes_eq text (codes "draining") then Some Draining else None

unfoldable pub status_in : Data → Option Status
status_in d = get (codes "status") d >>= status_at

-- what an object's fields say of a member
unfoldable pub info_in : Data → Option MemberInfo
info_in d = do
  label ← text_in (codes "label") 0 1024 d
  status ← status_in d
  Some (record { label = label; status = status })

-- what is said of a member, in a version
unfoldable pub info_at : Version → Data → Option MemberInfo
info_at One d = if has_just (codes "label" ∷ []) d then (do
  label ← text_in (codes "label") 0 1024 d
  Some (record { label = label; status = Open })) else None
info_at Two d = if has_just (codes "label" ∷ codes "status" ∷ []) d then info_in d else None

unfoldable pub member_at : Version → Data → Data → Option Entry
member_at v key value = do
  node ← name_at key
  info ← info_at v value
  Some (Member node info)

unfoldable pub child_at : Data → Data → Option Entry
child_at key value = do
  id ← text_at 1 128 key
  spec ← spec_at value
  Some (Child id spec)

unfoldable pub registered_at : Data → Data → Option Entry
registered_at key value = do
  name ← text_at 1 128 key
  id ← text_at 1 128 value
  Some (Name name id)

unfoldable pub entry_at : Version → Bytes → Data → Data → Option Entry
entry_at v table key value =
    if bytes_eq table (codes "member") then member_at v key value else
    if bytes_eq table (codes "child") then child_at key value else
    if bytes_eq table (codes "name") then registered_at key value else None

unfoldable pub row_at : Version → Data → Option Row
row_at v d = do
  parts ← four_at d
  table ← as_str parts.table
  dot ← dot_at parts.dot
  entry ← entry_at v table parts.key parts.value
  Some (record { dot = dot; entry = entry })

unfoldable pub rows_at : Version → Data → Option (List Row)
rows_at v d = as_array d >>= each_in (row_at v)
