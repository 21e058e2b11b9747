-- That texts are those of rows is one fact.
use Rattle.std.proofs.Common.{◌≡◌, ◌<◌, ◌^◌, List, Option, Some, None}
use Rattle.std.specs.List.{AllByRecursion, AllByRecursion-prop}
use Rattle.std.proofs.Props.{props}
use Rattle.sup_specs.specs.Values.{Bytes}
use Rattle.sup_specs.specs.declared.child.Shutdown.{Shutdown}
use Rattle.sup_specs.specs.declared.child.Shutdown.TheVariants.{Brutal, Millis, Infinity}
use Rattle.sup_specs.specs.declared.child.ChildSpec.{ChildSpec}
use Rattle.sup_array_text.specs.Arrays.{ArrayShown}
use Rattle.sup_tables.specs.declared.row.Entry.{Entry}
use Rattle.sup_tables.specs.declared.row.Entry.TheVariants.{Member, Child, Name}
use Rattle.sup_tables.specs.declared.row.Row.{Row}
use Rattle.sup_wire.specs.declared.version.Version.TheVariants.{Two}
use Rattle.sup_wire.specs.Forms.{IsEntry, IsSpec, IsShutdown, IsWritten}
use Rattle.sup_wire.specs.RowTexts.{AreRows, AreTextsOf}

shutdown-prop : (s : Shutdown) → IsProp (IsShutdown s)
shutdown-prop Brutal = hlevel props
shutdown-prop (Millis n) = hlevel props
shutdown-prop Infinity = hlevel props

spec-prop : (s : ChildSpec) → IsProp (IsSpec s)
spec-prop s = hlevel (props, shutdown-prop)

entry-prop : (e : Entry) → IsProp (IsEntry Two e)
entry-prop (Member m info) = hlevel props
entry-prop (Child id spec) = hlevel (props, spec-prop)
entry-prop (Name name id) = hlevel props

row-prop : (r : Row) → IsProp (IsWritten r × (r.dot.counter < 2 ^ 64))
row-prop r = hlevel (props, entry-prop)

pub are_rows-prop : (rows : List Row) (texts : List Bytes) → IsProp (AreRows rows texts)
are_rows-prop rows texts = let all = AllByRecursion-prop (λ r. IsWritten r × (r.dot.counter < 2 ^ 64)) row-prop rows in hlevel (props, all)

pub are_texts_of-prop : (rows : Option (List Row)) (t : Option ArrayShown) → IsProp (AreTextsOf rows t)
are_texts_of-prop None t = hlevel props
are_texts_of-prop (Some rows) None = hlevel props
are_texts_of-prop (Some rows) (Some t) = are_rows-prop rows t.items
