-- The operation that each command issues, or its refusal (this project). Read from the live rows and the greatest own counter alone.
use Rattle.std.specs.Prelude.{ℕ, not, Bool, false, List, length, nat_le, Option, Some, None, Result, Ok}
use Rattle.sup_specs.specs.declared.child.ChildSpec.{ChildSpec}
use Rattle.sup_specs.specs.declared.child.Status.TheVariants.{Open}
use Rattle.sup_specs.specs.Values.{Bytes}
use Rattle.sup_causal.specs.declared.dot.Dot.{Dot}
use Rattle.sup_specs.specs.declared.limits.TheConstants.{MAX}
use Rattle.sup_tables.specs.declared.row.Row.{Row}
use Rattle.sup_tables.specs.Rows.{members, children, names, info_of}
use Rattle.sup_tables.specs.Operations.{Operation}
use Rattle.sup_tables.specs.Readers.{is_present, is_open, winner}
use Rattle.sup_tables.specs.Makers.{dot_after, put_member, drop_member, drain_member, put_child, replace_child, drop_child, put_name, drop_name}
use Rattle.sup_replica.specs.declared.refusal.Refusal.{Refusal}
use Rattle.sup_replica.specs.declared.refusal.Refusal.TheVariants.{AlreadyPresent, NotFound, AlreadyMember, NotMember, NameTaken, NoSuchChild, NameUnknown, DotsSpent, TableFull, AlreadyDraining}
use Rattle.sup_replica.specs.Checks.{row_limit, refused_if}

-- what a command reads: whose node it is, its live rows, and the greatest of its own counters that is known
pub record CommandReading : Type 0 where
  pub me : Bytes
  pub rows : List Row
  pub counter : ℕ

-- the dot of what a command adds
abbrev pub next : CommandReading → Dot
next r = dot_after r.counter r.me

abbrev pub is_full : CommandReading → Bool
is_full r = nat_le row_limit (length r.rows)

abbrev pub is_spent : CommandReading → Bool
is_spent r = nat_le MAX r.counter

abbrev pub join : CommandReading → Bytes → Result Operation Refusal
join r label =
    refused_if (is_present r.rows members r.me) AlreadyMember
    (refused_if (is_full r) TableFull
    (refused_if (is_spent r) DotsSpent
    (Ok (put_member (next r) r.me (record { label = label; status = Open })))))

abbrev pub leave : CommandReading → Bytes → Result Operation Refusal
leave r m = refused_if (not (is_present r.rows members m)) NotMember (Ok (drop_member r.rows m))

-- there, and draining
abbrev pub drains : Option Row → Bool
drains None = false
drains (Some won) = not (is_open (info_of won.entry).status)

abbrev pub is_draining : List Row → Bytes → Bool
is_draining rows m = drains (winner rows members m)

abbrev pub drain : CommandReading → Bytes → Result Operation Refusal
drain r m =
    refused_if (not (is_present r.rows members m)) NotMember
    (refused_if (is_draining r.rows m) AlreadyDraining
    (refused_if (is_spent r) DotsSpent
    (Ok (drain_member r.rows (next r) m))))

abbrev pub start : CommandReading → Bytes → ChildSpec → Result Operation Refusal
start r id spec =
    refused_if (is_present r.rows children id) AlreadyPresent
    (refused_if (is_full r) TableFull
    (refused_if (is_spent r) DotsSpent
    (Ok (put_child (next r) id spec))))

abbrev pub replace : CommandReading → Bytes → ChildSpec → Result Operation Refusal
replace r id spec =
    refused_if (not (is_present r.rows children id)) NotFound
    (refused_if (is_spent r) DotsSpent
    (Ok (replace_child r.rows (next r) id spec)))

abbrev pub delete : CommandReading → Bytes → Result Operation Refusal
delete r id = refused_if (not (is_present r.rows children id)) NotFound (Ok (drop_child r.rows id))

abbrev pub register : CommandReading → Bytes → Bytes → Result Operation Refusal
register r name id =
    refused_if (not (is_present r.rows children id)) NoSuchChild
    (refused_if (is_present r.rows names name) NameTaken
    (refused_if (is_full r) TableFull
    (refused_if (is_spent r) DotsSpent
    (Ok (put_name (next r) name id)))))

abbrev pub unregister : CommandReading → Bytes → Result Operation Refusal
unregister r name = refused_if (not (is_present r.rows names name)) NameUnknown (Ok (drop_name r.rows name))
