-- Values whose text reads back: integers fit 64 bits, and the keys of each object rise.
use Rattle.std.proofs.Common.{◌≡◌, suc, ◌<◌, ◌≤◌, ◌^◌, max, Some, Less, Greater, nat_cmp, refl, sym, ap, ap₂, ◌∙◌, arith}
use Rattle.std.proofs.lemmas.Cmp.{nat_list_cmp_total}
use Rattle.std.specs.Cmp.Lexicographic.{slice_cmp}
use Rattle.std.specs.Ordering.{ordering_reverse}
use Rattle.sup_specs.specs.Values.{Bytes}
use Rattle.json.specs.Json as json
use Rattle.json.specs.Tree as tree
use Rattle.serde_json.specs.Data.{Data, Num, unsigned, negative, float, null, boolean, number, string, array, object, Items, no_items, item, Members, no_members, member, put, depth, items_depth, members_depth}
use Rattle.serde_json.specs.Read.{of_json, of_items, of_members, max_depth}
use Rattle.serde_json.specs.Written.{outline, items_outline, members_outline, blank, blank_items, blank_members}
use Rattle.serde_json.proofs.Numbers.{number_of-decimal}
use Rattle.sup_wire.specs.Writing.{ReadsBack}
use Rattle.sup_wire.proofs.Adding.{whole_number}

-- all keys are above, or below, this one
abbrev pub AllAbove : Bytes → Members → Type 0
AllAbove k no_members = Unit {0}
AllAbove k (member l e ms) = (slice_cmp nat_cmp k l ≡ Less) × AllAbove k ms

abbrev pub AllBelow : Members → Bytes → Type 0
AllBelow no_members k = Unit {0}
AllBelow (member l e ms) k = (slice_cmp nat_cmp l k ≡ Less) × AllBelow ms k

-- the keys of the second are above those of the first
abbrev AllAfter : Members → Members → Type 0
AllAfter found no_members = Unit {0}
AllAfter found (member k d ms) = AllBelow found k × AllAfter found ms

abbrev pub IsSmall : Num → Type 0
IsSmall (unsigned n) = n < 2 ^ 64
IsSmall (negative z) = ⊥
IsSmall (float x) = ⊥

abbrev mutual
  pub IsReadable : Data → Type 0
  IsReadable null = Unit {0}
  IsReadable (boolean b) = Unit {0}
  IsReadable (number n) = IsSmall n
  IsReadable (string s) = Unit {0}
  IsReadable (array ds) = AreReadable ds
  IsReadable (object ms) = AreMembers ms

  pub AreReadable : Items → Type 0
  AreReadable no_items = Unit {0}
  AreReadable (item d ds) = IsReadable d × AreReadable ds

  pub AreMembers : Members → Type 0
  AreMembers no_members = Unit {0}
  AreMembers (member k d ms) = IsReadable d × AllAbove k ms × AreMembers ms

-- ---- members put in one after another
abbrev behind : Members → Members → Members
behind no_members more = more
behind (member k d ms) more = member k d (behind ms more)

behind-nil : (ms : Members) → behind ms no_members ≡ ms
behind-nil no_members = refl
behind-nil (member k d ms) = ap (member k d) (behind-nil ms)

behind-one : (found : Members) (k : Bytes) (d : Data) (ms : Members) → behind (behind found (member k d no_members)) ms ≡ behind found (member k d ms)
behind-one no_members k d ms = refl
behind-one (member l e found) k d ms = ap (member l e) (behind-one found k d ms)

put_end : (k : Bytes) (d : Data) (found : Members) → AllBelow found k → put k d found ≡ behind found (member k d no_members)
put_end k d no_members below = refl
put_end k d (member l e found) below =
    let above : slice_cmp nat_cmp k l ≡ Greater = nat_list_cmp_total.antisymm k l ∙ ap ordering_reverse below.0 in
    rw above (ap (member l e) (put_end k d found below.1))

below_more : (found : Members) (k l : Bytes) (d : Data) → AllBelow found l → slice_cmp nat_cmp k l ≡ Less → AllBelow (behind found (member k d no_members)) l
below_more no_members k l d below less = (less, tt)
below_more (member q e found) k l d below less = (below.0, below_more found k l d below.1 less)

after_more : (found ms : Members) (k : Bytes) (d : Data) → AllAfter found ms → AllAbove k ms → AllAfter (behind found (member k d no_members)) ms
after_more found no_members k d after above = tt
after_more found (member l e ms) k d after above = (below_more found k l d after.0 above.0, after_more found ms k d after.1 above.1)

after_none : (ms : Members) → AllAfter no_members ms
after_none no_members = tt
after_none (member k d ms) = (tt, after_none ms)

-- ---- what was written is read so
mutual
  reads : (d : Data) → IsReadable d → of_json (outline d) ≡ Some d
  reads null is = refl
  reads (boolean b) is = refl
  reads (number (unsigned n)) is = rw (number_of-decimal n is) refl
  reads (number (negative z)) is = absurd is
  reads (number (float x)) is = absurd is
  reads (string s) is = refl
  reads (array ds) is = rw (reads_items ds is) refl
  reads (object ms) is = rw (reads_members ms no_members is (after_none ms)) refl

  reads_items : (ds : Items) → AreReadable ds → of_items (items_outline ds) ≡ Some ds
  reads_items no_items is = refl
  reads_items (item d ds) is = rw (reads d is.0, reads_items ds is.1) refl

  reads_members : (ms found : Members) → AreMembers ms → AllAfter found ms → of_members (members_outline ms) found ≡ Some (behind found ms)
  reads_members no_members found is after = ap Some (sym (behind-nil found))
  reads_members (member k d ms) found is after =
      rw (reads d is.0, put_end k d found after.0) (reads_members ms (behind found (member k d no_members)) is.2 (after_more found ms k d after.1 is.1) ∙ ap Some (behind-one found k d ms))

mutual
  wholes : (d : Data) → IsReadable d → blank (outline d) ≡ outline d
  wholes null is = refl
  wholes (boolean b) is = refl
  wholes (number (unsigned n)) is = ap json.number (whole_number n is)
  wholes (number (negative z)) is = absurd is
  wholes (number (float x)) is = absurd is
  wholes (string s) is = refl
  wholes (array ds) is = ap json.array (whole_items ds is)
  wholes (object ms) is = ap json.object (whole_members ms is)

  whole_items : (ds : Items) → AreReadable ds → blank_items (items_outline ds) ≡ items_outline ds
  whole_items no_items is = refl
  whole_items (item d ds) is = ap₂ json.item (wholes d is.0) (whole_items ds is.1)

  whole_members : (ms : Members) → AreMembers ms → blank_members (members_outline ms) ≡ members_outline ms
  whole_members no_members is = refl
  whole_members (member k d ms) is = ap₂ (json.member k) (wholes d is.0) (whole_members ms is.2)

mutual
  depths : (d : Data) → tree.depth (outline d) ≡ depth d
  depths null = refl
  depths (boolean b) = refl
  depths (number n) = refl
  depths (string s) = refl
  depths (array ds) = ap suc (item_depths ds)
  depths (object ms) = ap suc (member_depths ms)

  item_depths : (ds : Items) → tree.items_depth (items_outline ds) ≡ items_depth ds
  item_depths no_items = refl
  item_depths (item d ds) = ap₂ max (depths d) (item_depths ds)

  member_depths : (ms : Members) → tree.members_depth (members_outline ms) ≡ members_depth ms
  member_depths no_members = refl
  member_depths (member k d ms) = ap₂ max (depths d) (member_depths ms)

pub readable_back : (d : Data) → IsReadable d → depth d ≤ max_depth → ReadsBack d
readable_back d is low = record {
  value = reads d is;
  nests = let same = depths d in omega (arith, same);
  whole = wholes d is;
  shallow = low;
}
