-- Placement by highest random weight: Thaler and Ravishankar 1998. The tie by name is this project's.
use Rattle.std.specs.Prelude.{◌≡◌, false, not, List, Option, find, All, Contains}
use Rattle.std.specs.declared.cmp.Ordering.{Ordering}
use Rattle.std.specs.Ordering.{then_cmp, on, flip_args, is_lt, is_gt}
use Rattle.std.specs.List.{list_any}
use Rattle.sup_specs.specs.Values.{Bytes, text_cmp}

-- the weight that a member has for a child: of the bytes of both names, bytes that compare from the first
abbrev pub Weigher : Type 0
Weigher = Bytes → Bytes → Bytes

-- m is the place of the child: a member, none has a greater weight, and none of equal weight has a lesser name
pub record IsPlace (weight : Weigher) (members : List Bytes) (id : Bytes) (m : Bytes) : Type 0 where
  pub member : Contains members m
  pub no_greater_weight : All (λ other. is_gt (text_cmp (weight other id) (weight m id)) ≡ false) members
  pub no_lesser_name : All (λ other. weight other id ≡ weight m id → is_lt (text_cmp other m) ≡ false) members

-- the greater weight ranks first, then the lesser name
abbrev pub rank_cmp : Weigher → Bytes → Bytes → Bytes → Ordering
rank_cmp weight id = then_cmp (flip_args (on (λ m. weight m id) text_cmp)) text_cmp

-- the member that no member ranks before, none where there are no members
abbrev pub place : Weigher → List Bytes → Bytes → Option Bytes
place weight members id = find (λ m. not (list_any (λ other. is_lt (rank_cmp weight id other m)) members)) members
