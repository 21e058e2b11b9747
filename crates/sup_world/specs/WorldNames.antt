-- Names that make a world (the limits of a world).
use Rattle.std.specs.Prelude.{◌≤◌, List, length}
use Rattle.sup_specs.specs.Values.{Bytes}
use Rattle.sup_model.specs.Follows.{NamesAllDiffer}
use Rattle.sup_world.specs.declared.fault.WorldFault.{WorldFault}
use Rattle.sup_world.specs.declared.fault.WorldFault.TheVariants.{BadNames, OutOfMemory}

-- 1 to 16 names that differ
pub record AreWorldNames (names : List Bytes) : Type 0 where
  pub some : 1 ≤ length names
  pub few : length names ≤ 16
  pub apart : NamesAllDiffer names

-- why there is no such world
abbrev pub IsFaultOf : List Bytes → WorldFault → Type 0
IsFaultOf names BadNames = ¬ AreWorldNames names
IsFaultOf names OutOfMemory = AreWorldNames names
