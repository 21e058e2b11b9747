-- What a node asks of those who run its children (this project).
use Rattle.std.specs.Prelude.{List}
use Rattle.sup_specs.specs.Values.{Bytes}
use Rattle.sup_local_sup.specs.declared.effect.Effect.{Effect}

-- an effect of a node's answer, to be done once
pub record Asked : Type 0 where
  pub node : Bytes
  pub effect : Effect

-- the effects of one of its answers that were not asked for yet
pub record Unasked : Type 0 where
  pub node : Bytes
  pub effects : List Effect
