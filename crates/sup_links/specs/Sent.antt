-- The messages that an end of a link has put (this project).
use Rattle.std.specs.Prelude.{ℕ, List, map}
use Rattle.sup_links.specs.Texts.{Bytes}
use Rattle.sup_links.specs.declared.log.Log.{Log}
use Rattle.std.specs.declared.vec.Vec.{Vec}
use Rattle.std.specs.declared.alloc.Global.{Global}

-- in the order of their puts
abbrev pub sent_of : Log (Vec ℕ Global) (Unit {0}) → List Bytes
sent_of log = map (λ p. p.0.items) log.items
