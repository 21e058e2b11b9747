-- Which changes may be refused when they are carried out.
use Rattle.std.specs.Prelude.{Bool, true, false}
use Rattle.sup_node.specs.declared.change.Change.{Change}
use Rattle.sup_node.specs.declared.change.Change.TheVariants.{Nothing, Begins, Learns, Acknowledges}

-- for want of memory: to note what a peer acknowledged, or to take in a delta; no other change is refused
abbrev pub takes_memory : Change → Bool
takes_memory Nothing = false
takes_memory (Begins id now) = false
takes_memory (Learns l) = true
takes_memory (Acknowledges from number) = true
