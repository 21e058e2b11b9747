use Rattle.std.proofs.Common.{◌≡◌, take, string_bytes}
use Rattle.std.specs.List.{flat_map}
use Rattle.sup_world.specs.SeenNodes.{sites_of}
use Rattle.sup_cluster_texts.specs.Texts.{named_text}
use Rattle.sup_cluster_texts.proofs.text.nodes_text.Given as goal

abbrev pub invariant-loop-name : goal.invariant-loop-name
invariant-loop-name g l = string_bytes l.text ≡ flat_map (named_text g.G.Weigh.weight_of (sites_of l.world)) (take l.name-index l.names)
