use Rattle.std.specs.List.{AllByRecursion}
use Rattle.std.proofs.Common.{◌≡◌, ◌++◌, drop, map}
use Rattle.json.specs.Tree.{items_tokens}
use Rattle.serde_json.specs.View.{items_of}
use Rattle.serde_json.specs.Written.{items_outline}
use Rattle.sup_wire.specs.Forms.{IsName, dot_value}
use Rattle.sup_wire.proofs.writing.context.write_cloud.Given as goal

abbrev pub invariant-loop-dot : goal.invariant-loop-dot
invariant-loop-dot l = record {
  before : l.out.before ≡ l.initial.out.before;
  tokens : l.out.tokens ++ items_tokens (items_outline (items_of (map dot_value (drop l.dot-index l.cloud)))) ≡ l.initial.out.tokens ++ items_tokens (items_outline (items_of (map dot_value l.cloud)));
  formed : AllByRecursion (λ d. IsName d.node) ((drop l.dot-index l.cloud)) → AllByRecursion (λ d. IsName d.node) l.cloud;
}
