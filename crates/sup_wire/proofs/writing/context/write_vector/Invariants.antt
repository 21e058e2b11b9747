use Rattle.std.specs.List.{AllByRecursion}
use Rattle.std.proofs.Common.{◌≡◌, ◌++◌, drop}
use Rattle.json.specs.Tree.{members_tokens}
use Rattle.serde_json.specs.Written.{members_outline}
use Rattle.sup_wire.specs.Forms.{IsName, vector_members}
use Rattle.sup_wire.proofs.writing.context.write_vector.Given as goal

abbrev pub invariant-loop-note : goal.invariant-loop-note
invariant-loop-note l = record {
  before : l.out.before ≡ l.initial.out.before;
  tokens : l.out.tokens ++ members_tokens (members_outline (vector_members (drop l.note-index l.vector))) ≡ l.initial.out.tokens ++ members_tokens (members_outline (vector_members l.vector));
  formed : AllByRecursion (λ e. IsName e.0) ((drop l.note-index l.vector)) → AllByRecursion (λ e. IsName e.0) l.vector;
}
