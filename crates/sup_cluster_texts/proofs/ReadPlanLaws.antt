-- The plan of a script that was read can be run.
use Rattle.std.proofs.Common.{◌≡◌, ℕ, true, ◌&&◌, List, [], ◌∷◌, ◌++◌, map, Option, Some, None, Result, Ok, Err, refl, sym, ap₂, subst}
use Rattle.std.specs.List.{AllPass, IsDistinct, list_any}
use Rattle.std.specs.Cmp.Lexicographic.{nat_list_eq_equiv}
use Rattle.std.proofs.lemmas.Option.{none-some, same_Some, option_and_then_some}
use Rattle.std.proofs.lemmas.List.Elements.{All-nil, All-cons, All-head, All-push, All-tail}
use Rattle.sup_specs.specs.Values.{Bytes}
use Rattle.sup_replica.specs.Configs.{Config}
use Rattle.sup_plan.specs.declared.plan.Plan.{Plan}
use Rattle.sup_plan.specs.declared.plan.Route.{Route}
use Rattle.sup_plan.specs.Plans as plans
use Rattle.sup_plan.specs.Plans.{IsPlan, may_tell}
use Rattle.sup_lines.specs.Words.{Name, ◌>>=◌}
use Rattle.sup_lines.specs.Script.{numbered_lines}
use Rattle.sup_cluster_lines.specs.Nodes.{opening_of}
use Rattle.sup_cluster_lines.specs.Links.{Link, link_in}
use Rattle.sup_cluster_lines.specs.Script.{Asked, Said, link, command, is_same_pair, behind, after_line, all_behind, with_nodes, opened, lines_say, plan_script_of, said_of}
use Rattle.sup_cluster_texts.specs.Plans.{IsPlanOf}
use Rattle.sup_cluster_texts.proofs.ChoiceLaws.{distinct_push, distinct_views, left_out, not_err, same_ok}
use Rattle.sup_cluster_texts.proofs.ReadLineLaws.{Fits, has_ends, said_fits}
use Rattle.sup_cluster_texts.proofs.ReadNodeLaws.{AreFew, opened_few}

-- what is asked of these nodes can be done in a run
record CanDo (nodes : List Bytes) (asked : Asked) : Type 0 where
  told : AllPass (may_tell nodes) asked.1
  linked : AllPass (has_ends nodes) asked.0
  single : IsDistinct is_same_pair asked.0

pair_turns : (k l : Link) → is_same_pair k l ≡ is_same_pair l k
pair_turns k l = ap₂ (λ a b. a && b) (nat_list_eq_equiv.symm k.0 l.0) (nat_list_eq_equiv.symm k.1.0 l.1.0)

nothing : (nodes : List Bytes) → CanDo nodes ([], [])
unfolding IsDistinct
nothing nodes = record { told = All-nil _; linked = All-nil _; single = tt }

one_more : (nodes : List Bytes) (asked next : Asked) (said : Said) → Fits nodes said → behind asked said ≡ Some next → CanDo nodes asked → CanDo nodes next
one_more nodes (links, []) next (link l) fits h can =
    let taken = left_out (list_any (is_same_pair l) links) (Some (links ++ l ∷ [], [])) next h in
    subst (CanDo nodes) (same_Some {A = Asked} (links ++ l ∷ [], []) next taken.1) (record {
      told = can.told;
      linked = All-push (λ k. has_ends nodes k ≡ true) links l can.linked fits;
      single = distinct_push is_same_pair pair_turns links l can.single taken.0;
    })
one_more nodes (links, first ∷ commands) next (link l) fits h can = absurd (none-some next h)
one_more nodes (links, commands) next (command c) fits h can =
    subst (CanDo nodes) (same_Some {A = Asked} (links, commands ++ c ∷ []) next h) (record {
      told = All-push (λ d. may_tell nodes d ≡ true) commands c can.told fits;
      linked = can.linked;
      single = can.single;
    })

one_line : (nodes : List Bytes) (asked next : Asked) (bytes : List ℕ) → (said_of nodes bytes >>= behind asked) ≡ Some next → CanDo nodes asked → CanDo nodes next
one_line nodes asked next bytes h can =
    option_and_then_some (behind asked) (said_of nodes bytes) next h (λ said is h'. one_more nodes asked next said (said_fits nodes bytes said is) h' can)

all_lines : (nodes : List Bytes) (asked final : Asked) (lines : List (ℕ × List ℕ)) → all_behind nodes asked lines ≡ Ok final → CanDo nodes asked → CanDo nodes final
all_lines nodes asked final [] h can = subst (CanDo nodes) (same_ok {E = ℕ} asked final h) can
all_lines nodes asked final (line ∷ lines) h can = by_line (said_of nodes line.1 >>= behind asked) refl h (λ next e c. all_lines nodes next final lines e c)
  where
    by_line : (o : Option Asked) → (said_of nodes line.1 >>= behind asked) ≡ o → after_line line.0 o (λ next. all_behind nodes next lines) ≡ Ok final
        → ((next : Asked) → all_behind nodes next lines ≡ Ok final → CanDo nodes next → CanDo nodes final) → CanDo nodes final
    by_line None is e more = absurd (not_err line.0 final e)
    by_line (Some next) is e more = more next e (one_line nodes asked next line.1 is can)

-- the nodes are few and differ, and what is asked of them can be done
record CanRun (script : List Name × Asked) : Type 0 where
  are_few : AreFew script.0
  can : CanDo script.0 script.1

with_lines : (nodes : List Name) (r : Result Asked ℕ) (script : List Name × Asked) → AreFew nodes → ((asked : Asked) → r ≡ Ok asked → CanDo nodes asked) → with_nodes nodes r ≡ Ok script → CanRun script
with_lines nodes (Ok asked) script are f h = subst CanRun (same_ok {E = ℕ} (nodes, asked) script h) (record { are_few = are; can = f asked refl })
with_lines nodes (Err number) script are f h = absurd (not_err number script h)

read_lines : (lines : List (ℕ × List ℕ)) (script : List Name × Asked) → lines_say lines ≡ Ok script → CanRun script
read_lines [] script h = absurd (not_err 0 script h)
read_lines (line ∷ lines) script h = by_nodes (opening_of line.1) refl h
  where
    by_nodes : (o : Option (List Name)) → opening_of line.1 ≡ o → opened line.0 o lines ≡ Ok script → CanRun script
    by_nodes None is e = absurd (not_err line.0 script e)
    by_nodes (Some nodes) is e = with_lines nodes (all_behind nodes ([], []) lines) script (opened_few line.1 nodes is) (λ asked k. all_lines nodes ([], []) asked lines k (nothing nodes)) e

read_script : (bytes : List ℕ) (script : List Name × Asked) → plan_script_of bytes ≡ Ok script → CanRun script
read_script bytes script h = read_lines (numbered_lines bytes) script h

linked_routes : (nodes : List Bytes) (routes : List Route) → AllPass (has_ends nodes) (map link_in routes) → AllPass (plans.has_ends nodes) routes
linked_routes nodes [] h = All-nil _
linked_routes nodes (r ∷ routes) h =
    let P = λ (l : Link). has_ends nodes l ≡ true in
    All-cons (λ s. plans.has_ends nodes s ≡ true) r routes (All-head P (link_in r) (map link_in routes) h) (linked_routes nodes routes (All-tail P (link_in r) (map link_in routes) h))

pub read_plans_run : (config : Config) (bytes : List ℕ) (script : List Name × Asked) (plan : Plan) → plan_script_of bytes ≡ Ok script → IsPlanOf config script plan → IsPlan plan
read_plans_run config bytes script plan read is =
    let run = read_script bytes script read in
    let nodes : script.0 ≡ plan.nodes.items = sym is.nodes in
    let can : CanDo plan.nodes.items script.1 = subst (λ l. CanDo l script.1) nodes run.can in
    let few : AreFew plan.nodes.items = subst AreFew nodes run.are_few in
    record {
      few = few.few;
      distinct = few.distinct;
      told = subst (AllPass (may_tell plan.nodes.items)) (sym is.commands) can.told;
      linked = linked_routes plan.nodes.items plan.scripts.items (subst (AllPass (has_ends plan.nodes.items)) (sym is.links) can.linked);
      single = distinct_views link_in is_same_pair plan.scripts.items (subst (IsDistinct is_same_pair) (sym is.links) can.single);
    }
