-- `new` makes the empty struct, with the items that its clause names. Assumes `Logic`.
use Rattle.std.proofs.Common.{[], ◌∷◌, refl}
use mir.Syntax.{Fn, Args, a_type}
use mir.Val.{Val}
use mir.MapTy.{inst_fn}
use base.Logic.{SProp}
use contract.Running.{tables}
use types.Kit.{‵, raw, ◌⊛◌, ◌$◌, ◌∵◌, !, qed, move, keep, split, fjoin, suffices, done}
use types.Part.{agg}
use types.Run.{enter, returns, and_then, no_more}
use types.ByLocal.{alloc_all, pass_all, free_all, look_at, get, sets}
use denote.RattleType.{owns}
use denote.Laws.{Is}
use denote.Param.{param, layouts}
use denote.Signature.{types_at}
use denote.Steps.{nothing, owned}
use denote.Struct.Laws.{makes}
use denote.Struct.Tuple.{Tuple}
use denote.Triple.Entry.{alive}
use denote.Triple.Walked.{says, walk_of, ends_at}
use Rattle.std.specs.contracts.marker.PhantomData as Mark
use Rattle.std.proofs.raw_atomic.Walks.{proved_at}
use Rattle.bytes.proofs.Walks.{none, one, one_made}
use Rattle.sup_links.specs.contracts.log.Log as Log
use Rattle.sup_links.specs.contracts.log.Log.new as F
use Rattle.sup_links.specs.contracts.log.Log.new.Key.{name as #self}
use Rattle.sup_links.proofs.log.Log.new.Statement as stated
use Rattle.sup_links.proofs.log.Log.new.Code as code

pub new_spec : {M : Type 1} → stated.statement M
new_spec 𝓤 𝓛 𝓜 𝓡 wired A B LA LB =
    let 𝓣 = tables 𝓤 𝓛.H 𝓜 𝓡 𝓡.env in
    let pair = Tuple (param 0 A ∷ param 1 B ∷ []) in
    let args : Args = layouts (a_type ∷ a_type ∷ []) (A, (B, tt)) in
    let function : Fn = inst_fn args code.function in
    let ended = F.ended A B in
    let held = F.clauses A B 𝓛 𝓜.mem 𝓡.returns in
    proved_at 𝓛 ended tt held 𝓜 𝓡 tt (#self args) function (code.unfolded 𝓤 𝓛.H 𝓜 𝓡 wired (A, (B, tt))) (λ z _.
    let Post : Val → SProp 𝓤 = (walk_of 𝓛 ended tt held).post z in
    let a = z.0.3 in
    let vss = z.0.4 in
    let made : (Log.the_row (param 0 A) (param 1 B)).Denot = record { of = record {}; items = [] } in
    qed 𝓛 ((raw (alive 𝓛 ended.signature z.0.0 z.0.1) ⊛ ‵ (owns (types_at ended.signature.params z.0.0) a vss)) ∷ raw ((held z.0.0 a).requires z.1) ∷ []) ∵
    keep ! (0 ∷ []) $ split ! $ keep ! (0 ∷ []) $
    enter ! 𝓣.C 𝓣.Λ function [] Post $ alloc_all ! (λ l. pass_all ! refl tt $
    sets ! (agg ! (no_more !)) refl (tt, tt) $
    sets ! (agg ! (and_then ! (get ! refl) (no_more !))) refl (tt, (tt, tt)) $
    nothing ! $ owned ! (Mark.the_row pair) (Is (Mark.the_row pair)) (makes (Mark.the_type pair) tt 𝓛) (record {}) (none ∷ []) (tt, (refl, tt)) $
    one_made ! (Mark.the_row pair) (record {}) none $ fjoin ! $
    returns ! (look_at ! 0 refl) $ free_all ! refl $
    suffices ! _ (ends_at 𝓛 ended tt held z (one none) made tt tt) $ says ! refl $
    nothing ! $ move ! (2 ∷ 0 ∷ 1 ∷ []) $ done !))
