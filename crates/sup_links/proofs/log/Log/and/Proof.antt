-- `and` makes the empty struct, with the items that its clause names. Assumes `Logic`.
use Rattle.std.proofs.Common.{List, [], ◌∷◌, ◌++◌, refl}
use mir.Syntax.{Fn, Args, a_type}
use mir.Val.{Val, vptr}
use mir.MapTy.{inst_fn}
use base.Logic.{SProp}
use prog.Wp.{WpFn}
use contract.Running.{tables}
use types.Kit.{‵, raw, ◌⊛◌, prop, ◌$◌, ◌∵◌, !, qed, move, keep, drop, split, fsplit, fjoin, feq_l, regoal, suffices, done}
use types.Part.{agg}
use types.Run.{enter, returns, and_then, no_more}
use types.ByLocal.{alloc_all, pass_all, free_all, look_at, get, sets}
use denote.Exit.{yes}
use denote.RattleType.{owns}
use denote.Builtin.{RefOf}
use denote.Laws.{Is}
use denote.Param.{param, layouts}
use denote.Signature.{plain, types_at}
use denote.Steps.{nothing, owned}
use denote.Struct.Laws.{makes}
use denote.Struct.Tuple.{Tuple}
use denote.Triple.Entry.{alive}
use denote.Triple.Walked.{says, AllGo, Stays, stay_dropped, walk_of, ends_at, Goes-dropped}
use Rattle.std.specs.contracts.marker.PhantomData as Mark
use Rattle.std.proofs.raw_atomic.Walks.{proved_at}
use Rattle.bytes.proofs.Walks.{none, one, one_made}
use Rattle.sup_links.specs.contracts.log.Log as Log
use Rattle.sup_links.specs.contracts.log.Log.and as F
use Rattle.sup_links.specs.contracts.log.Log.and.Key.{name as #self}
use Rattle.sup_links.proofs.log.Log.and.Statement as stated
use Rattle.sup_links.proofs.log.Log.and.Code as code

pub and_spec : {M : Type 1} → stated.statement M
and_spec 𝓤 𝓛 𝓜 𝓡 wired A B LA LB =
    let 𝓣 = tables 𝓤 𝓛.H 𝓜 𝓡 𝓡.env in
    let pair = Tuple (param 0 A ∷ param 1 B ∷ []) in
    let args : Args = layouts (a_type ∷ a_type ∷ []) (A, (B, tt)) in
    let function : Fn = inst_fn args code.function in
    let ended = F.ended A B in
    let held = F.clauses A B 𝓛 𝓜.mem 𝓡.returns in
    let shown : Stays ended.signature.params ended.kept = (
      stay_dropped (RefOf (0 ∷ []) tt (plain (λ _. Log.the_row (param 0 A) (param 1 B))) (λ _. tt)) yes,
      (stay_dropped (RefOf (1 ∷ []) tt (plain (λ _. param 0 A)) (λ _. tt)) yes, (stay_dropped (RefOf (2 ∷ []) tt (plain (λ _. param 1 B)) (λ _. tt)) yes, tt)),
    ) in
    let go : AllGo 𝓛 ended.signature.lifetimes ended.signature.params ended.kept shown = (
      Goes-dropped 𝓛 5 (RefOf (0 ∷ []) tt (plain (λ _. Log.the_row (param 0 A) (param 1 B))) (λ _. tt)) yes (λ κs x f. refl),
      (
        Goes-dropped 𝓛 5 (RefOf (1 ∷ []) tt (plain (λ _. param 0 A)) (λ _. tt)) yes (λ κs x f. refl),
        (Goes-dropped 𝓛 5 (RefOf (2 ∷ []) tt (plain (λ _. param 1 B)) (λ _. tt)) yes (λ κs x f. refl), tt),
      ),
    ) in
    proved_at 𝓛 ended shown held 𝓜 𝓡 go (#self args) function (code.unfolded 𝓤 𝓛.H 𝓜 𝓡 wired (A, (B, tt))) (λ z _.
    let Post : Val → SProp 𝓤 = (walk_of 𝓛 ended shown held).post z in
    let a = z.0.3 in
    let vss = z.0.4 in
    let made : (Log.the_row (param 0 A) (param 1 B)).Denot = record { of = record {}; items = a.0.now.items ++ (a.1.0.now, a.1.1.0.now) ∷ [] } in
    qed 𝓛 ((raw (alive 𝓛 ended.signature z.0.0 z.0.1) ⊛ ‵ (owns (types_at ended.signature.params z.0.0) a vss)) ∷ raw ((held z.0.0 a).requires z.1) ∷ []) ∵
    keep ! (0 ∷ []) $ split ! $ move ! (1 ∷ []) $
    fsplit ! $ fsplit ! $ feq_l ! (λ is₀. drop ! $ fsplit ! $ fsplit ! $ feq_l ! (λ is₁. drop ! $ fsplit ! $ fsplit ! $ feq_l ! (λ is₂. drop ! $ drop ! $
    let p = vptr a.0.ref_ptr.0 a.0.ref_ptr.1 in
    let q = vptr a.1.0.ref_ptr.0 a.1.0.ref_ptr.1 in
    let r = vptr a.1.1.0.ref_ptr.0 a.1.1.0.ref_ptr.1 in
    regoal ! (λ (us : List Val). prop (WpFn 𝓤 𝓛.H 𝓣.C 𝓣.Λ function (us ++ (vss.1.0 ++ (vss.1.1.0 ++ []))) Post)) is₀ refl $
    regoal ! (λ (us : List Val). prop (WpFn 𝓤 𝓛.H 𝓣.C 𝓣.Λ function ((p ∷ []) ++ (us ++ (vss.1.1.0 ++ []))) Post)) is₁ refl $
    regoal ! (λ (us : List Val). prop (WpFn 𝓤 𝓛.H 𝓣.C 𝓣.Λ function ((p ∷ []) ++ ((q ∷ []) ++ (us ++ []))) Post)) is₂ refl $
    enter ! 𝓣.C 𝓣.Λ function (p ∷ q ∷ r ∷ []) Post $ alloc_all ! (λ l. pass_all ! refl ((tt, tt), ((tt, tt), ((tt, tt), tt))) $
    sets ! (agg ! (no_more !)) refl (tt, tt) $
    sets ! (agg ! (and_then ! (get ! refl) (no_more !))) refl (tt, (tt, tt)) $
    nothing ! $ owned ! (Mark.the_row pair) (Is (Mark.the_row pair)) (makes (Mark.the_type pair) tt 𝓛) (record {}) (none ∷ []) (tt, (refl, tt)) $
    one_made ! (Mark.the_row pair) (record {}) none $ fjoin ! $
    returns ! (look_at ! 0 refl) $ free_all ! refl $
    suffices ! _ (ends_at 𝓛 ended shown held z (one none) made (tt, (tt, (tt, tt))) (tt, (tt, (tt, tt)))) $ says ! refl $
    nothing ! $ nothing ! $ fjoin ! $ nothing ! $ fjoin ! $ nothing ! $ fjoin ! $ move ! (2 ∷ 0 ∷ 1 ∷ []) $ done !)))))
