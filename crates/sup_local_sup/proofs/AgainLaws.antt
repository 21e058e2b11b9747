-- A restart keeps the child and the dot of its entry.
use Rattle.std.specs.Prelude.{◌≡◌, Bool, true, false, cond, ◌||◌, ◌&&◌, List, [], ◌∷◌, Option, Some, None, refl, unwrap_or}
use Rattle.std.specs.List.{list_any, list_all}
use Rattle.std.specs.Str.{bytes_eq}
use Rattle.std.specs.Map.{lookup, set_value}
use Rattle.std.proofs.Common.{sym, ap, ◌∙◌}
use Rattle.sup_specs.specs.Values.{Bytes}
use Rattle.sup_causal.specs.Dots.{dot_eq}
use Rattle.sup_local_sup.specs.declared.kept.Entry.{Entry}
use Rattle.sup_local_sup.specs.declared.wanted.Wanted.{Wanted}
use Rattle.sup_local_sup.specs.Keeping.{KeptChild, is_for, is_wanted, is_kept}
use Rattle.sup_local_sup.specs.Planning.{restart_kept}
use Rattle.sup_local_sup.specs.Supervising.{Supervisor, renewed}

-- a test that sees no more of an entry than its dot
abbrev ByDot : (KeptChild → Bool) → Type 0
ByDot p = (x : Bytes) (e f : Entry) → e.dot ≡ f.dot → p (x, e) ≡ p (x, f)

all-set : (p : KeptChild → Bool) → ByDot p → (id : Bytes) (e new : Entry) → new.dot ≡ e.dot → (es : List KeptChild) → lookup (bytes_eq id) es ≡ Some e → list_all p (set_value (bytes_eq id) es new) ≡ list_all p es
all-set p dots id e new d [] at = refl
all-set p dots id e new d (x ∷ es) at =
    elim (bytes_eq id x.0) as (λ b. cond b (Some x.1) (lookup (bytes_eq id) es) ≡ Some e → list_all p (cond b ((x.0, new) ∷ es) (x ∷ set_value (bytes_eq id) es new)) ≡ (p x && list_all p es)) [
      | true ↦ λ f. ap (λ b. b && list_all p es) (dots x.0 new x.1 (d ∙ ap (λ (o : Option Entry). (unwrap_or o e).dot) (sym f)))
      | false ↦ λ f. ap (λ b. p x && b) (all-set p dots id e new d es f)
    ] at

any-set : (p : KeptChild → Bool) → ByDot p → (id : Bytes) (e new : Entry) → new.dot ≡ e.dot → (es : List KeptChild) → lookup (bytes_eq id) es ≡ Some e → list_any p (set_value (bytes_eq id) es new) ≡ list_any p es
any-set p dots id e new d [] at = refl
any-set p dots id e new d (x ∷ es) at =
    elim (bytes_eq id x.0) as (λ b. cond b (Some x.1) (lookup (bytes_eq id) es) ≡ Some e → list_any p (cond b ((x.0, new) ∷ es) (x ∷ set_value (bytes_eq id) es new)) ≡ (p x || list_any p es)) [
      | true ↦ λ f. ap (λ b. b || list_any p es) (dots x.0 new x.1 (d ∙ ap (λ (o : Option Entry). (unwrap_or o e).dot) (sym f)))
      | false ↦ λ f. ap (λ b. p x || b) (any-set p dots id e new d es f)
    ] at

all-renewed : (p : KeptChild → Bool) → ByDot p → (v : Supervisor) (id : Bytes) (o : Option Entry) → lookup (bytes_eq id) v.kept ≡ o → list_all p (restart_kept v id o) ≡ list_all p v.kept
all-renewed p dots v id None at = refl
all-renewed p dots v id (Some e) at = all-set p dots id e (renewed v e) refl v.kept at

any-renewed : (p : KeptChild → Bool) → ByDot p → (v : Supervisor) (id : Bytes) (o : Option Entry) → lookup (bytes_eq id) v.kept ≡ o → list_any p (restart_kept v id o) ≡ list_any p v.kept
any-renewed p dots v id None at = refl
any-renewed p dots v id (Some e) at = any-set p dots id e (renewed v e) refl v.kept at

all-alike : {X : Type 0} (p q : X → Bool) → ((x : X) → p x ≡ q x) → (xs : List X) → list_all p xs ≡ list_all q xs
all-alike p q same [] = refl
all-alike p q same (x ∷ xs) = λ i. same x i && all-alike p q same xs i

-- what is kept is wanted as it was
pub again_wanted : (v : Supervisor) (id : Bytes) (ws : List Wanted) → list_all (is_wanted ws) (restart_kept v id (lookup (bytes_eq id) v.kept)) ≡ list_all (is_wanted ws) v.kept
again_wanted v id ws = all-renewed (is_wanted ws) (λ x e f d i. list_any (λ (w : Wanted). is_for w x (d i)) ws) v id (lookup (bytes_eq id) v.kept) refl

-- and what is wanted is kept as it was
pub again_kept : (v : Supervisor) (id : Bytes) (ws : List Wanted) → list_all (is_kept (restart_kept v id (lookup (bytes_eq id) v.kept))) ws ≡ list_all (is_kept v.kept) ws
again_kept v id ws =
    all-alike (is_kept (restart_kept v id (lookup (bytes_eq id) v.kept))) (is_kept v.kept)
    (λ w. any-renewed (λ k. bytes_eq w.id k.0 && dot_eq w.dot k.1.dot) (λ x e f d i. bytes_eq w.id x && dot_eq w.dot (d i)) v id (lookup (bytes_eq id) v.kept) refl) ws
