-- Each move keeps the rule of the relay.
use Rattle.std.proofs.Common.{◌≡◌, ◌≢◌, ℕ, zero, suc, true, false, true≢false, List, [], ◌∷◌, ◌++◌, length, set, sym, refl, ap, ◌∙◌, subst, ⊎_elim, append_assoc}
use mathlib.Core.Option.{some, some-ne-none}
use lib.ListN.{get_elem?}
use Rattle.crossbeam_channel.specs.Fifo.{Pushes, Pops, Forks, Merges}
use Rattle.atomic_table.proofs.Lists.{at_set, at_snoc}
use Rattle.sup_links.specs.declared.channel.Seen.{Seen}
use Rattle.sup_links.specs.declared.channel.Parcel.{Parcel}
use Rattle.sup_links.specs.Relay.{log, Fits, Relayed}

at_end : (l : List Seen) (a b : Seen) (j : ℕ) → get_elem? l j ≢ some b → get_elem? (l ++ a ∷ []) j ≡ some b → j ≡ length l
at_end [] a b zero n e = refl
at_end [] a b (suc j) n e = absurd (some-ne-none b (sym e))
at_end (x ∷ xs) a b zero n e = absurd (n e)
at_end (x ∷ xs) a b (suc j) n e = ap suc (at_end xs a b j n e)

abbrev All : (ℕ → Seen → Type 0) → List Seen → Type 0
All F views = (port : ℕ) (v : Seen) → get_elem? views port ≡ some v → F port v

all_set : (F : ℕ → Seen → Type 0) (views : List Seen) (port : ℕ) (w : Seen) → F port w → ((j : ℕ) (u : Seen) → j ≢ port → get_elem? views j ≡ some u → F j u) → All F (set views port w)
all_set F views port w mine others j u e = ⊎_elim (λ (x : (j ≡ port) × (w ≡ u)). subst (λ (y : ℕ × Seen). F y.0 y.1) (λ i. (sym x.0 i, x.1 i)) mine)
    (λ (x : (j ≢ port) × (get_elem? views j ≡ some u)). others j u x.0 x.1) (at_set views port j w u e)

pub begins : Relayed [] (log true true [] [] ∷ [])
begins = (0, 0, [], [], refl, all_set (Fits 0 0 [] []) (log true true [] [] ∷ []) 0 (log true true [] []) ((λ _. (refl, refl)), λ _. (refl, refl)) (λ j u other e. absurd (other (at_end [] _ u j (λ x. some-ne-none u (sym x)) e))))

pub sends : (n port : ℕ) (v : Seen) (x : Parcel) → v.puts ≡ true → Pushes Relayed n port v x (λ w. w ≡ log v.puts v.takes (v.put ++ x ∷ []) v.taken)
sends n port v x may items views _ h at = let w : Seen = log v.puts v.takes (v.put ++ x ∷ []) v.taken in let mine = h.5 port v at in let sent = h.2 ++ x ∷ [] in (
  w,
  (
    h.0,
    h.1,
    sent,
    h.3,
    ap (λ l. l ++ x ∷ []) h.4 ∙ append_assoc h.3 items (x ∷ []),
    all_set (Fits h.0 h.1 sent h.3) views port w ((λ _. ((mine.0 may).0, ap (λ l. l ++ x ∷ []) (mine.0 may).1)), mine.1)
        (λ j u other e. ((λ p. absurd (other (((h.5 j u e).0 p).0 ∙ sym (mine.0 may).0))), (h.5 j u e).1)),
  ),
  refl,
)

pub gets : (port : ℕ) (v : Seen) → v.takes ≡ true → Pops Relayed port v (λ x w. w ≡ log v.puts v.takes v.put (v.taken ++ x ∷ []))
gets port v may x items views h at = let w : Seen = log v.puts v.takes v.put (v.taken ++ x ∷ []) in let mine = h.5 port v at in let got = h.3 ++ x ∷ [] in (
  w,
  (
    h.0,
    h.1,
    h.2,
    got,
    h.4 ∙ sym (append_assoc h.3 (x ∷ []) items),
    all_set (Fits h.0 h.1 h.2 got) views port w (mine.0, λ _. ((mine.1 may).0, ap (λ l. l ++ x ∷ []) (mine.1 may).1))
        (λ j u other e. ((h.5 j u e).0, λ p. absurd (other (((h.5 j u e).1 p).0 ∙ sym (mine.1 may).0)))),
  ),
  refl,
)

pub forks : (port : ℕ) (v : Seen) → v.puts ≡ true → v.takes ≡ true → Forks Relayed port v (log true false v.put []) (log false true [] v.taken)
forks port v a b items views h at = let l : Seen = log true false v.put [] in let r : Seen = log false true [] v.taken in let mine = h.5 port v at in let vs : List Seen = set views port l in
    let Old : ℕ → Seen → Type 0 = λ j u. (u.puts ≡ true → (j ≡ h.0) × (u.put ≡ h.2)) × (u.takes ≢ true) in
    let old : All Old vs = all_set Old views port l ((λ _. mine.0 a), λ p. true≢false (sym p)) (λ j u other e. ((h.5 j u e).0, λ p. other (((h.5 j u e).1 p).0 ∙ sym (mine.1 b).0))) in (
      h.0,
      length vs,
      h.2,
      h.3,
      h.4,
      λ j u e. ⊎_elim (λ x. ((old j u x).0, λ p. absurd ((old j u x).1 p)))
          (λ (is : r ≡ u). ((λ p. absurd (true≢false (sym (ap (λ (y : Seen). y.puts) is ∙ p)))), λ p. (at_end vs r u j (λ x. (old j u x).1 p) e, ap (λ (y : Seen). y.taken) (sym is) ∙ (mine.1 b).1))) (at_snoc vs r u j e),
    )

pub meets : (port : ℕ) (v : Seen) (other : ℕ) (u : Seen) → v.takes ≡ true → u.puts ≡ true → Merges Relayed port v other u (log true true u.put v.taken) (log false false [] [])
meets port v other u a b items views h at two at' = let both : Seen = log true true u.put v.taken in let mine = h.5 port v at in let vs : List Seen = set views port both in
    let was : get_elem? views other ≡ some u = ⊎_elim (λ x. absurd (two x.0)) (λ x. x.1) (at_set views port other both u at') in let theirs = (h.5 other u was).0 b in
    let Now : ℕ → Seen → Type 0 = λ j y. j ≢ other → Fits port h.1 h.2 h.3 j y in
    let now : All Now vs = all_set Now views port both (λ _. ((λ _. (refl, theirs.1)), λ _. mine.1 a)) (λ j y _ e apart. ((λ p. absurd (apart (((h.5 j y e).0 p).0 ∙ sym theirs.0))), (h.5 j y e).1)) in
    (port, h.1, h.2, h.3, h.4, all_set (Fits port h.1 h.2 h.3) vs other (log false false [] []) ((λ p. absurd (true≢false (sym p))), λ p. absurd (true≢false (sym p))) (λ j y apart e. now j y e apart))

pub parts : (port : ℕ) (v : Seen) → v.puts ≡ true → v.takes ≡ true → Forks Relayed port v (log false true [] v.taken) (log true false v.put [])
parts port v a b items views h at = let l : Seen = log false true [] v.taken in let r : Seen = log true false v.put [] in let mine = h.5 port v at in let vs : List Seen = set views port l in
    let Old : ℕ → Seen → Type 0 = λ j u. (u.puts ≢ true) × (u.takes ≡ true → (j ≡ h.1) × (u.taken ≡ h.3)) in
    let old : All Old vs = all_set Old views port l ((λ p. true≢false (sym p)), λ _. mine.1 b) (λ j u other e. ((λ p. other (((h.5 j u e).0 p).0 ∙ sym (mine.0 a).0)), (h.5 j u e).1)) in (
      length vs,
      h.1,
      h.2,
      h.3,
      h.4,
      λ j u e. ⊎_elim (λ x. ((λ p. absurd ((old j u x).0 p)), (old j u x).1))
          (λ (is : r ≡ u). ((λ p. (at_end vs r u j (λ x. (old j u x).0 p) e, ap (λ (y : Seen). y.put) (sym is) ∙ (mine.0 a).1)), λ p. absurd (true≢false (sym (ap (λ (y : Seen). y.takes) is ∙ p))))) (at_snoc vs r u j e),
    )
