-- The gravest of faults, one result more.
use Rattle.std.specs.Prelude.{◌≡◌, ◌≤◌, ◌⊎◌, List, [], ◌∷◌, ◌++◌, All, Contains, Option, Some, None, Result, Ok, Err, IsOk, IfSome, IfNone, refl}
use Rattle.std.proofs.Common.{sym, subst, arith, inl, inr}
use Rattle.std.proofs.lemmas.List.Elements.{Contains-append_left}
use Rattle.sup_posts.specs.declared.thread_fault.ThreadFault.{ThreadFault}
use Rattle.sup_posts.proofs.ItemLaws.{all_snoc, all_weaken, last_contained}
use Rattle.sup_posts.specs.Faults.{IsBelow, IsGravest, gravity}

err_is : {A E : Type 0} (x y : E) (r : Result A E) → r ≡ Err x → r ≡ Err y → x ≡ y
err_is x y r e f = cc

module _ {T : Type 0} where
  -- the fault to be told of these results, or none where each is good
  abbrev pub Told : Option ThreadFault → List (Result T ThreadFault) → Type 0
  Told (Some f) rs = IsGravest rs f
  Told None rs = All IsOk rs

  pub good_below : (g : ThreadFault) (r : Result T ThreadFault) → IsOk r → IsBelow g r
  good_below g (Ok x) ok f e = cc
  good_below g (Err y) ok f e = absurd cc

  pub other_below : (v g : ThreadFault) → gravity v ≤ gravity g → (r : Result T ThreadFault) → IsBelow v r → IsBelow g r
  other_below v g le r below f e = omega (arith, le, below f e)

  pub told_good : (w : Option ThreadFault) (rs : List (Result T ThreadFault)) (x : T) → Told w rs → Told w (rs ++ Ok x ∷ [])
  told_good (Some f) rs x t = record {
    stands = Contains-append_left rs (Ok x ∷ []) (Err f) t.stands;
    gravest = all_snoc (IsBelow f) rs (Ok x) t.gravest (good_below f (Ok x) refl);
  }
  told_good None rs x t = all_snoc IsOk rs (Ok x) t refl

  pub told_item : (w : Option ThreadFault) (rs : List (Result T ThreadFault)) (r : Result T ThreadFault) → IsOk r → Told w rs → Told w (rs ++ r ∷ [])
  told_item w rs (Ok x) ok t = told_good w rs x t
  told_item w rs (Err y) ok t = absurd cc

  all_below : (w : Option ThreadFault) (g : ThreadFault) (rs : List (Result T ThreadFault)) → IfSome w (λ v. gravity v ≤ gravity g) → Told w rs → All (IsBelow g) rs
  all_below (Some v) g rs le t = all_weaken (IsBelow v) (IsBelow g) (other_below v g le) rs t.gravest
  all_below None g rs le t = all_weaken IsOk (IsBelow g) (good_below g) rs t

  stands_still : (w : Option ThreadFault) (f g : ThreadFault) (rs : List (Result T ThreadFault)) → (g ≡ f) ⊎ (w ≡ Some g) → Told w rs → Contains (rs ++ Err f ∷ []) (Err g)
  stands_still w f g rs (inl e) t = subst (λ y. Contains (rs ++ Err f ∷ []) (Err y)) (sym e) (last_contained rs (Err f))
  stands_still w f g rs (inr e) t =
      let there : IsGravest rs g = subst (λ v. Told v rs) e t in
      Contains-append_left rs (Err f ∷ []) (Err g) there.stands

  pub is_below : (f g : ThreadFault) → gravity f ≤ gravity g → IsBelow {T = T} g (Err f)
  is_below f g le y e = subst (λ z. gravity z ≤ gravity g) (err_is f y (Err f) refl e) le

  pub told_fault : (w : Option ThreadFault) (f g : ThreadFault) (rs : List (Result T ThreadFault))
      → (g ≡ f) ⊎ (w ≡ Some g) → gravity f ≤ gravity g → IfSome w (λ v. gravity v ≤ gravity g) → Told w rs → Told (Some g) (rs ++ Err f ∷ [])
  told_fault w f g rs either above worst t = record {
    stands = stands_still w f g rs either t;
    gravest = all_snoc (IsBelow g) rs (Err f) (all_below w g rs worst t) (is_below f g above);
  }

  pub told_some : (w : Option ThreadFault) (rs : List (Result T ThreadFault)) → Told w rs → IfSome w (IsGravest rs)
  told_some (Some f) rs t = t
  told_some None rs t = tt

  pub told_none : (w : Option ThreadFault) (rs : List (Result T ThreadFault)) → Told w rs → IfNone w (All IsOk rs)
  told_none (Some f) rs t = tt
  told_none None rs t = t
