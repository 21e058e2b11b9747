-- Shares put together, cut and counted in finer parts.
use Rattle.std.proofs.Common.{◌≡◌, true, false, ℕ, zero, suc, ◌+◌, ◌-◌, ◌^◌, ◌<◌, ◌≤◌, List, [], ◌∷◌, ◌++◌, refl, ap, ◌∙◌, sym, subst, arith, append-nil, pow-suc}
use Rattle.sup_node_gate.specs.Shares.{parts_at, AllAtMost, IsWholeAt, IsWhole, halved, is_shared}

pub parts_append : (n : ℕ) (xs ys : List ℕ) → parts_at n (xs ++ ys) ≡ parts_at n xs + parts_at n ys
parts_append n [] ys = omega arith
parts_append n (x ∷ xs) ys = let e = parts_append n xs ys in omega (arith, e)

pub most_append : (n : ℕ) (xs ys : List ℕ) → AllAtMost n xs → AllAtMost n ys → AllAtMost n (xs ++ ys)
most_append n [] ys a b = b
most_append n (x ∷ xs) ys a b = (a.0, most_append n xs ys a.1 b)

pub most_left : (n : ℕ) (xs ys : List ℕ) → AllAtMost n (xs ++ ys) → AllAtMost n xs
most_left n [] ys a = tt
most_left n (x ∷ xs) ys a = (a.0, most_left n xs ys a.1)

pub most_right : (n : ℕ) (xs ys : List ℕ) → AllAtMost n (xs ++ ys) → AllAtMost n ys
most_right n [] ys a = a
most_right n (x ∷ xs) ys a = most_right n xs ys a.1

pub most_deeper : (n : ℕ) (xs : List ℕ) → AllAtMost n xs → AllAtMost (suc n) xs
most_deeper n [] a = tt
most_deeper n (x ∷ xs) a = let b = a.0 in (omega (arith, b), most_deeper n xs a.1)

pub most_halved : (n : ℕ) (xs : List ℕ) → AllAtMost n xs → AllAtMost (suc n) (halved xs)
most_halved n [] a = tt
most_halved n (x ∷ xs) a = let b = a.0 in (omega (arith, b), most_halved n xs a.1)

one_deeper : (n e : ℕ) → e ≤ n → 2 ^ (suc n - e) ≡ 2 ^ (n - e) + 2 ^ (n - e)
one_deeper n e le = let up : suc n - e ≡ suc (n - e) = omega (arith, le) in ap (λ k. 2 ^ k) up ∙ omega (arith, pow-suc 2 (n - e))

one_halved : (n e : ℕ) → 2 ^ (suc n - suc e) ≡ 2 ^ (n - e)
one_halved n e = let same : suc n - suc e ≡ n - e = omega arith in ap (λ k. 2 ^ k) same

-- counted in parts of half the size there are twice as many
pub parts_deeper : (n : ℕ) (xs : List ℕ) → AllAtMost n xs → parts_at (suc n) xs ≡ parts_at n xs + parts_at n xs
parts_deeper n [] a = refl
parts_deeper n (x ∷ xs) a = let e = one_deeper n x a.0 in let r = parts_deeper n xs a.1 in omega (arith, e, r)

-- and of halves as many as there were
pub parts_halved : (n : ℕ) (xs : List ℕ) → parts_at (suc n) (halved xs) ≡ parts_at n xs
parts_halved n [] = refl
parts_halved n (x ∷ xs) = let e = one_halved n x in let r = parts_halved n xs in omega (arith, e, r)

pub some_part : (n : ℕ) → 0 < 2 ^ n
some_part zero = omega arith
some_part (suc n) = let p = some_part n in omega (arith, p, pow-suc 2 n)

-- what comes to no part is no share
pub no_parts : (n : ℕ) (xs : List ℕ) → parts_at n xs ≡ 0 → xs ≡ []
no_parts n [] z = refl
no_parts n (x ∷ xs) z = let p = some_part (n - x) in absurd (omega (arith, p, z))

pub whole_deeper : (n : ℕ) (xs : List ℕ) → IsWholeAt n xs → IsWholeAt (suc n) xs
whole_deeper n xs w = let d = parts_deeper n xs w.0 in let e = w.1 in (most_deeper n xs w.0, omega (arith, d, e, pow-suc 2 n))

pub whole_beyond : (k n : ℕ) (xs : List ℕ) → IsWholeAt n xs → IsWholeAt (k + n) xs
whole_beyond zero n xs w = subst (λ (m : ℕ). IsWholeAt m xs) (omega arith) w
whole_beyond (suc k) n xs w = subst (λ (m : ℕ). IsWholeAt m xs) (omega arith) (whole_deeper (k + n) xs (whole_beyond k n xs w))

pub first_whole : IsWhole (0 ∷ [])
first_whole = (0, ((omega arith, tt), refl))

pub shared_append : (xs ys : List ℕ) → is_shared xs ≡ true → is_shared (xs ++ ys) ≡ true
shared_append [] ys h = absurd cc
shared_append (x ∷ xs) ys h = refl

pub shared_halved : (xs : List ℕ) → is_shared (halved xs) ≡ is_shared xs
shared_halved [] = refl
shared_halved (x ∷ xs) = refl

pub true_false : true ≡ false → ⊥
true_false e = cc

pub none_left : (xs ys : List ℕ) → is_shared (xs ++ ys) ≡ false → is_shared xs ≡ false
none_left [] ys bare = refl
none_left (x ∷ xs) ys bare = absurd (true_false bare)

pub none_right : (xs ys : List ℕ) → is_shared (xs ++ ys) ≡ false → is_shared ys ≡ false
none_right [] ys bare = bare
none_right (x ∷ xs) ys bare = absurd (true_false bare)

-- Where all shares are those of one pass and of others, and the one is split, they are its half, those of the others and the new one's half:
-- what a pass has that was split again and again, and then joined to each that was split off, in order.
pub whole_one_more : (xs others : List ℕ) → IsWhole (xs ++ others) → IsWhole (halved xs ++ (others ++ halved xs))
whole_one_more xs others whole = let n = whole.0 in let m : ℕ = suc n in let deeper = whole_deeper n (xs ++ others) whole.1 in
    let fine = most_left n xs others whole.1.0 in let half = most_halved n xs fine in let beside = most_right m xs others deeper.0 in
    let a = parts_append m (halved xs) (others ++ halved xs) in let b = parts_append m others (halved xs) in let c = parts_append m xs others in
    let d = parts_deeper n xs fine in let e = parts_halved n xs in let f = deeper.1 in
    (m, (most_append m (halved xs) (others ++ halved xs) half (most_append m others (halved xs) beside half), omega (arith, a, b, c, d, e, f)))

-- the halves of the whole are the whole
pub whole_rejoined : (xs : List ℕ) → IsWhole xs → IsWhole (halved xs ++ halved xs)
whole_rejoined xs whole = whole_one_more xs [] (subst IsWhole (sym (append-nil xs)) whole)
