-- A front of a text that is written in parts.
use Rattle.std.proofs.Common.{◌≡◌, ◌∙◌, ℕ, ◌+◌, ◌<◌, ◌≤◌, List, ◌++◌, length, take, arith, Option, Result, Ok, Err}
use Rattle.std.specs.Prelude.{IsErrAnd}
use Rattle.std.proofs.lemmas.List.{length-append, take-append-le}
use Rattle.std.proofs.Math.Seq.{take-append-add}
use Rattle.std.specs.Io.KnownBytes.{Appends}
use Rattle.std.proofs.KnownBytes.{Appends-trans}
use Rattle.sup_jobs.specs.Tells.{IsCutShort, Tells}

-- what is cut short in its first part is cut short
pub cut_in_first : (a b : Option (List ℕ)) (xs ys : List ℕ) → IsCutShort a b xs → IsCutShort a b (xs ++ ys)
cut_in_first a b xs ys (n, less, h) =
    let short : n ≤ length xs = omega arith in
    let all : length (xs ++ ys) ≡ length xs + length ys = length-append xs ys in
    (n, omega (arith, all), rw (take-append-le n xs ys short) h)

-- what is cut short behind its first part is cut short
pub cut_in_second : (a b c : Option (List ℕ)) (xs ys : List ℕ) → Appends a b xs → IsCutShort b c ys → IsCutShort a c (xs ++ ys)
cut_in_second a b c xs ys h (n, less, w) =
    let all : length (xs ++ ys) ≡ length xs + length ys = length-append xs ys in
    (length xs + n, omega (arith, all), rw (take-append-add xs ys n) (Appends-trans a b c xs (take n ys) h w))

-- a text that was begun is told as far as its rest is
pub told_behind : {X E : Type 0} (r : Result X E) (a b c : Option (List ℕ)) (xs ys : List ℕ) → Appends a b xs → Tells r b c ys → Tells r a c (xs ++ ys)
told_behind (Ok x) a b c xs ys h w = Appends-trans a b c xs ys h w
told_behind (Err e) a b c xs ys h w = cut_in_second a b c xs ys h w

-- a text that was cut short, where the writer failed
pub told_short : {X E : Type 0} (r : Result X E) (P : E → Type 0) (a b : Option (List ℕ)) (xs : List ℕ) → IsErrAnd r P → IsCutShort a b xs → Tells r a b xs
told_short (Ok x) P a b xs err h = absurd err
told_short (Err e) P a b xs err h = h
