-- What a put keeps: what was said is the image, and those that wait are those that the definition holds.
use Rattle.std.proofs.Common.{◌≡◌, ℕ, ◌+◌, ◌-◌, ◌<◌, zero, suc, List, [], ◌∷◌, ◌++◌, length, min, take, get_or, Option, refl, ap, ◌∙◌, sym, arith, append_assoc}
use Rattle.std.specs.Prelude.{slice_get, unwrap_or, map}
use Rattle.std.proofs.lemmas.List.{length_push, map_push, map_more, length-map, length-take-le}
use Rattle.std.specs.declared.vec.Vec.{Vec}
use Rattle.std.specs.declared.alloc.Global.{Global}
use Rattle.sup_links.specs.declared.script.Verdict.{Verdict}
use Rattle.sup_links.specs.declared.script.Verdict.TheVariants.{Pass}
use Rattle.sup_links.specs.declared.log.Log.{Log}
use Rattle.sup_links.specs.Image.{verdict, copies, image, held_of}
use Rattle.sup_links.specs.Waiting.{counted, due, kept, held_back}
use Rattle.sup_links.specs.Texts.{Bytes, texts, on_way, mark, IsFront}
use Rattle.sup_links.specs.Sending.{Stops}
use Rattle.sup_links.specs.Sent.{sent_of}
use Rattle.sup_links.proofs.HeldLaws.{image_step, kept_step}
use Rattle.sup_links.proofs.TextLaws.{on_way_more}
use Rattle.sup_links.proofs.FrontLaws.{front_from}

same_get : (script : List Verdict) (n : ℕ) → slice_get script (min n (length script)) ≡ slice_get script n
same_get [] zero = refl
same_get [] (suc n) = refl
same_get (v ∷ vs) zero = let e : min zero (suc (length vs)) ≡ zero = omega arith in ap (slice_get (v ∷ vs)) e
same_get (v ∷ vs) (suc n) = let e : min (suc n) (suc (length vs)) ≡ suc (min n (length vs)) = omega arith in ap (slice_get (v ∷ vs)) e ∙ same_get vs n

-- verdicts past the end are all one
spent_verdict : (script : List Verdict) (n : ℕ) → verdict script (min n (length script) + 1) ≡ verdict script (n + 1)
spent_verdict script n = let a : min n (length script) + 1 - 1 ≡ min n (length script) = omega arith in let b : n ≡ n + 1 - 1 = omega arith in
    ap (λ o. unwrap_or o Pass) (ap (slice_get script) a ∙ (same_get script n ∙ ap (slice_get script) b))

sent_more : (before after : Log (Vec ℕ Global) (Unit {0})) (m : Vec ℕ Global) → after.items ≡ before.items ++ (m, tt) ∷ [] → sent_of after ≡ sent_of before ++ m.items ∷ []
sent_more before after m e = let says : Vec ℕ Global × Unit {0} → Bytes = λ p. p.0.items in let last : Vec ℕ Global × Unit {0} = (m, tt) in ap (map says) e ∙ map_push says before.items last

told_at : (script : List Verdict) (sent : List Bytes) (place : ℕ) (v : Verdict) → place ≡ min (length sent) (length script) → v ≡ verdict script (place + 1) → v ≡ verdict script (length sent + 1)
told_at script sent place v spent told = told ∙ (ap (λ n. verdict script (n + 1)) spent ∙ spent_verdict script (length sent))

pub text_more : (sent : List (Vec ℕ Global)) (i : ℕ) (text : Vec ℕ Global) (m : Bytes) → i < length sent → text ≡ get_or sent i text → m ≡ text.items → texts (take (i + 1) sent) ≡ texts (take i sent) ++ m ∷ []
text_more sent i text m lt at is = let says : Vec ℕ Global → Bytes = λ v. v.items in
    map_more says sent i text lt ∙ (ap (λ v. texts (take i sent) ++ says v ∷ []) (sym at) ∙ ap (λ b. texts (take i sent) ++ b ∷ []) (sym is))

pub text_told : (script : List Verdict) (sent : List (Vec ℕ Global)) (i : ℕ) (v : Verdict) → i < length sent → v ≡ verdict script (i + 1) → v ≡ verdict script (length (texts (take i sent)) + 1)
text_told script sent i v lt told = let says : Vec ℕ Global → Bytes = λ w. w.items in let long : i ≡ length (texts (take i sent)) = sym (length-map (take i sent) says ∙ length-take-le i sent (omega arith)) in
    told ∙ ap (λ n. verdict script (n + 1)) long

-- a message, its verdict, what of it leaves at once, and who waits with it
pub record Step (script : List Verdict) (sent after : List Bytes) (m : Bytes) (v : Verdict) (going : List Bytes) (waits : List (ℕ × Bytes)) : Type 0 where
  pub more : after ≡ sent ++ m ∷ []
  pub told : v ≡ verdict script (length sent + 1)
  pub leaves : going ≡ copies v (m ∷ [])
  pub stays : waits ≡ held_of script sent ++ held_back v m

-- of what a put says of its log, its verdict, what leaves and who waits
pub put_step : (script : List Verdict) (before after : Log (Vec ℕ Global) (Unit {0})) (m : Vec ℕ Global) (place : ℕ) (v : Verdict) {going : List Bytes} {old new : List (ℕ × Bytes)}
    → after.items ≡ before.items ++ (m, tt) ∷ [] → place ≡ min (length (sent_of before)) (length script) → v ≡ verdict script (place + 1)
    → going ≡ copies v (m.items ∷ []) → new ≡ old ++ held_back v m.items → old ≡ held_of script (sent_of before)
    → Step script (sent_of before) (sent_of after) m.items v going new
put_step script before after m place v more spent told leaves waits held = record {
  more = sent_more before after m more;
  told = told_at script (sent_of before) place v spent told;
  leaves = leaves;
  stays = waits ∙ ap (λ l. l ++ held_back v m.items) held;
}

module _ {script : List Verdict} {sent after : List Bytes} {m : Bytes} {v : Verdict} {going : List Bytes} {waits : List (ℕ × Bytes)} (step : Step script sent after m v going waits) where
  -- the verdicts spent, behind this message too
  pub spends : (place now most : ℕ) → place ≡ min (length sent) (length script) → most ≡ length script → now ≡ min (place + 1) most → now ≡ min (length after) (length script)
  spends place now most spent is_most is_now = let e : length after ≡ length sent + 1 = ap length step.more ∙ length_push sent m in omega arith

  is_waits : waits ≡ held_of script sent ++ held_back (verdict script (length sent + 1)) m
  is_waits = step.stays ∙ ap (λ u. held_of script sent ++ held_back u m) step.told

  -- the image of the longer list
  pub brings : image script after ≡ image script sent ++ (going ++ due (counted waits))
  brings = ap (image script) step.more
      ∙ (image_step script sent m
      ∙ (ap (λ u. image script sent ++ (copies u (m ∷ []) ++ due (counted (held_of script sent ++ held_back (verdict script (length sent + 1)) m)))) (sym step.told)
      ∙ (ap (λ l. image script sent ++ (l ++ due (counted (held_of script sent ++ held_back (verdict script (length sent + 1)) m)))) (sym step.leaves)
      ∙ ap (λ l. image script sent ++ (going ++ due (counted l))) (sym is_waits))))

  -- and those that wait then
  pub keeps : kept (counted waits) ≡ held_of script after
  keeps = ap (λ l. kept (counted l)) is_waits ∙ (kept_step script sent m ∙ ap (held_of script) (sym step.more))

  module _ (old new : List (Option Bytes)) (went : old ≡ on_way (image script sent)) where
    pub goes : new ≡ old ++ on_way (going ++ due (counted waits)) → new ≡ on_way (image script after)
    goes e = e ∙ (ap (λ l. l ++ on_way (going ++ due (counted waits))) went ∙ (sym (on_way_more (image script sent) (going ++ due (counted waits))) ∙ ap on_way (sym brings)))

    pub begins_ok : new ≡ old ++ on_way (going ++ due (counted waits)) → IsFront new (on_way (image script after) ++ mark)
    begins_ok e = front_from new mark (on_way (image script after) ++ mark) (ap (λ l. l ++ mark) (sym (goes e)))

    pub begins_err : Stops old new (going ++ due (counted waits)) → IsFront new (on_way (image script after) ++ mark)
    begins_err some = front_from new (on_way some.1 ++ mark) (on_way (image script after) ++ mark)
        (ap (λ l. on_way l ++ mark) (brings ∙ (ap (λ l. image script sent ++ l) some.2 ∙ sym (append_assoc (image script sent) some.0 some.1)))
        ∙ (ap (λ l. l ++ mark) (on_way_more (image script sent ++ some.0) some.1)
        ∙ (append_assoc (on_way (image script sent ++ some.0)) (on_way some.1) mark
        ∙ ap (λ l. l ++ (on_way some.1 ++ mark)) (on_way_more (image script sent) some.0 ∙ (ap (λ l. l ++ on_way some.0) (sym went) ∙ sym some.3)))))
