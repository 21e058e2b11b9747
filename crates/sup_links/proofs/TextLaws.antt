-- What parcels say, of lists that are put together.
use Rattle.std.proofs.Common.{◌≡◌, ℕ, List, ◌++◌, Option, Some, Result, Ok, Err, ap, sym, ◌∙◌, append_assoc}
use Rattle.std.proofs.lemmas.List.{map-append}
use Rattle.sup_links.specs.declared.channel.Parcel.{Parcel}
use Rattle.std.specs.declared.vec.Vec.{Vec}
use Rattle.std.specs.declared.alloc.Global.{Global}
use Rattle.sup_links.specs.declared.held.Held.{Held}
use Rattle.sup_links.specs.Texts.{said_of, said, on_way, texts, Bytes}
use Rattle.sup_links.specs.Waiting.{waiting}
use Rattle.std.specs.Prelude.{IsErr}
use Rattle.sup_links.specs.Sending.{Sends, Stops}

pub said_more : (before after : List Parcel) → said (before ++ after) ≡ said before ++ said after
said_more before after = map-append said_of before after

pub on_way_more : (before after : List Bytes) → on_way (before ++ after) ≡ on_way before ++ on_way after
on_way_more before after = map-append Some before after

-- the first part went whole, and then a beginning of the second
pub stops_then : (old mid new : List (Option Bytes)) (first second all : List Bytes) → all ≡ first ++ second → mid ≡ old ++ on_way first → Stops mid new second → Stops old new all
stops_then old mid new first second all is before after = (
  first ++ after.0,
  after.1,
  is ∙ (ap (λ l. first ++ l) after.2 ∙ sym (append_assoc first after.0 after.1)),
  after.3 ∙ (ap (λ l. l ++ on_way after.0) before ∙ (append_assoc old (on_way first) (on_way after.0) ∙ ap (λ l. old ++ l) (sym (on_way_more first after.0)))),
)

-- only a beginning of the first part went
pub stops_less : (old new : List (Option Bytes)) (first second all : List Bytes) → all ≡ first ++ second → Stops old new first → Stops old new all
stops_less old new first second all is some = (some.0, some.1 ++ second, is ∙ (ap (λ l. l ++ second) some.2 ∙ append_assoc some.0 some.1 second), some.3)

-- one part went, and then the next
pub went_then : (old mid new : List (Option Bytes)) (first second : List Bytes) → mid ≡ old ++ on_way first → new ≡ mid ++ on_way second → new ≡ old ++ on_way (first ++ second)
went_then old mid new first second before after = after
    ∙ (ap (λ l. l ++ on_way second) before ∙ (append_assoc old (on_way first) (on_way second) ∙ ap (λ l. old ++ l) (sym (on_way_more first second))))

pub sends_err : {A B : Type 0} (result : Result A B) (old new : List (Option Bytes)) (all : List Bytes) → IsErr result → Stops old new all → Sends result old new all
sends_err (Ok _) old new all fails some = cc
sends_err (Err _) old new all fails some = some

-- the first part went whole, and then the second, or a beginning of it
pub sends_then : {A B : Type 0} (result : Result A B) (old mid new : List (Option Bytes)) (first second all : List Bytes) → all ≡ first ++ second
    → mid ≡ old ++ on_way first → Sends result mid new second → Sends result old new all
sends_then (Ok _) old mid new first second all is before after = went_then old mid new first second before after ∙ ap (λ l. old ++ on_way l) (sym is)
sends_then (Err _) old mid new first second all is before after = stops_then old mid new first second all is before after

pub texts_more : (before after : List (Vec ℕ Global)) → texts (before ++ after) ≡ texts before ++ texts after
texts_more before after = map-append (λ (v : Vec ℕ Global). v.items) before after

pub waiting_more : (before after : List Held) → waiting (before ++ after) ≡ waiting before ++ waiting after
waiting_more before after = map-append (λ (h : Held). (h.left, h.text.items)) before after
