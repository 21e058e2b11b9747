-- A step of one node leaves the others as they are, and takes no message away.
use Rattle.std.specs.Prelude.{◌≡◌, ℕ, ◌-◌, ◌==◌, Bool, true, false, cond, not, List, [], ◌∷◌, ◌++◌, map, find, slice_get, Option, Some, None, Result, Ok, Err, refl, if◌then◌else◌}
use Rattle.std.specs.Option.{option_and_then}
use Prim.Native.Nat.{zero, suc}
use Rattle.std.proofs.Common.{sym, ap, ◌∙◌, subst}
use Rattle.std.proofs.lemmas.Option.{none-some}
use Rattle.sup_specs.specs.Values.{Bytes}
use Rattle.sup_placement.specs.Place.{Weigher}
use Rattle.sup_replica.specs.declared.event.Event.TheVariants.{Join, Leave, Drain, Start, Replace, Delete, Register, Unregister, Exit, Ship, Push, Deliver}
use Rattle.sup_replica.specs.declared.event.Act.{Act}
use Rattle.sup_replica.specs.declared.event.Act.TheVariants.{Event as Of, Stop, Restart}
use Rattle.sup_replica.specs.declared.refusal.Refusal.{Refusal}
use Rattle.sup_replica.specs.declared.refusal.Refusal.TheVariants.{Down, UnknownNode, BadMessage}
use Rattle.sup_replica.specs.Checks.{refused_if}
use Rattle.sup_replica.specs.Nodes.{Knowledge, is_named}
use Rattle.sup_replica.specs.Stations.{Station, Mail, StationMove, station_step, read_step}
use Rattle.sup_model.specs.Posts.{StationPost, RealWorld, post_of, with_post, mail_of, mailed}
use Rattle.sup_node.proofs.PlanLaws.{named_itself, named_same}
use Rattle.sup_model.proofs.Afters.{After, after-refused_if}
use Rattle.sup_model.proofs.CleanWorld.{find-in}
use Rattle.sup_world.specs.Alone.{has_target, names_in, reading, post_by, world_by, alone}
use Rattle.sup_world.proofs.NameLaws.{StaysNamed, arrives_named, post_named}

pub still : {X : Type 0} (xs : List X) (x : X) (i : ℕ) (y : X) → slice_get xs i ≡ Some y → slice_get (xs ++ x ∷ []) i ≡ Some y
still [] x i y e = absurd (none-some y e)
still (z ∷ zs) x zero y e = e
still (z ∷ zs) x (suc i) y e = still zs x i y e

module _ {K : Type 0} where
  abbrev pub name_of : StationPost K → Bytes
  name_of p = p.station.node.name

  abbrev pub in_posts : List (StationPost K) → Bytes → Option (StationPost K)
  in_posts posts name = find (λ p. is_named name p.station.node.name) posts

  abbrev pub put : List (StationPost K) → StationPost K → List (StationPost K)
  put posts new = map (λ p. if is_named new.station.node.name p.station.node.name then new else p) posts

  pub found_put : (posts : List (StationPost K)) (old new : StationPost K) → in_posts posts (name_of new) ≡ Some old → in_posts (put posts new) (name_of new) ≡ Some new
  found_put [] old new e = absurd (none-some old e)
  found_put (p ∷ ps) old new e =
      elim (is_named (name_of new) (name_of p)) as (λ b. is_named (name_of new) (name_of p) ≡ b → cond b (Some p) (in_posts ps (name_of new)) ≡ Some old
      → cond (is_named (name_of new) (name_of (if b then new else p))) (Some (if b then new else p)) (in_posts (put ps new) (name_of new)) ≡ Some new) [
        | true ↦ λ h f. ap (λ c. cond c (Some new) (in_posts (put ps new) (name_of new))) (named_itself (name_of new))
        | false ↦ λ h f. ap (λ c. cond c (Some p) (in_posts (put ps new) (name_of new))) h ∙ found_put ps old new f
      ] refl e

  pub other_put : (posts : List (StationPost K)) (new : StationPost K) (name : Bytes) → is_named name (name_of new) ≡ false → in_posts (put posts new) name ≡ in_posts posts name
  other_put [] new name n = refl
  other_put (p ∷ ps) new name n =
      elim (is_named (name_of new) (name_of p)) as (λ b. is_named (name_of new) (name_of p) ≡ b
      → cond (is_named name (name_of (if b then new else p))) (Some (if b then new else p)) (in_posts (put ps new) name) ≡ cond (is_named name (name_of p)) (Some p) (in_posts ps name)) [
        | true ↦ λ h.
            let m : is_named name (name_of p) ≡ false = subst (λ y. is_named name y ≡ false) (named_same (name_of new) (name_of p) h) n in
            ap (λ c. cond c (Some new) (in_posts (put ps new) name)) n ∙ other_put ps new name n ∙ sym (ap (λ c. cond c (Some p) (in_posts ps name)) m)
        | false ↦ λ h. ap (λ o. cond (is_named name (name_of p)) (Some p) o) (other_put ps new name n)
      ] refl

  -- the names stay
  names_put : (posts : List (StationPost K)) (new : StationPost K) → map (λ (p : StationPost K). p.station.node.name) (put posts new) ≡ map (λ (p : StationPost K). p.station.node.name) posts
  names_put [] new = refl
  names_put (p ∷ ps) new =
      elim (is_named (name_of new) (name_of p)) as (λ b. is_named (name_of new) (name_of p) ≡ b
      → name_of (if b then new else p) ∷ map (λ (q : StationPost K). q.station.node.name) (put ps new) ≡ name_of p ∷ map (λ (q : StationPost K). q.station.node.name) ps) [
        | true ↦ λ h. ap (λ n. n ∷ map (λ (q : StationPost K). q.station.node.name) (put ps new)) (named_same (name_of new) (name_of p) h) ∙ ap (λ ns. name_of p ∷ ns) (names_put ps new)
        | false ↦ λ h. ap (λ ns. name_of p ∷ ns) (names_put ps new)
      ] refl

  pub names_by : (w : RealWorld K) (post : StationPost K) (x : Result (StationMove K) Refusal) → names_in (world_by w post x) ≡ names_in w
  names_by w post (Ok m) = names_put w.posts (record { station = m.station; sent = mailed post.sent m.letter })
  names_by w post (Err refusal) = refl

  pub weigher_by : (w : RealWorld K) (post : StationPost K) (x : Result (StationMove K) Refusal) → (world_by w post x).weigher ≡ w.weigher
  weigher_by w post (Ok m) = refl
  weigher_by w post (Err refusal) = refl

  pub codec_by : (w : RealWorld K) (post : StationPost K) (x : Result (StationMove K) Refusal) → (world_by w post x).codec ≡ w.codec
  codec_by w post (Ok m) = refl
  codec_by w post (Err refusal) = refl

  -- the node that acted
  pub own_by : (w : RealWorld K) (post : StationPost K) (x : Result (StationMove K) Refusal) (name : Bytes) → After (StaysNamed post.station) x → name ≡ name_of post → post_of w name ≡ Some post → post_of (world_by w post x) name ≡ Some (post_by post x)
  own_by w post (Ok m) name stays is there =
      let new : StationPost K = record { station = m.station; sent = mailed post.sent m.letter } in
      let same : name ≡ name_of new = is ∙ sym stays in
      subst (λ n. post_of (with_post w new) n ≡ Some new) (sym same) (found_put w.posts post new (subst (λ n. post_of w n ≡ Some post) same there))
  own_by w post (Err refusal) name stays is there = there

  -- and the others
  pub other_by : (w : RealWorld K) (post : StationPost K) (x : Result (StationMove K) Refusal) (name : Bytes) → After (StaysNamed post.station) x → is_named name (name_of post) ≡ false → post_of (world_by w post x) name ≡ post_of w name
  other_by w post (Ok m) name stays not =
      let new : StationPost K = record { station = m.station; sent = mailed post.sent m.letter } in
      other_put w.posts new name (subst (λ n. is_named name n ≡ false) (sym stays) not)
  other_by w post (Err refusal) name stays not = refl

  pub name_is : (w : RealWorld K) (name : Bytes) (post : StationPost K) → post_of w name ≡ Some post → name ≡ name_of post
  name_is w name post e = named_same name (name_of post) (find-in (λ (q : StationPost K). is_named name q.station.node.name) w.posts post e).1

  pub mail_there : (o : Option (StationPost K)) (k : ℕ) (mail : Mail K) → option_and_then (λ (q : StationPost K). mail_of q k) o ≡ Some mail → (post : StationPost K) × (o ≡ Some post) × (mail_of post k ≡ Some mail)
  mail_there None k mail e = absurd (none-some mail e)
  mail_there (Some post) k mail e = (post, refl, e)

  -- its messages stay
  pub mailed_still : (sent : List (Mail K)) (letter : Option (Mail K)) (i : ℕ) (mail : Mail K) → slice_get sent i ≡ Some mail → slice_get (mailed sent letter) i ≡ Some mail
  mailed_still sent None i mail e = e
  mailed_still sent (Some m) i mail e = still sent m i mail e

  pub mail_stays : (post : StationPost K) (x : Result (StationMove K) Refusal) (k : ℕ) (mail : Mail K) → mail_of post k ≡ Some mail → mail_of (post_by post x) k ≡ Some mail
  mail_stays post (Ok m) k mail e =
      elim (k == 0) as (λ b. (if b then None else slice_get post.sent (k - 1)) ≡ Some mail → (if b then None else slice_get (mailed post.sent m.letter) (k - 1)) ≡ Some mail) [ true ↦ λ f. f | false ↦ λ f. mailed_still post.sent m.letter (k - 1) mail f ] e
  mail_stays post (Err refusal) k mail e = e

module _ {K : Type 0} (k : Knowledge K) where
  came_named : (g : Weigher) (s : Station K) (saves : Bool) (read : Option (Mail K)) → After (StaysNamed s) (refused_if (not s.node.up) Down (read_step k g s read saves))
  came_named g s saves None = let r : Result (StationMove K) Refusal = Err BadMessage in after-refused_if (StaysNamed s) (not s.node.up) Down r tt
  came_named g s saves (Some mail) = arrives_named k g s mail 0 saves

  station_named : (g : Weigher) (s : Station K) (act : Act) (now : ℕ) (saves : Bool) (read : Option (Mail K)) → After (StaysNamed s) (station_step k (reading read) g s act now saves)
  station_named g s (Of (Deliver bytes)) now saves read = came_named g s saves read
  station_named g s (Of (Join label)) now saves read = post_named k (record { weigher = g; codec = reading read; posts = [] }) s (Of (Join label)) now saves
  station_named g s (Of (Leave m)) now saves read = post_named k (record { weigher = g; codec = reading read; posts = [] }) s (Of (Leave m)) now saves
  station_named g s (Of (Drain m)) now saves read = post_named k (record { weigher = g; codec = reading read; posts = [] }) s (Of (Drain m)) now saves
  station_named g s (Of (Start id spec)) now saves read = post_named k (record { weigher = g; codec = reading read; posts = [] }) s (Of (Start id spec)) now saves
  station_named g s (Of (Replace id spec)) now saves read = post_named k (record { weigher = g; codec = reading read; posts = [] }) s (Of (Replace id spec)) now saves
  station_named g s (Of (Delete id)) now saves read = post_named k (record { weigher = g; codec = reading read; posts = [] }) s (Of (Delete id)) now saves
  station_named g s (Of (Register name id)) now saves read = post_named k (record { weigher = g; codec = reading read; posts = [] }) s (Of (Register name id)) now saves
  station_named g s (Of (Unregister name)) now saves read = post_named k (record { weigher = g; codec = reading read; posts = [] }) s (Of (Unregister name)) now saves
  station_named g s (Of (Exit id inc reason)) now saves read = post_named k (record { weigher = g; codec = reading read; posts = [] }) s (Of (Exit id inc reason)) now saves
  station_named g s (Of (Ship to)) now saves read = post_named k (record { weigher = g; codec = reading read; posts = [] }) s (Of (Ship to)) now saves
  station_named g s (Of (Push to)) now saves read = post_named k (record { weigher = g; codec = reading read; posts = [] }) s (Of (Push to)) now saves
  station_named g s Stop now saves read = post_named k (record { weigher = g; codec = reading read; posts = [] }) s Stop now saves
  station_named g s Restart now saves read = post_named k (record { weigher = g; codec = reading read; posts = [] }) s Restart now saves

  pub alone_named : (g : Weigher) (names : List Bytes) (s : Station K) (act : Act) (now : ℕ) (saves : Bool) (read : Option (Mail K)) → After (StaysNamed s) (alone k g names s act now saves read)
  alone_named g names s act now saves read =
      after-refused_if (StaysNamed s) (not (has_target names act)) UnknownNode (station_step k (reading read) g s act now saves) (station_named g s act now saves read)
