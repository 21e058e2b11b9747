-- Messages and images and their drafts: of which kind, that those of whole states are sound, and that a draft tells its message.
use Rattle.std.proofs.Common.{◌≡◌, ℕ, refl, sym, ap, subst, ◌∙◌}
use Rattle.sup_specs.specs.Values.{Bytes}
use Rattle.sup_tables.specs.States.{State}
use Rattle.sup_wire.specs.declared.message.Message.{Message}
use Rattle.sup_wire.specs.declared.message.Message.TheVariants.{Ack, Push, Delta}
use Rattle.sup_wire.specs.declared.image.Image.{Image}
use Rattle.sup_wire.specs.Drafts.{TableParts, Draft, ack, push, delta, image, IsCut, IsDraftOf, IsDraftOfImage, SaysMessage, SaysImage, IsSound, IsWhole, IsWholeMessage, IsWholeImage}
use Rattle.sup_wire.proofs.Cuts.{cut_sound, one_state}

pub message_kind : (m : Message) (x : Draft) → IsDraftOf m x → SaysMessage x
message_kind (Ack from to n) x is = subst SaysMessage (sym is) tt
message_kind (Push from to s) x is = subst SaysMessage (sym is.2) tt
message_kind (Delta from to n s) x is = subst SaysMessage (sym is.2) tt

pub message_sound : (m : Message) (x : Draft) → IsDraftOf m x → IsWholeMessage m → IsSound x
message_sound (Ack from to n) x is whole = subst IsSound (sym is) tt
message_sound (Push from to s) x is whole = subst IsSound (sym is.2) (cut_sound s is.0 whole is.1)
message_sound (Delta from to n s) x is whole = subst IsSound (sym is.2) (cut_sound s is.0 whole is.1)

pub image_kind : (i : Image) (x : Draft) → IsDraftOfImage i x → SaysImage x
image_kind i x is = subst SaysImage (sym is.2) tt

pub image_sound : (i : Image) (x : Draft) → IsDraftOfImage i x → IsWholeImage i → IsSound x
image_sound i x is whole = subst IsSound (sym is.2) (cut_sound i.state is.0 whole is.1)

-- the fields of a draft
abbrev sender : Draft → Bytes
sender (ack from to n) = from
sender (push from to p) = from
sender (delta from to n p) = from
sender (image node boot count p) = node

abbrev receiver : Draft → Bytes
receiver (ack from to n) = to
receiver (push from to p) = to
receiver (delta from to n p) = to
receiver (image node boot count p) = node

abbrev first : Draft → ℕ
first (ack from to n) = n
first (push from to p) = 0
first (delta from to n p) = n
first (image node boot count p) = boot

abbrev second : Draft → ℕ
second (ack from to n) = 0
second (push from to p) = 0
second (delta from to n p) = 0
second (image node boot count p) = count

abbrev parts_in : Draft → TableParts → TableParts
parts_in (ack from to n) p = p
parts_in (push from to q) p = q
parts_in (delta from to n q) p = q
parts_in (image node boot count q) p = q

-- two states of the parts of one draft
same_state : (s t : State) (p q : TableParts) (x y : Draft) → x ≡ y → parts_in x p ≡ p → parts_in y p ≡ q → IsWhole s → IsCut s p → IsWhole t → IsCut t q → t ≡ s
same_state s t p q x y same is other ws cs wt ct =
    let one : q ≡ p = sym other ∙ ap (λ z. parts_in z p) (sym same) ∙ is in
    one_state t s p wt (subst (IsCut t) one ct) ws cs

pub one_message : (m n : Message) (x : Draft) → IsDraftOf m x → IsWholeMessage m → IsDraftOf n x → IsWholeMessage n → n ≡ m
one_message (Ack a b i) (Ack c d j) x is w also v = let e : ack c d j ≡ ack a b i = sym also ∙ is in λ k. Ack (sender (e k)) (receiver (e k)) (first (e k))
one_message (Push a b s) (Push c d t) x is w also v =
    let e : push c d also.0 ≡ push a b is.0 = sym also.2 ∙ is.2 in
    let st : t ≡ s = same_state s t is.0 also.0 (push a b is.0) (push c d also.0) (sym e) refl refl w is.1 v also.1 in
    λ k. Push (sender (e k)) (receiver (e k)) (st k)
one_message (Delta a b i s) (Delta c d j t) x is w also v =
    let e : delta c d j also.0 ≡ delta a b i is.0 = sym also.2 ∙ is.2 in
    let st : t ≡ s = same_state s t is.0 also.0 (delta a b i is.0) (delta c d j also.0) (sym e) refl refl w is.1 v also.1 in
    λ k. Delta (sender (e k)) (receiver (e k)) (first (e k)) (st k)
one_message (Ack a b i) (Push c d t) x is w also v = let e : ack a b i ≡ push c d also.0 = sym is ∙ also.2 in cc
one_message (Ack a b i) (Delta c d j t) x is w also v = let e : ack a b i ≡ delta c d j also.0 = sym is ∙ also.2 in cc
one_message (Push a b s) (Ack c d j) x is w also v = let e : push a b is.0 ≡ ack c d j = sym is.2 ∙ also in cc
one_message (Push a b s) (Delta c d j t) x is w also v = let e : push a b is.0 ≡ delta c d j also.0 = sym is.2 ∙ also.2 in cc
one_message (Delta a b i s) (Ack c d j) x is w also v = let e : delta a b i is.0 ≡ ack c d j = sym is.2 ∙ also in cc
one_message (Delta a b i s) (Push c d t) x is w also v = let e : delta a b i is.0 ≡ push c d also.0 = sym is.2 ∙ also.2 in cc

pub one_image : (i j : Image) (x : Draft) → IsDraftOfImage i x → IsWholeImage i → IsDraftOfImage j x → IsWholeImage j → j ≡ i
one_image i j x is w also v =
    let e : image j.node j.boot j.count also.0 ≡ image i.node i.boot i.count is.0 = sym also.2 ∙ is.2 in
    let st : j.state ≡ i.state = same_state i.state j.state is.0 also.0 (image i.node i.boot i.count is.0) (image j.node j.boot j.count also.0) (sym e) refl refl w is.1 v also.1 in
    λ k. record { node = sender (e k); boot = first (e k); count = second (e k); state = st k }
