-- A step of one node beside the model's: the invariant of all.
use Rattle.sup_replica.specs.Stations.{MailCodec}
use Rattle.sup_model.specs.Posts.{reads}
use Rattle.sup_placement.specs.Place.{Weigher}
use Rattle.std.specs.Prelude.{◌≡◌, true, false, cond, List, [], ◌∷◌, map, find, refl, Some, None, if◌then◌else◌}
use Rattle.std.proofs.Common.{sym, ap, ◌∙◌, subst}
use mathlib.Core.Bool.{true≢false}
use mathlib.Core.Logic.{◌⊎◌, inl, inr}
use Rattle.sup_specs.specs.Values.{Bytes}
use Rattle.sup_model.specs.Worlds.{ModelSite, with_site}
use Rattle.sup_replica.specs.Nodes.{Knowledge, is_named}
use Rattle.sup_anti_entropy.specs.Peers.{OccursIn}
use Rattle.sup_anti_entropy.proofs.PeerLaws.{Moves, moves_sound}
use Rattle.sup_model.specs.Laws.{StateView, StateLaws}
use Rattle.sup_model.specs.Posts.{StationPost, with_post}
use Rattle.sup_model.specs.Clean.{HasCleanRows}
use Rattle.sup_model.specs.Joint.{NodeTrio, JointWorld, real_of, model_of, peer, ArePeersOf, TrioStands, JointHolds}
use Rattle.sup_model.proofs.CleanWorld.{in-put}
use Rattle.sup_tables.proofs.PointLaws.{text_itself}

module _ {K : Type 0} where
  -- the list with r in place of its namesakes
  abbrev pub put_trio : NodeTrio K → List (NodeTrio K) → List (NodeTrio K)
  put_trio r trios = map (λ x. if is_named r.site.node.name x.site.node.name then r else x) trios

  abbrev pub with_trio : JointWorld K → NodeTrio K → JointWorld K
  with_trio j r = record j { trios = put_trio r j.trios }

  abbrev pub Names : NodeTrio K → Type 0
  Names t = t.post.station.node.name ≡ t.site.node.name

  put_post : (r : NodeTrio K) → Names r → (trios : List (NodeTrio K)) → ((t : NodeTrio K) → OccursIn trios t → Names t)
      → map (λ (p : StationPost K). if is_named r.post.station.node.name p.station.node.name then r.post else p) (map (λ t. t.post) trios) ≡ map (λ t. t.post) (put_trio r trios)
  put_post r e [] names = refl
  put_post r e (t ∷ ts) names =
      let f : t.post.station.node.name ≡ t.site.node.name = names t (inl refl) in
      let head : (if is_named r.post.station.node.name t.post.station.node.name then r.post else t.post) ≡ (if is_named r.site.node.name t.site.node.name then r else t).post =
      (λ i. if is_named (e i) (f i) then r.post else t.post)
      ∙ (elim (is_named r.site.node.name t.site.node.name) as (λ b. (if b then r.post else t.post) ≡ (if b then r else t).post) [ true ↦ refl | false ↦ refl ]) in
      let rest = put_post r e ts (λ u h. names u (inr h)) in
      λ i. head i ∷ rest i

  put_site : (r : NodeTrio K) (trios : List (NodeTrio K))
      → map (λ (s : ModelSite). if is_named r.site.node.name s.node.name then r.site else s) (map (λ t. t.site) trios) ≡ map (λ t. t.site) (put_trio r trios)
  put_site r [] = refl
  put_site r (t ∷ ts) =
      let head : (if is_named r.site.node.name t.site.node.name then r.site else t.site) ≡ (if is_named r.site.node.name t.site.node.name then r else t).site =
      elim (is_named r.site.node.name t.site.node.name) as (λ b. (if b then r.site else t.site) ≡ (if b then r else t).site) [ true ↦ refl | false ↦ refl ] in
      let rest = put_site r ts in
      λ i. head i ∷ rest i

  pub real_put : (j : JointWorld K) (r : NodeTrio K) → Names r → ((t : NodeTrio K) → OccursIn j.trios t → Names t) → with_post (real_of j) r.post ≡ real_of (with_trio j r)
  real_put j r e names = let p = put_post r e j.trios names in λ i. record { weigher = j.weigher; codec = j.codec; posts = p i }

  pub model_put : (j : JointWorld K) (r : NodeTrio K) → with_site (model_of j) r.site ≡ model_of (with_trio j r)
  model_put j r = let p = put_site r j.trios in λ i. record { weigher = j.weigher; is_message = reads j.codec; sites = p i }

  -- the node of a name, in both worlds
  pub record Found (j : JointWorld K) (name : Bytes) : Type 0 where
    pub trio : NodeTrio K
    pub there : OccursIn j.trios trio
    pub named : is_named name trio.site.node.name ≡ true
    pub post : find (λ (p : StationPost K). is_named name p.station.node.name) (map (λ t. t.post) j.trios) ≡ Some trio.post
    pub site : find (λ (s : ModelSite). is_named name s.node.name) (map (λ t. t.site) j.trios) ≡ Some trio.site

  pub record Missing (j : JointWorld K) (name : Bytes) : Type 0 where
    pub post : find (λ (p : StationPost K). is_named name p.station.node.name) (map (λ t. t.post) j.trios) ≡ None
    pub site : find (λ (s : ModelSite). is_named name s.node.name) (map (λ t. t.site) j.trios) ≡ None

  pub looked_up : (weigher : Weigher) (codec : MailCodec K) (name : Bytes) (trios : List (NodeTrio K)) → ((t : NodeTrio K) → OccursIn trios t → Names t)
      → (let j : JointWorld K = record { weigher = weigher; codec = codec; trios = trios } in Found j name ⊎ Missing j name)
  looked_up g m name [] names = inr (record { post = refl; site = refl })
  looked_up g m name (t ∷ ts) names =
      let e : t.post.station.node.name ≡ t.site.node.name = names t (inl refl) in
      let rest = looked_up g m name ts (λ u h. names u (inr h)) in
      elim (is_named name t.site.node.name) as (λ b. is_named name t.site.node.name ≡ b → Found (record { weigher = g; codec = m; trios = t ∷ ts }) name ⊎ Missing (record { weigher = g; codec = m; trios = t ∷ ts }) name) [
        | true ↦ λ f. inl (record {
          trio = t;
          there = inl refl;
          named = f;
          post = ap (λ b. cond b (Some t.post) (find (λ (p : StationPost K). is_named name p.station.node.name) (map (λ t. t.post) ts))) (ap (is_named name) e ∙ f);
          site = ap (λ b. cond b (Some t.site) (find (λ (s : ModelSite). is_named name s.node.name) (map (λ t. t.site) ts))) f;
        })
        | false ↦ λ f.
            let post = ap (λ b. cond b (Some t.post) (find (λ (p : StationPost K). is_named name p.station.node.name) (map (λ t. t.post) ts))) (ap (is_named name) e ∙ f) in
            let site = ap (λ b. cond b (Some t.site) (find (λ (s : ModelSite). is_named name s.node.name) (map (λ t. t.site) ts))) f in
            elim rest [
              | inl h ↦ inl (record { trio = h.trio; there = inr h.there; named = h.named; post = post ∙ h.post; site = site ∙ h.site })
              | inr h ↦ inr (record { post = post ∙ h.post; site = site ∙ h.site })
            ]
      ] refl

module _ {K : Type 0} (k : Knowledge K) (view : StateView K) (laws : StateLaws k view) where
  -- a step of t, which leaves it as r
  pub record Goes (j : JointWorld K) (t r : NodeTrio K) : Type 0 where
    pub name : r.site.node.name ≡ t.site.node.name
    pub stands : TrioStands view r
    pub moves : Moves view.joins (ArePeersOf view j.trios) (peer view t) (peer view r)

  pub goes_holds : (j : JointWorld K) (t r : NodeTrio K) → JointHolds view j → OccursIn j.trios t → Goes j t r → HasCleanRows (model_of (with_trio j r)) → JointHolds view (with_trio j r)
  goes_holds j t r h here g clean =
      let split = λ (y : NodeTrio K) (is_in : OccursIn (put_trio r j.trios) y). in-put (λ x. is_named r.site.node.name x.site.node.name) r j.trios y is_in in
      record {
        one = λ y z iy iz same. elim (split y iy) [
          | inl a ↦ elim (split z iz) [
            | inl b ↦ a ∙ sym b
            | inr b ↦
                let e : r.site.node.name ≡ z.site.node.name = ap (λ (x : NodeTrio K). x.site.node.name) (sym a) ∙ same in
                absurd (true≢false (sym (subst (λ n. is_named r.site.node.name n ≡ true) e (text_itself r.site.node.name)) ∙ b.1))
          ]
          | inr a ↦ elim (split z iz) [
            | inl b ↦
                let e : r.site.node.name ≡ y.site.node.name = ap (λ (x : NodeTrio K). x.site.node.name) (sym b) ∙ sym same in
                absurd (true≢false (sym (subst (λ n. is_named r.site.node.name n ≡ true) e (text_itself r.site.node.name)) ∙ a.1))
            | inr b ↦ h.one y z a.0 b.0 same
          ]
        ];
        each = λ y is_in. elim (split y is_in) [
          | inl a ↦ subst (TrioStands view) (sym a) g.stands
          | inr a ↦ h.each y a.0
        ];
        sound = moves_sound view.joins (ArePeersOf view j.trios) (ArePeersOf view (put_trio r j.trios)) (peer view t) (peer view r) h.sound (t, here, refl) g.moves (λ q w. elim (split w.0 w.1) [
          | inl a ↦ inl (w.2 ∙ ap (peer view) a)
          | inr a ↦ inr (w.0, a.0, w.2)
        ]);
        clean = clean;
      }
