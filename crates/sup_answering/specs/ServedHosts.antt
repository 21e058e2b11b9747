-- How a node serves its host.
use Rattle.std.specs.Prelude.{◌≡◌, ◌⊎◌, ℕ, Bool, List, [], ◌∷◌, Result, Err}
use Rattle.sup_specs.specs.Values.{Bytes}
use Rattle.sup_placement.specs.Place.{Weigher}
use Rattle.sup_talk.specs.Hosts.{Seen, Told, Exchanges, IsToldShort}
use Rattle.sup_talk.specs.Talking.{Shows, TalksFor}
use Rattle.sup_talk.specs.declared.talking.TalkEnd.{TalkEnd}
use Rattle.sup_talk.specs.declared.talking.TalkFault.{TalkFault}
use Rattle.sup_talk.specs.declared.talking.TalkFault.TheVariants.{Device}
use Rattle.sup_answering.specs.AnsweringNodes.{AnsweringNode, AnswersLine, LacksLine}

-- The keeper stands behind the node: it keeps what the node has for kept, has failed as often, and is lost just where that is.
pub record StandsBehind {K : Type 0} (kept : K → Bytes) (failures : K → ℕ) (lost : K → Bool) (node : AnsweringNode) (keeper : K) : Type 0 where
  pub keeps : kept keeper ≡ node.kept_station.kept
  pub failed : failures keeper ≡ node.failures
  pub is_lost : lost keeper ≡ node.lost

-- Lines are heard and answered one after another, each by the node's answer, as long as it knows what outlives it and has memory. With each
-- answer, and while its next line is awaited, the host is shown a keeper that the node behind the last answer may show.
abbrev pub TalksWith : {K : Type 0} → Weigher → Shows AnsweringNode K → ℕ → AnsweringNode → AnsweringNode → Seen K → Seen K → Result TalkEnd TalkFault → Type 0
TalksWith weigher shows most s t before after end =
    TalksFor {S = AnsweringNode} (λ a heard text b. AnswersLine weigher a heard text b) shows (λ a heard b. LacksLine weigher a heard b) (λ k. k.lost) most s t before after end

-- The first answer is told, and then the talk goes on; or not all of it could be told, and no line is heard. With it, too, the host is
-- shown a keeper that the node may show.
abbrev pub ServesHost : {K : Type 0} → Weigher → Shows AnsweringNode K → ℕ → AnsweringNode → AnsweringNode → List ℕ → Seen K → Seen K → Result TalkEnd TalkFault → Type 0
ServesHost {K} weigher shows most s t first before after end =
    ((mid : Seen K) × (keeper : K) × shows s keeper × Exchanges before mid [] first (Told first keeper ∷ []) × TalksWith weigher shows most s t mid after end)
    ⊎ ((end ≡ Err Device) × (t ≡ s) × (keeper : K) × shows s keeper × IsToldShort before after first keeper)
