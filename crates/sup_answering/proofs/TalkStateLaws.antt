-- A talk of states is one of what a contract sees of them.
use Rattle.std.proofs.Common.{ℕ, Bool, List, [], ◌∷◌, Result, Ok, Err, ap, inl, inr}
use Rattle.sup_talk.specs.Hosts.{Seen}
use Rattle.sup_talk.specs.Talking.{Answers, Lacks, Shows, Turn, Follows, IsCut, EndsSo, TalksFor}
use Rattle.sup_talk.specs.declared.talking.TalkEnd.{TalkEnd}
use Rattle.sup_talk.specs.declared.talking.TalkEnd.TheVariants.{Ended, Over, Spent}
use Rattle.sup_talk.specs.declared.talking.TalkFault.{TalkFault}
use Rattle.sup_talk.specs.declared.talking.TalkFault.TheVariants.{Device, OutOfMemory}

module _ {S V K : Type 0} (seen : S → V) (answers : Answers V) (shows : Shows V K) (lacks : Lacks V) (over : V → Bool) (most : ℕ) where
  abbrev by : Answers S
  by a heard text b = answers (seen a) heard text (seen b)

  abbrev beside : Shows S K
  beside a keeper = shows (seen a) keeper

  abbrev without : Lacks S
  without a heard b = lacks (seen a) heard (seen b)

  abbrev ends : S → Bool
  ends a = over (seen a)

  follows : (s t : S) (turns : List (Turn K)) → Follows by beside ends s turns t → Follows answers shows over (seen s) turns (seen t)
  follows s t [] e = ap seen e
  follows s t (turn ∷ turns) h = (h.0, h.1, seen h.2, h.3, h.4, follows h.2 t turns h.5)

  cut : (s t : S) (a b : Seen K) (fault : TalkFault) → IsCut by beside without most s t a b fault → IsCut answers shows lacks most (seen s) (seen t) a b fault
  cut s t a b Device (inl h) = inl (ap seen h.0, h.1, h.2)
  cut s t a b Device (inr h) = inr h
  cut s t a b OutOfMemory (inl h) = inl (ap seen h.0, h.1)
  cut s t a b OutOfMemory (inr h) = inr h

  ended : (s t : S) (a b : Seen K) (count : ℕ) (end : Result TalkEnd TalkFault)
      → EndsSo by beside without ends most s t a b count end → EndsSo answers shows lacks over most (seen s) (seen t) a b count end
  ended s t a b count (Ok Ended) h = (ap seen h.0, h.1, h.2)
  ended s t a b count (Ok Over) h = (ap seen h.0, h.1, h.2)
  ended s t a b count (Ok Spent) h = (ap seen h.0, h.1, h.2)
  ended s t a b count (Err fault) h = (h.0, cut s t a b fault h.1)

  pub talks-seen : (s t : S) (a b : Seen K) (end : Result TalkEnd TalkFault)
      → TalksFor by beside without ends most s t a b end → TalksFor answers shows lacks over most (seen s) (seen t) a b end
  talks-seen s t a b end h = (
    h.0,
    seen h.1,
    h.2,
    record { follows = follows s h.1 h.0 h.3.follows; heard = h.3.heard; exchanges = h.3.exchanges },
    ended h.1 t h.2 b _ end h.4,
  )

-- the same, with the states first
pub talks-as : {S V K : Type 0} (s t : S) (seen : S → V) (answers : Answers V) (shows : Shows V K) (lacks : Lacks V) (over : V → Bool) (most : ℕ) (a b : Seen K) (end : Result TalkEnd TalkFault)
    → TalksFor {S = S} (λ x heard text y. answers (seen x) heard text (seen y)) (λ x keeper. shows (seen x) keeper) (λ x heard y. lacks (seen x) heard (seen y)) (λ x. over (seen x)) most s t a b end
    → TalksFor {S = V} answers shows lacks over most (seen s) (seen t) a b end
talks-as s t seen answers shows lacks over most a b end h = talks-seen seen answers shows lacks over most s t a b end h
