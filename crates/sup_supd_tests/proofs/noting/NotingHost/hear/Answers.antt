use Rattle.std.proofs.Common.{ℕ, List, Option, None, Result, Ok, Err, true, refl}
use Rattle.sup_talk.specs.Hosts.{Seen, Hears}
use Rattle.sup_talk.specs.Taking.{TakesLine}
use Rattle.sup_talk.specs.declared.line.Taken.{Taken}
use Rattle.sup_talk.specs.declared.line.Taken.TheVariants.{Line, TooLong, End}
use Rattle.sup_talk.specs.declared.line.LineFault.{LineFault}
use Rattle.sup_talk.specs.declared.line.LineFault.TheVariants.{Device, OutOfMemory}
use Rattle.sup_supd_tests.proofs.noting.NotingHost.hear.Goals as goal

-- what is known of such a host
abbrev unknown : {K : Type 0} → Seen K
unknown = record { unread = None; written = None; past = None; is_broken = true }

-- it has heard what was taken
heard : (K : Type 0) (most : ℕ) (result : Result Taken LineFault) (before after : Option (List ℕ)) (keeper : K) → TakesLine most result before after → Hears most result unknown unknown keeper
heard K most (Ok (Line line)) before after keeper taken = (taken.0, taken.1, record { consumes = tt; appends = tt; passes = tt })
heard K most (Ok TooLong) before after keeper taken = (taken.0, taken.1, taken.2, record { consumes = tt; appends = tt; passes = tt })
heard K most (Ok End) before after keeper taken = (taken.0, taken.1, record { consumes = tt; appends = tt; passes = tt }, tt)
heard K most (Err Device) before after keeper taken = (taken.0, taken.1, record { consumes = tt; appends = tt; passes = tt }, refl)
heard K most (Err OutOfMemory) before after keeper taken = (taken.0, taken.1, record { consumes = tt; appends = tt; passes = tt })

pub returns : goal.returns
returns g c = heard _ 67108864 c.take_line.result _ _ c.args.keeper.now c.take_line.ensures.taken
