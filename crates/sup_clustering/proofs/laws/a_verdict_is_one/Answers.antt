use Rattle.sup_clustering.proofs.OneVerdictLaws.{alike, one_text, text_or_want}
use Rattle.sup_clustering.proofs.laws.a_verdict_is_one.Goals as goal

pub returns : goal.returns
returns c = record { text = one_text; unless = text_or_want; refusal = alike }
