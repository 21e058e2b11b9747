use Rattle.sup_cluster_texts.proofs.telling.report_difference.Goals as goal

pub returns : goal.returns
returns g c = rw (c.as_bytes.ensures.value, c.as_str.ensures.value, c.as_bytes-2.ensures.value, c.format.ensures.text) at c.report_words.ensures
