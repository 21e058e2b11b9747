use Rattle.sup_cluster_texts.proofs.telling.report.Goals as goal

pub returns-in-HistoryFull : goal.returns-in-HistoryFull
returns-in-HistoryFull g c = rw c.in-HistoryFull.is c.put_all.ensures

pub returns-in-LinkClosed : goal.returns-in-LinkClosed
returns-in-LinkClosed g c = rw c.in-LinkClosed.is c.put_all-in-LinkClosed.ensures

pub returns-in-Stuck : goal.returns-in-Stuck
returns-in-Stuck g c = rw c.in-Stuck.is c.put_all-in-Stuck.ensures

pub returns-in-Differs : goal.returns-in-Differs
returns-in-Differs g c = rw c.in-Differs.is c.report_difference.ensures
