use Rattle.sup_journal.proofs.WrittenLaws.{put-written}
use Rattle.sup_journal.proofs.edits.put_edit.Goals as goal

pub returns : goal.returns
returns c = put-written c.args.edits.now.items c.put_digits.new.text.items c.put_digits-2.new.text.items c.put_digits-3.new.text.items c.extend_from_slice.new.self.items
    (record { retained = c.args.retained; deleted = c.args.deleted; inserted = c.args.inserted.now })
    c.in_ok-put_digits.ensures c.in_ok-put_digits-2.ensures c.in_ok-put_digits-3.ensures c.in_ok-extend_from_slice.ensures.items
