use Rattle.std.proofs.Common.{◌≡◌, ◌++◌, [], List, sym, subst}
use Rattle.std.specs.Prelude.{if◌then◌else◌}
use Rattle.sup_links.specs.declared.channel.Parcel.{Parcel}
use Rattle.sup_links.specs.Texts.{said, messages, on_way, mark}
use Rattle.sup_links.specs.Ends.{sent_script, sent_put}
use Rattle.sup_links.specs.Image.{image}
use Rattle.crossbeam_channel.specs.Claims.{view}
use Rattle.sup_links.proofs.FrontLaws.{met_front, met_whole}
use Rattle.sup_links.proofs.link_out.LinkOut.meet.Goals as goal

pub returns-clause-front : goal.returns-clause-front
returns-clause-front c =
    let order = c.meet.ensures.begins in
    let taken = (view c.meet.new.self.pass).taken in
    let ended = c.args.self.now.ended in
    let marked = subst (λ (got : List Parcel). said got ≡ on_way (messages (said got)) ++ (if ended then mark else [])) (sym c.meet.ensures.keeps) c.args.self.now.marked in
    met_front (view c.into_entry.result.pass).put taken order.0 (messages (said taken)) (image (sent_script c.args.other) (sent_put c.args.other)) ended order.1 c.into_entry.ensures.front marked

pub returns-clause-whole : goal.returns-clause-whole
returns-clause-whole c =
    let order = c.meet.ensures.begins in
    let taken = (view c.meet.new.self.pass).taken in
    let ended = c.args.self.now.ended in
    let marked = subst (λ (got : List Parcel). said got ≡ on_way (messages (said got)) ++ (if ended then mark else [])) (sym c.meet.ensures.keeps) c.args.self.now.marked in
    met_whole (view c.into_entry.result.pass).put taken order.0 (messages (said taken)) (image (sent_script c.args.other) (sent_put c.args.other)) ended order.1 c.into_entry.ensures.front marked
