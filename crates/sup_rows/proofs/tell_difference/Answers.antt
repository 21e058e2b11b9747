use Rattle.std.proofs.Common.{rules}
use Rattle.std.specs.Io.KnownBytes.{Appends}
use Rattle.std.proofs.KnownBytes.{Appends-trans}
use Rattle.sup_rows.proofs.tell_difference.Goals as goal

pub returns : goal.returns
returns g c =
    let W = g.W.Write.contents in
    let name : Appends (W c.args.writer.now) (W c.write_all.new.self) c.args.name.now = search rules in
    let part : Appends (W c.write_all-2.new.self) (W c.write_all-3.new.self) c.args.difference.part.now = search rules in
    Appends-trans _ _ _ _ _ name
    (Appends-trans _ _ _ _ _ c.in_ok-write_all-2.ensures.bytes
    (Appends-trans _ _ _ _ _ part
    (Appends-trans _ _ _ _ _ c.in_ok-write_all-4.ensures.bytes
    (Appends-trans _ _ _ _ _ c.in_ok-write_all-5.ensures.bytes
    (Appends-trans _ _ _ _ _ c.in_ok-write_all-6.ensures.bytes c.in_ok-write_all-7.ensures.bytes)))))
