use Rattle.sup_node_gate.specs.Gates.{view_of}
use Rattle.sup_driving.proofs.WirePutLaws.{all_shipped, put_later}
use Rattle.sup_driving.proofs.field.Field.ship.Goals as goal

pub returns-clause-later : goal.returns-clause-later
returns-clause-later g c = put_later c.in_ok-letters.field-0.letters.items c.args.wires.now c.put_letters.new.wires c.in_ok-put_letters.ensures.put

pub returns-clause-letters : goal.returns-clause-letters
returns-clause-letters g c =
    all_shipped c.args.shipped (view_of c.args.seat.now) (view_of c.letters.new.pass) c.in_ok-letters.field-0.letters.items c.args.wires.now c.put_letters.new.wires
    c.letters.ensures.seen.begins c.in_ok-letters.ensures.letters c.requires.shipped c.in_ok-put_letters.ensures.put
