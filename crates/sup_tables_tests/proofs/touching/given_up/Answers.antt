use Rattle.sup_tables.specs.Joined.{join_states}
use Rattle.sup_tables_tests.proofs.touching.given_up.Goals as goal

pub given_up-requires : goal.given_up-requires
given_up-requires g c = let joined = join_states c.args.mine c.args.other.now in (c.args.mine, joined, c.in-Ok-open.ensures.open joined c.in-Ok.ensures)
