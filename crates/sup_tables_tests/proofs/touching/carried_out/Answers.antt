use Rattle.sup_tables.specs.Joined.{join_states}
use Rattle.sup_tables_tests.proofs.touching.carried_out.Goals as goal

pub carried_out-requires : goal.carried_out-requires
carried_out-requires g c = let joined = join_states c.args.mine c.args.other.now in (c.args.mine, joined, c.in-Ok-open.ensures.open joined c.in-Ok.ensures)
