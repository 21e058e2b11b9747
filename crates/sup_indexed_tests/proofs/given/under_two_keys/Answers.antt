-- Two rows under two keys rise.
use Rattle.std.proofs.Common.{refl}
use Rattle.sup_causal.proofs.Rising.{two_rise}
use Rattle.sup_indexed_tests.proofs.given.under_two_keys.Goals as goal

pub of_rows-requires : goal.of_rows-requires
of_rows-requires g c = rw (c.push-2.ensures.items, c.expect-2.ensures, c.push.ensures.items, c.expect.ensures, c.new-rows.ensures.items) (two_rise _ _ _ refl)
