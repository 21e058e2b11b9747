-- The headline, of its parts.
use Rattle.std.specs.Prelude.{◌≡◌, []}
use Rattle.sup_model.specs.Headline.{MainTheorem}
use Rattle.sup_model.specs.Starts.{runs_of, started_at}
use Rattle.sup_model.specs.Worlds.{ModelSite, new}
use Rattle.sup_model.proofs.FollowLaws.{worlds_stand}
use Rattle.sup_model.proofs.HeadlineLaws.{agree, stays}
use Rattle.sup_model.proofs.KeepsLaws.{Good, each-of, new_good, run_good}
use Rattle.sup_model.proofs.RunLaws.{no_dot_twice}
use Rattle.sup_model.proofs.StartLaws.{fit, starts}

pub main : MainTheorem
main setting is_message names steps answers w run =
    let fresh = new_good setting is_message names in
    let good = run_good (new setting is_message names) steps answers w run fresh in
    record {
      stands = λ real s. worlds_stand real w s;
      agree = λ a b _ _ same. agree w.weigher a.node b.node same;
      stays = λ a _. stays a.node;
      keeps = λ a c. each-of (λ (s : ModelSite). Good w.weigher s.node) w.sites good a c;
      starts = λ a c. each-of (λ (s : ModelSite). runs_of s.node.supervisor.kept ≡ started_at s.node.name [] steps answers) w.sites (starts setting is_message names steps answers w run fresh) a c;
      fits = λ a _. fit setting is_message names steps answers w run fresh a.node.name;
      once = no_dot_twice setting is_message names steps answers w run;
    }
